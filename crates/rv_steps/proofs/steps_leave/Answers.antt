use Rattle.std.proofs.Common.{subst}
use Rattle.rv_core.specs.Images.{AreLoadable}
use Rattle.rv_steps.proofs.StepLemmas.{steps_leave}
use Rattle.rv_steps.proofs.steps_leave.Goals as goal

pub returns : goal.returns
returns c = steps_leave c.args.image.now (subst AreLoadable c.segments.ensures.value c.segments.ensures.valid)
