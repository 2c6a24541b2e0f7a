use Rattle.std.proofs.Common.{subst}
use Rattle.rv_core.specs.Images.{AreLoadable}
use Rattle.rv_steps.proofs.StepLemmas.{steps_go}
use Rattle.rv_steps.proofs.steps_go.Goals as goal

pub returns : goal.returns
returns c = steps_go c.args.image.now (subst AreLoadable c.segments.ensures.value c.segments.ensures.valid)
