use Rattle.std.proofs.Common.{subst}
use Rattle.rv_core.specs.Images.{AreLoadable}
use Rattle.asm_items.proofs.StandingLemmas.{stands}
use Rattle.asm_items.proofs.laws.code_stands.Goals as goal

pub returns : goal.returns
returns c = stands c.args.image.now (subst AreLoadable c.segments.ensures.value c.segments.ensures.valid)
