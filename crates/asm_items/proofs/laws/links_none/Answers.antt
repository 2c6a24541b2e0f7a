use Rattle.std.proofs.Common.{subst}
use Rattle.rv_core.specs.Images.{AreLoadable}
use Rattle.asm_items.proofs.StandingLemmas.{links_nothing}
use Rattle.asm_items.proofs.laws.links_none.Goals as goal

pub returns : goal.returns
returns c = links_nothing c.args.image.now (subst AreLoadable c.segments.ensures.value c.segments.ensures.valid)
