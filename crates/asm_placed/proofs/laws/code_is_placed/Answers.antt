use Rattle.std.proofs.Common.{subst}
use Rattle.rv_core.specs.Images.{AreLoadable}
use Rattle.asm_placed.proofs.Placed.{is_placed}
use Rattle.asm_placed.proofs.laws.code_is_placed.Goals as goal

pub returns : goal.returns
returns c = λ g r fs code promised sound has_room rows written fetch exits. is_placed c.args.image.now (subst AreLoadable c.segments.ensures.value c.segments.ensures.valid) g r fs code promised sound has_room rows written fetch exits
