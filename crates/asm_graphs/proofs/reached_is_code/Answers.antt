use Rattle.std.proofs.Common.{sym, subst}
use Rattle.code_flow_system.specs.Moves.{code_of}
use Rattle.code_flow_system.specs.Reach.{IsReached, IsCode}
use Rattle.asm_graphs.proofs.ReachedLemmas.{all_code}
use Rattle.asm_graphs.proofs.reached_is_code.Goals as goal

pub returns : goal.returns
returns c = λ g l main image claims h a w.
    subst (λ e. IsCode (code_of image claims) e a) (sym h.entry)
    (all_code g l (code_of image claims) h.shaped h.laid main h.there a (subst (λ e. IsReached (code_of image claims) e a) h.entry w))
