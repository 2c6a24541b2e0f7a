-- A whole run.
use Rattle.std.proofs.Common.{◌≡◌, ℕ, ◌+◌, List, [], ◌∷◌, refl, sym, ap, ◌∙◌, subst, arith}
use Rattle.std.specs.Prelude.{All, slice_index_or}
use Rattle.std.proofs.lemmas.List.{append-nil}
use Rattle.std.proofs.lemmas.List.Elements.{All-nil, All-cons}
use Rattle.low_ir.specs.declared.run.Began.{Began}
use Rattle.low_ir.specs.Code.{Loop, Low}
use Rattle.low_ir.specs.Turns.{IsWithin, KeepsLoops, Turns, no_turns, turns}
use Rattle.lower_nesting.specs.Segments.{AreWithin, Quiet}
use Rattle.lower_nesting.proofs.Quiets.{quiet_wider}

all_within : (l : Loop) (ns : List ℕ) → AreWithin l ns → All (IsWithin l) ns
all_within l [] h = All-nil (IsWithin l)
all_within l (n ∷ ns) h = All-cons (IsWithin l) n ns h.0 (all_within l ns h.1)

-- a run in functions below a number, from the beginning to the end, keeps all loops
pub quiet_keeps : (q : Low) (f : ℕ) (trace : List Began) → Quiet q f [] trace → KeepsLoops q trace
quiet_keeps q f trace h g fn there i d inside =
    let l = slice_index_or fn.loops i d in
    let k = quiet_wider q f (f + g + 1) [] trace (omega arith) h in
    let grown = k.loops g fn there (omega arith) i d inside no_turns refl in
    let starts : (turns g l no_turns trace).starts ≡ grown.entries = ap (λ es. (turns g l no_turns es).starts) k.are ∙ ap (λ (t : Turns). t.starts) grown.are ∙ append-nil grown.entries in
    subst (All (IsWithin l)) (sym starts) (all_within l grown.entries grown.within)
