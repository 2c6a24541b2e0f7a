-- A list whose last element is the first of the stack.
use Rattle.std.proofs.Common.{◌≡◌, List, [], ◌∷◌, ◌++◌}
use Rattle.std.specs.Prelude.{reverse}
use Rattle.std.proofs.lemmas.List.{reverse-append}

pub reverse_push : {A : Type 0} (ws : List A) (w : A) → reverse (ws ++ w ∷ []) ≡ w ∷ reverse ws
reverse_push ws w = reverse-append ws (w ∷ [])
