-- A list whose last element is the first of the stack.
use Rattle.std.proofs.Common.{◌≡◌, List, [], ◌∷◌, ◌++◌, map, ap, ◌∙◌}
use Rattle.std.specs.Prelude.{reverse}
use Rattle.std.proofs.lemmas.List.{map-append, reverse-append}

pub reverse_map_push : {A B : Type 0} (f : A → B) (ws : List A) (w : A) → reverse (map f (ws ++ w ∷ [])) ≡ f w ∷ reverse (map f ws)
reverse_map_push f ws w = ap reverse (map-append f ws (w ∷ [])) ∙ reverse-append (map f ws) (f w ∷ [])
