-- Lists by number.
use Rattle.std.specs.Prelude.{ℕ, zero, suc, List, [], ◌∷◌, ◌++◌, map, Vec}
use Rattle.std.specs.Global.{Global}

abbrev pub rows_of : {X : Type 0} → List (Vec X Global) → List (List X)
rows_of {X} rows = map (λ (v : Vec X Global). v.items) rows

-- one more in the list of its number
abbrev pub with_item : {X : Type 0} → List (List X) → ℕ → X → List (List X)
with_item [] k x = []
with_item (l ∷ ls) zero x = (l ++ x ∷ []) ∷ ls
with_item (l ∷ ls) (suc k) x = l ∷ with_item ls k x
