-- What stands at one address in a list.
use Rattle.std.specs.Prelude.{ℕ, ◌==◌, List, [], ◌∷◌, if◌then◌else◌}

-- the elements of a list whose key is that
abbrev pub those_at : {X : Type 0} → (X → ℕ) → ℕ → List X → List X
those_at key a [] = []
those_at key a (x ∷ xs) = if key x == a then x ∷ those_at key a xs else those_at key a xs
