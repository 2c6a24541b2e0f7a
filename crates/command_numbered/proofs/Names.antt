-- The names of a numbered source, in the order in which they first stand.
use Rattle.std.proofs.Common.{ℕ, zero, suc, List, [], ◌∷◌, ◌++◌, codes}
use Rattle.std.specs.Fmt.{decimal}

-- the name of a function: the letter f, and its number
abbrev pub name : ℕ → List ℕ
name i = 102 ∷ decimal i

-- those that stand in the first functions
abbrev pub own_names : ℕ → List (List ℕ)
own_names zero = []
own_names (suc zero) = name 1 ∷ codes "x" ∷ codes "k" ∷ codes "s" ∷ []
own_names (suc (suc m)) = own_names (suc m) ++ name (suc (suc m)) ∷ []

abbrev pub names : ℕ → List (List ℕ)
names n = own_names n ++ codes "main" ∷ codes "putchar" ∷ []
