-- Lists of terms, each a number at an address, read as linear forms: the sum of number times variable.
use Rattle.std.specs.Prelude.{ℕ, ℤ, pos, ◌+ℤ◌, ◌*ℤ◌, List, [], ◌∷◌, ◌==◌, if◌then◌else◌}

-- an address, then its number
abbrev pub Terms : Type 0
Terms = List (ℕ × ℤ)

-- the sum of f over a list
abbrev pub int_sum_by : {X : Type 0} → (X → ℤ) → List X → ℤ
int_sum_by f [] = pos 0
int_sum_by f (x ∷ xs) = f x +ℤ int_sum_by f xs

-- n, where a and b are one address, and else 0
abbrev pub when_same : ℕ → ℕ → ℤ → ℤ
when_same a b n = if a == b then n else pos 0

-- the coefficient of an address: the numbers of all its terms, added
abbrev pub coefficient : Terms → ℕ → ℤ
coefficient ts a = int_sum_by (λ t. when_same t.0 a t.1) ts

-- the value where each address stands for what f gives at it
abbrev pub applied : Terms → (ℕ → ℤ) → ℤ
applied ts f = int_sum_by (λ t. t.1 *ℤ f t.0) ts
