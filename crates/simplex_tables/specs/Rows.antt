-- Rows of whole numbers, and what a pivot makes of one (Bland 1977, the simplex method; fraction-free elimination).
use Rattle.std.specs.Prelude.{ℕ, zero, suc, ◌+◌, ◌/◌, ◌%◌, ◌^◌, ◌==◌, ◌||◌, nat_lt, ℤ, pos, negsuc, neg_ℤ, ◌+ℤ◌, ◌-ℤ◌, ◌*ℤ◌, unsigned_abs, List, [], ◌∷◌, slice_index_or, Bool, false, if◌then◌else◌}

-- an equation: the sum of the products of these numbers and of those of a solution is 0
abbrev pub Row : Type 0
Row = List ℤ

abbrev pub entry : Row → ℕ → ℤ
entry r t = slice_index_or r t (pos 0)

-- the sum of a row's numbers, each times what stands at its place, the first at place n
abbrev pub dot_from : ℕ → Row → (ℕ → ℤ) → ℤ
dot_from n [] v = pos 0
dot_from n (a ∷ as') v = (a *ℤ v n) +ℤ dot_from (n + 1) as' v

abbrev pub dot : Row → (ℕ → ℤ) → ℤ
dot r v = dot_from 0 r v

-- p times a row less q times another
abbrev pub combined : ℤ → ℤ → Row → Row → Row
combined p q [] ss = []
combined p q (a ∷ as') [] = []
combined p q (a ∷ as') (b ∷ bs) = ((p *ℤ a) -ℤ (q *ℤ b)) ∷ combined p q as' bs

-- Euclid's steps, at most n of them
abbrev pub euclid : ℕ → ℕ → ℕ → ℕ
euclid zero a b = a
euclid (suc n) a b = if b == 0 then a else euclid n b (a % b)

abbrev pub gcd : ℕ → ℕ → ℕ
gcd a b = euclid (b + 1) a b

-- the greatest common divisor of g and a row's numbers, 0 where all are 0
abbrev pub divisor_from : ℕ → Row → ℕ
divisor_from g [] = g
divisor_from g (a ∷ as') = divisor_from (gcd g (unsigned_abs a)) as'

abbrev pub divisor : Row → ℕ
divisor r = divisor_from 0 r

abbrev pub part : ℕ → ℤ → ℤ
part g (pos n) = pos (n / g)
part g (negsuc n) = neg_ℤ (pos (suc n / g))

abbrev pub divided : ℕ → Row → Row
divided g [] = []
divided g (a ∷ as') = part g a ∷ divided g as'

-- a row without a common divisor above 1
abbrev pub reduced : Row → Row
reduced r = if divisor r == 0 then r else divided (divisor r) r

-- a row after a pivot at place t of the row ss, which takes that place out of it
abbrev pub turned : ℕ → Row → Row → Row
turned t ss r = reduced (combined (entry ss t) (entry r t) r ss)

-- a product that passes the limit
abbrev pub is_wide : ℤ → Bool
is_wide z = nat_lt (2 ^ 120) (unsigned_abs z)

-- whether a product of a row's pivot passes it
abbrev pub any_wide : ℤ → ℤ → Row → Row → Bool
any_wide p q [] ss = false
any_wide p q (a ∷ as') [] = false
any_wide p q (a ∷ as') (b ∷ bs) = is_wide (p *ℤ a) || (is_wide (q *ℤ b) || any_wide p q as' bs)

abbrev pub turns_wide : ℕ → Row → Row → Bool
turns_wide t ss r = any_wide (entry ss t) (entry r t) r ss
