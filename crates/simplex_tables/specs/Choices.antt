-- The least-number rule: which variable a pivot takes in, and which row it leaves (Bland 1977).
use Rattle.std.specs.Prelude.{ℕ, ◌+◌, ◌-◌, ◌==◌, ◌||◌, nat_lt, ℤ, pos, ◌*ℤ◌, List, [], ◌∷◌, length, take, drop, Option, Some, None, Bool, true, false, if◌then◌else◌}
use Rattle.std.specs.Int.RustNames.{int_lt}
use Rattle.std.specs.Ordering.{int_cmp}
use Rattle.std.specs.declared.cmp.Ordering.{Ordering}
use Rattle.std.specs.declared.cmp.Ordering.TheVariants.{Less, Equal, Greater}
use Rattle.simplex_tables.specs.Rows.{Row, entry}
use Rattle.simplex_tables.specs.declared.table.Table.{Table}
use Rattle.simplex_tables.specs.declared.choosing.Choice.{Choice}

abbrev pub is_among : ℕ → List ℕ → Bool
is_among a [] = false
is_among a (b ∷ bs) = (b == a) || is_among a bs

-- the first phase lasts as long as the artificial variable owns a row
abbrev pub in_first : Table → Bool
in_first b = is_among 0 b.owns

-- the objective of the phase
abbrev pub objective : Table → Row
objective b = if in_first b then b.one else b.two

-- the first number that is negative, the first of all being that of number n
abbrev pub first_negative : ℕ → Row → Option ℕ
first_negative n [] = None
first_negative n (a ∷ as') = if int_lt a (pos 0) then Some n else first_negative (n + 1) as'

-- the least of k variables that improves the objective; the artificial one is never taken in
abbrev pub entering : ℕ → Table → Option ℕ
entering k b = first_negative 1 (take (k - 1) (drop 1 (objective b)))

-- the right side
abbrev pub right : Row → ℤ
right r = entry r (length r - 1)

-- a lesser quotient, or an equal one with the lesser variable
abbrev pub by_order : Ordering → ℕ → ℕ → Bool
by_order Less m n = true
by_order Equal m n = nat_lt m n
by_order Greater m n = false

abbrev pub goes_first : Choice → Choice → Bool
goes_first a b = by_order (int_cmp (a.top *ℤ b.bottom) (b.top *ℤ a.bottom)) a.own b.own

abbrev pub better : Option Choice → Choice → Option Choice
better None c = Some c
better (Some d) c = if goes_first c d then Some c else Some d

-- a row in which the variable t has a positive number may be left
abbrev pub considered : ℕ → ℕ → ℕ → Row → Option Choice → Option Choice
considered t n o r best = if int_lt (pos 0) (entry r t) then better best (record { row = n; own = o; top = right r; bottom = entry r t }) else best

-- the row that is left, of those from number n on and the best of those before
abbrev pub leaving_from : ℕ → ℕ → Option Choice → List ℕ → List Row → Option Choice
leaving_from t n best [] rs = best
leaving_from t n best (o ∷ os) [] = best
leaving_from t n best (o ∷ os) (r ∷ rs) = leaving_from t (n + 1) (considered t n o r best) os rs

abbrev pub leaving : ℕ → Table → Option Choice
leaving t b = leaving_from t 0 None b.owns b.rows
