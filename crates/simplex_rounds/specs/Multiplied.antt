-- The multipliers of facts at the end of a round, as dual values (Schrijver 1986).
use Rattle.std.specs.Prelude.{ℕ, ◌+◌, ◌&&◌, ℤ, pos, neg_ℤ, ◌+ℤ◌, ◌-ℤ◌, ◌*ℤ◌, unsigned_abs, List, [], ◌∷◌, drop, Bool}
use Rattle.wcc_base.specs.declared.compare.Compare.{Compare}
use Rattle.wcc_base.specs.declared.compare.Compare.TheVariants.{AtMost, AtLeast, Equal}
use Rattle.simplex_tables.specs.Rows.{Row, entry, reduced}
use Rattle.simplex_tables.specs.declared.table.Table.{Table}
use Rattle.simplex_rounds.specs.declared.pricing.Multipliers.{Multipliers}
use Rattle.simplex_rounds.specs.Limits.{is_narrow, all_narrow}

-- how many sides a fact has, and all facts

abbrev pub sides_in : Compare → ℕ
sides_in AtMost = 1
sides_in AtLeast = 1
sides_in Equal = 2

abbrev pub side_count : List Compare → ℕ
side_count [] = 0
side_count (o ∷ os) = sides_in o + side_count os

-- the dual value of a fact, by the numbers of an objective's row at its slacks, the first of which stands at place i; that of an equation is the difference of its two

abbrev pub one_dual : Compare → ℕ → Row → ℤ
one_dual AtMost i r = entry r i
one_dual AtLeast i r = neg_ℤ (entry r i)
one_dual Equal i r = entry r i -ℤ entry r (i + 1)

abbrev pub duals : ℕ → List Compare → Row → Row
duals i [] r = []
duals i (o ∷ os) r = one_dual o i r ∷ duals (i + sides_in o) os r

-- the places of a row over k columns: its slacks, the two objectives behind them, and so its length

abbrev pub objective_place : ℕ → List Compare → ℕ → ℕ
objective_place k os which = ((k + 1) + side_count os) + which

abbrev pub width : ℕ → List Compare → ℕ
width k os = ((k + 1) + side_count os) + 3

-- an objective's own number, and then the dual values, without a common divisor
abbrev pub scaled : ℕ → List Compare → ℕ → Row → Row
scaled k os which r = reduced (entry r (objective_place k os which) ∷ duals (k + 1) os r)

abbrev pub head_of : Row → ℤ
head_of r = entry r 0

abbrev pub tail_of : Row → Row
tail_of r = drop 1 r

abbrev pub of_row : Row → Multipliers
of_row r = record { scale = unsigned_abs (head_of r); facts = tail_of r }

-- at the end of the second phase
abbrev pub second_multipliers : ℕ → List Compare → Table → Multipliers
second_multipliers k os b = of_row (scaled k os 1 b.two)

abbrev pub times_all : ℤ → Row → Row
times_all f [] = []
times_all f (a ∷ as') = (f *ℤ a) ∷ times_all f as'

-- at the end of the first: times one more than the value of the first column, over 1
abbrev pub first_multipliers : ℕ → List Compare → ℤ → Table → Multipliers
first_multipliers k os v b = record { scale = 1; facts = times_all (v +ℤ pos 1) (tail_of (scaled k os 0 b.one)) }

abbrev pub are_narrow : ℕ → Multipliers → Bool
are_narrow n y = is_narrow n y.scale && all_narrow n y.facts
