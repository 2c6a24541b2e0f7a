-- The table that a round begins with (Bland 1977). Its variables are the artificial one, number 0, then one for the weight of each column, then a slack for each side of a fact; behind them stand the numbers of the two objectives and the right side.
use Rattle.std.specs.Prelude.{ℕ, ◌+◌, ◌==◌, ℤ, pos, neg_ℤ, List, [], ◌∷◌, ◌++◌, length, replicate, Bool, true, false, if◌then◌else◌}
use Rattle.wcc_base.specs.declared.compare.Compare.{Compare}
use Rattle.wcc_base.specs.declared.compare.Compare.TheVariants.{AtMost, AtLeast, Equal}
use Rattle.code_flow_answer.specs.declared.bounded.Column.{Column}
use Rattle.simplex_tables.specs.Rows.{Row, entry}
use Rattle.simplex_rounds.specs.declared.starting.Side.{Side}
use Rattle.simplex_tables.specs.declared.table.Table.{Table}

-- the sides of facts, numbered from n on: a total that is at most 0, or its negation, or both

abbrev pub sides_of : ℕ → Compare → List Side
sides_of n AtMost = record { fact = n; negated = false } ∷ []
sides_of n AtLeast = record { fact = n; negated = true } ∷ []
sides_of n Equal = record { fact = n; negated = false } ∷ record { fact = n; negated = true } ∷ []

abbrev pub sides_from : ℕ → List Compare → List Side
sides_from n [] = []
sides_from n (o ∷ os) = sides_of n o ++ sides_from (n + 1) os

abbrev pub sign_of : Bool → ℤ → ℤ
sign_of true z = neg_ℤ z
sign_of false z = z

-- a column's total on a side
abbrev pub sided : Side → Column → ℤ
sided s c = sign_of s.negated (entry c.totals s.fact)

abbrev pub side_totals : Side → List Column → Row
side_totals s [] = []
side_totals s (c ∷ cs) = sided s c ∷ side_totals s cs

-- 1 at the slack of number i, the first of these being that of number k
abbrev pub slacks : ℕ → ℕ → List Side → Row
slacks i k [] = []
slacks i k (s ∷ ss) = (if k == i then pos 1 else pos 0) ∷ slacks i (k + 1) ss

-- the weighted total and the slack are 0
abbrev pub side_row : List Column → List Side → ℕ → Side → Row
side_row cs ss i s = pos 0 ∷ (side_totals s cs ++ (slacks i 0 ss ++ (pos 0 ∷ pos 0 ∷ pos 0 ∷ [])))

abbrev pub side_rows : List Column → List Side → ℕ → List Side → List Row
side_rows cs ss i [] = []
side_rows cs ss i (s ∷ more) = side_row cs ss i s ∷ side_rows cs ss (i + 1) more

-- the weights and the artificial variable are 1
abbrev pub whole_row : ℕ → ℕ → Row
whole_row k n = pos 1 ∷ (replicate k (pos 1) ++ (replicate n (pos 0) ++ (pos 0 ∷ pos 0 ∷ pos 1 ∷ [])))

-- the first objective is the artificial variable, negated, in terms of the weights; the second is the weighted value

abbrev pub first_row : ℕ → ℕ → Row
first_row k n = pos 0 ∷ (replicate k (neg_ℤ (pos 1)) ++ (replicate n (pos 0) ++ (pos 1 ∷ pos 0 ∷ neg_ℤ (pos 1) ∷ [])))

abbrev pub values_of : List Column → Row
values_of [] = []
values_of (c ∷ cs) = neg_ℤ c.value ∷ values_of cs

abbrev pub second_row : List Column → ℕ → Row
second_row cs n = pos 0 ∷ (values_of cs ++ (replicate n (pos 0) ++ (pos 0 ∷ pos 1 ∷ pos 0 ∷ [])))

abbrev pub own_slacks : ℕ → List Side → List ℕ
own_slacks n [] = []
own_slacks n (s ∷ ss) = n ∷ own_slacks (n + 1) ss

abbrev pub started : List Column → List Side → Table
started cs ss = record {
  owns = own_slacks (length cs + 1) ss ++ 0 ∷ [];
  rows = side_rows cs ss 0 ss ++ whole_row (length cs) (length ss) ∷ [];
  one = first_row (length cs) (length ss);
  two = second_row cs (length ss);
}

-- how many variables there are
abbrev pub variables : List Column → List Side → ℕ
variables cs ss = (length cs + 1) + length ss
