-- What the end of a round says (Schrijver 1986, linear programming duality): its weights keep the facts and have the value that its multipliers bound, or no weights do.
use Rattle.std.specs.Prelude.{◌≡◌, ℕ, ◌+◌, ◌<◌, ℤ, pos, neg_ℤ, ◌+ℤ◌, ◌*ℤ◌, ◌≤ℤ◌, List, [], ◌∷◌, length, slice_index_or, All}
use Rattle.std.specs.Int.{◌∣◌}
use Rattle.frac128.specs.Terms.{Terms, applied}
use Rattle.wcc_base.specs.declared.compare.Compare.{Compare}
use Rattle.wcc_base.specs.declared.compare.Compare.TheVariants.{AtMost, AtLeast, Equal}
use Rattle.code_flow_answer.specs.declared.bounded.Column.{Column}
use Rattle.simplex_tables.specs.Rows.{Row, entry}
use Rattle.simplex_tables.specs.declared.table.Table.{Table}
use Rattle.simplex_rounds.specs.declared.weighing.Weight.{Weight}
use Rattle.simplex_tables.specs.declared.running.Ending.{Ending}
use Rattle.simplex_tables.specs.declared.running.Ending.TheVariants.{Second, First, TooWide, NoPivots, Unbounded}
use Rattle.simplex_tables.specs.Choices.{right}
use Rattle.simplex_rounds.specs.Rounds.{round_over, IsColumnOf}
use Rattle.simplex_rounds.specs.Multiplied.{duals, objective_place}
use Rattle.simplex_rounds.specs.Weighted.{weights_of, numerator}

abbrev pub no_column : Column
no_column = record { value = pos 0; totals = [] }

abbrev pub column_at : List Column → ℕ → Column
column_at cs i = slice_index_or cs i no_column

-- numerators over a denominator, each at the number of its column
abbrev pub over : ℕ → List Weight → Terms
over m [] = []
over m (w ∷ ws) = (w.column, pos (numerator m w)) ∷ over m ws

-- a denominator of all
pub record IsCommon (m : ℕ) (ws : List Weight) : Type 0 where
  pub positive : 0 < m
  pub divides : All (λ w. w.bottom ∣ m) ws

-- how an operator compares a number with 0
abbrev pub IsKept : Compare → ℤ → Type 0
IsKept AtMost z = z ≤ℤ pos 0
IsKept AtLeast z = pos 0 ≤ℤ z
IsKept Equal z = z ≡ pos 0

-- the weighted totals of the facts, numbered from n on
abbrev pub KeepFacts : List Column → Terms → ℕ → List Compare → Type 0
KeepFacts cs ts n [] = Unit {0}
KeepFacts cs ts n (o ∷ os) = IsKept o (applied ts (λ i. entry (column_at cs i).totals n)) × KeepFacts cs ts (n + 1) os

-- multipliers have the signs of their facts
abbrev pub HasSign : Compare → ℤ → Type 0
HasSign AtMost y = pos 0 ≤ℤ y
HasSign AtLeast y = y ≤ℤ pos 0
HasSign Equal y = Unit {0}

abbrev pub HaveSigns : List Compare → Row → Type 0
HaveSigns [] ys = Unit {0}
HaveSigns (o ∷ os) [] = ⊥
HaveSigns (o ∷ os) (y ∷ ys) = HasSign o y × HaveSigns os ys

-- multipliers and totals
abbrev pub weighed : Row → Row → ℤ
weighed [] ts = pos 0
weighed (y ∷ ys) [] = pos 0
weighed (y ∷ ys) (t ∷ ts) = (y *ℤ t) +ℤ weighed ys ts

-- numerators of weights over a denominator: they add up to it, keep the facts and have the round's value
pub record IsWeighing (cs : List Column) (os : List Compare) (b : Table) (m : ℕ) (ts : Terms) : Type 0 where
  pub whole : applied ts (λ i. pos 1) ≡ pos m
  pub facts : KeepFacts cs ts 0 os
  pub value : (entry b.two (objective_place (length cs) os 1) *ℤ applied ts (λ i. (column_at cs i).value)) ≡ (pos m *ℤ right b.two)

pub record IsOptimum (cs : List Column) (os : List Compare) (b : Table) : Type 0 where
  pub scale : pos 1 ≤ℤ entry b.two (objective_place (length cs) os 1)
  pub signs : HaveSigns os (duals (length cs + 1) os b.two)
  pub weights : All (λ w. (w.column < length cs) × (0 < w.bottom)) (weights_of (length cs) b.owns b.rows)
  pub weighing : (m : ℕ) → IsCommon m (weights_of (length cs) b.owns b.rows) → IsWeighing cs os b m (over m (weights_of (length cs) b.owns b.rows))

pub record IsInfeasible (cs : List Column) (os : List Compare) (b : Table) : Type 0 where
  pub scale : pos 1 ≤ℤ entry b.one (objective_place (length cs) os 0)
  pub signs : HaveSigns os (duals (length cs + 1) os b.one)
  pub negative : right b.one ≤ℤ neg_ℤ (pos 1)
  -- no column of the round improves on it
  pub listed : (i : ℕ) → i < length cs → neg_ℤ (weighed (duals (length cs + 1) os b.one) (column_at cs i).totals) ≤ℤ right b.one

abbrev pub EndsWell : List Column → List Compare → Ending → Type 0
EndsWell cs os (Second b) = IsOptimum cs os b
EndsWell cs os (First b) = IsInfeasible cs os b
EndsWell cs os TooWide = Unit {0}
EndsWell cs os NoPivots = Unit {0}
EndsWell cs os Unbounded = ⊥

-- a round over columns ends with an optimum, or shows that no weights keep the facts; it never lacks a row to leave
abbrev pub RoundsEndWell : Type 0
RoundsEndWell = (cs : List Column) (os : List Compare) (made : ℕ) → 0 < length cs → All (IsColumnOf (length os)) cs → EndsWell cs os (round_over os made cs).ending
