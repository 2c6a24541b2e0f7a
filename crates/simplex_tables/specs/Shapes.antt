-- Tables whose rows are as long as each other.
use Rattle.std.specs.Prelude.{◌≡◌, ℕ, ◌≤◌, ◌<◌, ◌≤ℤ◌, ◌<ℤ◌, pos, length, true, false, All}
use Rattle.simplex_tables.specs.Rows.{Row, entry}
use Rattle.simplex_tables.specs.declared.table.Table.{Table}
use Rattle.simplex_tables.specs.declared.choosing.Choice.{Choice}
use Rattle.simplex_tables.specs.declared.running.Ending.{Ending}
use Rattle.simplex_tables.specs.declared.running.Ending.TheVariants.{Second, First, TooWide, NoPivots, Unbounded}
use Rattle.simplex_tables.specs.declared.running.Outcome.{Outcome}
use Rattle.simplex_tables.specs.declared.running.Outcome.TheVariants.{Turns, Wide, Ends}
use Rattle.simplex_tables.specs.Choices.{in_first}

pub record IsShaped (n : ℕ) (b : Table) : Type 0 where
  pub some : 0 < n
  pub rows : All (λ r. length r ≡ n) b.rows
  pub owns : length b.owns ≡ length b.rows
  pub one : length b.one ≡ n
  pub two : length b.two ≡ n

-- one of so many rows, with a positive number
pub record IsChoice (n : ℕ) (c : Choice) : Type 0 where
  pub row : c.row < n
  pub bottom : pos 0 <ℤ c.bottom

-- none of the variables from 1 up to k has a negative number
abbrev pub NoneNegative : ℕ → Row → Type 0
NoneNegative k r = (u : ℕ) → 1 ≤ u → u < k → pos 0 ≤ℤ entry r u

-- no variable of k improves the objective of the phase in which the pivots end
abbrev pub HasEnded : ℕ → ℕ → Ending → Type 0
HasEnded k n (Second b) = IsShaped n b × (in_first b ≡ false) × NoneNegative k b.two
HasEnded k n (First b) = IsShaped n b × (in_first b ≡ true) × NoneNegative k b.one
HasEnded k n TooWide = Unit {0}
HasEnded k n NoPivots = Unit {0}
HasEnded k n Unbounded = Unit {0}

-- what follows a table is as wide, or has ended
abbrev pub KeepsShape : ℕ → ℕ → Outcome → Type 0
KeepsShape k n (Turns b) = IsShaped n b
KeepsShape k n Wide = Unit {0}
KeepsShape k n (Ends e) = HasEnded k n e
