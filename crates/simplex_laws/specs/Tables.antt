-- What each table of a round keeps (Bland 1977): it has the solutions of the first one, each row is solved for a variable of its own, and no right side is negative.
use Rattle.std.specs.Prelude.{◌≡◌, ◌≢◌, ℕ, ◌+◌, ◌<◌, ℤ, pos, ◌≤ℤ◌, [], length, slice_index_or, true}
use Rattle.simplex_tables.specs.Rows.{Row, entry, dot}
use Rattle.simplex_tables.specs.declared.table.Table.{Table}
use Rattle.simplex_tables.specs.Choices.{in_first}
use Rattle.simplex_tables.specs.Shapes.{IsShaped}

abbrev pub row_at : Table → ℕ → Row
row_at b i = slice_index_or b.rows i []

abbrev pub own_at : Table → ℕ → ℕ
own_at b i = slice_index_or b.owns i 0

abbrev pub Solves : (ℕ → ℤ) → Table → Type 0
Solves v b = (i : ℕ) → i < length b.rows → dot (row_at b i) v ≡ pos 0

-- the first objective's row, of w variables, as long as the first phase lasts
pub record HasFirst (w : ℕ) (start b : Table) : Type 0 where
  pub own : (j : ℕ) → j < length b.rows → entry b.one (own_at b j) ≡ pos 0
  pub positive : pos 1 ≤ℤ entry b.one w
  pub rows : (i : ℕ) → i < length b.rows → entry (row_at b i) w ≡ pos 0
  pub back : (v : ℕ → ℤ) → Solves v b → dot b.one v ≡ pos 0 → dot start.one v ≡ pos 0
  pub forth : (v : ℕ → ℤ) → Solves v start → dot start.one v ≡ pos 0 → dot b.one v ≡ pos 0
  pub artificial : (i : ℕ) → i < length b.rows → own_at b i ≡ 0 → pos 1 ≤ℤ entry (row_at b i) (w + 2)

pub record IsTable (w : ℕ) (start b : Table) : Type 0 where
  pub shape : IsShaped (w + 3) b
  pub small : (i : ℕ) → i < length b.rows → own_at b i < w
  pub own : (i : ℕ) → i < length b.rows → pos 1 ≤ℤ entry (row_at b i) (own_at b i)
  pub others : (i j : ℕ) → i < length b.rows → j < length b.rows → i ≢ j → entry (row_at b i) (own_at b j) ≡ pos 0
  pub two_own : (j : ℕ) → j < length b.rows → entry b.two (own_at b j) ≡ pos 0
  pub two_positive : pos 1 ≤ℤ entry b.two (w + 1)
  pub rows_two : (i : ℕ) → i < length b.rows → entry (row_at b i) (w + 1) ≡ pos 0
  pub right : (i : ℕ) → i < length b.rows → pos 0 ≤ℤ entry (row_at b i) (w + 2)
  pub back : (v : ℕ → ℤ) → Solves v b → Solves v start
  pub forth : (v : ℕ → ℤ) → Solves v start → Solves v b
  pub two_back : (v : ℕ → ℤ) → Solves v b → dot b.two v ≡ pos 0 → dot start.two v ≡ pos 0
  pub first : in_first b ≡ true → HasFirst w start b
