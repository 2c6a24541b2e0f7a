-- What a pivot makes of a table; none where one of its products is wide.
use Rattle.std.specs.Prelude.{ℕ, ◌+◌, ◌==◌, List, [], ◌∷◌, slice_index_or, slice_set, Option, Some, None, Bool, true, false, not, if◌then◌else◌}
use Rattle.simplex_tables.specs.Rows.{Row, turned, turns_wide}
use Rattle.simplex_tables.specs.declared.table.Table.{Table}
use Rattle.simplex_tables.specs.Choices.{is_among}

-- a row after a pivot at place t of the row ss, or as it was
abbrev pub next_row : ℕ → Row → Bool → Row → Option Row
next_row t ss true r = Some r
next_row t ss false r = if turns_wide t ss r then None else Some (turned t ss r)

abbrev pub cons_of : {X : Type 0} → Option X → Option (List X) → Option (List X)
cons_of None o = None
cons_of (Some x) None = None
cons_of (Some x) (Some xs) = Some (x ∷ xs)

-- the rows from number n on; the pivot's row, that of number s, stays as it was
abbrev pub next_rows : ℕ → Row → ℕ → ℕ → List Row → Option (List Row)
next_rows t ss s n [] = Some []
next_rows t ss s n (r ∷ rs) = cons_of (next_row t ss (n == s) r) (next_rows t ss s (n + 1) rs)

abbrev pub table_of : List ℕ → Option (List Row) → Option Row → Option Row → Option Table
table_of owns None one two = None
table_of owns (Some rows) None two = None
table_of owns (Some rows) (Some one) None = None
table_of owns (Some rows) (Some one) (Some two) = Some (record { owns = owns; rows = rows; one = one; two = two })

-- the first objective's row is kept as it is from the pivot on that takes the artificial variable out
abbrev pub pivoted_by : ℕ → Row → List ℕ → ℕ → Table → Option Table
pivoted_by t ss owns s b = table_of owns (next_rows t ss s 0 b.rows) (next_row t ss (not (is_among 0 owns)) b.one) (next_row t ss false b.two)

abbrev pub pivoted : ℕ → ℕ → Table → Option Table
pivoted t s b = pivoted_by t (slice_index_or b.rows s []) (slice_set b.owns s t) s b
