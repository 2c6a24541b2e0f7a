-- Pivots one after the other: how many are made, and how they end.
use Rattle.std.specs.Prelude.{ℕ, zero, suc, ◌+◌, Option, Some, None, if◌then◌else◌}
use Rattle.simplex_tables.specs.declared.table.Table.{Table}
use Rattle.simplex_tables.specs.declared.choosing.Choice.{Choice}
use Rattle.simplex_tables.specs.declared.running.Ending.{Ending}
use Rattle.simplex_tables.specs.declared.running.Ending.TheVariants.{Second, First, TooWide, NoPivots, Unbounded}
use Rattle.simplex_tables.specs.declared.running.Outcome.{Outcome}
use Rattle.simplex_tables.specs.declared.running.Outcome.TheVariants.{Turns, Wide, Ends}
use Rattle.simplex_tables.specs.declared.running.Ended.{Ended}
use Rattle.simplex_tables.specs.Choices.{in_first, entering, leaving}
use Rattle.simplex_tables.specs.Pivots.{pivoted}

-- no variable improves: in the phase in which the table is
abbrev pub ends : Table → Ending
ends b = if in_first b then First b else Second b

abbrev pub by_table : Option Table → Outcome
by_table None = Wide
by_table (Some b) = Turns b

abbrev pub by_row : ℕ → Table → Option Choice → Outcome
by_row t b None = Ends Unbounded
by_row t b (Some c) = by_table (pivoted t c.row b)

abbrev pub by_variable : Table → Option ℕ → Outcome
by_variable b None = Ends (ends b)
by_variable b (Some t) = by_row t b (leaving t b)

-- the next pivot of a table of k variables, if one is wanted
abbrev pub next : ℕ → Table → Outcome
next k b = by_variable b (entering k b)

-- no pivot is left: an end, where none is wanted
abbrev pub last_of : Table → Option ℕ → Ending
last_of b None = ends b
last_of b (Some t) = NoPivots

abbrev pub ended : ℕ → Ending → Ended
ended made e = record { made = made; ending = e }

abbrev pub after : (Table → Ended) → ℕ → Outcome → Ended
after go made (Turns b) = go b
after go made Wide = ended (made + 1) TooWide
after go made (Ends e) = ended made e

-- so many pivots at most, of which some were made before
abbrev pub pivots : ℕ → ℕ → ℕ → Table → Ended
pivots zero k made b = ended made (last_of b (entering k b))
pivots (suc left) k made b = after (λ c. pivots left k (made + 1) c) made (next k b)

-- in all there are 10,000 at most
abbrev pub most_pivots : ℕ
most_pivots = 10000
