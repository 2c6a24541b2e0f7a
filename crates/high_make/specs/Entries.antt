-- A loop of a source, and what becomes of it.
use Rattle.std.specs.Prelude.{[], ◌∷◌}
use Rattle.high_pass.specs.Listing.{LoopEntry}
use Rattle.make_loops.specs.declared.renumbered.Renumbered.{Renumbered}

-- its one copy, each of whose starts is one
abbrev pub once : Renumbered → LoopEntry
once l = record { old = l.old; new = (record { id = l.new; factor = 1 }) ∷ [] }
