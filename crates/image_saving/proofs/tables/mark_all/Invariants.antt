use Rattle.std.proofs.Common.{◌≡◌, drop}
use Rattle.image_saving.specs.Tables.{places_marked}
use Rattle.image_saving.proofs.tables.mark_all.Given as goal

abbrev pub invariant-loop-place : goal.invariant-loop-place
invariant-loop-place l = places_marked l.table (drop l.place-index l.places) ≡ places_marked l.fn.table l.places
