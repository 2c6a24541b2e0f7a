use Rattle.std.proofs.Common.{◌≡◌, drop}
use Rattle.image_saving.specs.Tables.{kept_marked}
use Rattle.image_saving.proofs.tables.mark_kept.Given as goal

abbrev pub invariant-loop-place : goal.invariant-loop-place
invariant-loop-place l = kept_marked l.table l.site.kept (drop l.place-index l.places) ≡ kept_marked l.fn.table l.site.kept l.places
