use Rattle.std.proofs.Common.{◌≡◌, drop}
use Rattle.image_saving.specs.Walks.{homes_marked}
use Rattle.image_saving.proofs.walks.mark_homes.Given as goal

abbrev pub invariant-loop-site : goal.invariant-loop-site
invariant-loop-site l = homes_marked l.parameters l.table (drop l.site-index l.sites) ≡ homes_marked l.parameters l.fn.table l.sites
