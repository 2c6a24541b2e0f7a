use Rattle.std.proofs.Common.{◌≡◌, drop}
use Rattle.image_frames.specs.Needs.{spread_sites}
use Rattle.image_saving.proofs.spreading.spread_sites.Given as goal

abbrev pub invariant-loop-site : goal.invariant-loop-site
invariant-loop-site l = spread_sites l.outlines l.fn.register l.fn.needed l.fn.saved (drop l.site-index l.sites) l.needs ≡ spread_sites l.outlines l.fn.register l.fn.needed l.fn.saved l.sites l.fn.needs
