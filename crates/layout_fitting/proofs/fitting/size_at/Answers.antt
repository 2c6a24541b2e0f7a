use Rattle.std.proofs.Common.{length, refl}
use Rattle.std.proofs.lemmas.Option.{slice_get_read}
use Rattle.layout_fitting.proofs.SizeLemmas.{size_read}
use Rattle.layout_fitting.proofs.fitting.size_at.Goals as goal

pub returns-in-Some : goal.returns-in-Some
returns-in-Some c =
    let items = c.args.items.now in
    let item = c.in-Some.item.now in
    size_read items c.args.number item (slice_get_read items (length items) c.args.number item refl c.in-Some.ensures.lookup.3.0 c.in-Some.ensures.lookup.1)
