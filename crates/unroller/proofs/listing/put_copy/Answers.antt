use Rattle.std.proofs.Common.{◌<◌, ◌≤◌, length, map, refl, subst, sym}
use Rattle.std.proofs.lemmas.List.{length-map}
use Rattle.high_pass.specs.Listing.{mark_entry}
use Rattle.unroller.proofs.Sorting.{view_set, with_past}
use Rattle.unroller.proofs.listing.put_copy.Goals as goal

pub returns-in-None : goal.returns-in-None
returns-in-None c =
    let copies = c.args.copies.now.items in
    let over : length (map mark_entry copies) ≤ c.args.mark = subst (λ n. n ≤ c.args.mark) (sym (length-map copies mark_entry)) c.in-None.ensures.item.3 in
    with_past (map mark_entry copies) c.args.mark c.args.copy over

pub returns-in_ok-put-in-Some : goal.returns-in_ok-put-in-Some
returns-in_ok-put-in-Some c =
    let copies = c.args.copies.now in
    let there : c.args.mark < length copies.items = subst (λ n. c.args.mark < n) copies.ok.0 (c.in-Some.ensures.variant.0 refl) in
    view_set copies.items c.args.mark c.in-Some.entry.now c.put.new.entry c.args.copy there c.in-Some.ensures.value c.in_ok-put-in-Some.ensures
