use Rattle.std.proofs.Common.{◌≡◌, ◌+◌, length, map, take, sym, ap, ◌∙◌, subst, arith}
use Rattle.std.proofs.lemmas.List.{get_or-map, get_or_default, length-map}
use Rattle.high_pass.specs.Listing.{mark_entry}
use Rattle.compile_claims.specs.CopyLines.{AreLinesOf}
use Rattle.compile_claims.proofs.Lines.{one_more}
use Rattle.compile_claims.proofs.copies.copy_lines.Goals as goal

pub loop-i-preserved : goal.loop-i-preserved
loop-i-preserved c =
    let names = c.args.names.now in
    let places = c.args.places.now in
    let counted = c.args.counted.now in
    let copies = c.args.copies.now in
    let i = c.loop-i.i in
    let entry = c.index-copies-i.result in
    let many = length-map copies mark_entry in
    let same : length counted ≡ length (map mark_entry copies) = sym c.requires ∙ sym many in
    let below = c.loop-i-test.true in
    let there = ap mark_entry c.index-copies-i.is ∙ sym (get_or-map mark_entry copies i entry (mark_entry entry) (omega (arith, below, same, many))) in
    subst (λ l. AreLinesOf names places (take (i + 1) counted) (take (i + 1) (map mark_entry copies)) l) (sym c.in_ok-push.ensures.items)
    (one_more names places counted (map mark_entry copies) c.loop-i.lines.items i _ (mark_entry entry) c.in_ok-line.line same below (get_or_default counted i _ _ below) there c.loop-i.invariant c.in_ok-line.ensures)
