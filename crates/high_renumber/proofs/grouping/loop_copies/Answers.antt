use Rattle.std.proofs.Common.{◌≡◌, ℕ, ◌<◌, arith, length, refl, take}
use Rattle.std.specs.Prelude.{slice_index_or}
use Rattle.std.proofs.lemmas.List.{get_or_default}
use Rattle.high_pass.specs.Listing.{loop_entry}
use Rattle.high_renumber.specs.Numbered.{loop_at}
use Rattle.high_renumber.proofs.Grouped.{count_made, loop_more}
use Rattle.high_renumber.proofs.grouping.loop_copies.Goals as goal

pub index_mut-requires : goal.index_mut-requires
index_mut-requires c =
    let os = c.args.origins.now in
    omega (arith, c.requires c.loop-i.i 0 c.loop-i-test.true, count_made loop_entry (loop_at (take c.loop-i.i os)) c.loop-i.copies.items c.args.loops c.loop-i.invariant)

pub loop-i-preserved : goal.loop-i-preserved
loop-i-preserved c =
    let os = c.args.origins.now in
    let o : ℕ = slice_index_or os c.loop-i.i 0 in
    let there : o < c.args.loops = c.requires c.loop-i.i 0 c.loop-i-test.true in
    let count : length c.loop-i.copies.items ≡ c.args.loops = count_made loop_entry (loop_at (take c.loop-i.i os)) c.loop-i.copies.items c.args.loops c.loop-i.invariant in
    loop_more os c.loop-i.i o c.args.loops c.in_ok-id.id c.loop-i-test.true (get_or_default os c.loop-i.i 0 o c.loop-i-test.true) there c.in_ok-id.ensures
    c.loop-i.copies.items c.index_mut.result.now (record { old = c.index_mut.result.now.old; new = c.push.new.self })
    c.loop-i.invariant c.index_mut.ensures.value (omega (arith, there, count)) refl c.in_ok-push.ensures.items
