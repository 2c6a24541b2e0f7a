use Rattle.std.proofs.Common.{arith}
use Rattle.spm_placement.proofs.RowLemmas.{row_next, row_room}
use Rattle.spm_placement.proofs.rows.add_all.Goals as goal

pub add-requires : goal.add-requires
add-requires c =
    let t = c.loop-i-test.true in
    row_room c.args.items.now c.args.upto c.loop-i.i c.words_of.result c.worth_of.result (omega (arith, t)) c.requires.upto c.words_of.ensures c.worth_of.ensures
    c.loop-i.row c.requires.count c.requires.gains c.loop-i.invariant

pub loop-i-preserved : goal.loop-i-preserved
loop-i-preserved c =
    let t = c.loop-i-test.true in
    row_next c.args.items.now c.args.upto c.loop-i.i c.words_of.result c.worth_of.result (omega (arith, t)) c.requires.upto c.words_of.ensures c.worth_of.ensures
    c.loop-i.row c.add.new.row c.loop-i.invariant c.add.ensures
