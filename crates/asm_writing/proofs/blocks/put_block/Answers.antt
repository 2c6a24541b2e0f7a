use Rattle.std.proofs.Common.{◌+◌, drop, refl}
use Rattle.asm_writing.specs.Targets.{starts_in}
use Rattle.asm_writing.proofs.WordLemmas.{Next, drop-at, item-rows, rest-rows, rest-words, rest-room}
use Rattle.asm_items.specs.Items.{size}
use Rattle.asm_writing.proofs.blocks.put_block.Goals as goal

pub put_item-requires-clause-rows : goal.put_item-requires-clause-rows
put_item-requires-clause-rows c =
    let k = c.loop-item.item-index in
    let x = c.item-item.result in
    item-rows (starts_in c.args.starts.now) c.args.function c.loop-item.next c.target_of.result (size x) (drop k c.args.items.now) x (drop (k + 1) c.args.items.now)
    (record { split = drop-at c.args.items.now k x c.loop-item-test.true c.item-item.is; target_is = c.target_of.ensures; size_is = refl }) c.loop-item.invariant.rows

pub loop-item-preserved : goal.loop-item-preserved
loop-item-preserved c =
    let p = starts_in c.args.starts.now in
    let f = c.args.function in
    let k = c.loop-item.item-index in
    let x = c.item-item.result in
    let xs = drop k c.args.items.now in
    let rest = drop (k + 1) c.args.items.now in
    let n : Next p f c.loop-item.next c.target_of.result c.size_of-next.result xs x rest =
    record { split = drop-at c.args.items.now k x c.loop-item-test.true c.item-item.is; target_is = c.target_of.ensures; size_is = c.size_of-next.ensures } in
    record {
      words = rest-words p f c.loop-item.next c.target_of.result c.size_of-next.result xs x rest c.put_item.new.words.items c.loop-item.words.items _ n c.in_ok-put_item.ensures c.loop-item.invariant.words;
      room = rest-room p f c.loop-item.next c.target_of.result c.size_of-next.result xs x rest _ n c.loop-item.invariant.room;
      rows = rest-rows p f c.loop-item.next c.target_of.result c.size_of-next.result xs x rest n c.loop-item.invariant.rows;
    }
