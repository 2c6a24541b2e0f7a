use Rattle.std.proofs.Common.{◌+◌, ◌≡◌, ◌∷◌, ◌++◌, drop, map, ap, sym, ◌∙◌, subst, arith, true}
use Rattle.asm_items.specs.Items.{total, all_words, in_rows}
use Rattle.asm_items.specs.Placings.{blocks_size, blocks_words}
use Rattle.rv_core.specs.Words.{word_of}
use Rattle.asm_writing.specs.Targets.{starts_in}
use Rattle.asm_writing.proofs.WordLemmas.{drop-at, block-rows, block-words}
use Rattle.asm_writing.proofs.blocks.put_blocks.Goals as goal

pub put_block-requires-clause-rows : goal.put_block-requires-clause-rows
put_block-requires-clause-rows c =
    let k = c.loop-block.block-index in
    let b = c.block-item.result in
    let rows = block-rows (starts_in c.args.starts.now) c.args.function c.loop-block.next (drop k c.args.blocks.now) b (drop (k + 1) c.args.blocks.now) (drop-at c.args.blocks.now k b c.loop-block-test.true c.block-item.is) c.loop-block.invariant.rows in
    subst (λ l. in_rows (all_words (starts_in c.args.starts.now) c.args.function c.loop-block.next l) ≡ true) (sym c.as_slice.ensures) rows.0

pub loop-block-preserved : goal.loop-block-preserved
loop-block-preserved c =
    let p = starts_in c.args.starts.now in
    let f = c.args.function in
    let k = c.loop-block.block-index in
    let b = c.block-item.result in
    let bs = drop k c.args.blocks.now in
    let rest = drop (k + 1) c.args.blocks.now in
    let split : bs ≡ b ∷ rest = drop-at c.args.blocks.now k b c.loop-block-test.true c.block-item.is in
    let rows = block-rows p f c.loop-block.next bs b rest split c.loop-block.invariant.rows in
    let size = c.bytes_of-next.ensures ∙ ap total c.as_slice-in-loop-block.ensures in
    let put = c.in_ok-put_block.ensures ∙ ap (λ l. c.loop-block.words.items ++ map word_of (all_words p f c.loop-block.next l)) c.as_slice.ensures in
    let more = ap blocks_size split in
    let room = c.loop-block.invariant.room in
    record {
      words = ap (λ n. c.put_block.new.words.items ++ map word_of (blocks_words p f (c.loop-block.next + n) rest)) size ∙ block-words p f c.loop-block.next bs b rest c.put_block.new.words.items c.loop-block.words.items _ split put c.loop-block.invariant.words;
      room = omega arith;
      rows = ap (λ n. in_rows (blocks_words p f (c.loop-block.next + n) rest)) size ∙ rows.1;
    }
