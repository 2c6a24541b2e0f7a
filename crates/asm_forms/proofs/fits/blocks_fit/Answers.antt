use Rattle.std.proofs.Common.{◌≡◌, ◌+◌, ◌∷◌, drop, true, false, ap, sym, ◌∙◌, subst, arith}
use Rattle.std.proofs.lemmas.List.Elements.{All-tail}
use Rattle.asm_items.specs.Items.{total, all_words, in_rows}
use Rattle.asm_items.specs.Placings.{blocks_size, blocks_words}
use Rattle.asm_writing.specs.Targets.{starts_in}
use Rattle.asm_writing.proofs.WordLemmas.{drop-at}
use Rattle.asm_forms.specs.Sound.{AreSound, BlocksSound}
use Rattle.asm_forms.proofs.FitLemmas.{block-onward, block-stops}
use Rattle.asm_forms.proofs.fits.blocks_fit.Goals as goal

pub returns-then-not-block_fits : goal.returns-then-not-block_fits
returns-then-not-block_fits c =
    let p = starts_in c.args.starts.now in
    let k = c.loop-block.block-index in
    let b = c.block-item.result in
    let rest = drop (k + 1) c.args.blocks.now in
    let split = drop-at c.args.blocks.now k b c.loop-block-test.true c.block-item.is in
    let stops : in_rows (all_words p c.args.function c.loop-block.next b) ≡ false = ap (λ l. in_rows (all_words p c.args.function c.loop-block.next l)) (sym c.as_slice.ensures) ∙ sym c.block_fits.ensures ∙ c.if-not-block_fits.true in
    sym (block-stops p c.args.function c.loop-block.next (drop k c.args.blocks.now) b rest split stops) ∙ c.loop-block.invariant.rows

pub loop-block-preserved : goal.loop-block-preserved
loop-block-preserved c =
    let p = starts_in c.args.starts.now in
    let f = c.args.function in
    let k = c.loop-block.block-index in
    let b = c.block-item.result in
    let bs = drop k c.args.blocks.now in
    let rest = drop (k + 1) c.args.blocks.now in
    let split : bs ≡ b ∷ rest = drop-at c.args.blocks.now k b c.loop-block-test.true c.block-item.is in
    let fits : in_rows (all_words p f c.loop-block.next b) ≡ true = ap (λ l. in_rows (all_words p f c.loop-block.next l)) (sym c.as_slice.ensures) ∙ sym c.block_fits.ensures ∙ c.if-not-block_fits.false in
    let size = c.bytes_of-next.ensures ∙ ap total c.as_slice-in-loop-block.ensures in
    let more = ap blocks_size split in
    let room = c.loop-block.invariant.room in
    record {
      rows = ap (λ n. in_rows (blocks_words p f (c.loop-block.next + n) rest)) size ∙ sym (block-onward p f c.loop-block.next bs b rest split fits) ∙ c.loop-block.invariant.rows;
      room = omega arith;
      sound = All-tail AreSound b rest (subst BlocksSound split c.loop-block.invariant.sound);
    }
