use Rattle.std.proofs.Common.{sym, ◌∙◌, arith}
use Rattle.image_saving.specs.Saved.{is_saved}
use Rattle.image_saving.proofs.ColumnLemmas.{chosen_push}
use Rattle.image_saving.proofs.choosing.saved_below.Goals as goal

pub loop-left-preserved-in-Continue-1 : goal.loop-left-preserved-in-Continue-1
loop-left-preserved-in-Continue-1 c =
    let before = c.loop-left.invariant.left in
    record {
      registers = chosen_push (is_saved c.args.outlines.now c.args.function) c.loop-left.left _ _ _ (omega (arith, c.loop-left-test.true)) (sym c.is_saved.ensures ∙ c.if-is_saved.true) c.in_ok-push.ensures.items c.loop-left.invariant.registers;
      left = omega (arith, before);
    }
