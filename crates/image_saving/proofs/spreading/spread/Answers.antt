use Rattle.std.proofs.Common.{◌-◌, ap, sym, ◌∙◌, arith}
use Rattle.image_frames.specs.Needs.{spread}
use Rattle.image_saving.proofs.KeptLemmas.{spread_down}
use Rattle.image_saving.proofs.spreading.spread.Goals as goal

pub loop-left-preserved : goal.loop-left-preserved
loop-left-preserved c = record {
  needs =
      ap (spread c.args.outlines.now c.args.register (c.loop-left.left - 1)) c.spread_from.ensures
      ∙ (sym (spread_down c.args.outlines.now c.args.register c.loop-left.left c.loop-left.needs (omega (arith, c.loop-left-test.true))) ∙ c.loop-left.invariant.needs);
  left = let h = c.loop-left.invariant.left in omega (arith, h);
}
