use Rattle.std.proofs.Common.{◌∙◌}
use Rattle.image_frames.specs.Needs.{needing}
use Rattle.image_saving.proofs.ColumnLemmas.{columns_more}
use Rattle.image_saving.proofs.choosing.columns.Goals as goal

pub loop-register-preserved : goal.loop-register-preserved
loop-register-preserved c =
    columns_more (needing c.args.outlines.now) c.loop-register.register _ _ _ c.loop-register.invariant c.in_ok-push.ensures.items (c.new.ensures ∙ c.in_ok-needing.ensures)
