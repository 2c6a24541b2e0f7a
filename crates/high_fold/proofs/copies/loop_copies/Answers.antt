use Rattle.std.proofs.Common.{drop, ◌∙◌}
use Rattle.high_fold.proofs.Entries.{next_within, none_left, one_entry}
use Rattle.high_fold.proofs.copies.loop_copies.Goals as goal

pub loop-old-preserved : goal.loop-old-preserved
loop-old-preserved c =
    let before = c.loop-old.invariant in
    record {
      left =
          one_entry _ _ _ c.args.kept.now c.loop-old.next c.loop-old.old c.args.loops c.loop-old-test.true c.in_ok-push.ensures.items
          _ _ c.is_next-is_kept.ensures c.in_ok-loop_copy.ensures c.next_behind-next.ensures
          ∙ before.left;
      within = next_within c.is_next-is_kept.result c.loop-old.next _ c.loop-old.old c.next_behind-next.ensures before.within;
    }

pub returns : goal.returns
returns c =
    none_left c.loop-old.copies.items (drop c.loop-old.next c.args.kept.now) c.loop-old.next c.loop-old.old c.args.loops c.loop-old-test.false
    ∙ c.loop-old.invariant.left
