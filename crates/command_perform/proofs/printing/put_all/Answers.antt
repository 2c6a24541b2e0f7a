use Rattle.std.proofs.Common.{arith, ◌∙◌}
use Rattle.command_perform.proofs.TextRuns.{put_more, cut_at}
use Rattle.command_perform.proofs.printing.put_all.Goals as goal

pub loop-done-preserved : goal.loop-done-preserved
loop-done-preserved g c = record {
  so_far = put_more _ _ _ _ _ _ c.loop-done.invariant.so_far c.in-Ok.ensures.ok;
  within = omega (arith, c.in-Ok.ensures.bound, c.loop-done.invariant.within);
  faults = c.in-Ok.ensures.counts ∙ c.loop-done.invariant.faults;
}

pub returns-in-Err-clause-err : goal.returns-in-Err-clause-err
returns-in-Err-clause-err g c = cut_at _ _ _ _ _ c.loop-done.invariant c.in-Err.ensures.err
