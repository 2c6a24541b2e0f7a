use Rattle.std.proofs.Common.{arith}
use Rattle.command_perform.proofs.Counts.{written_on}
use Rattle.command_perform.proofs.FileRuns.{still_there, written_more}
use Rattle.command_perform.proofs.files.write_all.Goals as goal

pub append-requires-clause-there : goal.append-requires-clause-there
append-requires-clause-there g c = still_there _ _ _ _ c.loop-done.invariant.so_far

pub loop-done-preserved : goal.loop-done-preserved
loop-done-preserved g c = record {
  so_far = written_more _ _ _ _ _ _ _ c.loop-done.invariant.so_far c.in-Ok-append.ensures.ok;
  within = omega (arith, c.in-Ok-append.ensures.bound, c.loop-done.invariant.within);
  counts = written_on _ _ _ _ c.loop-done.invariant.counts c.in-Ok-append.ensures.counts;
}
