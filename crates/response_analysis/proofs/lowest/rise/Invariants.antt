use Rattle.std.proofs.Common.{◌≡◌, ℕ, ◌+◌, ◌^◌, ◌≤◌}
use Rattle.response_analysis.specs.Equation.{interference, workload}
use Rattle.response_analysis.proofs.Shares.{AreShares}
use Rattle.response_analysis.proofs.lowest.rise.Given as goal

abbrev pub invariant-loop-k : goal.invariant-loop-k
invariant-loop-k l = record {
  rest : l.rest + interference l.tasks l.within l.k ≡ workload l.tasks l.i l.within;
  shares : AreShares l.tasks l.k l.shares;
  few : l.shares ≤ 2 ^ 64;
  more : l.load ≤ l.best;
  low : (other : ℕ) → other ≡ workload l.tasks l.i other → l.within ≤ other → l.best ≤ other;
}
