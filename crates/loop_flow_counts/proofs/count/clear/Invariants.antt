use Rattle.std.proofs.Common.{◌≡◌, ℕ, ◌≤◌, ◌<◌}
use Rattle.loop_flows.specs.Passes.{amount_at}
use Rattle.loop_flow_counts.proofs.count.clear.Given as goal

abbrev pub invariant-loop-place : goal.invariant-loop-place
invariant-loop-place l = (a : ℕ) → l.fn.from ≤ a → a < l.place → amount_at l.counts a ≡ 0
