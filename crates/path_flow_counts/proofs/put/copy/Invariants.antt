use Rattle.std.proofs.Common.{◌≡◌, ℕ, ◌≤◌, ◌<◌, length}
use Rattle.loop_flows.specs.Passes.{amount_at}
use Rattle.path_flow_counts.proofs.put.copy.Given as goal

abbrev pub invariant-loop-place : goal.invariant-loop-place
invariant-loop-place l =
    (l.tally.starts.now ≡ l.fn.tally.starts.now) × (l.tally.amounts.now ≡ l.fn.tally.amounts.now) × (length l.tally.room.now ≡ length l.fn.tally.room.now)
    × ((a : ℕ) → l.fn.from ≤ a → a < l.place → amount_at l.tally.room.now a ≡ amount_at l.fn.tally.starts.now a)
