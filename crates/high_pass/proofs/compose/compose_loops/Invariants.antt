use Rattle.std.proofs.Common.{◌≡◌, map, take}
use Rattle.high_pass.specs.Composing.{loops_through}
use Rattle.high_pass.specs.Listing.{loop_entry}
use Rattle.high_pass.proofs.compose.compose_loops.Given as goal

abbrev pub invariant-loop-entry : goal.invariant-loop-entry
invariant-loop-entry l = map loop_entry l.made.items ≡ map (λ e. loops_through (map loop_entry l.step) (loop_entry e)) (take l.entry-index l.whole)
