use Rattle.std.proofs.Common.{◌≡◌, ◌<◌, ◌^◌, length, All}
use Rattle.path_guessed_flows.proofs.listing.all_whole.Given as goal

abbrev pub invariant-loop-i : goal.invariant-loop-i
invariant-loop-i l = (length l.all.items ≡ l.i) × All (λ u. u < 2 ^ 78) l.all.items
