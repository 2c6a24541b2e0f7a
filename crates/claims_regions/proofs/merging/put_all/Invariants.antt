use Rattle.std.proofs.Common.{◌≡◌, ◌++◌, drop}
use Rattle.claims_regions.specs.Merging.{merged_behind}
use Rattle.claims_regions.proofs.merging.put_all.Given as goal

abbrev pub invariant-loop-next : goal.invariant-loop-next
invariant-loop-next l = l.lines.items ++ merged_behind l.line (drop l.next-index l.singles) ≡ l.initial.lines.items ++ merged_behind l.fn.first l.singles
