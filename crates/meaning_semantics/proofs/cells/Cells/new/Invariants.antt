use Rattle.std.proofs.Common.{◌≡◌, replicate}
use Rattle.meaning_semantics.proofs.cells.Cells.new.Given as goal

abbrev pub invariant-loop : goal.invariant-loop
invariant-loop l = l.elements.items ≡ replicate l.counter l.first
