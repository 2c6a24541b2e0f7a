use Rattle.std.proofs.Common.{◌≡◌, ◌+◌, ◌*◌, ◌++◌, drop, length}
use Rattle.high_code.specs.Code.{joined}
use Rattle.high_ir.specs.Size.{nodes, nodes_all}
use Rattle.high_ir.specs.Standing.{loops_of_all, marks_of_all}
use Rattle.high_ir.specs.View.{statement_of, statements_of}
use Rattle.high_renumber.specs.Numbered.{ids, numbered_all}
use Rattle.high_renumber.proofs.numbering.+statements.Given as goal

abbrev pub decreases-numbered : goal.decreases-numbered
decreases-numbered l = 4 * nodes (statement_of l.statement.now)

abbrev pub decreases-numbered_if : goal.decreases-numbered_if
decreases-numbered_if l = 4 * nodes (statement_of l.other.now) + 1

abbrev pub decreases-numbered_all : goal.decreases-numbered_all
decreases-numbered_all l = 4 * nodes_all (statements_of l.parts.now) + 1

abbrev pub invariant-numbered_all-loop-part : goal.invariant-numbered_all-loop-part
invariant-numbered_all-loop-part l = record {
  made : joined (statements_of l.made.items) (numbered_all (length l.origins.marks.items) (length l.origins.loops.items) (statements_of (drop l.part-index l.parts))) ≡ numbered_all (length l.initial.origins.marks.items) (length l.initial.origins.loops.items) (statements_of l.parts);
  marks : l.origins.marks.items ++ marks_of_all (statements_of (drop l.part-index l.parts)) ≡ l.initial.origins.marks.items ++ marks_of_all (statements_of l.parts);
  loops : l.origins.loops.items ++ ids (loops_of_all (statements_of (drop l.part-index l.parts))) ≡ l.initial.origins.loops.items ++ ids (loops_of_all (statements_of l.parts));
}
