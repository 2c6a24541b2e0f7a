use Rattle.std.proofs.Common.{◌≡◌, ◌+◌, ◌*◌, ◌++◌, drop, length}
use Rattle.high_code.specs.Code.{joined}
use Rattle.high_ir.specs.Size.{nodes, nodes_all}
use Rattle.high_ir.specs.View.{statement_of, statements_of}
use Rattle.high_folded.specs.Folded.{folded_all, kept_all}
use Rattle.high_fold.proofs.statements.+statements.Given as goal

abbrev pub decreases-folded : goal.decreases-folded
decreases-folded l = 4 * nodes (statement_of l.statement.now)

abbrev pub decreases-folded_all : goal.decreases-folded_all
decreases-folded_all l = 4 * nodes_all (statements_of l.parts.now) + 1

abbrev pub decreases-folded_choice : goal.decreases-folded_choice
decreases-folded_choice l = 4 * (nodes (statement_of l.first.now) + nodes (statement_of l.other.now)) + 2

abbrev pub decreases-folded_ways : goal.decreases-folded_ways
decreases-folded_ways l = 4 * (nodes (statement_of l.first.now) + nodes (statement_of l.other.now)) + 1

abbrev pub decreases-folded_loop : goal.decreases-folded_loop
decreases-folded_loop l = 4 * nodes (statement_of l.body.now) + 1

abbrev pub invariant-folded_all-loop-part : goal.invariant-folded_all-loop-part
invariant-folded_all-loop-part l = record {
  made : joined (statements_of l.made.items) (folded_all (length l.kept.items) (statements_of (drop l.part-index l.parts))) ≡ folded_all (length l.initial.kept.items) (statements_of l.parts);
  kept : l.kept.items ++ kept_all (statements_of (drop l.part-index l.parts)) ≡ l.initial.kept.items ++ kept_all (statements_of l.parts);
}
