use Rattle.std.proofs.Common.{◌≡◌, ◌+◌, ◌*◌, drop}
use Rattle.high_code.specs.Code.{joined}
use Rattle.high_ir.specs.Size.{nodes, nodes_all}
use Rattle.high_ir.specs.Standing.{marks_of_all}
use Rattle.high_ir.specs.View.{statement_of, statements_of}
use Rattle.high_unrolled.specs.Starts.{remarked_all}
use Rattle.unroller.specs.View.{copied, progress_of}
use Rattle.unroller.proofs.remarking.+remarked.Given as goal

abbrev pub decreases-remarked : goal.decreases-remarked
decreases-remarked l = 4 * nodes (statement_of l.statement.now)

abbrev pub decreases-remarked_all : goal.decreases-remarked_all
decreases-remarked_all l = 4 * nodes_all (statements_of l.parts.now) + 1

abbrev pub decreases-remarked_choice : goal.decreases-remarked_choice
decreases-remarked_choice l = 4 * (nodes (statement_of l.first.now) + nodes (statement_of l.other.now)) + 2

abbrev pub invariant-remarked_all-loop-part : goal.invariant-remarked_all-loop-part
invariant-remarked_all-loop-part l = record {
  code : joined (statements_of l.made.items) (remarked_all (progress_of l.walk).place.marks (statements_of (drop l.part-index l.parts))) ≡ remarked_all (progress_of l.fn.walk).place.marks (statements_of l.parts);
  progress : copied (progress_of l.walk) (marks_of_all (statements_of (drop l.part-index l.parts))) ≡ copied (progress_of l.fn.walk) (marks_of_all (statements_of l.parts));
}
