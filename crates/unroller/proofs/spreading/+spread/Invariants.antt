use Rattle.std.proofs.Common.{◌≡◌, ◌+◌, ◌*◌, drop}
use Rattle.high_code.specs.Code.{joined}
use Rattle.high_ir.specs.Size.{nodes, nodes_all}
use Rattle.high_ir.specs.View.{statement_of, statements_of}
use Rattle.high_unrolled.specs.Unrolling.{spread_all}
use Rattle.unroller.specs.View.{continued, progress_of}
use Rattle.unroller.proofs.spreading.+spread.Given as goal

abbrev pub decreases-spread : goal.decreases-spread
decreases-spread l = 4 * nodes (statement_of l.statement.now)

abbrev pub decreases-spread_all : goal.decreases-spread_all
decreases-spread_all l = 4 * nodes_all (statements_of l.parts.now) + 1

abbrev pub decreases-spread_choice : goal.decreases-spread_choice
decreases-spread_choice l = 4 * (nodes (statement_of l.first.now) + nodes (statement_of l.other.now)) + 2

abbrev pub decreases-spread_loop : goal.decreases-spread_loop
decreases-spread_loop l = 4 * nodes (statement_of l.body.now) + 1

abbrev pub invariant-spread_all-loop-part : goal.invariant-spread_all-loop-part
invariant-spread_all-loop-part l = record {
  code : joined (statements_of l.made.items) (spread_all l.factor l.level (progress_of l.walk).place (statements_of (drop l.part-index l.parts))).code ≡ (spread_all l.factor l.level (progress_of l.fn.walk).place (statements_of l.parts)).code;
  progress : continued (progress_of l.walk) (spread_all l.factor l.level (progress_of l.walk).place (statements_of (drop l.part-index l.parts))) ≡ continued (progress_of l.fn.walk) (spread_all l.factor l.level (progress_of l.fn.walk).place (statements_of l.parts));
}
