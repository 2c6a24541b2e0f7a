use Rattle.std.proofs.Common.{◌≡◌, ◌+◌, ◌*◌, ◌≤◌, drop, length}
use Rattle.high_ir.specs.Size.{nodes, nodes_all}
use Rattle.high_ir.specs.View.{statement_of, statements_of}
use Rattle.lower_expression.specs.View.{scope_of}
use Rattle.lower_statement.specs.View.{exits_of, piece_of}
use Rattle.lower_statement.specs.Whole.{run_all}
use Rattle.lower_statement.proofs.walk.+statements.Given as goal

abbrev pub decreases-piece : goal.decreases-piece
decreases-piece l = 4 * nodes (statement_of l.statement.now)

abbrev pub decreases-pieces : goal.decreases-pieces
decreases-pieces l = 4 * nodes_all (statements_of l.parts.now) + 1

abbrev pub decreases-choice : goal.decreases-choice
decreases-choice l = 4 * (nodes (statement_of l.first.now) + nodes (statement_of l.other.now)) + 1

abbrev pub decreases-looped : goal.decreases-looped
decreases-looped l = 4 * nodes (statement_of l.body.now) + 1

abbrev pub decreases-in_block : goal.decreases-in_block
decreases-in_block l = 4 * nodes (statement_of l.body.now) + 1

abbrev pub invariant-pieces-loop-i : goal.invariant-pieces-loop-i
invariant-pieces-loop-i l = record {
  within : l.i ≤ length l.parts;
  code : piece_of l.emitter ≡ run_all (scope_of l.scope) (statements_of (drop l.i l.parts)) (exits_of l.initial.exits) (piece_of l.initial.emitter);
  exits : l.exits.items ≡ l.initial.exits.items;
}

abbrev pub decreases-pieces-loop-i : goal.decreases-pieces-loop-i
decreases-pieces-loop-i l = l.i
