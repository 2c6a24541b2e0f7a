use Rattle.std.proofs.Common.{◌≡◌, ◌+◌, ◌-◌, ◌*◌, drop}
use Rattle.high_ir.specs.Meaning.{turns}
use Rattle.high_ir.specs.Size.{nodes, nodes_all}
use Rattle.high_ir.specs.View.{statement_of, statements_of}
use Rattle.high_eval.specs.Ends.{run_all_with, run_with}
use Rattle.high_eval.proofs.Room.{room}
use Rattle.high_eval.proofs.statements.+run.Given as goal

abbrev pub invariant-run_statements-loop-part : goal.invariant-run_statements-loop-part
invariant-run_statements-loop-part l =
    let all = run_all_with l.scope.functions.now l.scope.depth l.scope.passed.now in
    all (statements_of (drop l.part-index l.parts)) l.state ≡ all (statements_of l.parts) l.fn.state

abbrev pub invariant-repeat-loop : goal.invariant-repeat-loop
invariant-repeat-loop l =
    let body = run_with l.scope.functions.now l.scope.depth l.scope.passed.now (statement_of l.body) in
    turns (l.max - l.counter) l.owed body l.state ≡ turns l.max l.min body l.fn.state

abbrev pub decreases-run_statement : goal.decreases-run_statement
decreases-run_statement l = l.scope.now.depth * room l.scope.now.functions.now + 2 * nodes (statement_of l.statement.now)

abbrev pub decreases-run_statements : goal.decreases-run_statements
decreases-run_statements l = l.scope.now.depth * room l.scope.now.functions.now + 2 * nodes_all (statements_of l.parts.now) + 1

abbrev pub decreases-repeat : goal.decreases-repeat
decreases-repeat l = l.scope.now.depth * room l.scope.now.functions.now + 2 * nodes (statement_of l.body.now) + 1

abbrev pub decreases-run_body : goal.decreases-run_body
decreases-run_body l = l.scope.now.depth * room l.scope.now.functions.now + 2 * nodes (statement_of l.function.now.body) + 1

abbrev pub decreases-call : goal.decreases-call
decreases-call l = l.scope.now.depth * room l.scope.now.functions.now
