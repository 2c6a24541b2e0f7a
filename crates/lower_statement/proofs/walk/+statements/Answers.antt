use Rattle.std.proofs.Common.{◌-◌, ◌<◌, ap, arith, length, ◌∙◌}
use Rattle.std.specs.Prelude.{reverse}
use Rattle.std.proofs.lemmas.Result.{MatchResult-weaker}
use Rattle.high_ir.specs.View.{expr_of, statement_of}
use Rattle.lower_expression.specs.View.{scope_of, tested_in}
use Rattle.lower_statement.specs.View.{exits_of, piece_of}
use Rattle.lower_statement.specs.Whole.{run}
use Rattle.lower_statement.proofs.Emitting.{reverse_push}
use Rattle.lower_statement.proofs.Parts.{part_size, seq_runs, size_of_seq}
use Rattle.lower_statement.proofs.Whole.{block_runs, choice_runs}
use Rattle.lower_statement.proofs.walk.+statements.Goals as goal

pub choice-returns-clause-code : goal.choice-returns-clause-code
choice-returns-clause-code t c =
    let scope = scope_of c.args.scope.now in
    let first = statement_of c.args.first.now in
    choice_runs scope (expr_of c.args.test.now) first (statement_of c.args.other.now) (exits_of c.args.exits.now)
    c.in_ok-join.join c.in_ok-first.first c.in_ok-other.other (tested_in c.in_ok-coder.coder c.in_ok-coder.test)
    (piece_of c.args.emitter.now) (piece_of c.land.new.self) (piece_of c.piece.new.emitter) (piece_of c.land-2.new.self) (piece_of c.jump.new.self) (piece_of c.piece-2.new.emitter) (piece_of c.land-3.new.self) (piece_of c.branch-emitter.new.self)
    c.in_ok-join.ensures.goal c.in_ok-join.ensures.after c.in_ok-piece.ensures.code c.in_ok-other.ensures.goal c.in_ok-other.ensures.after c.jump.ensures
    (c.in_ok-piece-2.ensures.code ∙ ap (λ xs. run scope first (reverse xs) (piece_of c.jump.new.self)) c.in_ok-piece.ensures.exits)
    c.in_ok-first.ensures.goal c.in_ok-first.ensures.after c.in_ok-coder.ensures c.in_ok-branch.ensures

pub in_block-returns-clause-code : goal.in_block-returns-clause-code
in_block-returns-clause-code t c =
    let scope = scope_of c.args.scope.now in
    let body = statement_of c.args.body.now in
    let around = c.args.exits.now in
    block_runs scope body (exits_of around) c.in_ok-join.join (piece_of c.args.emitter.now) (piece_of c.land.new.self) (piece_of c.piece.new.emitter)
    c.in_ok-join.ensures.goal c.in_ok-join.ensures.after
    (c.in_ok-piece.ensures.code ∙ ap (λ xs. run scope body xs (piece_of c.land.new.self)) (ap reverse c.in_ok-push.ensures.items ∙ reverse_push around.items c.in_ok-join.join))

pub piece-pieces-requires : goal.piece-pieces-requires
piece-pieces-requires t c =
    (omega (arith, c.decreases, size_of_seq c.args.statement.now c.in-Seq.parts c.deref.result.now c.in-Seq.is c.deref.ensures.value), tt)

pub piece-returns-in-Seq-clause-code : goal.piece-returns-in-Seq-clause-code
piece-returns-in-Seq-clause-code t c =
    MatchResult-weaker c.pieces.result c.pieces.ensures.code (λ done runs.
    runs
    ∙ seq_runs (scope_of c.args.scope.now) c.args.statement.now c.in-Seq.parts c.deref.result.now (exits_of c.args.exits.now) (piece_of c.args.emitter.now) c.in-Seq.is c.deref.ensures.value) (λ memory no_piece. no_piece)

pub pieces-piece-requires : goal.pieces-piece-requires
pieces-piece-requires t c =
    let below : c.loop-i.i - 1 < length c.args.parts.now = omega (arith, c.loop-i.invariant.within, c.loop-i-test.true) in
    (omega (arith, c.decreases, part_size c.args.parts.now (c.loop-i.i - 1) c.index-parts-i.result below c.index-parts-i.is), tt)
