use Rattle.std.proofs.Common.{refl}
use Rattle.high_ir.specs.View.{statement_of}
use Rattle.high_unrolled.specs.Factor.{as_loop}
use Rattle.unroller.proofs.Progress.{grouped_made}
use Rattle.unroller.proofs.walk.Walk.grouped.Goals as goal

pub returns-clause-code : goal.returns-clause-code
returns-clause-code c =
    let by = c.args.by in
    grouped_made c.args.factor c.args.number c.args.self.now.marks (as_loop by.id by.min by.max (statement_of c.args.body.now)) _ _ _ _ _
    c.split_least-least.ensures refl c.in_ok-parts.ensures.code c.seq.ensures c.in_ok-loop_of.ensures
