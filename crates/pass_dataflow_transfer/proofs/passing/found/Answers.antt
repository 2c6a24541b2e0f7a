use Rattle.std.proofs.Common.{subst, sym}
use Rattle.std.specs.Prelude.{IfSome}
use Rattle.std.proofs.lemmas.Option.{IfSome_then}
use Rattle.low_ir.specs.View.{operand_of}
use Rattle.pass_dataflow_transfer.specs.Learning.{GivesHere, Sure}
use Rattle.pass_dataflow_transfer.proofs.Operators.{gives_here, small_difference}
use Rattle.pass_dataflow_transfer.proofs.passing.found.Goals as goal

pub returns-then-holds_small : goal.returns-then-holds_small
returns-then-holds_small c =
    let x = operand_of c.args.left in
    let y = operand_of c.args.right in
    subst (λ op. IfSome c.plus.result (λ f. Sure c.args.facts.now (GivesHere op x y f))) (sym (c.is_difference.ensures c.if-is_difference.true))
    (IfSome_then c.plus.result c.plus.ensures (λ f is. λ s known. small_difference c.form_held-a.result c.form_held-b.result f x y s (c.form_held-a.ensures s known) (c.form_held-b.ensures s known) (c.holds_small.ensures c.if-holds_small.true s known) is))

pub returns : goal.returns
returns c =
    let x = operand_of c.args.left in
    let y = operand_of c.args.right in
    IfSome_then c.given.result c.given.ensures (λ f says. λ s known. gives_here c.args.operator c.form_held-a.result c.form_held-b.result f x y s (c.form_held-a.ensures s known) (c.form_held-b.ensures s known) says)
