use Rattle.std.proofs.Common.{subst, sym}
use Rattle.low_ir.specs.Code.{Branch}
use Rattle.low_ir.specs.View.{end_of, function_of, operand_of}
use Rattle.pass_jump_threading_law.specs.Threads.{EndThreaded}
use Rattle.pass_jump_threading.specs.Facts.{known_in}
use Rattle.pass_jump_threading.specs.Planning.{plan_of}
use Rattle.pass_jump_threading.proofs.Blocks.{end_parted}
use Rattle.pass_jump_threading.proofs.ends.threaded_end.Goals as goal

pub returns-in-Some : goal.returns-in-Some
returns-in-Some c = λ all covers.
    subst (λ end. EndThreaded (function_of c.args.function.now) (plan_of c.args.plan.now) (known_in c.args.held.now c.args.facts.now) (end_of end) (end_of c.in-Some.new)) (sym c.in-Branch.is)
    (c.in-Some.ensures all covers)

pub returns-in-Some-landing-2 : goal.returns-in-Some-landing-2
returns-in-Some-landing-2 c = λ all covers.
    let b = c.in-Branch in
    let fn = function_of c.args.function.now in
    let p = c.args.plan.now in
    let known = known_in c.args.held.now c.args.facts.now in
    subst
    (λ end. EndThreaded fn (plan_of p) known (end_of end) (Branch b.condition (operand_of b.left) (operand_of b.right) c.in-Some-landing.taken c.in-Some-landing-2.other))
    (sym b.is)
    (end_parted fn p known b.condition (operand_of b.left) (operand_of b.right) b.taken b.other c.in-Some-landing.taken c.in-Some-landing-2.other c.told-so.result c.told-not.result c.told-so.ensures c.told-not.ensures (c.in-Some-landing.ensures all covers) (c.in-Some-landing-2.ensures all covers))
