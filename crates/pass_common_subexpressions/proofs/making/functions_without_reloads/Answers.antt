use Rattle.std.proofs.Common.{Option, map, subst}
use Rattle.std.specs.Prelude.{IfSome}
use Rattle.low_ir.specs.declared.low.Function.{Function}
use Rattle.low_ir.specs.View.{function_of, claim_of}
use Rattle.pass_common_subexpressions_law.specs.Reloads.{FunctionReloaded}
use Rattle.low_parts.proofs.Filling.{zip_begun, zip_done, zip_step}
use Rattle.pass_common_subexpressions.proofs.making.functions_without_reloads.Goals as goal

pub loop-function-init : goal.loop-function-init
loop-function-init c = zip_begun (FunctionReloaded (map claim_of c.args.claims.now)) function_of (map function_of c.args.functions.now) c.new-made.result.items c.new-made.ensures.items

pub loop-function-preserved : goal.loop-function-preserved
loop-function-preserved c =
    let one =
    subst (λ (o : Option Function). IfSome o (λ (g : Function). FunctionReloaded (map claim_of c.args.claims.now) (function_of c.function-item.result) (function_of g))) c.in-Some.is c.in_ok-new.ensures in
    zip_step (FunctionReloaded (map claim_of c.args.claims.now)) function_of function_of (map function_of c.args.functions.now) c.args.functions.now c.loop-function.function-index c.function-item.result c.in-Some.new c.loop-function.made.items c.push.new.self.items
    c.loop-function-test.true c.function-item.is c.loop-function.invariant one c.in_ok-push.ensures.items

pub returns : goal.returns
returns c = zip_done (FunctionReloaded (map claim_of c.args.claims.now)) function_of function_of (map function_of c.args.functions.now) c.args.functions.now c.loop-function.function-index c.loop-function.made.items c.loop-function-test.false c.loop-function.invariant
