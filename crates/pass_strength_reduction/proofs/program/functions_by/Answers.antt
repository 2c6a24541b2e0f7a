use Rattle.std.proofs.Common.{Option, map, subst}
use Rattle.std.specs.Prelude.{IfSome}
use Rattle.low_ir.specs.declared.low.Function.{Function}
use Rattle.low_ir.specs.View.{function_of}
use Rattle.pass_strength_reduction.specs.Changing.{IsChanged}
use Rattle.low_parts.proofs.Filling.{zip_begun, zip_done, zip_step}
use Rattle.pass_strength_reduction.proofs.program.functions_by.Goals as goal

pub loop-function-init : goal.loop-function-init
loop-function-init c = zip_begun (IsChanged c.args.around.now.claims.now c.args.around.now.alone.now c.args.around.now.objects) function_of (map function_of c.args.functions.now) c.new-made.result.items c.new-made.ensures.items

pub loop-function-preserved : goal.loop-function-preserved
loop-function-preserved c =
    let around = c.args.around.now in
    let x = c.function-item.result in
    let one = subst (λ (o : Option Function). IfSome o (λ (g : Function). IsChanged around.claims.now around.alone.now around.objects (function_of x) (function_of g))) c.in-Some-2.is c.in_ok-new.ensures in
    zip_step (IsChanged around.claims.now around.alone.now around.objects) function_of function_of (map function_of c.args.functions.now) c.args.functions.now c.loop-function.function-index x c.in-Some-2.new c.loop-function.made.items c.push.new.self.items
    c.loop-function-test.true c.function-item.is c.loop-function.invariant one c.in_ok-push.ensures.items

pub returns : goal.returns
returns c = zip_done (IsChanged c.args.around.now.claims.now c.args.around.now.alone.now c.args.around.now.objects) function_of function_of (map function_of c.args.functions.now) c.args.functions.now c.loop-function.function-index c.loop-function.made.items c.loop-function-test.false c.loop-function.invariant
