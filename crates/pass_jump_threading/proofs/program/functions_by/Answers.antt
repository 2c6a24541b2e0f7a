use Rattle.std.proofs.Common.{Option, ap, map, subst, ◌∙◌}
use Rattle.std.specs.Prelude.{IfSome}
use Rattle.std.proofs.lemmas.List.{map_push}
use Rattle.low_ir.specs.declared.low.Function.{Function}
use Rattle.low_ir.specs.View.{function_of}
use Rattle.pass_jump_threading_law.specs.Threads.{FunctionThreaded}
use Rattle.low_parts.proofs.Filling.{zip_taken}
use Rattle.pass_jump_threading.proofs.program.functions_by.Goals as goal

pub loop-function-preserved : goal.loop-function-preserved
loop-function-preserved c =
    let made = c.loop-function.made.items in
    let one =
    subst (λ (o : Option Function). IfSome o (λ (g : Function). FunctionThreaded (function_of c.function-item.result) (function_of g))) c.in-Some.is c.in_ok-new.ensures in
    zip_taken FunctionThreaded function_of c.args.functions.now (map function_of made) (map function_of c.push.new.self.items) c.loop-function.function-index c.function-item.result c.function-item.result (function_of c.in-Some.new)
    c.loop-function-test.true c.function-item.is c.loop-function.invariant one (ap (map function_of) c.in_ok-push.ensures.items ∙ map_push function_of made c.in-Some.new)
