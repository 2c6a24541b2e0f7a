use Rattle.std.proofs.Common.{◌+◌, ◌<◌, map, sum_by, arith, subst, sym}
use Rattle.high_ir.specs.Size.{operations}
use Rattle.high_ir.specs.View.{function_of}
use Rattle.high_ir.proofs.Sizes.{sum_by-map}
use Rattle.try_forms.proofs.Few.{functions_few}
use Rattle.try_forms.proofs.operations.operations.Goals as goal

pub of_functions-requires : goal.of_functions-requires
of_functions-requires c =
    let fs = c.args.program.now.functions.items in
    let few : sum_by (λ f. operations (function_of f).body + 1) fs < 4294967296 =
    omega (arith, sum_by-map (λ f. operations f.body + 1) function_of fs, functions_few (map function_of fs), c.args.program.now.is_high.nodes) in
    subst (λ xs. sum_by (λ f. operations (function_of f).body + 1) xs < 4294967296) (sym c.deref.ensures.value) few
