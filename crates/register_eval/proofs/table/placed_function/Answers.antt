use Rattle.std.proofs.Common.{◌≡◌, Some, None, ap, length, option_map, refl, sym, ◌∙◌}
use Rattle.std.specs.Prelude.{slice_get}
use Rattle.std.proofs.lemmas.Option.{slice_get-map, slice_get_past, slice_get_read}
use Rattle.low_ir.specs.View.{function_of}
use Rattle.register_eval.specs.Laid.{laid_function}
use Rattle.register_eval.proofs.Placed.{function_missing, function_there}
use Rattle.register_eval.proofs.table.placed_function.Goals as goal

pub returns-in-None : goal.returns-in-None
returns-in-None c =
    let n = c.args.number in
    let none : slice_get c.deref.result.now n ≡ None = slice_get_past c.deref.result.now n c.in-None.ensures.lookup.3 in
    function_missing c.args.code.now n
    (slice_get-map function_of c.args.code.now.low.functions.items n
    ∙ ap (λ fs. option_map function_of (slice_get fs n)) (sym c.deref.ensures.value)
    ∙ ap (option_map function_of) none)

pub returns-in-Some : goal.returns-in-Some
returns-in-Some c =
    let n = c.args.number in
    let f = c.in-Some.function.now in
    let got : slice_get c.deref.result.now n ≡ Some f = slice_get_read c.deref.result.now (length c.deref.result.now) n f refl c.in-Some.ensures.lookup.3.0 c.in-Some.ensures.lookup.1 in
    function_there c.args.code.now n (function_of f)
    (slice_get-map function_of c.args.code.now.low.functions.items n
    ∙ ap (λ fs. option_map function_of (slice_get fs n)) (sym c.deref.ensures.value)
    ∙ ap (option_map function_of) got)
    ∙ ap (λ t. Some (laid_function t (function_of f))) (sym c.of.ensures)
