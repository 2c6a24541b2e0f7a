use Rattle.std.proofs.Common.{◌≡◌, ◌++◌, length, map, sym, ap, ◌∙◌, arith}
use Rattle.std.proofs.lemmas.List.{length-map}
use Rattle.low_ir.specs.View.{function_of, object_of}
use Rattle.low_ir.specs.Placings.{assignment_of}
use Rattle.low_ir.specs.Programs.{low_of}
use Rattle.claims_making.specs.Sights.{region_in}
use Rattle.claims_movables.specs.Listed.{arrays_in, lists_below}
use Rattle.claims_definition.specs.Movables.{movable_of}
use Rattle.claims_movables.proofs.RowLemmas.{functions_count, functions_same, movables_same}
use Rattle.claims_movables.proofs.whole.items.Goals as goal

pub returns : goal.returns
returns c = λ l whole memory.
    let y = c.args.laying.now in
    let code = y.code.now in
    let functions = c.in_ok-functions.functions in
    let n = c.in_ok-arrays.arrays in
    let regions = region_in c.args.regions.now in
    let before = map movable_of c.in_ok-items.items.items in
    let count : length l.program.functions ≡ functions =
    ap (λ p. length p.functions) whole.is.program
    ∙ functions_count (assignment_of code) 0 (low_of code.low).functions
    ∙ length-map code.low.functions.items function_of
    ∙ sym (c.in_ok-functions.ensures ∙ c.len.ensures ∙ code.low.functions.ok.0) in
    let arrays : length l.program.objects ≡ n =
    ap (λ p. length p.objects) whole.is.program
    ∙ length-map code.low.objects.items object_of
    ∙ sym (c.in_ok-arrays.ensures ∙ ap length c.as_slice-objects.ensures.value) in
    let made =
    c.in_ok-put_arrays.ensures
    ∙ ap (λ ls. before ++ arrays_in functions regions ls 0 (map object_of c.as_slice-objects.result.now)) (c.as_slice.ensures.value ∙ c.in_ok-lists.ensures l whole.is whole.touches)
    ∙ ap (λ os. before ++ arrays_in functions regions (lists_below l n) 0 (map object_of os)) c.as_slice-objects.ensures.value
    ∙ ap (λ p. before ++ arrays_in functions regions (lists_below l n) 0 p.objects) (sym whole.is.program) in
    movables_same l functions regions whole.regions count n (map movable_of c.put_arrays.new.items.items) before made
    (c.in_ok-items.ensures ∙ functions_same y l whole.is c.args.memory.now memory)
    (omega (arith, arrays))
