use Rattle.std.proofs.Common.{◌≡◌, ◌++◌, arith, ap, length, map, ◌∙◌}
use Rattle.std.proofs.lemmas.List.{length-map}
use Rattle.high_ir.specs.Standing.{loops_in, marks_in}
use Rattle.high_ir.specs.View.{function_of}
use Rattle.high_renumber.specs.Numbered.{functions_numbered, ids}
use Rattle.high_renumber.specs.View.{loose_program}
use Rattle.high_renumber.proofs.Made.{below_made, functions_made, loops_below_made, loops_made, marks_made}
use Rattle.high_renumber.proofs.renumbering.renumber.Goals as goal

pub copies-requires-clause-marks : goal.copies-requires-clause-marks
copies-requires-clause-marks c =
    let p = loose_program c.args.loose in
    let count : c.len.result ≡ length p.functions = omega (arith, c.len.ensures, length-map c.args.loose.functions.items function_of) in
    below_made p c.requires _ (marks_made p.functions c.len.result _ _ count c.in_ok-origins.ensures.marks (c.in_ok-functions.ensures.marks ∙ ap (λ fs. c.in_ok-origins.origins.marks.items ++ marks_in (map function_of fs)) c.deref.ensures.value))

pub copies-requires-clause-loops : goal.copies-requires-clause-loops
copies-requires-clause-loops c =
    let p = loose_program c.args.loose in
    loops_below_made p c.requires _ (loops_made p.functions _ _ c.in_ok-origins.ensures.loops (c.in_ok-functions.ensures.loops ∙ ap (λ fs. c.in_ok-origins.origins.loops.items ++ ids (loops_in (map function_of fs))) c.deref.ensures.value))

pub high-requires-clause-made : goal.high-requires-clause-made
high-requires-clause-made c =
    let p = loose_program c.args.loose in
    let origins = c.in_ok-origins.origins in
    let count : c.len.result ≡ length p.functions = omega (arith, c.len.ensures, length-map c.args.loose.functions.items function_of) in
    functions_made p.functions c.len.result origins.marks.items origins.loops.items _ count c.in_ok-origins.ensures.marks c.in_ok-origins.ensures.loops
    (c.in_ok-functions.ensures.made ∙ ap (λ fs. functions_numbered (length origins.marks.items) (length origins.loops.items) (map function_of fs)) c.deref.ensures.value)
