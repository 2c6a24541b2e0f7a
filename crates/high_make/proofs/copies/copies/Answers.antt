use Rattle.std.proofs.Common.{◌≡◌, ◌+◌, ap, arith, length, map, ◌∙◌}
use Rattle.std.proofs.lemmas.List.{length-map}
use Rattle.types_tree.specs.View.{function_of, program_of}
use Rattle.high_pass.specs.Listing.{loop_entry, mark_entry}
use Rattle.plan_runs.specs.Kept.{same_marks}
use Rattle.make_loops.specs.Numbers.{functions_numbers}
use Rattle.high_make.specs.Entries.{once}
use Rattle.high_make.proofs.Listed.{functions_listed}
use Rattle.high_make.proofs.Marks.{listed}
use Rattle.high_make.proofs.copies.copies.Goals as goal

pub returns : goal.returns
returns c =
    let program = program_of c.args.source.now in
    let facts = c.args.facts.now in
    let count : c.in_ok-count.count ≡ length program.functions + length facts.markers =
    omega (arith, c.in_ok-count.ensures, c.in_ok-functions.ensures, c.len.ensures, ap length c.as_slice.ensures, length-map c.args.source.now.functions.items function_of) in
    let numbers = c.in_ok-numbers.ensures ∙ ap (λ fs. functions_numbers (map function_of fs)) c.deref.ensures.value in
    listed (map mark_entry c.in_ok-marks.marks.items) (map loop_entry c.in_ok-loops.loops.items) c.new.result.items program facts
    (c.in_ok-marks.ensures ∙ ap same_marks count)
    (c.in_ok-loops.ensures ∙ ap (map once) (c.deref-2.ensures.value ∙ numbers) ∙ functions_listed facts.bounds program.functions)
    c.new.ensures.items
