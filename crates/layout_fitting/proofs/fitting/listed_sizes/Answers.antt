use Rattle.std.proofs.Common.{◌≡◌, length, map, sym, ◌∙◌, arith}
use Rattle.std.proofs.lemmas.List.{length-map}
use Rattle.low_ir.specs.Placings.{assignment_of, placed_of}
use Rattle.low_ir.specs.View.{function_of}
use Rattle.claims_definition.specs.Movables.{movable_of}
use Rattle.claims_movables.proofs.RowLemmas.{functions_count}
use Rattle.layout_relation.specs.Items.{sized}
use Rattle.layout_fitting.specs.Fitted.{size_listed}
use Rattle.layout_fitting.proofs.SizeLemmas.{sizes_are, sizes_step}
use Rattle.layout_fitting.proofs.fitting.listed_sizes.Goals as goal

pub loop-number-preserved : goal.loop-number-preserved
loop-number-preserved c =
    sizes_step (size_listed (map sized (map movable_of c.args.items.now))) c.loop-number.number c.loop-number.sizes.items c.push.new.self.items c.size_at.result c.in_ok-push.ensures.items c.size_at.ensures c.loop-number.invariant

pub returns : goal.returns
returns c =
    let code = c.args.code.now in
    let fns = code.low.functions.items in
    let all : c.loop-number.number ≡ length fns = omega arith in
    c.loop-number.invariant
    ∙ sizes_are (map sized (map movable_of c.args.items.now)) (placed_of code) c.loop-number.number c.requires (all ∙ sym (functions_count (assignment_of code) 0 (map function_of fns) ∙ length-map fns function_of))
