use Rattle.std.proofs.Common.{◌≡◌, map, ap, sym, subst, ◌∙◌}
use Rattle.std.proofs.lemmas.Simd.{map-map}
use Rattle.low_ir.specs.Places.{assignment, in_slots, placing_of}
use Rattle.low_ir.specs.Programs.{low_of}
use Rattle.low_ir.specs.Spacing.{IsAssignment}
use Rattle.low_ir.specs.View.{function_of}
use Rattle.low_ir.proofs.InSlots.{slots_assigned}
use Rattle.low_ir.proofs.slots.all_slots.Goals as goal

pub invariant_of-result : goal.invariant_of-result
invariant_of-result c =
    let p = low_of c.args.low in
    let placed : map placing_of c.in_ok-placings.placings.items ≡ map in_slots p.functions = c.in_ok-placings.ensures ∙ ap (map (λ f. in_slots (function_of f))) c.deref.ensures.value ∙ sym (map-map in_slots function_of c.args.low.functions.items) in
    record { is_assignment = subst (λ ps. IsAssignment (assignment ps) p) (sym placed) (slots_assigned p) }

pub returns-clause-placings : goal.returns-clause-placings
returns-clause-placings c =
    c.in_ok-placings.ensures ∙ ap (map (λ f. in_slots (function_of f))) c.deref.ensures.value ∙ sym (map-map in_slots function_of c.args.low.functions.items)
