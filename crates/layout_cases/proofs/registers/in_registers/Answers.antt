use Rattle.std.proofs.Common.{◌≡◌, map, ap, sym, subst, ◌∙◌}
use Rattle.std.proofs.lemmas.Simd.{map-map}
use Rattle.low_ir.specs.Places.{assignment, placing_of}
use Rattle.low_ir.specs.Programs.{low_of}
use Rattle.low_ir.specs.Spacing.{IsAssignment}
use Rattle.low_ir.specs.View.{function_of}
use Rattle.layout_cases.specs.Registers.{in_registers}
use Rattle.layout_cases.proofs.Registered.{registers_assigned}
use Rattle.layout_cases.proofs.registers.in_registers.Goals as goal

pub invariant_of-result : goal.invariant_of-result
invariant_of-result c =
    let p = low_of c.args.low in
    let placed : map placing_of c.in_ok-placings.placings.items ≡ map in_registers p.functions = c.in_ok-placings.ensures ∙ ap (map (λ f. in_registers (function_of f))) c.deref.ensures.value ∙ sym (map-map in_registers function_of c.args.low.functions.items) in
    record { is_assignment = subst (λ ps. IsAssignment (assignment ps) p) (sym placed) (registers_assigned p) }
