use Rattle.std.proofs.Common.{◌≡◌, ℕ, ◌+◌, Bool, List, [], Option, Some, None, ap, length, map, refl, sym, ◌∙◌}
use Rattle.std.specs.Prelude.{slice_get, slice_index_or}
use Rattle.std.proofs.lemmas.List.{length-map}
use Rattle.std.proofs.lemmas.Option.{slice_get_past, slice_get_read}
use Rattle.high_ir.specs.Programs.{program_of}
use Rattle.high_ir.specs.View.{object_of}
use Rattle.low_ir.specs.View.{function_of}
use Rattle.low_make.specs.View.{passed_of}
use Rattle.lower_definition.specs.Calls.{numbered, order}
use Rattle.lower_definition.specs.Values.{Scope}
use Rattle.low_make.proofs.Adding.{none_added, one_added}
use Rattle.low_make.proofs.program.add_function.Goals as goal

pub returns-in-None : goal.returns-in-None
returns-in-None c =
    let making = c.args.making.now in
    let none : slice_get c.deref.result.now c.args.f ≡ None = slice_get_past c.deref.result.now c.args.f c.in-None.ensures.lookup.3 in
    none_added (program_of making.program.now) (passed_of making.passed.now) c.args.first c.args.f making.program.now.functions.items (map function_of c.args.functions.now.items) refl
    (ap (λ fs. slice_get fs c.args.f) (sym c.deref.ensures.value) ∙ none)

pub returns-in_ok-push-in-Some : goal.returns-in_ok-push-in-Some
returns-in_ok-push-in-Some c =
    let making = c.args.making.now in
    let program = making.program.now in
    let h = c.in-Some.function.now in
    let got : slice_get c.deref.result.now c.args.f ≡ Some h = slice_get_read c.deref.result.now (length c.deref.result.now) c.args.f h refl c.in-Some.ensures.lookup.3.0 c.in-Some.ensures.lookup.1 in
    let scope : ℕ → List (Option ℕ) → ℕ → List ℕ → Bool → Scope = λ v cs o ns b. record { variables = v; claims = cs; objects = o; order = ns; shifts = b } in
    let own = slice_index_or (passed_of making.passed.now) c.args.f [] in
    let variables : c.in_ok-sum-in-Some.field-0 ≡ h.values + h.locals = c.in_ok-sum-in-Some.ensures in
    let claims : c.deref-in-Some.result.now ≡ numbered c.args.first own = c.deref-in-Some.ensures.value ∙ c.in_ok-claims-in-Some.ensures ∙ ap (numbered c.args.first) c.requires.own in
    let objects : c.in_ok-count-in-Some.field-0 ≡ length (map object_of program.objects.items) = c.in_ok-count-in-Some.ensures ∙ c.len.ensures ∙ program.objects.ok.0 ∙ sym (length-map program.objects.items object_of) in
    one_added (program_of program) (passed_of making.passed.now) c.args.first c.args.f program.functions.items h c.in_ok-lowered_function-in-Some.field-0 c.args.functions.now.items c.push.new.self.items
    (scope c.in_ok-sum-in-Some.field-0 c.deref-in-Some.result.now c.in_ok-count-in-Some.field-0 making.order.now making.shifts) refl
    (ap (λ fs. slice_get fs c.args.f) (sym c.deref.ensures.value) ∙ got)
    (ap (λ v. scope v c.deref-in-Some.result.now c.in_ok-count-in-Some.field-0 making.order.now making.shifts) variables
    ∙ ap (λ cs. scope (h.values + h.locals) cs c.in_ok-count-in-Some.field-0 making.order.now making.shifts) claims
    ∙ ap (λ o. scope (h.values + h.locals) (numbered c.args.first own) o making.order.now making.shifts) objects
    ∙ ap (λ ns. scope (h.values + h.locals) (numbered c.args.first own) (length (map object_of program.objects.items)) ns making.shifts) c.requires.order
    ∙ ap (scope (h.values + h.locals) (numbered c.args.first own) (length (map object_of program.objects.items)) (order (program_of program))) c.requires.shifts)
    c.in_ok-lowered_function-in-Some.ensures
    c.in_ok-push-in-Some.ensures.items
