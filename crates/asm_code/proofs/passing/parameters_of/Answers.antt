use Rattle.std.proofs.Common.{◌≡◌, Some, None, length, map, take, refl, sym, ap, ◌∙◌}
use Rattle.std.specs.Prelude.{slice_get, slice_index_or}
use Rattle.std.proofs.lemmas.Option.{slice_get_past, slice_get_read}
use Rattle.low_ir.specs.Places.{no_placing}
use Rattle.low_ir.specs.Placings.{placings_of}
use Rattle.asm_emission.specs.View.{place_at}
use Rattle.asm_code.proofs.Parameters.{parameters-some, parameters-none}
use Rattle.asm_code.proofs.passing.parameters_of.Goals as goal

pub returns-in_ok-places-in-Some : goal.returns-in_ok-places-in-Some
returns-in_ok-places-in-Some c =
    let code = c.args.code.now in
    let f = c.args.function in
    let callee = c.in-Some.callee.now in
    let got : slice_get c.deref.result.now f ≡ Some callee = slice_get_read c.deref.result.now (length c.deref.result.now) f callee refl c.in-Some.ensures.lookup.3.0 c.in-Some.ensures.lookup.1 in
    let there : slice_get code.low.functions.items f ≡ Some callee = ap (λ fs. slice_get fs f) (sym c.deref.ensures.value) ∙ got in
    let places = (slice_index_or (placings_of code) f no_placing).places in
    c.in_ok-places-in-Some.ensures
    ∙ ap (λ l. map (place_at l) c.first-registers.result.now) c.places_of.ensures
    ∙ ap (map (place_at places)) (c.first-registers.ensures ∙ ap (take c.args.count) c.as_slice.ensures.value)
    ∙ parameters-some code f c.args.count callee there

pub returns-in-None : goal.returns-in-None
returns-in-None c =
    let code = c.args.code.now in
    let f = c.args.function in
    let none : slice_get c.deref.result.now f ≡ None = slice_get_past c.deref.result.now f c.in-None.ensures.lookup.3 in
    c.new.ensures.items ∙ parameters-none code f c.args.count (ap (λ fs. slice_get fs f) (sym c.deref.ensures.value) ∙ none)
