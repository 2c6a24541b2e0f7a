-- The places of one function more.
use Rattle.std.proofs.Common.{◌≡◌, ◌≢◌, ◌⊎◌, inl, inr, ℕ, ◌+◌, ◌<◌, ◌≤◌, List, [], ◌∷◌, ◌++◌, length, get_or, map, Some, sym, ap, ◌∙◌, subst, arith}
use Rattle.std.specs.Prelude.{option_map, slice_get, slice_index_or}
use Rattle.std.proofs.lemmas.Bool.{cases_eq}
use Rattle.std.proofs.lemmas.List.{get_or_append_left, get_or-append-add, length-map, map-append}
use Rattle.std.proofs.lemmas.Option.{same_Some, slice_get-map, slice_get-get_or, slice_get_within}
use Rattle.low_ir.specs.declared.low.Function as functions
use Rattle.low_ir.specs.declared.places.Placing as placings
use Rattle.low_ir.specs.Code.{Function, Note}
use Rattle.low_ir.specs.Places.{Placing, no_placing, placing_of}
use Rattle.low_ir.specs.View.{function_of}
use Rattle.register_allocation.specs.Fitting.{ArePlacings, IsPlacing}

-- what holds of each number below one, and of that one
pub below_next : (P : ℕ → Type 0) (i : ℕ) → ((w : ℕ) → w < i → P w) → P i → (w : ℕ) → w < i + 1 → P w
below_next P i before here w small = by (cases_eq w i)
  where
    by : (w ≡ i) ⊎ (w ≢ i) → P w
    by (inl e) = subst P (sym e) here
    by (inr d) = before w (omega (arith, small, d))

abbrev pub PlacedBelow : List (Function ℕ Note) → List Placing → ℕ → Type 0
PlacedBelow fns pls i = (f : ℕ) → f < i → (fn : Function ℕ Note) → slice_get fns f ≡ Some fn → IsPlacing fn (slice_index_or pls f no_placing)

pub placed_more : (fns : List functions.Function) (old new : List placings.Placing) (i : ℕ) (fn : functions.Function) (pl : placings.Placing) → i < length fns → fn ≡ get_or fns i fn → length old ≡ i → new ≡ old ++ pl ∷ [] → IsPlacing (function_of fn) (placing_of pl)
    → PlacedBelow (map function_of fns) (map placing_of old) i → PlacedBelow (map function_of fns) (map placing_of new) (i + 1)
placed_more fns old new i fn pl lt is long pushed placing before = below_next (λ f. (g : Function ℕ Note) → slice_get (map function_of fns) f ≡ Some g → IsPlacing g (slice_index_or (map placing_of new) f no_placing)) i first here
  where
    list : map placing_of new ≡ map placing_of old ++ placing_of pl ∷ []
    list = ap (map placing_of) pushed ∙ map-append placing_of old (pl ∷ [])

    size : length (map placing_of old) ≡ i
    size = length-map old placing_of ∙ long

    first : (f : ℕ) → f < i → (g : Function ℕ Note) → slice_get (map function_of fns) f ≡ Some g → IsPlacing g (slice_index_or (map placing_of new) f no_placing)
    first f small g e =
        subst (IsPlacing g) (sym (ap (λ l. slice_index_or l f no_placing) list ∙ get_or_append_left (map placing_of old) (placing_of pl ∷ []) no_placing f (omega (arith, small, size)))) (before f small g e)

    here : (g : Function ℕ Note) → slice_get (map function_of fns) i ≡ Some g → IsPlacing g (slice_index_or (map placing_of new) i no_placing)
    here g e =
        let at : i ≡ length (map placing_of old) + 0 = omega (arith, size) in
        let read : slice_index_or (map placing_of new) i no_placing ≡ placing_of pl =
        ap (λ l. slice_index_or l i no_placing) list ∙ (ap (λ m. slice_index_or (map placing_of old ++ placing_of pl ∷ []) m no_placing) at ∙ get_or-append-add (map placing_of old) (placing_of pl ∷ []) 0 no_placing) in
        let there : slice_get (map function_of fns) i ≡ Some (function_of fn) = slice_get-map function_of fns i ∙ ap (option_map function_of) (slice_get-get_or fns i fn lt ∙ ap Some (sym is)) in
        let same : function_of fn ≡ g = same_Some (function_of fn) g (sym there ∙ e) in
        subst (IsPlacing g) (sym read) (subst (λ z. IsPlacing z (placing_of pl)) same placing)

pub placed_all : (fns : List functions.Function) (pls : List placings.Placing) (i : ℕ) → length fns ≤ i → PlacedBelow (map function_of fns) (map placing_of pls) i → ArePlacings (map function_of fns) (map placing_of pls)
placed_all fns pls i past placed f fn e =
    let within = slice_get_within (map function_of fns) f fn e in
    let long = length-map fns function_of in
    placed f (omega (arith, within, long, past)) fn e

-- a function of the list, as the loop reads it
pub function_there : (fns : List functions.Function) (i : ℕ) (fn : functions.Function) → i < length fns → fn ≡ get_or fns i fn → slice_get (map function_of fns) i ≡ Some (function_of fn)
function_there fns i fn lt is = slice_get-map function_of fns i ∙ ap (option_map function_of) (slice_get-get_or fns i fn lt ∙ ap Some (sym is))
