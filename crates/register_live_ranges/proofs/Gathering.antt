-- The intervals of one function more.
use Rattle.std.proofs.Common.{◌≡◌, ◌≢◌, ◌⊎◌, inl, inr, ℕ, ◌+◌, ◌<◌, ◌≤◌, List, [], ◌∷◌, ◌++◌, length, get_or, map, Option, Some, sym, ap, ◌∙◌, subst, arith}
use Rattle.std.specs.Prelude.{option_map, slice_get, slice_index_or}
use Rattle.std.proofs.lemmas.Bool.{cases_eq}
use Rattle.std.proofs.lemmas.List.{get_or_append_left, get_or-append-add, length-map}
use Rattle.std.proofs.lemmas.Option.{same_Some, slice_get-map, slice_get-get_or, slice_get_within}
use Rattle.low_ir.specs.declared.low.Function as functions
use Rattle.low_ir.specs.Code.{Function, Note}
use Rattle.low_ir.specs.View.{function_of}
use Rattle.register_live_ranges.specs.declared.interval.Interval.{Interval}
use Rattle.register_live_ranges.specs.Intervals.{AreIntervalsOf}

abbrev pub FoundBelow : List (Function ℕ Note) → List (List (Option Interval)) → ℕ → Type 0
FoundBelow fns rows i = (f : ℕ) → f < i → (fn : Function ℕ Note) → slice_get fns f ≡ Some fn → AreIntervalsOf fn (slice_index_or rows f [])

pub function_more : (fns : List functions.Function) (old new : List (List (Option Interval))) (i : ℕ) (fn : functions.Function) (row : List (Option Interval)) → i < length fns → fn ≡ get_or fns i fn → length old ≡ i → new ≡ old ++ row ∷ [] → AreIntervalsOf (function_of fn) row
    → FoundBelow (map function_of fns) old i → FoundBelow (map function_of fns) new (i + 1)
function_more fns old new i fn row lt is long pushed here before f small g e = by (cases_eq f i)
  where
    by : (f ≡ i) ⊎ (f ≢ i) → AreIntervalsOf g (slice_index_or new f [])
    by (inl k) =
        let at : i ≡ length old + 0 = omega (arith, long) in
        let read : slice_index_or new f [] ≡ row = ap (λ m. slice_index_or new m []) k ∙ (ap (λ l. slice_index_or l i []) pushed ∙ (ap (λ m. slice_index_or (old ++ row ∷ []) m []) at ∙ get_or-append-add old (row ∷ []) 0 [])) in
        let there : slice_get (map function_of fns) i ≡ Some (function_of fn) = slice_get-map function_of fns i ∙ ap (option_map function_of) (slice_get-get_or fns i fn lt ∙ ap Some (sym is)) in
        let same : function_of fn ≡ g = same_Some (function_of fn) g (sym there ∙ (ap (slice_get (map function_of fns)) (sym k) ∙ e)) in
        subst (AreIntervalsOf g) (sym read) (subst (λ z. AreIntervalsOf z row) same here)
    by (inr d) =
        let inside : f < length old = omega (arith, long, small, d) in
        subst (AreIntervalsOf g) (sym (ap (λ l. slice_index_or l f []) pushed ∙ get_or_append_left old (row ∷ []) [] f inside)) (before f (omega (arith, small, d)) g e)

pub all_functions : (fns : List functions.Function) (rows : List (List (Option Interval))) (i : ℕ) → length fns ≤ i → FoundBelow (map function_of fns) rows i → (f : ℕ) (fn : Function ℕ Note) → slice_get (map function_of fns) f ≡ Some fn → AreIntervalsOf fn (slice_index_or rows f [])
all_functions fns rows i past found f fn e =
    let within = slice_get_within (map function_of fns) f fn e in
    let long = length-map fns function_of in
    found f (omega (arith, within, long, past)) fn e
