-- Functions of a program, as a loop goes over them.
use Rattle.std.proofs.Common.{◌≡◌, ◌<◌, ◌≤◌, ℕ, ◌+◌, List, length, map, Some, sym, ap, ◌∙◌, subst, ⊎_elim, arith}
use Rattle.std.specs.Prelude.{option_map, slice_get, slice_index_or}
use Rattle.std.proofs.lemmas.Bool.{cases_lt}
use Rattle.std.proofs.lemmas.List.{length-map}
use Rattle.std.proofs.lemmas.Option.{same_Some, slice_get-get_or, slice_get-map, slice_get_within}
use Rattle.low_ir.specs.Code.{Function, Note}
use Rattle.low_ir.specs.declared.low.Function as functions
use Rattle.low_ir.specs.View.{function_of}

-- a function more
pub below_step : (P : ℕ → Function ℕ Note → Type 0) (fs : List functions.Function) (i : ℕ) (x : functions.Function) → i < length fs → x ≡ slice_index_or fs i x → P i (function_of x) → ((f : ℕ) (fn : Function ℕ Note) → f < i → slice_get (map function_of fs) f ≡ Some fn → P f fn) → (f : ℕ) (fn : Function ℕ Note) → f < i + 1 → slice_get (map function_of fs) f ≡ Some fn → P f fn
below_step P fs i x lt is p h f fn less there =
    ⊎_elim
    (λ (low : f < i). h f fn low there)
    (λ (high : i ≤ f).
    let same : f ≡ i = omega (arith, less, high) in
    let at : slice_get fs i ≡ Some x = slice_get-get_or fs i x lt ∙ ap Some (sym is) in
    let one : Some (function_of x) ≡ Some fn = sym (slice_get-map function_of fs i ∙ ap (option_map function_of) at) ∙ ap (slice_get (map function_of fs)) (sym same) ∙ there in
    subst (λ n. P n fn) (sym same) (subst (P i) (same_Some (function_of x) fn one) p))
    (cases_lt f i)

pub none_below : (P : ℕ → Function ℕ Note → Type 0) (fs : List functions.Function) (i : ℕ) → length fs ≤ i → ((f : ℕ) (fn : Function ℕ Note) → f < i → slice_get (map function_of fs) f ≡ Some fn → P f fn) → (f : ℕ) (fn : Function ℕ Note) → slice_get (map function_of fs) f ≡ Some fn → P f fn
none_below P fs i past h f fn there =
    let within = slice_get_within (map function_of fs) f fn there in
    let count = length-map fs function_of in
    h f fn (omega (arith, past, within, count)) there
