-- What the code counts of a program.
use Rattle.std.proofs.Common.{◌≡◌, ℕ, zero, suc, ◌+◌, ◌<◌, ◌≤◌, List, [], ◌∷◌, ◌++◌, length, get_or, map, Option, Some, None, refl, sym, ap, ◌∙◌, arith, append-nil}
use Rattle.std.specs.Prelude.{option_map, slice_get, slice_set, sum_by}
use Rattle.std.specs.List.{flat_map, range_with_len}
use Rattle.std.proofs.lemmas.List.{length-map}
use Rattle.std.proofs.lemmas.List.Concat.{flat_map-append, flat_map-cons}
use Rattle.std.proofs.lemmas.Option.{get_or_from_slice_get, slice_get-map, slice_get_past}
use Rattle.std.proofs.lemmas.List.Sums.{sum_by-cons}
use Rattle.high_ir.specs.Size.{greatest, operations}
use Rattle.high_ir.specs.Tree.{Function}
use Rattle.high_ir.specs.View.{function_of}
use Rattle.high_ir.specs.declared.high.Function as functions
use Rattle.inliner.specs.declared.sizes.Sizes.{Sizes}
use Rattle.inliner.specs.declared.used.Used.{Used}
use Rattle.inliner.specs.Budgets.{fits}
use Rattle.inliner.specs.Inlining.{by_rank, of_rank}
use Rattle.inliner.specs.Measures.{sizes_of}
use Rattle.inliner.specs.Opening.{Site, call_of}
use Rattle.inliner.specs.View.{functions_of}
use Rattle.inliner.specs.Walking.{at_call, opened_if, walked}
use Rattle.high_renumber.proofs.NumberedLemmas.{range_append}
use Rattle.inliner.proofs.Sizing.{operations_kept}

pub operations_counted : (fs : List Function) → sum_by (λ s. s.whole.operations + 1) (map sizes_of fs) ≡ sum_by (λ f. operations f.body + 1) fs
operations_counted [] = refl
operations_counted (f ∷ fs) =
    omega (
      arith,
      sum_by-cons {X = Sizes} (λ s. s.whole.operations + 1) (sizes_of f) (map sizes_of fs),
      sum_by-cons (λ g. operations g.body + 1) f fs,
      operations_kept f.body,
      operations_counted fs,
    )

-- a list of made things, changed at one place
pub map_set : {A B : Type 0} (F : A → B) (xs : List A) (i : ℕ) (x : A) → map F (slice_set xs i x) ≡ slice_set (map F xs) i (F x)
map_set F [] i x = refl
map_set F (y ∷ xs) zero x = refl
map_set F (y ∷ xs) (suc i) x = ap (λ l. F y ∷ l) (map_set F xs i x)

-- the sizes of functions, where a function stands
pub sized_within : (fs : List functions.Function) (sizes : List Sizes) (f : ℕ) → sizes ≡ map sizes_of (functions_of fs) → f < length fs → f < length sizes
sized_within fs sizes f sized lt =
    omega (arith, lt, ap length sized, length-map (functions_of fs) sizes_of, length-map fs function_of)

pub sized_at : (fs : List functions.Function) (sizes : List Sizes) (f : ℕ) (h : functions.Function) (d : Sizes) → sizes ≡ map sizes_of (functions_of fs) → slice_get fs f ≡ Some h → get_or sizes f d ≡ sizes_of (function_of h)
sized_at fs sizes f h d sized found =
    ap (λ xs. get_or xs f d) sized
    ∙ get_or_from_slice_get (map sizes_of (functions_of fs)) f (sizes_of (function_of h)) d
    (slice_get-map sizes_of (functions_of fs) f ∙ ap (option_map sizes_of) (slice_get-map function_of fs f ∙ ap (option_map function_of) found))

-- a function that is there, as definitions see it
pub function_there : (fs : List functions.Function) (f : ℕ) (h : functions.Function) → slice_get fs f ≡ Some h → slice_get (functions_of fs) f ≡ Some (function_of h)
function_there fs f h found = slice_get-map function_of fs f ∙ ap (option_map function_of) found

pub function_absent : (fs : List functions.Function) (f : ℕ) → length fs ≤ f → slice_get (functions_of fs) f ≡ None
function_absent fs f past = slice_get_past (functions_of fs) f (omega (arith, past, length-map fs function_of))

-- a call of a function that is there, and of one that isn't
pub at_call_there : (limit : ℕ) (used : Used) (around : ℕ) (s : Site) (o : Option Function) (h : Function) → o ≡ Some h → opened_if (fits limit used around s h) used s h ≡ at_call limit used around s o
at_call_there limit used around s o h is = sym (ap (at_call limit used around s) is)

pub at_call_absent : (limit : ℕ) (used : Used) (around : ℕ) (s : Site) (o : Option Function) → o ≡ None → walked (call_of s) used ≡ at_call limit used around s o
at_call_absent limit used around s o is = sym (ap (at_call limit used around s) is)

-- functions by rank, one rank more
pub ranks_more : (fs : List Function) (n : ℕ) (order now : List ℕ) → order ≡ flat_map (λ rank. of_rank rank 0 fs) (range_with_len 0 n) → now ≡ order ++ of_rank n 0 fs → now ≡ flat_map (λ rank. of_rank rank 0 fs) (range_with_len 0 (n + 1))
ranks_more fs n order now is made =
    let F : ℕ → List ℕ = λ rank. of_rank rank 0 fs in
    let z : 0 + n ≡ n = omega arith in
    made
    ∙ ap (λ l. l ++ of_rank n 0 fs) is
    ∙ ap (λ l. flat_map F (range_with_len 0 n) ++ l) (sym (flat_map-cons F n [] ∙ append-nil (F n)))
    ∙ ap (λ k. flat_map F (range_with_len 0 n) ++ flat_map F (k ∷ [])) (sym z)
    ∙ sym (flat_map-append F (range_with_len 0 n) (range_with_len (0 + n) 1))
    ∙ ap (flat_map F) (sym (range_append 0 n 1))

pub ranks_done : (fs : List Function) (last : ℕ) (order now : List ℕ) → last ≡ greatest (λ f. f.rank) fs → order ≡ flat_map (λ rank. of_rank rank 0 fs) (range_with_len 0 last) → now ≡ order ++ of_rank last 0 fs → now ≡ by_rank fs
ranks_done fs last order now same is made =
    let z : last + 1 ≡ suc last = omega arith in
    ranks_more fs last order now is made ∙ ap (λ n. flat_map (λ rank. of_rank rank 0 fs) (range_with_len 0 n)) (z ∙ ap suc same)
