-- Sums over the functions of a low program.
use Rattle.std.proofs.Common.{◌≡◌, ℕ, ◌+◌, ◌*◌, ◌≤◌, true, List, [], ◌∷◌, ◌++◌, length, map, Some, refl, sym, ap, ◌∙◌, subst, arith, length-append}
use Rattle.std.specs.Prelude.{slice_get, slice_index_or, sum_by}
use Rattle.std.proofs.Math.Nat.{mul_comm}
use Rattle.std.proofs.lemmas.List.{get_or-map, length-map}
use Rattle.std.proofs.lemmas.List.Concat.{flat_map-cons}
use Rattle.std.proofs.lemmas.List.FromFn.{length-range_with_len}
use Rattle.std.proofs.lemmas.List.Sums.{sum_by-cons}
use Rattle.std.proofs.lemmas.Option.{get_or_from_slice_get, slice_get_within}
use Rattle.high_ir.specs.declared.object.Kind.{Kind as HighKind}
use Rattle.high_ir.specs.declared.object.Kind.TheVariants as kinds
use Rattle.high_ir.specs.declared.object.Storage.{Storage as HighStorage}
use Rattle.high_ir.specs.declared.object.Storage.TheVariants as storages
use Rattle.high_ir.specs.Formed.{IsHigh}
use Rattle.high_ir.specs.Size.{local_object_bytes, object_bytes}
use Rattle.high_ir.specs.Standing.{loops_in, loops_of}
use Rattle.high_ir.specs.Tree as high
use Rattle.high_ir.specs.Words as words
use Rattle.wcc_base.specs.Sizes.{rounded}
use Rattle.low_ir.specs.Arrays.{array_size}
use Rattle.low_ir.specs.Code.{Function, Note, Object}
use Rattle.low_ir.specs.Effects.{is_member}
use Rattle.low_ir.specs.Kinds.{kind_bytes}
use Rattle.lower_definition.specs.Calls.{Passed, all_passed, claims_among, numbered, order}
use Rattle.lower_definition.specs.Objects.{kind_of, object_of, storage_of}
use Rattle.lower_definition.specs.Values.{Scope}
use Rattle.lower_definition.specs.Programs.{lowered, lowered_function, lowered_functions, lowered_in, scope_of}
use Rattle.lower_origins.specs.Orders.{IsOrdered}
use Rattle.lower_origins.proofs.Visits.{ordered}
use Rattle.lower_origins.specs.Closed.{listed}
use Rattle.lower_origins.proofs.Numbering.{AllThere, all_there}
use Rattle.lower_budget.proofs.Distinct.{order_distinct}
use Rattle.lower_budget.specs.Costs.{bounded}
use Rattle.lower_budget.proofs.Loops.{loops_kept}
use Rattle.lower_budget.proofs.Programs.{distinct_less, total, total_at}
use Rattle.lower_law.specs.Arrays.{local_array_bytes}

module _ (own : high.Function → ℕ) where
  total-sum : (fs : List high.Function) → total (map own fs) ≡ sum_by own fs
  total-sum [] = refl
  total-sum (h ∷ fs) = let a = total-sum fs in let e = sum_by-cons own h fs in omega (arith, a, e)

  -- what a function of the low program has is no more than what its function has, and none comes twice
  module _ (low : Function ℕ Note → ℕ) (less : (scope : Scope) (f : ℕ) (h : high.Function) → low (lowered_function scope f h) ≤ own h) (p : high.Program) (is_high : IsHigh p) where
    abbrev table : Passed
    table = all_passed p

    order_is : IsOrdered p
    order_is = ordered p is_high

    there : (f : ℕ) → is_member (order p) f ≡ true → (h : high.Function) × (slice_get p.functions f ≡ Some h)
    there f m = let a = order_is.places f m in (a.function, a.there)

    functions_less : (gs : List ℕ) (n : ℕ) → AllThere p table gs → sum_by low (lowered_functions p table n gs) ≤ total_at (map own p.functions) gs
    functions_less [] n all = omega arith
    functions_less (g ∷ gs) n all =
        let h = all.0.0 in
        let e = all.0.1 in
        let m = n + length (claims_among (listed table g)) in
        let rest = lowered_functions p table m gs in
        let scope = scope_of p table h (numbered n (listed table g)) in
        let fn = lowered_function scope g h in
        let same : lowered_functions p table n (g ∷ gs) ≡ fn ∷ rest = ap (λ o. lowered_in p table n g o ++ rest) e in
        let inside = slice_get_within p.functions g h e in
        let w : slice_index_or (map own p.functions) g 0 ≡ own h = get_or-map own p.functions g h 0 inside ∙ ap own (get_or_from_slice_get p.functions g h h e) in
        let a = functions_less gs m all.1 in
        let b = less scope g h in
        let c = sum_by-cons low fn rest in
        subst (λ fns. sum_by low fns ≤ total_at (map own p.functions) (g ∷ gs)) (sym same) (omega (arith, a, b, c, w))

    pub total_less : sum_by low (lowered p).functions ≤ sum_by own p.functions
    total_less =
        let a = functions_less (order p) 0 (all_there p table (order p) there) in
        let b = distinct_less (map own p.functions) (order p) (order_distinct p is_high) in
        let c = total-sum p.functions in
        omega (arith, a, b, c)

-- loops
abbrev loops : high.Function → ℕ
loops h = length (loops_of h.body)

loops_sum : (fs : List high.Function) → length (loops_in fs) ≡ sum_by loops fs
loops_sum [] = refl
loops_sum (h ∷ fs) =
    let a = loops_sum fs in
    let e = sum_by-cons loops h fs in
    let s : length (loops_in (h ∷ fs)) ≡ length (loops_of h.body ++ loops_in fs) = ap length (flat_map-cons (λ (x : high.Function). loops_of x.body) h fs) in
    let l = length-append (loops_of h.body) (loops_in fs) in
    omega (arith, a, e, s, l)

loops_same : (scope : Scope) (f : ℕ) (h : high.Function) → length (lowered_function scope f h).loops ≤ loops h
loops_same scope f h =
    let ls = (lowered_function scope f h).loops in
    let a = length-map ls bounded in
    let b = ap length (loops_kept scope f h) in
    omega (arith, a, b)

pub loops_few : (p : high.Program) → IsHigh p → sum_by (λ (fn : Function ℕ Note). length fn.loops) (lowered p).functions ≤ p.loops
loops_few p is_high =
    let a = total_less loops (λ fn. length fn.loops) loops_same p is_high in
    let b = loops_sum p.functions in
    let c = ap length is_high.loops in
    let d = length-map (loops_in p.functions) (λ l. l.id) in
    let e = length-range_with_len 0 p.loops in
    omega (arith, a, b, c, d, e)

-- the bytes of arrays
bytes_same : (kind : HighKind) → kind_bytes (kind_of kind) ≡ words.kind_bytes kind
bytes_same kinds.Unsigned8 = refl
bytes_same kinds.Signed8 = refl
bytes_same kinds.Unsigned16 = refl
bytes_same kinds.Signed16 = refl
bytes_same kinds.Word = refl

pub array_same : (o : high.Object) → array_size (object_of o) ≡ object_bytes o
array_same o = ap rounded (ap (λ n. n * o.size) (bytes_same o.kind) ∙ mul_comm (words.kind_bytes o.kind) o.size)

local_same : (storage : HighStorage) (o : high.Object) → local_array_bytes (storage_of storage) (object_of o) ≡ local_object_bytes storage o
local_same storages.Constant o = refl
local_same storages.Global o = refl
local_same storages.Local o = array_same o

pub arrays_same : (os : List high.Object) → sum_by (λ (x : Object). local_array_bytes x.storage x) (map object_of os) ≡ sum_by (λ (o : high.Object). local_object_bytes o.storage o) os
arrays_same [] = refl
arrays_same (o ∷ os) =
    let a = arrays_same os in
    let b = local_same o.storage o in
    let c = sum_by-cons (λ (x : Object). local_array_bytes x.storage x) (object_of o) (map object_of os) in
    let d = sum_by-cons (λ (x : high.Object). local_object_bytes x.storage x) o os in
    omega (arith, a, b, c, d)
