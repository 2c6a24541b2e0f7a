-- What frames and local arrays of a plan take, by the objects of the source and its nodes.
use Rattle.std.proofs.Common.{◌≡◌, ℕ, ◌+◌, ◌-◌, ◌*◌, ◌/◌, ◌≤◌, max, Bool, true, false, List, [], ◌∷◌, ◌++◌, length, Some, None, refl, sym, ap, ◌∙◌, arith}
use Rattle.std.specs.Prelude.{drop, if◌then◌else◌, slice_index_or, sum_by, take}
use Rattle.std.proofs.lemmas.Bool.{true≢false}
use Rattle.std.proofs.lemmas.List.{drop-drop, length-take, take-append-drop}
use Rattle.std.proofs.lemmas.List.Sums.{sum_by-append, sum_by-cons}
use Rattle.facts_definitions.specs.Most.{function_most, items_most, list_most, params_most}
use Rattle.types_tree.specs.Tree as c
use Rattle.types_tree.specs.declared.variable.Duration.{Duration}
use Rattle.types_tree.specs.declared.variable.Duration.TheVariants.{Automatic, Static}
use Rattle.types_tree.specs.declared.variable.Extent.{Extent}
use Rattle.types_tree.specs.declared.variable.Extent.TheVariants.{Array, Parameter, Scalar}
use Rattle.types_tree.specs.declared.variable.Variable.{Variable}
use Rattle.types_value.specs.Kinds.{bytes, is_void}
use Rattle.types_value.specs.declared.kind.Kind.{Kind}
use Rattle.types_value.specs.declared.kind.Kind.TheVariants as types
use Rattle.types_rules.specs.Limits.{local_bytes, local_bytes_of, object_bytes}
use Rattle.high_ir.specs.Size.{frame_bytes, local_object_bytes}
use Rattle.high_ir.specs.Tree as high
use Rattle.high_ir.specs.Words.{kind_bytes}
use Rattle.high_code.specs.Code.{frame_needed}
use Rattle.plan_definition.specs.Layouts.{Given, first_given, first_of, frame_scalars, given_object, givens_behind, is_frame, is_passed, local_object, object_before, objects_from, passed_arrays, storage_of}
use Rattle.plan_definition.specs.Operators.{kind_of}
use Rattle.plan_definition.specs.Programs.{between, end_of, function_planned, functions_planned, named_params}
use Rattle.plan_definition.specs.Statements.{Plan, body_planned}
use Rattle.plan_forms.specs.Programs.{body_of}
use Rattle.plan_forms.specs.ProgramCosts.{functions_nodes}
use Rattle.plan_formed.proofs.FramedExpressions.{none}
use Rattle.plan_formed.proofs.FramedStatements.{body_needs}
use Rattle.plan_formed.specs.Memory.{AllSolid, FunctionsFramed, Rise, SolidBy}

-- scalars of lists of objects
scalars-append : (xs ys : List Variable) → frame_scalars (xs ++ ys) ≡ frame_scalars xs + frame_scalars ys
scalars-append xs ys = sum_by-append (λ v. if is_frame v.duration v.extent then 1 else 0) xs ys

scalars-cons : (v : Variable) (vs : List Variable) → frame_scalars (v ∷ vs) ≡ (if is_frame v.duration v.extent then 1 else 0) + frame_scalars vs
scalars-cons v vs = sum_by-cons (λ w. if is_frame w.duration w.extent then 1 else 0) v vs

passed-cons : (v : Variable) (vs : List Variable) → passed_arrays (v ∷ vs) ≡ (if is_passed v.extent then 1 else 0) + passed_arrays vs
passed-cons v vs = sum_by-cons (λ w. if is_passed w.extent then 1 else 0) v vs

scalars-split : (m : ℕ) (vs : List Variable) → frame_scalars vs ≡ frame_scalars (take m vs) + frame_scalars (drop m vs)
scalars-split m vs = ap frame_scalars (sym (take-append-drop m vs)) ∙ scalars-append (take m vs) (drop m vs)

-- the scalars of all functions, each of which ends where the next one begins
abbrev pub own_scalars : List Variable → (all : ℕ) → List c.Function → ℕ
own_scalars variables all [] = 0
own_scalars variables all (f ∷ rest) = frame_scalars (between variables (first_of f) (end_of rest all)) + own_scalars variables all rest

own_behind : (variables : List Variable) (all : ℕ) (fs : List c.Function) → Rise all fs → own_scalars variables all fs ≤ frame_scalars (drop (end_of fs all) variables)
own_behind variables all [] r = omega arith
own_behind variables all (f ∷ rest) r =
    let first = first_of f in
    let last = end_of rest all in
    let here = drop first variables in
    omega (arith, own_behind variables all rest r.1, scalars-split (last - first) here, ap frame_scalars (drop-drop (last - first) first variables ∙ ap (λ n. drop n variables) (up_to first last r.0)))
  where
    up_to : (x y : ℕ) → x ≤ y → x + (y - x) ≡ y
    up_to x y le = omega (arith, le)

pub own_most : (variables : List Variable) (all : ℕ) (fs : List c.Function) → Rise all fs → own_scalars variables all fs ≤ frame_scalars variables
own_most variables all fs r = omega (arith, own_behind variables all fs r, scalars-split (end_of fs all) variables)

-- parameters
one_place : (d : Duration) (e : Extent) → (if is_frame d e then 1 else 0) + (if is_passed e then 1 else 0) ≤ 1
one_place Automatic Scalar = omega arith
one_place Automatic (Array count) = omega arith
one_place Automatic Parameter = omega arith
one_place Static Scalar = omega arith
one_place Static (Array count) = omega arith
one_place Static Parameter = omega arith

both_most : (vs : List Variable) → frame_scalars vs + passed_arrays vs ≤ length vs
both_most [] = omega arith
both_most (v ∷ vs) = omega (arith, both_most vs, scalars-cons v vs, passed-cons v vs, one_place v.duration v.extent)

few_params : (first n : ℕ) (variables : List Variable) → frame_scalars (between variables first (first + n)) + passed_arrays (between variables first (first + n)) ≤ n
few_params first n variables = omega (arith, both_most (between variables first (first + n)), length-take (first + n - first) (drop first variables))

named_all : (params : List c.Param) → named_params params ≤ params_most none params
named_all [] = omega arith
named_all (c.Parameter specifiers None shape at ∷ rest) = omega (arith, named_all rest)
named_all (c.Parameter specifiers (Some name) shape at ∷ rest) = omega (arith, named_all rest)

named_most : (params : List c.Param) → named_params params ≤ list_most none params
named_most [] = omega arith
named_most (c.Parameter specifiers None shape at ∷ []) = omega arith
named_most (c.Parameter specifiers (Some name) shape at ∷ []) = named_all (c.Parameter specifiers (Some name) shape at ∷ [])
named_most (p ∷ q ∷ rest) = named_all (p ∷ q ∷ rest)

-- frames
frame_most : (plan : Plan) (variables : List Variable) (behind rank : ℕ) (f : c.Function) → frame_needed (body_planned plan (body_of f) (frame_scalars (between variables (first_of f) behind))) ≤ frame_scalars (between variables (first_of f) behind) + 1 + items_most [] none (body_of f) →
    frame_bytes (function_planned plan variables behind rank f) ≤ 4 * frame_scalars (between variables (first_of f) behind) + 8 * function_most [] none (Some f)
frame_most plan variables behind rank (c.Defined specifiers name name_at params first body body_at at) h =
    let own = between variables first behind in
    let given = between variables first (first + named_params params) in
    all (frame_scalars given) (passed_arrays given) (frame_scalars own) (frame_needed (body_planned plan body (frame_scalars own))) (list_most none params) (items_most [] none body) (named_params params) (few_params first (named_params params) variables) (named_most params) h
  where
    all : (s p o n l i m : ℕ) → s + p ≤ m → m ≤ l → n ≤ o + 1 + i → 4 * (s + p + (max o n - s)) ≤ 4 * o + 8 * (1 + (l + (1 + i)))
    all s p o n l i m a b h = omega (arith, a, b, h)

pub frames_most : (plan : Plan) (variables : List Variable) (ranks : List ℕ) (fs : List c.Function) (number : ℕ) → FunctionsFramed plan.homes variables (length variables) fs → sum_by frame_bytes (functions_planned plan variables ranks number fs) ≤ 4 * own_scalars variables (length variables) fs + 8 * functions_nodes fs
frames_most plan variables ranks [] number may = omega arith
frames_most plan variables ranks (f ∷ rest) number may =
    let behind = end_of rest (length variables) in
    let own = frame_scalars (between variables (first_of f) behind) in
    let this = frame_most plan variables behind (slice_index_or ranks number 0) f (body_needs plan own (body_of f) may.0) in
    omega (arith, this, frames_most plan variables ranks rest (number + 1) may.1, sum_by-cons frame_bytes (function_planned plan variables behind (slice_index_or ranks number 0) f) (functions_planned plan variables ranks (number + 1) rest))

-- local arrays
pub same_bytes : (kind : Kind) → is_void kind ≡ false → kind_bytes (kind_of kind) ≡ bytes kind
same_bytes types.Void h = absurd (true≢false h)
same_bytes types.Char h = refl
same_bytes types.SignedChar h = refl
same_bytes types.UnsignedChar h = refl
same_bytes types.Short h = refl
same_bytes types.UnsignedShort h = refl
same_bytes types.Int h = refl
same_bytes types.Unsigned h = refl
same_bytes types.Long h = refl
same_bytes types.UnsignedLong h = refl

abbrev own_bytes : List high.Object → ℕ
own_bytes objects = sum_by (λ o. local_object_bytes o.storage o) objects

not_own : (constant : Bool) (o : high.Object) → local_object_bytes (storage_of constant) o ≡ 0
not_own true o = refl
not_own false o = refl

object_most : (d : Duration) (e : Extent) (v : Variable) (given : Given) (behind : List high.Object) → SolidBy e v.kind → e ≡ v.extent → own_bytes (object_before d e v given behind) + 4 * (if is_frame d e then 1 else 0) ≤ local_bytes_of d (object_bytes v.kind e) + own_bytes behind
object_most Static e v given behind s is = omega (arith, sum_by-cons (λ o. local_object_bytes o.storage o) (given_object v given) behind, not_own given.constant (given_object v given))
object_most Automatic Scalar v given behind s is = omega arith
object_most Automatic (Array count) v given behind s is =
    omega (arith, sum_by-cons (λ o. local_object_bytes o.storage o) (local_object v count) behind, ap (λ b. (count * b + 3) / 4 * 4) (same_bytes v.kind s))
object_most Automatic Parameter v given behind s is = omega arith

pub objects_most : (variables : List Variable) (givens : List Given) → AllSolid variables → own_bytes (objects_from variables givens) + 4 * frame_scalars variables ≤ local_bytes variables
objects_most [] givens h = omega arith
objects_most (v ∷ rest) givens h =
    let behind = objects_from rest (givens_behind v.duration givens) in
    omega (arith, object_most v.duration v.extent v (first_given givens) behind h.0 refl, objects_most rest (givens_behind v.duration givens) h.1, scalars-cons v rest)
