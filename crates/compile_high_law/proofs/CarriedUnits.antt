-- The functions of a source, and the objects of file level of its plan, are within the limits.
use Rattle.std.proofs.Common.{◌≡◌, ℕ, ◌+◌, ◌*◌, ◌/◌, ◌≤◌, Bool, true, false, List, [], ◌∷◌, length, Some, None, refl, sym, ap, subst, arith}
use Rattle.std.specs.Prelude.{if◌then◌else◌, nat_lt}
use Rattle.std.proofs.lemmas.Bool.{ltb-false, true≢false}
use Rattle.std.proofs.lemmas.List.Sums.{sum_by-cons}
use Rattle.std.proofs.lemmas.Option.{none-some}
use Rattle.c_tree.specs.Size.{size_unit}
use Rattle.c_tree.specs.Tree.{Row, Nothing, Then, External, Restriction, Declaring, Function, TranslationUnit, Whole}
use Rattle.types_tree.specs.Tree as typed
use Rattle.types_tree.specs.declared.variable.Duration.{Duration}
use Rattle.types_tree.specs.declared.variable.Duration.TheVariants.{Automatic, Static}
use Rattle.types_tree.specs.declared.variable.Extent.{Extent}
use Rattle.types_tree.specs.declared.variable.Extent.TheVariants.{Array, Parameter, Scalar}
use Rattle.types_tree.specs.declared.variable.Variable.{Variable}
use Rattle.types_value.specs.Kinds.{bytes, is_void}
use Rattle.types_value.specs.declared.kind.Kind.{Kind}
use Rattle.types_value.specs.declared.kind.Kind.TheVariants as types
use Rattle.wcc_base.specs.declared.limits.Bound.TheVariants.{Functions, Markers, Nodes, Parameters, Restrictions}
use Rattle.types_rules.specs.Limits.{broken, global_bytes as variable_bytes, global_bytes_of, limit, limits_before, limits_behind, object_bytes, over, tally_externals, tally_unit, variables_of}
use Rattle.types_rules.specs.Scope.{Around, after_row, or_else, started}
use Rattle.types_rules.specs.Sights.{after_external, first_fault, outline_of, unit_nodes}
use Rattle.types_rules.specs.Typing.{typed_function, typed_row}
use Rattle.types_rules.specs.declared.fault.TypeFault.TheVariants.{Limit}
use Rattle.types_rules.specs.Typed.{fault_of, typed_of}
use Rattle.high_ir.specs.declared.object.Kind.{Kind as HighKind}
use Rattle.high_ir.specs.declared.object.Kind.TheVariants as kinds
use Rattle.high_ir.specs.Size as sizes
use Rattle.high_ir.specs.Tree.{Object}
use Rattle.high_ir.specs.Words.{kind_bytes}
use Rattle.plan_definition.specs.Layouts.{Given, elements_of, first_given, given_object, givens, givens_behind, local_object, object_before, objects_from, storage_of}
use Rattle.plan_definition.specs.Operators.{kind_of}
use Rattle.plan_formed.proofs.Faults.{no_first, no_second}
use Rattle.plan_formed.specs.Memory.{AllSolid, SolidBy}
use Rattle.plan_formed.proofs.Growing.{externals_grow}
use Rattle.plan_formed.proofs.Memory.{few_globals, rules_pass}
use Rattle.compile_high_definitions.specs.Limits.{global_bytes, global_object_bytes}

-- functions
functions_counted : (items : Row (External ℕ)) (a : Around) (rest : List typed.Function) → length (typed_row after_external typed_function items a rest) ≤ (tally_externals items).functions + length rest
functions_counted Nothing a rest = omega arith
functions_counted (Then front (Restriction pragma)) a rest = omega (arith, functions_counted front a rest)
functions_counted (Then front (Declaring declaration)) a rest = omega (arith, functions_counted front a rest)
functions_counted (Then front (Function specifiers name name_at params body body_at at)) a rest =
    let b = after_row after_external front a in
    omega (arith, functions_counted front a (typed_function (Function specifiers name name_at params body body_at at) b rest))

within_functions : (n : ℕ) → limit Functions (over Functions n) ≡ None → n ≤ 256
within_functions n h = of (nat_lt 256 n) refl h
  where
    of : (b : Bool) → nat_lt 256 n ≡ b → limit Functions (if b then Some n else None) ≡ None → n ≤ 256
    of true e k = absurd (none-some (Limit Functions n) (sym k))
    of false e k = ltb-false 256 n e

few_counted : (names : List (List ℕ)) (unit : TranslationUnit ℕ) → fault_of names unit ≡ None → (tally_unit unit).functions ≤ 256
few_counted names unit h =
    let nodes = (size_unit unit).nodes in
    let t = tally_unit unit in
    within_functions t.functions
    (no_first (limit Functions (over Functions t.functions)) (or_else (limit Parameters t.parameters) (or_else (limit Markers (over Markers t.markers)) (limit Restrictions (over Restrictions t.restrictions))))
    (no_second (limit Nodes (over Nodes nodes)) (or_else (limit Functions (over Functions t.functions)) (or_else (limit Parameters t.parameters) (or_else (limit Markers (over Markers t.markers)) (limit Restrictions (over Restrictions t.restrictions)))))
    (no_first (limits_before nodes t) (or_else (broken (first_fault (unit_nodes (outline_of names unit) unit))) (limits_behind (variables_of (outline_of names unit) unit))) h)))

pub few_functions : (names : List (List ℕ)) (unit : TranslationUnit ℕ) → fault_of names unit ≡ None → length (typed_of names unit).functions ≤ 256
few_functions names (Whole items at) passes =
    let count = functions_counted items (started (outline_of names (Whole items at))) [] in
    let few = few_counted names (Whole items at) passes in
    omega (arith, count, few)

-- objects of file level
same_bytes : (kind : Kind) → is_void kind ≡ false → kind_bytes (kind_of kind) ≡ bytes kind
same_bytes types.Void h = absurd (true≢false h)
same_bytes types.Char h = refl
same_bytes types.SignedChar h = refl
same_bytes types.UnsignedChar h = refl
same_bytes types.Short h = refl
same_bytes types.UnsignedShort h = refl
same_bytes types.Int h = refl
same_bytes types.Unsigned h = refl
same_bytes types.Long h = refl
same_bytes types.UnsignedLong h = refl

one_word : (kind : HighKind) → (1 * kind_bytes kind + 3) / 4 * 4 ≤ 4
one_word kinds.Unsigned8 = omega arith
one_word kinds.Signed8 = omega arith
one_word kinds.Unsigned16 = omega arith
one_word kinds.Signed16 = omega arith
one_word kinds.Word = omega arith

given_most : (e : Extent) (kind : Kind) → SolidBy e kind → (elements_of e * kind_bytes (kind_of kind) + 3) / 4 * 4 ≤ object_bytes kind e
given_most Scalar kind solid = one_word (kind_of kind)
given_most (Array count) kind solid = let same = ap (λ b. (count * b + 3) / 4 * 4) (same_bytes kind solid) in omega (arith, same)
given_most Parameter kind solid = one_word (kind_of kind)

is_global : (constant : Bool) (o : Object) → global_object_bytes (storage_of constant) o ≡ sizes.object_bytes o
is_global true o = refl
is_global false o = refl

object_most : (d : Duration) (e : Extent) (v : Variable) (given : Given) (behind : List Object) → SolidBy v.extent v.kind → global_bytes (object_before d e v given behind) ≤ global_bytes_of d (object_bytes v.kind v.extent) + global_bytes behind
object_most Static e v given behind solid =
    let sum = sum_by-cons (λ (o : Object). global_object_bytes o.storage o) (given_object v given) behind in
    let this = is_global given.constant (given_object v given) in
    let most = given_most v.extent v.kind solid in
    omega (arith, sum, this, most)
object_most Automatic Scalar v given behind solid = omega arith
object_most Automatic (Array count) v given behind solid = let sum = sum_by-cons (λ (o : Object). global_object_bytes o.storage o) (local_object v count) behind in omega (arith, sum)
object_most Automatic Parameter v given behind solid = omega arith

objects_most : (variables : List Variable) (given : List Given) → AllSolid variables → global_bytes (objects_from variables given) ≤ variable_bytes variables
objects_most [] given solid = omega arith
objects_most (v ∷ rest) given solid =
    let next = givens_behind v.duration given in
    let this = object_most v.duration v.extent v (first_given given) (objects_from rest next) solid.0 in
    let others = objects_most rest next solid.1 in
    omega (arith, this, others)

pub globals_few : (names : List (List ℕ)) (unit : TranslationUnit ℕ) → fault_of names unit ≡ None → (p : typed.Program) → p ≡ typed_of names unit → global_bytes (objects_from p.variables (givens p.items)) ≤ 262144
globals_few names (Whole items at) passes p is =
    let grown = externals_grow items (started (outline_of names (Whole items at))) (rules_pass names items at passes) in
    let solid = subst (λ (q : typed.Program). AllSolid q.variables) (sym is) (grown.solid tt) in
    let few = subst (λ (q : typed.Program). variable_bytes q.variables ≤ 262144) (sym is) (few_globals names items at passes) in
    let most = objects_most p.variables (givens p.items) solid in
    omega (arith, most, few)
