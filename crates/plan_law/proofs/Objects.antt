-- The arrays of a plan have addresses, and first values that are words.
use Rattle.std.proofs.Common.{◌≡◌, ℕ, ◌+◌, ◌*◌, ◌/◌, ◌^◌, ◌<◌, ◌≤◌, Bool, false, List, [], ◌∷◌, refl, sym, subst, arith, All}
use Rattle.std.specs.List.{list_any}
use Rattle.std.proofs.lemmas.List.Elements.{All-cons, All-nil}
use Rattle.types_rules.specs.Limits.{global_bytes, global_bytes_of, local_bytes, local_bytes_of, object_bytes}
use Rattle.types_tree.specs.Tree as c
use Rattle.types_tree.specs.declared.variable.Duration.{Duration}
use Rattle.types_tree.specs.declared.variable.Duration.TheVariants.{Automatic, Static}
use Rattle.types_tree.specs.declared.variable.Extent.{Extent}
use Rattle.types_tree.specs.declared.variable.Extent.TheVariants.{Array, Parameter, Scalar}
use Rattle.types_tree.specs.declared.variable.Variable.{Variable}
use Rattle.types_value.specs.Kinds.{bytes, is_void}
use Rattle.types_value.specs.declared.kind.Kind.{Kind}
use Rattle.high_ir.specs.declared.object.Kind.{Kind as HighKind}
use Rattle.high_ir.specs.declared.object.Kind.TheVariants as kinds
use Rattle.high_ir.specs.Tree.{Object}
use Rattle.high_ir.specs.Whole.{IsSmall}
use Rattle.high_ir.specs.Words.{kind_bytes}
use Rattle.plan_formed.specs.Memory.{AllSolid, SolidBy}
use Rattle.plan_formed.proofs.Sums.{same_bytes}
use Rattle.plan_definition.specs.Layouts.{Given, elements_of, first_given, given_object, givens, givens_before, givens_behind, givens_of, is_const, local_object, object_before, objects_from}
use Rattle.plan_definition.specs.Operators.{kind_of}
use Rattle.plan_law.specs.Words.{DeclarationWords, ExternalsWords, ObjectsWords}
use Rattle.plan_law.proofs.Constants.{initial_below}

-- what file level gives
abbrev GivensWords : List Given → Type 0
GivensWords [] = Unit {0}
GivensWords (given ∷ rest) = All (λ v. v < 2 ^ 32) given.values × GivensWords rest

objects_given : (constant : Bool) (objects : List c.Object) (behind : List Given) → ObjectsWords objects → GivensWords behind → GivensWords (givens_of constant objects behind)
objects_given constant [] behind h b = b
objects_given constant (c.Declared object shape initial at ∷ rest) behind h b = (initial_below initial h.0, objects_given constant rest behind h.1 b)

before_given : (declaration : c.Declaration) (behind : List Given) → DeclarationWords declaration → GivensWords behind → GivensWords (givens_before declaration behind)
before_given (c.Objects specifiers objects at) behind h b = objects_given (list_any is_const specifiers) objects behind h b
before_given (c.Prototype specifiers name params at) behind h b = b

pub givens_words : (items : List c.External) → ExternalsWords items → GivensWords (givens items)
givens_words [] h = tt
givens_words (c.Restriction pragma ∷ rest) h = givens_words rest h
givens_words (c.Declaring declaration ∷ rest) h = before_given declaration (givens rest) h.0 (givens_words rest h.1)
givens_words (c.Defining function ∷ rest) h = givens_words rest h

first_words : (given : List Given) → GivensWords given → All (λ v. v < 2 ^ 32) (first_given given).values
first_words [] h = All-nil (λ v. v < 2 ^ 32)
first_words (given ∷ rest) h = h.0

behind_words : (duration : Duration) (given : List Given) → GivensWords given → GivensWords (givens_behind duration given)
behind_words Automatic given h = h
behind_words Static [] h = tt
behind_words Static (given ∷ rest) h = h.1

-- sizes
one_small : (kind : HighKind) → kind_bytes kind * 1 ≤ 2 ^ 32
one_small kinds.Unsigned8 = omega arith
one_small kinds.Signed8 = omega arith
one_small kinds.Unsigned16 = omega arith
one_small kinds.Signed16 = omega arith
one_small kinds.Word = omega arith

array_small : (kind : Kind) (count : ℕ) → is_void kind ≡ false → object_bytes kind (Array count) ≤ 262144 → kind_bytes (kind_of kind) * count ≤ 2 ^ 32
array_small kind count solid le = subst (λ w. w * count ≤ 2 ^ 32) (sym (same_bytes kind solid)) (few (bytes kind) count le)
  where
    few : (w n : ℕ) → (n * w + 3) / 4 * 4 ≤ 262144 → w * n ≤ 2 ^ 32
    few w n le = let e : w * n ≡ n * w = omega arith in omega (arith, e, le)

extent_small : (kind : Kind) (e : Extent) → SolidBy e kind → object_bytes kind e ≤ 262144 → kind_bytes (kind_of kind) * elements_of e ≤ 2 ^ 32
extent_small kind Scalar solid le = one_small (kind_of kind)
extent_small kind (Array count) solid le = array_small kind count solid le
extent_small kind Parameter solid le = one_small (kind_of kind)

object_small : (d : Duration) (e : Extent) (v : Variable) (given : Given) (behind : List Object) → e ≡ v.extent → SolidBy e v.kind → global_bytes_of d (object_bytes v.kind e) ≤ 262144 → local_bytes_of d (object_bytes v.kind e) ≤ 262144 → All (λ w. w < 2 ^ 32) given.values → All IsSmall behind →
    All IsSmall (object_before d e v given behind)
object_small Static e v given behind is solid g l words rest =
    All-cons IsSmall (given_object v given) behind (record { size = subst (λ x. kind_bytes (kind_of v.kind) * elements_of x ≤ 2 ^ 32) is (extent_small v.kind e solid g); values = words }) rest
object_small Automatic Scalar v given behind is solid g l words rest = rest
object_small Automatic (Array count) v given behind is solid g l words rest =
    All-cons IsSmall (local_object v count) behind (record { size = array_small v.kind count solid l; values = All-nil (λ w. w < 2 ^ 32) }) rest
object_small Automatic Parameter v given behind is solid g l words rest = rest

-- of objects that are within the limits
pub objects_small : (variables : List Variable) (given : List Given) → AllSolid variables → global_bytes variables ≤ 262144 → local_bytes variables ≤ 262144 → GivensWords given → All IsSmall (objects_from variables given)
objects_small [] given solid g l h = All-nil IsSmall
objects_small (v ∷ rest) given solid g l h =
    let here = object_bytes v.kind v.extent in
    object_small v.duration v.extent v (first_given given) (objects_from rest (givens_behind v.duration given)) refl solid.0 (first (global_bytes_of v.duration here) (global_bytes rest) g) (first (local_bytes_of v.duration here) (local_bytes rest) l) (first_words given h)
    (objects_small rest (givens_behind v.duration given) solid.1 (second (global_bytes_of v.duration here) (global_bytes rest) g) (second (local_bytes_of v.duration here) (local_bytes rest) l) (behind_words v.duration given h))
  where
    first : (x y : ℕ) → x + y ≤ 262144 → x ≤ 262144
    first x y le = omega (arith, le)

    second : (x y : ℕ) → x + y ≤ 262144 → y ≤ 262144
    second x y le = omega (arith, le)
