-- The arrays of a program are at first what their kinds keep.
use Rattle.std.proofs.Common.{◌≡◌, ℕ, zero, suc, List, [], ◌∷◌, ◌++◌, map, Option, Some, None, refl, subst}
use Rattle.std.specs.Prelude.{replicate, slice_get, slice_index_or, take}
use Rattle.std.proofs.lemmas.Option.{none-some, same_Some}
use Rattle.high_ir.specs.declared.object.Kind.{Kind}
use Rattle.high_ir.specs.declared.object.Kind.TheVariants.{Unsigned8, Signed8, Unsigned16, Signed16, Word}
use Rattle.high_ir.specs.declared.object.Storage.{Storage}
use Rattle.high_ir.specs.declared.object.Storage.TheVariants.{Constant, Global, Local}
use Rattle.high_ir.specs.Meaning.{Contents, element}
use Rattle.high_ir.specs.Runs.{contents, first_elements, start}
use Rattle.high_ir.specs.Tree.{Object}
use Rattle.high_ir.specs.Words.{converted}
use Rattle.high_folded.specs.Kept.{IsKept, IsOf}
use Rattle.high_folded.proofs.Keeping.{again_kept}

-- each element of a list
abbrev Each : Kind → List (Option ℕ) → Type 0
Each kind [] = Unit {0}
Each kind (o ∷ os) = IsOf kind o × Each kind os

each_at : (kind : Kind) (os : List (Option ℕ)) → Each kind os → (i : ℕ) → IsOf kind (slice_index_or os i None)
each_at kind [] h i = tt
each_at kind (o ∷ os) h zero = h.0
each_at kind (o ∷ os) h (suc i) = each_at kind os h.1 i

each_take : (kind : Kind) (n : ℕ) (os : List (Option ℕ)) → Each kind os → Each kind (take n os)
each_take kind zero [] h = tt
each_take kind zero (o ∷ os) h = tt
each_take kind (suc n) [] h = tt
each_take kind (suc n) (o ∷ os) h = (h.0, each_take kind n os h.1)

each-append : (kind : Kind) (os ps : List (Option ℕ)) → Each kind os → Each kind ps → Each kind (os ++ ps)
each-append kind [] ps h k = k
each-append kind (o ∷ os) ps h k = (h.0, each-append kind os ps h.1 k)

each_same : (kind : Kind) (o : Option ℕ) → IsOf kind o → (n : ℕ) → Each kind (replicate n o)
each_same kind o h zero = tt
each_same kind o h (suc n) = (h, each_same kind o h n)

zero_kept : (kind : Kind) → converted kind 0 ≡ 0
unfolding converted
zero_kept Unsigned8 = refl
zero_kept Signed8 = refl
zero_kept Unsigned16 = refl
zero_kept Signed16 = refl
zero_kept Word = refl

each_given : (kind : Kind) (values : List ℕ) → Each kind (map (λ v. Some (converted kind v)) values)
each_given kind [] = tt
each_given kind (v ∷ values) = (again_kept kind v, each_given kind values)

given_first : (o : Object) → Each o.kind (take o.size (map (λ v. Some (converted o.kind v)) o.values ++ replicate o.size (Some 0)))
given_first o =
    each_take o.kind o.size (map (λ v. Some (converted o.kind v)) o.values ++ replicate o.size (Some 0))
    (each-append o.kind (map (λ v. Some (converted o.kind v)) o.values) (replicate o.size (Some 0)) (each_given o.kind o.values) (each_same o.kind (Some 0) (zero_kept o.kind) o.size))

first_of : (s : Storage) (o : Object) → Each o.kind (first_elements s o)
first_of Constant o = given_first o
first_of Global o = given_first o
first_of Local o = each_same o.kind None tt o.size

starts : (os : List Object) (n i : ℕ) (c : Contents) → slice_get (map contents os) n ≡ Some c → IsOf c.kind (element c i)
starts [] n i c is = absurd (none-some c is)
starts (o ∷ os) zero i c is = subst (λ (x : Contents). IsOf x.kind (element x i)) (same_Some (contents o) c is) (each_at o.kind (first_elements o.storage o) (first_of o.storage o) i)
starts (o ∷ os) (suc n) i c is = starts os n i c is

pub start_kept : (os : List Object) (input : List ℕ) → IsKept (start os input)
start_kept os input = record { by = starts os }
