-- The arrays of a program by the objects that live in them.
use Rattle.std.proofs.Common.{◌≡◌, refl, ap, ◌∙◌, sym, ℕ, ◌+◌, zero, suc, List, [], ◌∷◌, drop, length, take, Some, arith, one-add, zero-add}
use Rattle.std.specs.Prelude.{◌==◌, slice_get}
use Rattle.std.proofs.lemmas.Bool.{true≢false}
use Rattle.std.proofs.lemmas.Option.{none-some, same_Some}
use Rattle.types_tree.specs.declared.variable.Duration.{Duration}
use Rattle.types_tree.specs.declared.variable.Duration.TheVariants.{Static, Automatic}
use Rattle.types_tree.specs.declared.variable.Extent.{Extent}
use Rattle.types_tree.specs.declared.variable.Extent.TheVariants.{Scalar, Array as Elements, Parameter as Passed}
use Rattle.types_tree.specs.declared.variable.Variable.{Variable}
use Rattle.high_ir.specs.Tree as high
use Rattle.high_ir.specs.declared.object.Array.{Array}
use Rattle.high_ir.specs.declared.object.Base.TheVariants.{Object}
use Rattle.plan_definition.specs.declared.home.Home.TheVariants.{Memory}
use Rattle.plan_definition.specs.Layouts.{Given, Next, ahead, begun, elements_of, first_given, given_object, givens_behind, home_by, homes_from, local_object, next_by, object_before, objects_from}
use Rattle.types_seen.specs.Growing.{static_count, statics}
use Rattle.plan_served.proofs.Homes.{array_here, base_in, begun_object, is_frame_home, is_object}

-- the array of an object: its first values, or those of none
abbrev pub array_of : Duration → Variable → Given → high.Object
array_of Static v given = given_object v given
array_of Automatic v given = local_object v (elements_of v.extent)

-- the place of an object's array among those that the program has from a number on
pub record IsAt (vs : List Variable) (given : List Given) (from n : ℕ) (v : Variable) (mine : List Given) : Type 0 where
  pub place : ℕ
  pub place_is : n ≡ from + place
  pub array_is : slice_get (objects_from vs given) place ≡ Some (array_of v.duration v (first_given mine))

object_here : (d : Duration) (e : Extent) (v : Variable) (next : Next) (a : Array) (n : ℕ) (g : Given) (rest : List high.Object) → e ≡ v.extent → home_by d e v next ≡ Memory a → a.base ≡ Object n → object_before d e v g rest ≡ array_of d v g ∷ rest
object_here Static e v next a n g rest same lives base = refl
object_here Automatic Scalar v next a n g rest same lives base = absurd (true≢false (ap is_frame_home lives))
object_here Automatic (Elements count) v next a n g rest same lives base = ap (λ x. local_object v (elements_of x) ∷ rest) same
object_here Automatic Passed v next a n g rest same lives base = absurd (true≢false (ap is_object (sym base ∙ sym (ap base_in lives))))

-- whether an object has an array of the program
abbrev takes : Duration → Extent → ℕ
takes Static e = 1
takes Automatic Scalar = 0
takes Automatic (Elements count) = 1
takes Automatic Passed = 0

next_is : (d : Duration) (e : Extent) (next : Next) → (next_by d e next).object ≡ next.object + takes d e
next_is Static e next = refl
next_is Automatic Scalar next = omega arith
next_is Automatic (Elements count) next = refl
next_is Automatic Passed next = omega arith

behind_object : (d : Duration) (e : Extent) (v : Variable) (g : Given) (rest : List high.Object) (k : ℕ) → slice_get (object_before d e v g rest) (takes d e + k) ≡ slice_get rest k
behind_object Static e v g rest k = ap (slice_get (given_object v g ∷ rest)) (one-add k)
behind_object Automatic Scalar v g rest k = ap (slice_get rest) (zero-add k)
behind_object Automatic (Elements count) v g rest k = ap (slice_get (local_object v count ∷ rest)) (one-add k)
behind_object Automatic Passed v g rest k = ap (slice_get rest) (zero-add k)

drop_nil : (n : ℕ) → ◌≡◌ {A = List Given} (drop n []) []
drop_nil zero = refl
drop_nil (suc n) = refl

drop_behind : (d : Duration) (n : ℕ) (given : List Given) → drop n (givens_behind d given) ≡ drop (static_count d + n) given
drop_behind Automatic n given = ap (λ m. drop m given) (sym (zero-add n))
drop_behind Static n [] = drop_nil n ∙ sym (drop_nil (1 + n))
drop_behind Static n (g ∷ given) = ap (λ m. drop m (g ∷ given)) (sym (one-add n))

pub array_at : (firsts : List ℕ) (vs : List Variable) (number : ℕ) (next : Next) (given : List Given) (i : ℕ) (v : Variable) (a : Array) (n : ℕ) → slice_get vs i ≡ Some v → slice_get (homes_from firsts vs number next) i ≡ Some (Memory a) → a.base ≡ Object n →
    IsAt vs given next.object n v (drop (statics (take i vs)) given)
array_at firsts [] number next given i v a n e lives base = absurd (none-some v e)
array_at firsts (w ∷ vs) number next given zero v a n e lives base =
    let same = length (ahead firsts number) == length firsts in
    let here = begun same next in
    let is : home_by w.duration w.extent w here ≡ Memory a = same_Some (home_by w.duration w.extent w here) (Memory a) lives in
    let h = (array_here w.duration w.extent w here a n is base).0 in
    let o = begun_object same next in
    let rest = objects_from vs (givens_behind w.duration given) in
    record {
      place = 0;
      place_is = omega (arith, h, o);
      array_is =
          ap (λ l. slice_get l 0) (object_here w.duration w.extent w here a n (first_given given) rest refl is base)
          ∙ ap (λ x. Some (array_of x.duration x (first_given given))) (same_Some w v e);
    }
array_at firsts (w ∷ vs) number next given (suc i) v a n e lives base =
    let after = ahead firsts number in
    let same = length after == length firsts in
    let here = begun same next in
    let r = array_at after vs (number + 1) (next_by w.duration w.extent here) (givens_behind w.duration given) i v a n e lives base in
    let o = begun_object same next in
    let k = next_is w.duration w.extent here in
    let p = r.place_is in
    record {
      place = takes w.duration w.extent + r.place;
      place_is = omega (arith, o, k, p);
      array_is =
          behind_object w.duration w.extent w (first_given given) (objects_from vs (givens_behind w.duration given)) r.place ∙ r.array_is
          ∙ ap (λ l. Some (array_of v.duration v (first_given l))) (drop_behind w.duration (statics (take i vs)) given);
    }

pub first_at : (given : List Given) (n : ℕ) (g : Given) → slice_get given n ≡ Some g → first_given (drop n given) ≡ g
first_at [] n g e = absurd (none-some g e)
first_at (x ∷ given) zero g e = same_Some x g e
first_at (x ∷ given) (suc n) g e = first_at given n g e
