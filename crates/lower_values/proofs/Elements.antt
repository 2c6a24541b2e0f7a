-- Elements of arrays in both forms.
use Rattle.std.proofs.Common.{◌≡◌, ℕ, zero, suc, ◌*◌, ◌/◌, ◌%◌, ◌^◌, ◌<◌, ◌≤◌, Bool, true, false, List, [], ◌∷◌, length, Option, Some, None, refl, sym, ap, ◌∙◌, subst, arith}
use Rattle.std.specs.Prelude.{◌==◌, ◌&&◌, if◌then◌else◌, slice_get, slice_index_or, option_map, nat_lt}
use Rattle.std.proofs.lemmas.Bool.Decides.{nat_tests}
use Rattle.std.proofs.lemmas.Option.{same_Some, slice_get-map}
use Rattle.high_ir.specs.declared.object.Kind.{Kind as HighKind}
use Rattle.high_ir.specs.declared.object.Kind.TheVariants as kinds
use Rattle.high_ir.specs.declared.object.Array.{Array}
use Rattle.high_ir.specs.Words as words
use Rattle.high_ir.specs.Meaning as high
use Rattle.low_ir.specs.Kinds.{same_kind}
use Rattle.low_ir.specs.Effects.{Contents, World, there, only_if, element, loaded}
use Rattle.lower_definition.specs.Objects.{kind_of, scale_of}
use Rattle.lower_definition.specs.Values.{Scope, bytes}
use Rattle.lower_values.specs.Meeting.{contents_of, MeetsWorld}
use Rattle.lower_values.proofs.Widths.{same_kind-kind_of, kind_bytes-kind_of, IsAt, bytes_at}

-- what an optional value was, where what follows from it is there
pub record From {A B : Type 0} (o : Option A) (go : A → Option B) (y : B) : Type 0 where
  pub value : A
  pub is : o ≡ Some value
  pub then_is : go value ≡ Some y

pub from_value : {A B : Type 0} (o : Option A) (go : A → Option B) (y : B) → high.at_value o go ≡ Some y → From o go y
from_value None go y e = cc
from_value (Some x) go y e = record { value = x; is = refl; then_is = e }

-- a test that held
pub record Tested {A : Type 0} (b : Bool) (o : Option A) (x : A) : Type 0 where
  pub holds : b ≡ true
  pub is : o ≡ Some x

pub from_test : {A : Type 0} (b : Bool) (o : Option A) (x : A) → high.only_if b o ≡ Some x → Tested b o x
from_test false o x e = cc
from_test true o x e = record { holds = refl; is = e }

-- an element that a good run reads: the array that is meant, and what it holds
pub record Reads (passed : List ℕ) (w : high.World) (array : Array) (i v : ℕ) : Type 0 where
  pub object : ℕ
  pub number : high.object_number passed array.base ≡ Some object
  pub contents : high.Contents
  pub there_is : slice_get w.objects object ≡ Some contents
  pub kind : words.same_kind contents.kind array.kind ≡ true
  pub value : slice_index_or contents.elements i None ≡ Some v

pub reads : (passed : List ℕ) (w : high.World) (array : Array) (i v : ℕ) → high.at_value (high.array_of passed w array) (λ c. high.element c i) ≡ Some v → Reads passed w array i v
reads passed w array i v e =
    let a = from_value (high.array_of passed w array) (λ c. high.element c i) v e in
    let b = from_value (high.object_number passed array.base) (λ n. high.at_value (slice_get w.objects n) (λ c. high.only_if (words.same_kind c.kind array.kind) (Some c))) a.value a.is in
    let c = from_value (slice_get w.objects b.value) (λ c. high.only_if (words.same_kind c.kind array.kind) (Some c)) a.value b.then_is in
    let d = from_test (words.same_kind c.value.kind array.kind) (Some c.value) a.value c.then_is in
    let same : c.value ≡ a.value = same_Some c.value a.value d.is in
    record {
      object = b.value;
      number = b.is;
      contents = c.value;
      there_is = c.is;
      kind = d.holds;
      value = subst (λ x. high.element x i ≡ Some v) (sym same) a.then_is;
    }

pub index_within : {A : Type 0} (xs : List (Option A)) (i : ℕ) (v : A) → slice_index_or xs i None ≡ Some v → i < length xs
index_within [] i v e = cc
index_within (x ∷ xs) zero v e = omega arith
index_within (x ∷ xs) (suc i) v e = let h = index_within xs i v e in omega (arith, h)

-- kinds that have one number take equally many bytes
abbrev scale_by : ℕ → ℕ
scale_by n = if n == 4 then 2 else if nat_lt 1 n then 1 else 0

scale_of-number : (k : HighKind) → scale_of k ≡ scale_by (words.kind_number k)
scale_of-number kinds.Unsigned8 = refl
scale_of-number kinds.Signed8 = refl
scale_of-number kinds.Unsigned16 = refl
scale_of-number kinds.Signed16 = refl
scale_of-number kinds.Word = refl

number_same : (a b : ℕ) → (a == b) ≡ true → a ≡ b
number_same a b t = grind (arith, nat_tests, t)

pub scale_same : (a b : HighKind) → words.same_kind a b ≡ true → scale_of a ≡ scale_of b
scale_same a b t = scale_of-number a ∙ ap scale_by (number_same (words.kind_number a) (words.kind_number b) t) ∙ sym (scale_of-number b)

-- an element at its offset
element_at : (k : HighKind) (c : Contents) (n i v : ℕ) → same_kind c.kind (kind_of k) ≡ true → IsAt k n i → slice_index_or c.elements i None ≡ Some v → element (kind_of k) n c ≡ Some v
element_at k c n i v same at value =
    ap (λ m. only_if (same_kind c.kind (kind_of k) && (n % m == 0)) (slice_index_or c.elements (n / m) None)) (kind_bytes-kind_of k)
    ∙ ap (λ b. only_if (b && (n % 2 ^ scale_of k == 0)) (slice_index_or c.elements (n / 2 ^ scale_of k) None)) same
    ∙ ap (λ m. only_if (true && (m == 0)) (slice_index_or c.elements (n / 2 ^ scale_of k) None)) at.whole
    ∙ ap (λ m. slice_index_or c.elements m None) at.place
    ∙ value

-- the array of a low run
pub object_there : (scope : Scope) (w : high.World) (u : World) (o : ℕ) (c : high.Contents) → MeetsWorld scope w u → slice_get w.objects o ≡ Some c → slice_get u.objects o ≡ Some (contents_of c)
object_there scope w u o c meets e =
    ap (λ os. slice_get os o) meets.objects ∙ slice_get-map contents_of w.objects o ∙ ap (option_map contents_of) e

pub kind_there : (a b : HighKind) → words.same_kind a b ≡ true → same_kind (kind_of a) (kind_of b) ≡ true
kind_there a b t = same_kind-kind_of a b ∙ t

pub at_place : (a b : HighKind) (i size : ℕ) → words.same_kind a b ≡ true → i < size → 2 ^ scale_of a * size ≤ 2 ^ 32 → IsAt b (bytes (scale_of b) i) i
at_place a b i size t inside fits = bytes_at b i size inside (subst (λ k. 2 ^ k * size ≤ 2 ^ 32) (scale_same a b t) fits)

pub loaded_is : (scope : Scope) (passed : List ℕ) (w : high.World) (u : World) (array : Array) (i v : ℕ) → MeetsWorld scope w u → (h : Reads passed w array i v) → loaded u.objects (kind_of array.kind) h.object (bytes (scale_of array.kind) i) ≡ Some v
loaded_is scope passed w u array i v meets h =
    let c = h.contents in
    let sound = meets.sound h.object c h.there_is in
    ap (λ o. there o (element (kind_of array.kind) (bytes (scale_of array.kind) i))) (object_there scope w u h.object c meets h.there_is)
    ∙ element_at array.kind (contents_of c) (bytes (scale_of array.kind) i) i v (kind_there c.kind array.kind h.kind)
    (at_place c.kind array.kind i (length c.elements) h.kind (index_within c.elements i v h.value) sound.size) h.value
