-- Stores into arrays in both forms.
use Rattle.std.proofs.Common.{◌≡◌, ◌≢◌, ℕ, ◌-◌, ◌*◌, ◌/◌, ◌%◌, ◌^◌, ◌<◌, ◌≤◌, true, false, List, length, pos, negsuc, Option, Some, None, refl, sym, ap, ◌∙◌, subst, ⊎_elim, arith, get_or-set_same, get_or-set_other, length-set}
use Rattle.std.specs.Prelude.{◌==◌, ◌&&◌, if◌then◌else◌, nat_lt, slice_get, slice_index_or, slice_set}
use Rattle.std.proofs.lemmas.Bool.{and_parts, cases_eq, cases_lt, ltb-true}
use Rattle.std.proofs.lemmas.List.{map-set}
use Rattle.std.proofs.lemmas.Bool.Decides.{nat_tests}
use Rattle.std.proofs.lemmas.Option.{same_Some, slice_get_within, slice_get-get_or, get_or_from_slice_get}
use Rattle.wcc_base.specs.Words.{wrapped, sign_filled}
use Rattle.wcc_base.specs.Signs.{signed_of}
use Rattle.high_ir.specs.declared.object.Kind.{Kind as HighKind}
use Rattle.high_ir.specs.declared.object.Kind.TheVariants as kinds
use Rattle.high_ir.specs.declared.object.Storage.{Storage as HighStorage}
use Rattle.high_ir.specs.declared.object.Storage.TheVariants as storages
use Rattle.high_ir.specs.declared.object.Array.{Array}
use Rattle.high_ir.specs.Words as words
use Rattle.high_ir.specs.Meaning as high
use Rattle.high_ir.proofs.Words.{converted_below}
use Rattle.low_ir.specs.Kinds.{converted, same_kind}
use Rattle.low_ir.specs.Effects.{Contents, World, there, only_if, can_store, with_element, with_objects, stored}
use Rattle.lower_definition.specs.Objects.{kind_of, scale_of, storage_of}
use Rattle.lower_definition.specs.Values.{Scope, bytes}
use Rattle.lower_values.specs.Meeting.{contents_of, AreWords, IsSound, MeetsWorld}
use Rattle.lower_values.proofs.Elements.{from_value, from_test, object_there, kind_there, at_place}
use Rattle.lower_values.proofs.Kept.{keeps, converted-keeps}
use Rattle.lower_values.proofs.Widths.{IsAt, kind_bytes-kind_of, converted-kind_of}

-- what a kind keeps is told by its number
abbrev keeps_by : ℕ → ℕ → ℕ
keeps_by n w =
    if n == 0 then w % 2 ^ 8 else if n == 1 then sign_filled 8 w else if n == 2 then w % 2 ^ 16 else if n == 3 then sign_filled 16 w else w

keeps-number : (k : HighKind) (w : ℕ) → keeps k w ≡ keeps_by (words.kind_number k) w
keeps-number kinds.Unsigned8 w = refl
keeps-number kinds.Signed8 w = refl
keeps-number kinds.Unsigned16 w = refl
keeps-number kinds.Signed16 w = refl
keeps-number kinds.Word w = refl

converted-number : (k : HighKind) (w : ℕ) → words.converted k w ≡ keeps_by (words.kind_number k) w
converted-number k w = converted-keeps k w ∙ keeps-number k w

number_same : (a b : ℕ) → (a == b) ≡ true → a ≡ b
number_same a b t = grind (arith, nat_tests, t)

pub converted_same : (a b : HighKind) (w : ℕ) → words.same_kind a b ≡ true → words.converted a w ≡ words.converted b w
converted_same a b w t = converted-number a w ∙ ap (λ n. keeps_by n w) (number_same (words.kind_number a) (words.kind_number b) t) ∙ sym (converted-number b w)

-- the low bits of a filled number
filled_back : (x : ℕ) → x < 2 ^ 8 → wrapped (signed_of 8 x) % 2 ^ 8 ≡ x
filled_back x small = ⊎_elim
    (λ (less : x < 2 ^ 7). let t : nat_lt x (2 ^ 7) ≡ true = grind (arith, nat_tests, less) in ap (λ b. wrapped (if b then pos x else negsuc (2 ^ 8 - 1 - x)) % 2 ^ 8) t ∙ (let q : x % 2 ^ 32 % 2 ^ 8 ≡ x = omega (arith, small) in q))
    (λ (more : 2 ^ 7 ≤ x). let t : nat_lt x (2 ^ 7) ≡ false = grind (arith, nat_tests, more) in ap (λ b. wrapped (if b then pos x else negsuc (2 ^ 8 - 1 - x)) % 2 ^ 8) t ∙ (let q : (2 ^ 32 - 1 - (2 ^ 8 - 1 - x) % 2 ^ 32) % 2 ^ 8 ≡ x = omega (arith, small, more) in q))
    (cases_lt x (2 ^ 7))

filled_back16 : (x : ℕ) → x < 2 ^ 16 → wrapped (signed_of 16 x) % 2 ^ 16 ≡ x
filled_back16 x small = ⊎_elim
    (λ (less : x < 2 ^ 15). let t : nat_lt x (2 ^ 15) ≡ true = grind (arith, nat_tests, less) in ap (λ b. wrapped (if b then pos x else negsuc (2 ^ 16 - 1 - x)) % 2 ^ 16) t ∙ (let q : x % 2 ^ 32 % 2 ^ 16 ≡ x = omega (arith, small) in q))
    (λ (more : 2 ^ 15 ≤ x). let t : nat_lt x (2 ^ 15) ≡ false = grind (arith, nat_tests, more) in ap (λ b. wrapped (if b then pos x else negsuc (2 ^ 16 - 1 - x)) % 2 ^ 16) t ∙ (let q : (2 ^ 32 - 1 - (2 ^ 16 - 1 - x) % 2 ^ 32) % 2 ^ 16 ≡ x = omega (arith, small, more) in q))
    (cases_lt x (2 ^ 15))

-- a kind keeps what it kept
keeps_twice : (k : HighKind) (w : ℕ) → keeps k (keeps k w) ≡ keeps k w
keeps_twice kinds.Unsigned8 w = omega arith
keeps_twice kinds.Signed8 w = ap (λ n. wrapped (signed_of 8 n)) (filled_back (w % 2 ^ 8) (omega arith))
keeps_twice kinds.Unsigned16 w = omega arith
keeps_twice kinds.Signed16 w = ap (λ n. wrapped (signed_of 16 n)) (filled_back16 (w % 2 ^ 16) (omega arith))
keeps_twice kinds.Word w = refl

pub converted_twice : (k : HighKind) (w : ℕ) → words.converted k (words.converted k w) ≡ words.converted k w
converted_twice k w = converted-keeps k (words.converted k w) ∙ ap (keeps k) (converted-keeps k w) ∙ keeps_twice k w ∙ sym (converted-keeps k w)

can_store-storage_of : (s : HighStorage) → can_store (storage_of s) ≡ high.can_store s
can_store-storage_of storages.Constant = refl
can_store-storage_of storages.Global = refl
can_store-storage_of storages.Local = refl

-- an array with an element stored
abbrev pub with_stored : high.Contents → ℕ → ℕ → high.Contents
with_stored c i v = record { kind = c.kind; storage = c.storage; elements = slice_set c.elements i (Some (words.converted c.kind v)) }

-- a store that a good run makes
pub record Stores (passed : List ℕ) (w : high.World) (array : Array) (i v : ℕ) (w2 : high.World) : Type 0 where
  pub object : ℕ
  pub number : high.object_number passed array.base ≡ Some object
  pub contents : high.Contents
  pub there_is : slice_get w.objects object ≡ Some contents
  pub kind : words.same_kind contents.kind array.kind ≡ true
  pub can : high.can_store contents.storage ≡ true
  pub inside : i < length contents.elements
  pub is : high.with_array w object (with_stored contents i v) ≡ w2

pub stores : (passed : List ℕ) (w : high.World) (array : Array) (i v : ℕ) (w2 : high.World) → high.keep passed w array i v ≡ Some w2 → Stores passed w array i v w2
stores passed w array i v w2 e =
    let a = from_value (high.object_number passed array.base) (λ n. high.at_value (high.array_of passed w array) (λ c. high.at_value (high.stored c i v) (λ d. Some (high.with_array w n d)))) w2 e in
    let b = from_value (high.array_of passed w array) (λ c. high.at_value (high.stored c i v) (λ d. Some (high.with_array w a.value d))) w2 a.then_is in
    let c = from_value (high.stored b.value i v) (λ d. Some (high.with_array w a.value d)) w2 b.then_is in
    let n = from_value (high.object_number passed array.base) (λ n. high.at_value (slice_get w.objects n) (λ c. high.only_if (words.same_kind c.kind array.kind) (Some c))) b.value b.is in
    let o = from_value (slice_get w.objects n.value) (λ c. high.only_if (words.same_kind c.kind array.kind) (Some c)) b.value n.then_is in
    let k = from_test (words.same_kind o.value.kind array.kind) (Some o.value) b.value o.then_is in
    let one : n.value ≡ a.value = same_Some n.value a.value (sym n.is ∙ a.is) in
    let same : o.value ≡ b.value = same_Some o.value b.value k.is in
    let t = from_test (high.can_store b.value.storage && nat_lt i (length b.value.elements)) (Some (with_stored b.value i v)) c.value c.is in
    let parts = and_parts (high.can_store b.value.storage) (nat_lt i (length b.value.elements)) t.holds in
    record {
      object = a.value;
      number = a.is;
      contents = b.value;
      there_is = subst (λ m. slice_get w.objects m ≡ Some b.value) one (o.is ∙ ap Some same);
      kind = subst (λ (x : high.Contents). words.same_kind x.kind array.kind ≡ true) same k.holds;
      can = parts.0;
      inside = ltb-true i (length b.value.elements) parts.1;
      is = ap (high.with_array w a.value) (same_Some (with_stored b.value i v) c.value t.is) ∙ same_Some (high.with_array w a.value c.value) w2 c.then_is;
    }

-- an element is stored at its offset
with_element_at : (k : HighKind) (c : Contents) (n i w : ℕ) → same_kind c.kind (kind_of k) ≡ true → IsAt k n i → can_store c.storage ≡ true → i < length c.elements → with_element (kind_of k) n w c ≡ Some (record { kind = c.kind; storage = c.storage; elements = slice_set c.elements i (Some (converted (kind_of k) w)) })
with_element_at k c n i w same at can inside =
    let test : nat_lt i (length c.elements) ≡ true = grind (arith, nat_tests, inside) in
    let put : ℕ → Option Contents = λ m. Some (record { kind = c.kind; storage = c.storage; elements = slice_set c.elements m (Some (converted (kind_of k) w)) }) in
    ap (λ m. only_if ((same_kind c.kind (kind_of k) && (n % m == 0)) && can_store c.storage && nat_lt (n / m) (length c.elements)) (put (n / m))) (kind_bytes-kind_of k)
    ∙ ap (λ b. only_if ((b && (n % 2 ^ scale_of k == 0)) && can_store c.storage && nat_lt (n / 2 ^ scale_of k) (length c.elements)) (put (n / 2 ^ scale_of k))) same
    ∙ ap (λ m. only_if ((true && (m == 0)) && can_store c.storage && nat_lt (n / 2 ^ scale_of k) (length c.elements)) (put (n / 2 ^ scale_of k))) at.whole
    ∙ ap (λ b. only_if (true && b && nat_lt (n / 2 ^ scale_of k) (length c.elements)) (put (n / 2 ^ scale_of k))) can
    ∙ ap (λ m. only_if (true && true && nat_lt m (length c.elements)) (put m)) at.place
    ∙ ap (λ b. only_if (true && true && b) (put i)) test

-- a store in the low form, of a word that the kind keeps as it keeps v
pub stored_is : (scope : Scope) (passed : List ℕ) (w : high.World) (u : World) (array : Array) (i v x : ℕ) (w2 : high.World) → MeetsWorld scope w u → (h : Stores passed w array i v w2) → x < 2 ^ 32 → words.converted array.kind x ≡ words.converted array.kind v → stored u.objects (kind_of array.kind) h.object (bytes (scale_of array.kind) i) x ≡ Some (slice_set u.objects h.object (contents_of (with_stored h.contents i v)))
stored_is scope passed w u array i v x w2 meets h small keeps =
    let c = h.contents in
    let sound = meets.sound h.object c h.there_is in
    let n = bytes (scale_of array.kind) i in
    let word : converted (kind_of array.kind) x ≡ words.converted c.kind v = converted-kind_of array.kind x small ∙ keeps ∙ sym (converted_same c.kind array.kind v h.kind) in
    ap (λ o. there o (λ d. there (with_element (kind_of array.kind) n x d) (λ e. Some (slice_set u.objects h.object e)))) (object_there scope w u h.object c meets h.there_is)
    ∙ ap (λ o. there o (λ e. Some (slice_set u.objects h.object e)))
    (with_element_at array.kind (contents_of c) n i x (kind_there c.kind array.kind h.kind) (at_place c.kind array.kind i (length c.elements) h.kind h.inside sound.size) (can_store-storage_of c.storage ∙ h.can) h.inside)
    ∙ ap (λ m. Some (slice_set u.objects h.object (record { kind = kind_of c.kind; storage = storage_of c.storage; elements = slice_set c.elements i (Some m) }))) word

-- an element more is a word
words_set : (xs : List (Option ℕ)) (i v : ℕ) → i < length xs → v < 2 ^ 32 → AreWords xs → AreWords (slice_set xs i (Some v))
words_set xs i v inside small h j z e = ⊎_elim
    (λ (same : j ≡ i).
    let is : Some v ≡ Some z = sym (get_or-set_same xs i (Some v) None inside) ∙ ap (λ m. slice_index_or (slice_set xs i (Some v)) m None) (sym same) ∙ e in
    subst (λ n. n < 2 ^ 32) (same_Some v z is) small)
    (λ (other : j ≢ i). h j z (sym (get_or-set_other xs i j (Some v) None other) ∙ e))
    (cases_eq j i)

-- behind a store the worlds still meet
pub world_stored : (scope : Scope) (passed : List ℕ) (w : high.World) (u : World) (array : Array) (i v : ℕ) (w2 : high.World) → MeetsWorld scope w u → v < 2 ^ 32 → (h : Stores passed w array i v w2) → MeetsWorld scope w2 (with_objects u (slice_set u.objects h.object (contents_of (with_stored h.contents i v))))
world_stored scope passed w u array i v w2 meets small h =
    let c = h.contents in
    let d = with_stored c i v in
    let sound = meets.sound h.object c h.there_is in
    let within = slice_get_within w.objects h.object c h.there_is in
    let new : MeetsWorld scope (high.with_array w h.object d) (with_objects u (slice_set u.objects h.object (contents_of d))) = record {
      objects = ap (λ os. slice_set os h.object (contents_of d)) meets.objects ∙ sym (map-set contents_of w.objects h.object d);
      count = length-set w.objects h.object d ∙ meets.count;
      sound = λ o x e. ⊎_elim
          (λ (same : o ≡ h.object).
          let got : slice_get (slice_set w.objects h.object d) h.object ≡ Some x = subst (λ m. slice_get (slice_set w.objects h.object d) m ≡ Some x) same e in
          let is : d ≡ x = sym (get_or-set_same w.objects h.object d d within) ∙ get_or_from_slice_get (slice_set w.objects h.object d) h.object x d got in
          subst IsSound is (record { size = subst (λ n. 2 ^ scale_of c.kind * n ≤ 2 ^ 32) (sym (length-set c.elements i (Some (words.converted c.kind v)))) sound.size; words = words_set c.elements i (words.converted c.kind v) h.inside (converted_below c.kind v small) sound.words }))
          (λ (other : o ≢ h.object).
          let len = length-set w.objects h.object d in
          let low = slice_get_within (slice_set w.objects h.object d) o x e in
          meets.sound o x (slice_get-get_or w.objects o x (omega (arith, low, len)) ∙ ap Some (sym (get_or-set_other w.objects h.object o d x other) ∙ get_or_from_slice_get (slice_set w.objects h.object d) o x x e)))
          (cases_eq o h.object);
      input = meets.input;
      input_words = meets.input_words;
      output = meets.output;
    } in
    subst (λ x. MeetsWorld scope x (with_objects u (slice_set u.objects h.object (contents_of d)))) h.is new
