-- Pointers, and elements of arrays that are loaded and stored; bytes that are written.
use Rattle.std.proofs.Common.{◌≡◌, ◌≢◌, ◌⊎◌, inl, inr, ℕ, zero, suc, ◌+◌, ◌-◌, ◌*◌, ◌/◌, ◌%◌, ◌^◌, ◌<◌, ◌≤◌, Bool, true, false, List, [], ◌∷◌, ◌++◌, length, Option, Some, None, pos, negsuc, refl, sym, ap, ◌∙◌, arith}
use Rattle.std.specs.Prelude.{◌==◌, ◌&&◌, nat_lt, if◌then◌else◌, slice_get, slice_set, slice_index_or}
use Rattle.std.specs.List.{Contains}
use Rattle.std.proofs.lemmas.Bool.{and_parts, ltb-true}
use Rattle.std.proofs.lemmas.Bool.Decides.{nat_tests}
use Rattle.wcc_base.specs.Signs.{signed_of}
use Rattle.rv_core.specs.declared.regions.Region.{Region}
use Rattle.rv_core.specs.declared.regions.Region.TheVariants.{Flash, Spm, Ram}
use Rattle.rv_core.specs.Regions.{region_start, region_size}
use Rattle.rv_core.specs.declared.row.Width.{Width}
use Rattle.rv_core.specs.declared.row.Width.TheVariants.{Byte, Half, Word as Whole}
use Rattle.rv_core.specs.Arithmetic.{word as word_of_number, byte_count, extended}
use Rattle.low_ir.specs.declared.object.Kind.{Kind}
use Rattle.low_ir.specs.declared.object.Kind.TheVariants.{Unsigned8, Signed8, Unsigned16, Signed16, Word as Word'}
use Rattle.low_ir.specs.declared.places.Place.{Place}
use Rattle.low_ir.specs.declared.run.Value.{Value}
use Rattle.low_ir.specs.declared.run.Value.TheVariants.{Word, Pointer}
use Rattle.low_ir.specs.Kinds.{width_of, has_sign, kind_bytes, kind_number, same_kind, converted}
use Rattle.low_ir.specs.Code.{Base, Fixed, Through, Address}
use Rattle.low_ir.specs.Effects.{Contents, Did, base_reads, offset_reads, there, only_if, is_member, by_offset, resolved, is_element, element, can_store, takes, with_element}
use Rattle.low_ir.specs.Runs.{values_cons, values}
use Rattle.low_ir.specs.Places.{File, read_place, places}
use Rattle.claims_definition.specs.Touches.{named}
use Rattle.simulation_steps.proofs.Given.{Given}
use Rattle.simulation_steps.proofs.Accesses.{IsBase, IsOffset}
use Rattle.simulation_steps.proofs.Holding.{strict}

-- kinds by their numbers
abbrev kind_of : ℕ → Kind
kind_of zero = Unsigned8
kind_of (suc zero) = Signed8
kind_of (suc (suc zero)) = Unsigned16
kind_of (suc (suc (suc zero))) = Signed16
kind_of (suc (suc (suc (suc n)))) = Word'

kind_of_number : (k : Kind) → kind_of (kind_number k) ≡ k
kind_of_number Unsigned8 = refl
kind_of_number Signed8 = refl
kind_of_number Unsigned16 = refl
kind_of_number Signed16 = refl
kind_of_number Word' = refl

same-number : (a b : ℕ) → (a == b) ≡ true → a ≡ b
same-number a b e = grind (arith, nat_tests)

same_kind-is : (a b : Kind) → same_kind a b ≡ true → a ≡ b
same_kind-is a b e = sym (kind_of_number a) ∙ ap kind_of (same-number (kind_number a) (kind_number b) e) ∙ kind_of_number b

-- bytes of elements
pub offset_is : (kind : Kind) (n : ℕ) → n % kind_bytes kind ≡ 0 → kind_bytes kind * (n / kind_bytes kind) ≡ n
offset_is Unsigned8 n e = omega arith
offset_is Signed8 n e = omega arith
offset_is Unsigned16 n e = omega arith
offset_is Signed16 n e = omega arith
offset_is Word' n e = omega arith

pub aligned_sum : (kind : Kind) (a i : ℕ) → a % 4 ≡ 0 → (a + kind_bytes kind * i) % byte_count (width_of kind) ≡ 0
aligned_sum Unsigned8 a i e = omega arith
aligned_sum Signed8 a i e = omega arith
aligned_sum Unsigned16 a i e = omega arith
aligned_sum Signed16 a i e = omega arith
aligned_sum Word' a i e = omega arith

pub elements_apart : (kind : Kind) (a i j : ℕ) → i ≢ j → (a + kind_bytes kind * i + byte_count (width_of kind) ≤ a + kind_bytes kind * j) ⊎ (a + kind_bytes kind * j + byte_count (width_of kind) ≤ a + kind_bytes kind * i)
elements_apart kind a i j n = by_order kind (strict i j n)
  where
    by_order : (kind : Kind) → (i < j) ⊎ (j < i) → (a + kind_bytes kind * i + byte_count (width_of kind) ≤ a + kind_bytes kind * j) ⊎ (a + kind_bytes kind * j + byte_count (width_of kind) ≤ a + kind_bytes kind * i)
    by_order Unsigned8 (inl h) = inl (omega arith)
    by_order Signed8 (inl h) = inl (omega arith)
    by_order Unsigned16 (inl h) = inl (omega arith)
    by_order Signed16 (inl h) = inl (omega arith)
    by_order Word' (inl h) = inl (omega arith)
    by_order Unsigned8 (inr h) = inr (omega arith)
    by_order Signed8 (inr h) = inr (omega arith)
    by_order Unsigned16 (inr h) = inr (omega arith)
    by_order Signed16 (inr h) = inr (omega arith)
    by_order Word' (inr h) = inr (omega arith)

-- what a kind makes of a word
pub converted-as : (kind : Kind) (w : ℕ) → extended (width_of kind) (has_sign kind) (w % 2 ^ (8 * kind_bytes kind)) ≡ converted kind w
unfolding converted
converted-as kind w = refl

byte-signed : (n : ℕ) → n < 2 ^ 8 → (word_of_number (signed_of 8 n) < 2 ^ 32) × (word_of_number (signed_of 8 n) % 2 ^ 8 ≡ n)
byte-signed n h = by_sign (nat_lt n (2 ^ 7)) refl
  where
    by_sign : (b : Bool) → nat_lt n (2 ^ 7) ≡ b → (word_of_number (if b then pos n else negsuc (2 ^ 8 - 1 - n)) < 2 ^ 32) × (word_of_number (if b then pos n else negsuc (2 ^ 8 - 1 - n)) % 2 ^ 8 ≡ n)
    by_sign true e = (omega arith, omega arith)
    by_sign false e = (omega arith, omega arith)

half-signed : (n : ℕ) → n < 2 ^ 16 → (word_of_number (signed_of 16 n) < 2 ^ 32) × (word_of_number (signed_of 16 n) % 2 ^ 16 ≡ n)
half-signed n h = by_sign (nat_lt n (2 ^ 15)) refl
  where
    by_sign : (b : Bool) → nat_lt n (2 ^ 15) ≡ b → (word_of_number (if b then pos n else negsuc (2 ^ 16 - 1 - n)) < 2 ^ 32) × (word_of_number (if b then pos n else negsuc (2 ^ 16 - 1 - n)) % 2 ^ 16 ≡ n)
    by_sign true e = (omega arith, omega arith)
    by_sign false e = (omega arith, omega arith)

pub converted-small : (kind : Kind) (w : ℕ) → converted kind w < 2 ^ 32
unfolding converted extended
converted-small Unsigned8 w = omega arith
converted-small Signed8 w = (byte-signed (w % 2 ^ 8) (omega arith)).0
converted-small Unsigned16 w = omega arith
converted-small Signed16 w = (half-signed (w % 2 ^ 16) (omega arith)).0
converted-small Word' w = omega arith

pub converted-low : (kind : Kind) (w : ℕ) → converted kind w % 2 ^ (8 * kind_bytes kind) ≡ w % 2 ^ (8 * kind_bytes kind)
unfolding converted extended
converted-low Unsigned8 w = omega arith
converted-low Signed8 w = (byte-signed (w % 2 ^ 8) (omega arith)).1
converted-low Unsigned16 w = omega arith
converted-low Signed16 w = (half-signed (w % 2 ^ 16) (omega arith)).1
converted-low Word' w = omega arith

pub converted-again : (kind : Kind) (w : ℕ) → converted kind (converted kind w) ≡ converted kind w
converted-again kind w = sym (converted-as kind (converted kind w)) ∙ ap (λ n. extended (width_of kind) (has_sign kind) n) (converted-low kind w) ∙ converted-as kind w

pub width-some : (w : Width) → 0 < byte_count w
width-some Byte = omega arith
width-some Half = omega arith
width-some Whole = omega arith

-- addresses of regions are words
pub region-small : (r : Region) → region_start r + region_size r ≤ 2 ^ 32
region-small Flash = omega arith
region-small Spm = omega arith
region-small Ram = omega arith

-- what an address stands for, where it stands for anything
pub record IsResolved (g : Given) (file : File) (y : Base Place) (o : Option Place) (d : ℕ) (go : ℕ → ℕ → Option Did) (did : Did) : Type 0 where
  pub object : ℕ
  pub start : ℕ
  pub offset : ℕ
  pub based : IsBase g file y object start
  pub claimed : Contains (named g.layout.program y) object
  pub moved : IsOffset g file o offset
  pub goes : go object ((start + offset + d) % 2 ^ 32) ≡ Some did

-- a member is an element
pub member_contains : (xs : List ℕ) (q : ℕ) → is_member xs q ≡ true → Contains xs q
member_contains [] q e = cc
member_contains (x ∷ xs) q e = by_test (x == q) refl e (member_contains xs q)
  where
    by_test : (b : Bool) → (x == q) ≡ b → (if b then true else is_member xs q) ≡ true → (is_member xs q ≡ true → Contains xs q) → Contains (x ∷ xs) q
    by_test true t z go = (0, omega arith, same-number x q t)
    by_test false t z go = let h = go z in (suc h.0, omega (arith, h.1), h.2)

abbrev address_with : Base Place → Option Place → ℕ → Address Place
address_with y o d = record { base = y; offset = o; displacement = d }

module _ (g : Given) (file : File) (d : ℕ) (go : ℕ → ℕ → Option Did) (did : Did) where
  abbrev claims : List (List ℕ)
  claims = g.layout.program.claims

  offset_of : (y : Base Place) (q n : ℕ) (p : Place) (o : Option Value) → read_place file p ≡ o → IsBase g file y q n → Contains (named g.layout.program y) q → there (values_cons o (Some [])) (λ xs. by_offset (Some p) xs (λ w. go q ((n + w + d) % 2 ^ 32))) ≡ Some did → IsResolved g file y (Some p) d go did
  offset_of y q n p None e is has h = absurd cc
  offset_of y q n p (Some (Pointer a b)) e is has h = absurd cc
  offset_of y q n p (Some (Word w)) e is has h = record { object = q; start = n; offset = w; based = is; claimed = has; moved = e; goes = h }

  pointer_of : (x : Place) (claim : ℕ) (o : Option Value) → read_place file x ≡ o → there (values_cons o (Some [])) (λ xs. resolved claims (address_with (Through x claim) None d) xs go) ≡ Some did → IsResolved g file (Through x claim) None d go did
  pointer_of x claim None e h = absurd cc
  pointer_of x claim (Some (Word w)) e h = absurd cc
  pointer_of x claim (Some (Pointer q n)) e h = by_claim (is_member (slice_index_or claims claim []) q) refl h
    where
      by_claim : (b : Bool) → is_member (slice_index_or claims claim []) q ≡ b → only_if b (go q ((n + 0 + d) % 2 ^ 32)) ≡ Some did → IsResolved g file (Through x claim) None d go did
      by_claim false m z = absurd cc
      by_claim true m z = record { object = q; start = n; offset = 0; based = e; claimed = member_contains (slice_index_or claims claim []) q m; moved = refl; goes = z }

  both_of : (x : Place) (claim : ℕ) (p : Place) (o c : Option Value) → read_place file x ≡ o → read_place file p ≡ c → there (values_cons o (values_cons c (Some []))) (λ xs. resolved claims (address_with (Through x claim) (Some p) d) xs go) ≡ Some did → IsResolved g file (Through x claim) (Some p) d go did
  both_of x claim p None c e1 e2 h = absurd cc
  both_of x claim p (Some a) None e1 e2 h = absurd cc
  both_of x claim p (Some (Word w)) (Some c) e1 e2 h = absurd cc
  both_of x claim p (Some (Pointer q n)) (Some c) e1 e2 h = by_claim (is_member (slice_index_or claims claim []) q) refl h
    where
      by_claim : (b : Bool) → is_member (slice_index_or claims claim []) q ≡ b → only_if b (by_offset (Some p) (c ∷ []) (λ w. go q ((n + w + d) % 2 ^ 32))) ≡ Some did → IsResolved g file (Through x claim) (Some p) d go did
      by_claim false m z = absurd cc
      by_claim true m z = offset_of (Through x claim) q n p (Some c) e2 e1 (member_contains (slice_index_or claims claim []) q m) z

  -- each address that stands for something is one of an object
  pub is_resolved : (y : Base Place) (o : Option Place) → there (values places file (base_reads y ++ offset_reads o)) (λ xs. resolved claims (address_with y o d) xs go) ≡ Some did → IsResolved g file y o d go did
  is_resolved (Fixed q) None h = record { object = q; start = 0; offset = 0; based = (refl, refl); claimed = (0, omega arith, refl); moved = refl; goes = h }
  is_resolved (Fixed q) (Some p) h = offset_of (Fixed q) q 0 p (read_place file p) refl (refl, refl) (0, omega arith, refl) h
  is_resolved (Through x claim) None h = pointer_of x claim (read_place file x) refl h
  is_resolved (Through x claim) (Some p) h = both_of x claim p (read_place file x) (read_place file p) refl refl h

-- an element that is there
pub record IsElement (objects : List Contents) (kind : Kind) (q n : ℕ) (w : ℕ) : Type 0 where
  pub contents : Contents
  pub there : slice_get objects q ≡ Some contents
  pub kind_is : contents.kind ≡ kind
  pub aligned : n % kind_bytes kind ≡ 0
  pub value : slice_index_or contents.elements (n / kind_bytes kind) None ≡ Some w

pub is_loaded : (objects : List Contents) (kind : Kind) (q n w : ℕ) (o : Option Contents) → slice_get objects q ≡ o → there o (element kind n) ≡ Some w → IsElement objects kind q n w
is_loaded objects kind q n w None e h = absurd cc
is_loaded objects kind q n w (Some c) e h = by_test (is_element kind n c) refl h
  where
    by_test : (b : Bool) → is_element kind n c ≡ b → only_if b (slice_index_or c.elements (n / kind_bytes kind) None) ≡ Some w → IsElement objects kind q n w
    by_test false t z = absurd cc
    by_test true t z =
        let parts = and_parts (same_kind c.kind kind) (n % kind_bytes kind == 0) t in
        record { contents = c; there = e; kind_is = same_kind-is c.kind kind parts.0; aligned = same-number (n % kind_bytes kind) 0 parts.1; value = z }

-- an element that can be stored to
pub record IsTaken (objects : List Contents) (kind : Kind) (q n w : ℕ) (after : List Contents) : Type 0 where
  pub contents : Contents
  pub there : slice_get objects q ≡ Some contents
  pub kind_is : contents.kind ≡ kind
  pub aligned : n % kind_bytes kind ≡ 0
  pub may_store : can_store contents.storage ≡ true
  pub inside : n / kind_bytes kind < length contents.elements
  pub is : after ≡ slice_set objects q (record { kind = contents.kind; storage = contents.storage; elements = slice_set contents.elements (n / kind_bytes kind) (Some (converted kind w)) })

pub is_stored : (objects : List Contents) (kind : Kind) (q n w : ℕ) (after : List Contents) (o : Option Contents) → slice_get objects q ≡ o → there o (λ c. there (with_element kind n w c) (λ x. Some (slice_set objects q x))) ≡ Some after → IsTaken objects kind q n w after
is_stored objects kind q n w after None e h = absurd cc
is_stored objects kind q n w after (Some c) e h = by_test (takes kind n c) refl h
  where
    by_test : (b : Bool) → takes kind n c ≡ b → there (only_if b (Some (record { kind = c.kind; storage = c.storage; elements = slice_set c.elements (n / kind_bytes kind) (Some (converted kind w)) }))) (λ x. Some (slice_set objects q x)) ≡ Some after → IsTaken objects kind q n w after
    by_test false t z = absurd cc
    by_test true t z =
        let first = and_parts (is_element kind n c && can_store c.storage) (nat_lt (n / kind_bytes kind) (length c.elements)) t in
        let both = and_parts (is_element kind n c) (can_store c.storage) first.0 in
        let parts = and_parts (same_kind c.kind kind) (n % kind_bytes kind == 0) both.0 in
        record {
          contents = c;
          there = e;
          kind_is = same_kind-is c.kind kind parts.0;
          aligned = same-number (n % kind_bytes kind) 0 parts.1;
          may_store = both.1;
          inside = ltb-true (n / kind_bytes kind) (length c.elements) first.1;
          is = cc;
        }
