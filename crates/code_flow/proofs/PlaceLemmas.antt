-- Places and addresses are each other's inverse, and instructions stand at places.
use Rattle.std.proofs.Common.{rules, ◌≡◌, ◌≢◌, ℕ, ◌+◌, ◌-◌, ◌%◌, ◌<◌, ◌≤◌, arith, refl, List, [], ◌∷◌, length, Bool, true, false, Option, Some, None, inl, inr, ◌⊎◌}
use Rattle.std.specs.Prelude.{◌==◌, ◌&&◌, nat_le, if◌then◌else◌, IsTrue}
use Rattle.std.proofs.lemmas.Bool.{and_parts}
use Rattle.std.proofs.lemmas.Bool.Decides.{nat_tests}
use Rattle.rv_core.specs.declared.image.Segment.{Segment}
use Rattle.rv_core.specs.declared.regions.Region.TheVariants.{Flash, Spm}
use Rattle.rv_core.specs.declared.row.Width.TheVariants.{Word}
use Rattle.rv_core.specs.Instructions.{Instruction}
use Rattle.rv_core.specs.Regions.{region_of}
use Rattle.rv_core.specs.Images.{Image, IsSegment, AreSegments, AreLoadable}
use Rattle.rv_core.specs.Memory.{block_of, loaded, holds_span, number_at, read_from}
use Rattle.rv_core.specs.Machine.{fetched}
use Rattle.rv_core.specs.Code.{decoded, word_in, instruction_in}
use Rattle.rv_core.proofs.Framing.{block_of-length}
use Rattle.code_flow_system.specs.Claims.{is_aligned}
use Rattle.code_flow_system.specs.Systems.{IsPlaced}
use Rattle.code_flow.specs.Places.{place_of, address_at, all_places}

pub place-address : (p : ℕ) → p < all_places → place_of (address_at p) ≡ Some p
place-address p lt = grind (arith, nat_tests)

pub address-place : (a p : ℕ) → place_of a ≡ Some p → address_at p ≡ a
address-place a p h = grind (arith, nat_tests)

-- a whole word from the address on lies in flash or in the scratchpad
pub record IsWord (a : ℕ) : Type 0 where
  pub aligned : is_aligned a ≡ true
  pub lies : (a + 4 ≤ 0x80_0000) ⊎ ((0x1000_0000 ≤ a) × (a + 4 ≤ 0x1001_0000))

-- a word that a segment of code holds
record IsHeld (a : ℕ) (s : Segment) : Type 0 where
  valid : IsSegment s
  exec : s.exec ≡ true
  from : s.at ≤ a
  to : a + 4 ≤ s.at + s.size

held_by : (a : ℕ) (s : Segment) → IsSegment s → ((block_of s).exec && holds_span (block_of s) a 4) ≡ true → IsHeld a s
held_by a s valid h =
    let both = and_parts s.exec (holds_span (block_of s) a 4) h in
    let span = and_parts (nat_le s.at a) (nat_le (a + 4) (s.at + length (block_of s).bytes)) both.1 in
    let long = block_of-length s valid.filled in
    record { valid = valid; exec = both.0; from = le_from s.at a span.0; to = let e = le_from (a + 4) (s.at + length (block_of s).bytes) span.1 in omega (arith, e, long) }
  where
    le_from : (m n : ℕ) → nat_le m n ≡ true → m ≤ n
    le_from m n h = grind (arith, nat_tests)

found : (ss : List Segment) (a w : ℕ) → AreSegments ss → read_from (λ b. b.exec) Word (loaded ss) a ≡ Some w → (s : Segment) × IsHeld a s
found [] a w valid h = cc
found (s ∷ ss) a w valid h = by_test ((block_of s).exec && holds_span (block_of s) a 4) refl h (found ss a w valid.1)
  where
    by_test : (b : Bool) → ((block_of s).exec && holds_span (block_of s) a 4) ≡ b → (if b then Some (number_at Word (block_of s).bytes (a - (block_of s).at)) else read_from (λ b. b.exec) Word (loaded ss) a) ≡ Some w →
        (read_from (λ b. b.exec) Word (loaded ss) a ≡ Some w → (r : Segment) × IsHeld a r) → (r : Segment) × IsHeld a r
    by_test true e is later = (s, held_by a s valid.0 e)
    by_test false e is later = later is

is_true : (b : Bool) → b ≡ true → IsTrue b
is_true b h = search rules

word_of_segment : (a : ℕ) (s : Segment) → is_aligned a ≡ true → IsHeld a s → IsWord a
word_of_segment a s aligned h =
    let from = h.from in
    let to = h.to in
    let placed = h.valid.placed (omega arith) in
    record {
      aligned = aligned;
      lies = elim placed.region [
        | inl flash ↦ let low = flash.from in let high = flash.to in inl (omega arith)
        | inr rest ↦ elim rest [
          | inl spm ↦ let low = spm.from in let high = spm.to in inr (omega arith, omega arith)
          | inr ram ↦ absurd (placed.exec (is_true s.exec h.exec) ram)
        ]
      ];
    }

fetched_word : (ss : List Segment) (a w : ℕ) → AreSegments ss → fetched (loaded ss) a ≡ Some w → IsWord a
unfolding fetched
fetched_word ss a w valid h = by_test (a % 4 == 0) refl h
  where
    by_test : (b : Bool) → (a % 4 == 0) ≡ b → (if b then read_from (λ b. b.exec) Word (loaded ss) a else None) ≡ Some w → IsWord a
    by_test true e is = let s = found ss a w valid is in word_of_segment a s.0 e s.1
    by_test false e is = cc

-- an instruction of an image stands at such a word
pub instruction_word : (image : Image) (a : ℕ) (i : Instruction) → AreLoadable image.segments → instruction_in image a ≡ Some i → IsWord a
instruction_word image a i loadable h = by_word (word_in image a) refl h
  where
    by_word : (o : Option ℕ) → word_in image a ≡ o → decoded o ≡ Some i → IsWord a
    by_word None e is = cc
    by_word (Some w) e is = fetched_word image.segments a w loadable.each e

pub word_placed : (a : ℕ) → IsWord a → place_of a ≢ None
word_placed a h none = elim h.lies [
  | inl flash ↦ in_flash a h.aligned flash none
  | inr spm ↦ in_spm a h.aligned spm.0 spm.1 none
]
  where
    in_flash : (a : ℕ) → is_aligned a ≡ true → a + 4 ≤ 0x80_0000 → place_of a ≢ None
    in_flash a h k e = grind (arith, nat_tests)

    in_spm : (a : ℕ) → is_aligned a ≡ true → 0x1000_0000 ≤ a → a + 4 ≤ 0x1001_0000 → place_of a ≢ None
    in_spm a h k l e = grind (arith, nat_tests)

pub word_region : (a : ℕ) → IsWord a → IsPlaced a
word_region a h = record {
  aligned = h.aligned;
  region = elim h.lies [
    | inl flash ↦ inl (in_flash a flash)
    | inr spm ↦ inr (in_spm a spm.0 spm.1)
  ];
}
  where
    in_flash : (a : ℕ) → a + 4 ≤ 0x80_0000 → region_of a ≡ Some Flash
    in_flash a k = grind (arith, nat_tests)

    in_spm : (a : ℕ) → 0x1000_0000 ≤ a → a + 4 ≤ 0x1001_0000 → region_of a ≡ Some Spm
    in_spm a k l = grind (arith, nat_tests)

-- what has no place has no instruction
pub stands_at_places : (image : Image) (a : ℕ) → AreLoadable image.segments → place_of a ≡ None → instruction_in image a ≡ None
stands_at_places image a loadable none = by_fetch (instruction_in image a) refl
  where
    by_fetch : (o : Option Instruction) → instruction_in image a ≡ o → o ≡ None
    by_fetch None e = refl
    by_fetch (Some i) e = absurd (word_placed a (instruction_word image a i loadable e) none)
