-- What a written place leaves as it was: other places, other frames, arrays, and what those that wait have.
use Rattle.std.proofs.Common.{◌≡◌, ℕ, suc, ◌+◌, ◌*◌, ◌<◌, ◌≤◌, Bool, true, false, List, [], ◌∷◌, length, Some, ap, ◌∙◌, arith}
use Rattle.std.specs.Prelude.{◌==◌, if◌then◌else◌, slice_get}
use Rattle.rv_core.specs.declared.row.Width.{Width}
use Rattle.rv_core.specs.declared.row.Width.TheVariants.{Word as Whole}
use Rattle.rv_core.specs.Arithmetic.{byte_count}
use Rattle.low_ir.specs.Arrays.{bytes_of}
use Rattle.low_ir.specs.declared.object.Kind.{Kind}
use Rattle.low_ir.specs.declared.object.Kind.TheVariants.{Unsigned8, Signed8, Unsigned16, Signed16, Word as Word'}
use Rattle.low_ir.specs.Kinds.{kind_bytes, width_of}
use Rattle.low_ir.specs.Code.{Object}
use Rattle.low_ir.specs.Effects.{Contents, is_member}
use Rattle.asm_program.specs.Frames.{frame_of, position, saved_at, home_at, slot_at, return_at, object_at}
use Rattle.simulation_relation.specs.Plans.{frame_size}
use Rattle.simulation_relation.specs.Layouts.{Layout}
use Rattle.simulation_relation.specs.Views.{View, IsArray, HasArrays}
use Rattle.simulation_relation.specs.Waiting.{Returns, PlacedWaiting, Rests, AreWaiting}
use Rattle.simulation_steps.proofs.Places.{within}

-- the place of a register in a list that has it
pub position-below : (xs : List ℕ) (q : ℕ) → is_member xs q ≡ true → position xs q < length xs
position-below [] q e = absurd cc
position-below (x ∷ xs) q e = by_test (x == q) e (λ h. position-below xs q h)
  where
    by_test : (b : Bool) → (if b then true else is_member xs q) ≡ true → (is_member xs q ≡ true → position xs q < length xs) → (if b then 0 else suc (position xs q)) < suc (length xs)
    by_test true e below = omega arith
    by_test false e below = let h = below e in omega arith

-- a word of function h's frame is read as before
abbrev pub SameWords : Layout → ℕ → View → View → Type 0
SameWords l h v w = (a : ℕ) → (frame_of l.memory h).at ≤ a → a + 4 ≤ (frame_of l.memory h).at + frame_size (frame_of l.memory h) → w.read Whole a ≡ v.read Whole a

-- those words of it that come before its slots
abbrev pub SameHead : Layout → ℕ → View → View → Type 0
SameHead l h v w = (a : ℕ) → (frame_of l.memory h).at ≤ a → a + 4 ≤ slot_at (frame_of l.memory h) 0 → w.read Whole a ≡ v.read Whole a

pub head_of_words : (l : Layout) (h : ℕ) (v w : View) → SameWords l h v w → SameHead l h v w
head_of_words l h v w same a from to = same a from (omega arith)

module _ (l : Layout) where
  pub saved_kept : (f : ℕ) (v w : View) → SameHead l f v w → (q : ℕ) → is_member (frame_of l.memory f).saved q ≡ true → w.read Whole (saved_at (frame_of l.memory f) q) ≡ v.read Whole (saved_at (frame_of l.memory f) q)
  saved_kept f v w same q e =
      let less = position-below (frame_of l.memory f).saved q e in
      same (saved_at (frame_of l.memory f) q) (omega arith) (omega arith)

  pub home_kept : (f : ℕ) (v w : View) → SameHead l f v w → (q : ℕ) → is_member (frame_of l.memory f).homes q ≡ true → w.read Whole (home_at (frame_of l.memory f) q) ≡ v.read Whole (home_at (frame_of l.memory f) q)
  home_kept f v w same q e =
      let less = position-below (frame_of l.memory f).homes q e in
      same (home_at (frame_of l.memory f) q) (omega arith) (omega arith)

  pub return_kept : (f : ℕ) (v w : View) → SameHead l f v w → w.read Whole (return_at (frame_of l.memory f)) ≡ v.read Whole (return_at (frame_of l.memory f))
  return_kept f v w same = same (return_at (frame_of l.memory f)) (omega arith) (omega arith)

  pub slot_kept : (f k : ℕ) (v w : View) → SameWords l f v w → k < (frame_of l.memory f).slots → w.read Whole (slot_at (frame_of l.memory f) k) ≡ v.read Whole (slot_at (frame_of l.memory f) k)
  slot_kept f k v w same less = same (slot_at (frame_of l.memory f) k) (omega arith) (omega arith)

  rests_kept : (x : PlacedWaiting) (g : ℕ) (v w : View) (after : ℕ → ℕ) (at : ℕ) → SameWords l x.frame.func v w → Rests l x g v after at → Rests l x g w after at
  rests_kept x g v w after at same r =
      let f = x.frame.func in
      record {
        called = r.called;
        room = r.room;
        slots = λ k y e.
            let less = within x.frame.store.slots k y e in
            let few = r.room.slots in
            slot_kept f k v w same (omega arith) ∙ r.slots k y e;
        registers = r.registers;
        parameters = r.parameters;
        args = r.args;
        note = r.note;
        homes = λ q y e parameter.
            let h = r.homes q y e parameter in
            (h.0, h.1, home_kept f v w (head_of_words l f v w same) q h.1 ∙ h.2);
        block = r.block;
        inside = r.inside;
        call = r.call;
        rest = r.rest;
      }

  pub returns_kept : (f : ℕ) (now : ℕ → ℕ) (v w : View) (after : ℕ → ℕ) → SameHead l f v w → Returns l f now v after → Returns l f now w after
  returns_kept f now v w after same r = record { saved = λ q e small. saved_kept f v w same q e ∙ r.saved q e small; other = r.other }

  -- those that wait have what they had, where the words of their frames are as before
  pub waits_kept : (xs : List PlacedWaiting) (g : ℕ) (v w : View) (after : ℕ → ℕ) (ats : List ℕ) → ((h : ℕ) → g < h → h < length l.program.functions → SameWords l h v w) → AreWaiting l xs g v after ats → AreWaiting l xs g w after ats
  waits_kept xs g v w after [] same h = absurd (nobody xs h)
    where
      nobody : (ys : List PlacedWaiting) → AreWaiting l ys g v after [] → ⊥
      nobody [] e = e
      nobody (y ∷ ys) e = e
  waits_kept [] g v w after (at ∷ ats) same h = h
  waits_kept (x ∷ xs) g v w after (at ∷ ats) same (rests, (later, returns, back, waits)) =
      let f = x.frame.func in
      let called = rests.called in
      let words = same f called rests.inside.there in (
        rests_kept x g v w after at words rests,
        (
          later,
          returns_kept f after v w later (head_of_words l f v w words) returns,
          return_kept f v w (head_of_words l f v w words) ∙ back,
          waits_kept xs f v w later ats (λ h more there. same h (omega arith) there) waits,
        ),
      )

  -- an element lies in its array
  pub element_within : (kind : Kind) (i n : ℕ) → i < n → kind_bytes kind * i + byte_count (width_of kind) ≤ kind_bytes kind * n
  element_within Unsigned8 i n h = omega arith
  element_within Signed8 i n h = omega arith
  element_within Unsigned16 i n h = omega arith
  element_within Signed16 i n h = omega arith
  element_within Word' i n h = omega arith

  -- numbers in an array are read as before
  abbrev pub SameObject : ℕ → Object → View → View → Type 0
  SameObject o x v w = (y : Width) (a : ℕ) → object_at l.memory o ≤ a → a + byte_count y ≤ object_at l.memory o + bytes_of x → w.read y a ≡ v.read y a

  pub array_kept : (o : ℕ) (x : Object) (c : Contents) (v w : View) → SameObject o x v w → IsArray l.memory o x c v → IsArray l.memory o x c w
  array_kept o x c v w same r =
      record {
        kind = r.kind;
        storage = r.storage;
        size = r.size;
        elements = λ i u e.
            let less = within c.elements i u e in
            let size = r.size in
            let inside = element_within c.kind i x.size (omega arith) in
            let kinds : kind_bytes c.kind * x.size ≡ bytes_of x = ap (λ k. kind_bytes k * x.size) r.kind in
            let h = r.elements i u e in
            (same (width_of c.kind) (object_at l.memory o + kind_bytes c.kind * i) (omega arith) (omega arith) ∙ h.0, h.1);
      }

  pub arrays_kept : (cs : List Contents) (v w : View) → ((o : ℕ) (x : Object) → slice_get l.program.objects o ≡ Some x → SameObject o x v w) → HasArrays l.memory l.program.objects cs v → HasArrays l.memory l.program.objects cs w
  arrays_kept cs v w same h o c e =
      let r = h o c e in
      (r.0, r.1, array_kept o r.0 c v w (same o r.0 r.1) r.2)
