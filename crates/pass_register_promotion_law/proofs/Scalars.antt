-- Scalars in memory, and in registers.
use Rattle.std.proofs.Common.{◌≡◌, ℕ, suc, ◌+◌, ◌<◌, ◌≤◌, Bool, true, false, List, [], ◌∷◌, length, Option, Some, None, refl, sym, ap, ◌∙◌, arith, get_or-set_other}
use Rattle.std.specs.Prelude.{◌==◌, if◌then◌else◌, nat_lt, slice_get, slice_index_or, slice_set}
use Rattle.std.proofs.lemmas.Bool.{eq-eqb, eqb-true, eqb-false, ltb-true}
use Rattle.low_ir.specs.declared.object.Kind.{Kind}
use Rattle.low_ir.specs.declared.object.Kind.TheVariants.{Unsigned8, Signed8, Unsigned16, Signed16, Word as WordKind}
use Rattle.low_ir.specs.declared.object.Storage.TheVariants.{Global}
use Rattle.low_ir.specs.declared.run.Value.{Value}
use Rattle.low_ir.specs.declared.run.Value.TheVariants.{Word}
use Rattle.low_ir.specs.Effects.{Contents, element, with_element}
use Rattle.low_ir.specs.Kinds.{converted}
use Rattle.low_ir.specs.Runs.{Bank, set_in, virtual, write_to}
use Rattle.pass_common_subexpressions_law.proofs.Effects.{get-set_other, get-set_same, some_same}
use Rattle.pass_register_promotion_law.specs.Promoting.{Resident, register_of}
use Rattle.pass_register_promotion_law.specs.Suiting.{AreDistinct, is_only_read, is_resident, kind_in}

-- a global that is no array, in memory
abbrev pub scalar : Kind → Option ℕ → Contents
scalar kind e = record { kind = kind; storage = Global; elements = e ∷ [] }

-- an element of it
pub only_element : (k : Kind) (e : Option ℕ) → element k 0 (scalar k e) ≡ e
only_element Unsigned8 e = refl
only_element Signed8 e = refl
only_element Unsigned16 e = refl
only_element Signed16 e = refl
only_element WordKind e = refl

pub only_stored : (k : Kind) (w : ℕ) (e : Option ℕ) → with_element k 0 w (scalar k e) ≡ Some (scalar k (Some (converted k w)))
only_stored Unsigned8 w e = refl
only_stored Signed8 w e = refl
only_stored Unsigned16 w e = refl
only_stored Signed16 w e = refl
only_stored WordKind w e = refl

-- which holds a word
pub record HasWord (objects : List Contents) (o : ℕ) (kind : Kind) : Type 0 where
  pub word : ℕ
  pub kept : converted kind word ≡ word
  pub is : slice_get objects o ≡ Some (scalar kind (Some word))

-- a register holds what the object holds in the first memory; in the second one the object may hold an older word, if it is written
pub record IsHeld (t : Bank) (r : ℕ) (h : Resident) (objects others : List Contents) : Type 0 where
  pub word : ℕ
  pub element : Option ℕ
  pub kept : converted h.kind word ≡ word
  pub here : slice_get objects h.object ≡ Some (scalar h.kind (Some word))
  pub there : slice_get others h.object ≡ Some (scalar h.kind element)
  pub same : h.written ≡ false → element ≡ Some word
  pub register : slice_index_or t r None ≡ Some (Word word)

-- registers from r on do
abbrev pub AllHeld : Bank → ℕ → List Resident → List Contents → List Contents → Type 0
AllHeld t r [] objects others = Unit {0}
AllHeld t r (h ∷ hs) objects others = IsHeld t r h objects others × AllHeld t (suc r) hs objects others

pub first_resident : (h : Resident) (hs : List Resident) → is_resident (h ∷ hs) h.object ≡ true
first_resident h hs = ap (λ b. if b then true else is_resident hs h.object) (eq-eqb h.object h.object refl)

pub later_resident : (h : Resident) (hs : List Resident) (o : ℕ) → is_resident hs o ≡ true → is_resident (h ∷ hs) o ≡ true
later_resident h hs o e = by_test (h.object == o)
  where
    by_test : (b : Bool) → (if b then true else is_resident hs o) ≡ true
    by_test true = refl
    by_test false = e

pub unlike : (b : Bool) → b ≡ true → b ≡ false → ⊥
unlike true e f = cc
unlike false e f = cc

-- what is no resident is none of the later ones, and not the first one
pub not_later : (h : Resident) (hs : List Resident) (o : ℕ) → is_resident (h ∷ hs) o ≡ false → is_resident hs o ≡ false
not_later h hs o e = by_value (is_resident hs o) refl
  where
    by_value : (b : Bool) → is_resident hs o ≡ b → b ≡ false
    by_value true k = absurd (unlike (is_resident (h ∷ hs) o) (later_resident h hs o k) e)
    by_value false k = refl

-- registers and memories may change elsewhere
pub held_kept : (t now : Bank) (r : ℕ) (hs : List Resident) (objects others objects2 others2 : List Contents) → ((s : ℕ) → r ≤ s → slice_index_or now s None ≡ slice_index_or t s None)
    → ((o : ℕ) → is_resident hs o ≡ true → slice_get objects2 o ≡ slice_get objects o) → ((o : ℕ) → is_resident hs o ≡ true → slice_get others2 o ≡ slice_get others o)
    → AllHeld t r hs objects others → AllHeld now r hs objects2 others2
held_kept t now r [] objects others objects2 others2 registers first second h = tt
held_kept t now r (x ∷ hs) objects others objects2 others2 registers first second h =
    let k = h.0 in (
      record {
        word = k.word;
        element = k.element;
        kept = k.kept;
        here = first x.object (first_resident x hs) ∙ k.here;
        there = second x.object (first_resident x hs) ∙ k.there;
        same = k.same;
        register = registers r (omega arith) ∙ k.register;
      },
      held_kept t now (suc r) hs objects others objects2 others2 (λ s more. registers s (omega (arith, more))) (λ o e. first o (later_resident x hs o e)) (λ o e. second o (later_resident x hs o e)) h.1,
    )

-- the register of an object, if it has one
pub data Found (t : Bank) (r : ℕ) (hs : List Resident) (o : ℕ) (objects others : List Contents) : Type 0 where
  Absent : (none : register_of r hs o ≡ None) (stays : is_resident hs o ≡ false) → Found t r hs o objects others
  Present : (s : ℕ) (h : Resident) (some : register_of r hs o ≡ Some s) (resident : is_resident hs o ≡ true) (kind : kind_in hs o ≡ Some h.kind) (from : r ≤ s) (few : s < r + length hs) (same : h.object ≡ o) (held : IsHeld t s h objects others) → Found t r hs o objects others

pub found : (t : Bank) (r : ℕ) (hs : List Resident) (o : ℕ) (objects others : List Contents) → AllHeld t r hs objects others → Found t r hs o objects others
found t r [] o objects others all = Absent refl refl
found t r (h ∷ hs) o objects others all = by_test (h.object == o) refl (found t (suc r) hs o objects others all.1)
  where
    by_test : (b : Bool) → (h.object == o) ≡ b → Found t (suc r) hs o objects others → Found t r (h ∷ hs) o objects others
    by_test true e k =
        Present r h (ap (λ b. if b then Some r else register_of (suc r) hs o) e) (ap (λ b. if b then true else is_resident hs o) e) (ap (λ b. if b then Some h.kind else kind_in hs o) e) (omega arith) (omega arith) (eqb-true h.object o e) all.0
    by_test false e (Absent none stays) =
        Absent (ap (λ b. if b then Some r else register_of (suc r) hs o) e ∙ none) (ap (λ b. if b then true else is_resident hs o) e ∙ stays)
    by_test false e (Present s x some resident kind from few same held) =
        Present s x (ap (λ b. if b then Some r else register_of (suc r) hs o) e ∙ some) (ap (λ b. if b then true else is_resident hs o) e ∙ resident) (ap (λ b. if b then Some h.kind else kind_in hs o) e ∙ kind) (omega (arith, from)) (omega (arith, few)) same held

-- a register was written, and no other
pub record IsWritten (t now : Bank) (s v : ℕ) : Type 0 where
  pub size : length now ≡ length t
  pub at : slice_index_or now s None ≡ Some (Word v)
  pub other : (n : ℕ) → (n ≡ s → ⊥) → slice_index_or now n None ≡ slice_index_or t n None

past : (r : ℕ) (hs : List Resident) (o s : ℕ) → register_of r hs o ≡ Some s → r ≤ s
past r [] o s e = cc
past r (x ∷ xs) o s e = by_same (x.object == o) (past (suc r) xs o s) e
  where
    by_same : (b : Bool) → (register_of (suc r) xs o ≡ Some s → suc r ≤ s) → (if b then Some r else register_of (suc r) xs o) ≡ Some s → r ≤ s
    by_same true go e = let same : r ≡ s = cc in omega (arith, same)
    by_same false go e = let more = go e in omega (arith, more)

-- a word is written to the register of an object, where the other memory stays
pub rewritten : (t now : Bank) (r : ℕ) (hs : List Resident) (objects others : List Contents) (o s v : ℕ) (k : Kind) → converted k v ≡ v → IsWritten t now s v → o < length objects → AreDistinct hs → kind_in hs o ≡ Some k → is_only_read hs o ≡ false → register_of r hs o ≡ Some s
    → AllHeld t r hs objects others → AllHeld now r hs (slice_set objects o (scalar k (Some v))) others
rewritten t now r [] objects others o s v k kept w there distinct kind written some all = tt
rewritten t now r (h ∷ hs) objects others o s v k kept w there distinct kind written some all = by_test (h.object == o) refl kind written some (λ x y z. rewritten t now (suc r) hs objects others o s v k kept w there distinct.1 x y z all.1)
  where
    new : List Contents
    new = slice_set objects o (scalar k (Some v))

    flag : (b : Bool) → (if b then false else true) ≡ false → b ≡ false → ⊥
    flag true e f = cc
    flag false e f = cc

    by_test : (b : Bool) → (h.object == o) ≡ b → (if b then Some h.kind else kind_in hs o) ≡ Some k → (if b then (if h.written then false else true) else is_only_read hs o) ≡ false → (if b then Some r else register_of (suc r) hs o) ≡ Some s
        → (kind_in hs o ≡ Some k → is_only_read hs o ≡ false → register_of (suc r) hs o ≡ Some s → AllHeld now (suc r) hs new others) → AllHeld now r (h ∷ hs) new others
    by_test true e x y z go =
        let same : r ≡ s = cc in
        let alike : h.kind ≡ k = cc in
        let it : h.object ≡ o = eqb-true h.object o e in
        let k0 = all.0 in (
          record {
            word = v;
            element = k0.element;
            kept = ap (λ a. converted a v) alike ∙ kept;
            here = ap (slice_get new) it ∙ get-set_same objects o (scalar k (Some v)) there ∙ ap (λ a. Some (scalar a (Some v))) (sym alike);
            there = k0.there;
            same = λ f. absurd (flag h.written y f);
            register = ap (λ n. slice_index_or now n None) same ∙ w.at;
          },
          held_kept t now (suc r) hs objects others new others
              (λ n more. w.other n (λ m. omega (arith, more, m, same)))
              (λ m resident. get-set_other objects o m (scalar k (Some v)) (λ n. unlike (is_resident hs h.object) (ap (is_resident hs) (it ∙ sym n) ∙ resident) distinct.0))
              (λ m resident. refl) all.1,
        )
    by_test false e x y z go =
        let more = past (suc r) hs o s z in
        let k0 = all.0 in (
          record {
            word = k0.word;
            element = k0.element;
            kept = k0.kept;
            here = get-set_other objects o h.object (scalar k (Some v)) (eqb-false h.object o e) ∙ k0.here;
            there = k0.there;
            same = k0.same;
            register = w.other r (λ m. omega (arith, more, m)) ∙ k0.register;
          },
          go x y z,
        )

-- a write to a register of the smaller store leaves the registers behind it
pub record IsSet (s now : Bank) (d : ℕ) (x : Value) : Type 0 where
  pub few : d < length s
  pub is : slice_set s d (Some x) ≡ now

pub is_set : (s now : Bank) (d : ℕ) (x : Value) → write_to virtual s (Some d) x ≡ Some now → IsSet s now d x
is_set s now d x e = by_test (nat_lt d (length s)) refl e
  where
    by_test : (c : Bool) → nat_lt d (length s) ≡ c → set_in s d x c ≡ Some now → IsSet s now d x
    by_test false g k = cc
    by_test true g k = record { few = ltb-true d (length s) g; is = some_same (slice_set s d (Some x)) now k }

pub above : (n : ℕ) (s s2 t bank : Bank) (d : Option ℕ) (x : Value) → length s ≡ n → write_to virtual s d x ≡ Some s2 → write_to virtual t d x ≡ Some bank → (r : ℕ) → n ≤ r → slice_index_or bank r None ≡ slice_index_or t r None
above n s s2 t bank None x size e k r more = ap (λ b. slice_index_or b r None) (sym (some_same t bank k))
above n s s2 t bank (Some d) x size e k r more =
    let a = is_set s s2 d x e in
    let b = is_set t bank d x k in
    let few = a.few in
    ap (λ y. slice_index_or y r None) (sym b.is) ∙ get_or-set_other t d r (Some x) None (λ y. absurd (omega (arith, few, size, more, y)))
