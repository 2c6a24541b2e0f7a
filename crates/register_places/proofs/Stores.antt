-- Stores of registers and of places, written side by side.
use Rattle.std.proofs.Common.{◌≡◌, ◌≢◌, ℕ, zero, suc, ◌<◌, ◌≤◌, Bool, true, false, List, [], ◌∷◌, length, replicate, Option, Some, None, refl, sym, ap, ◌∙◌, subst, ⊎_elim, inl, inr, arith, get_or-set_same, get_or-set_other, length-set}
use Rattle.std.specs.Prelude.{slice_index_or, slice_set, nat_lt, ◌==◌, if◌then◌else◌, ◌⊎◌, map, option_map}
use Rattle.std.proofs.lemmas.List.{length-replicate}
use Rattle.std.proofs.lemmas.Bool.Decides.{nat_tests}
use Rattle.std.proofs.lemmas.Bool.{cases_eq, eqb-true, leb-true, ltb-true}
use Rattle.low_ir.specs.declared.run.Value.{Value}
use Rattle.low_ir.specs.Effects.{is_member}
use Rattle.low_ir.specs.Runs.{Bank, set_in, virtual, write_to, write_all}
use Rattle.low_ir.specs.Places.{File, is_lasting, machine_registers, read_place, result_register, unset_if, write_place, with_registers, with_slots, kept_of, places}
use Rattle.low_ir.specs.declared.places.Place.{Place}
use Rattle.low_ir.specs.declared.places.Place.TheVariants.{Register as InRegister, Slot}
use Rattle.low_ir.specs.Live.{Has}
use Rattle.low_ir.specs.Spacing.{is_inside}

-- the registers with P have their values in their places
abbrev pub Shows : (ℕ → Type 0) → (ℕ → Place) → Bank → File → Type 0
Shows P pl s t = (v : ℕ) (x : Value) → P v → slice_index_or s v None ≡ Some x → read_place t (pl v) ≡ Some x

abbrev pub Roomy : ℕ → File → Type 0
Roomy slots t = (length t.registers ≡ suc result_register) × (length t.slots ≡ slots)

pub some_same : (d v : ℕ) → Some d ≡ Some v → v ≡ d
some_same d v h = cc

pub within : (s : Bank) (v : ℕ) (x : Value) → slice_index_or s v None ≡ Some x → v < length s
within [] v x e = cc
within (y ∷ s) zero x e = omega arith
within (y ∷ s) (suc v) x e = let h = within s v x e in omega arith

pub lt_test : (a b : ℕ) → a < b → nat_lt a b ≡ true
lt_test a b h = grind (arith, nat_tests)

-- a place that was written, and all others as they were
pub record PlaceWritten (slots : ℕ) (t : File) (p : Place) (x : Value) : Type 0 where
  pub file : File
  pub is : write_place t p x ≡ Some file
  pub roomy : Roomy slots file
  pub same : read_place file p ≡ Some x
  pub others : (r : Place) → r ≢ p → read_place file r ≡ read_place t r

pub place_written : (slots : ℕ) (t : File) (p : Place) (x : Value) → is_inside slots p ≡ true → Roomy slots t → PlaceWritten slots t p x
place_written slots t (InRegister q) x h room =
    let long = room.0 in
    let few : q ≤ result_register = leb-true q result_register h in
    let lt : q < length t.registers = omega arith in
    record {
      file = with_registers t (slice_set t.registers q (Some x));
      is = ap (λ b. option_map (with_registers t) (set_in t.registers q x b)) (lt_test q (length t.registers) lt);
      roomy = (length-set t.registers q (Some x) ∙ room.0, room.1);
      same = get_or-set_same t.registers q (Some x) None lt;
      others = other;
    }
  where
    other : (r : Place) → r ≢ InRegister q → read_place (with_registers t (slice_set t.registers q (Some x))) r ≡ read_place t r
    other (InRegister k) n = get_or-set_other t.registers q k (Some x) None (λ e. n (ap InRegister e))
    other (Slot k) n = refl
place_written slots t (Slot q) x h room =
    let long = room.1 in
    let few : q < slots = ltb-true q slots h in
    let lt : q < length t.slots = omega arith in
    record {
      file = with_slots t (slice_set t.slots q (Some x));
      is = ap (λ b. option_map (with_slots t) (set_in t.slots q x b)) (lt_test q (length t.slots) lt);
      roomy = (room.0, length-set t.slots q (Some x) ∙ room.1);
      same = get_or-set_same t.slots q (Some x) None lt;
      others = other;
    }
  where
    other : (r : Place) → r ≢ Slot q → read_place (with_slots t (slice_set t.slots q (Some x))) r ≡ read_place t r
    other (InRegister k) n = refl
    other (Slot k) n = get_or-set_other t.slots q k (Some x) None (λ e. n (ap Slot e))

-- what an instruction leaves: all but the result register, where the environment performs it
pub left_roomy : (slots : ℕ) (b : Bool) (t : File) → Roomy slots t → Roomy slots (unset_if b t)
left_roomy slots false t room = room
left_roomy slots true t room = (length-set t.registers result_register None ∙ room.0, room.1)

pub left_read : (b : Bool) (t : File) (p : Place) → (b ≡ true → is_lasting p ≡ true) → read_place (unset_if b t) p ≡ read_place t p
left_read false t p h = refl
left_read true t (InRegister q) h =
    let small = ltb-true q machine_registers (h refl) in
    get_or-set_other t.registers result_register q None None (λ e. omega (arith, e, small))
left_read true t (Slot k) h = refl

-- a register, if one was written, and its place; the registers with Q now have their values in their places
pub record BothWritten (Q : ℕ → Type 0) (pl : ℕ → Place) (slots : ℕ) (s s2 : Bank) (t : File) (d : Option ℕ) (x : Value) : Type 0 where
  pub file : File
  pub is : write_to places t (option_map pl d) x ≡ Some file
  pub size : length s2 ≡ length s
  pub roomy : Roomy slots file
  pub shows : Shows Q pl s2 file
  pub only : (v : ℕ) (y : Value) → slice_index_or s2 v None ≡ Some y → (d ≡ Some v) ⊎ (slice_index_or s v None ≡ Some y)

-- registers with Q that aren't written have P, and other places than the one that is written
abbrev pub Apart : (ℕ → Type 0) → (ℕ → Type 0) → (ℕ → Place) → Bank → Option ℕ → Type 0
Apart P Q pl s d = (v : ℕ) → v < length s → Q v → d ≢ Some v → P v × ((w : ℕ) → w < length s → d ≡ Some w → pl v ≢ pl w)

pub both_written : (P Q : ℕ → Type 0) (pl : ℕ → Place) (slots : ℕ) (s s2 : Bank) (t : File) (d : Option ℕ) (x : Value) → ((v : ℕ) → v < length s → is_inside slots (pl v) ≡ true) → Roomy slots t → Apart P Q pl s d → Shows P pl s t → write_to virtual s d x ≡ Some s2 → BothWritten Q pl slots s s2 t d x
both_written P Q pl slots s s2 t None x inside room apart h e =
    let is : s ≡ s2 = cc in
    record {
      file = t;
      is = refl;
      size = ap length (sym is);
      roomy = room;
      shows = λ v y q r.
          let r2 : slice_index_or s v None ≡ Some y = ap (λ l. slice_index_or l v None) is ∙ r in
          h v y (apart v (within s v y r2) q (λ n. cc)).0 r2;
      only = λ v y r. inr (ap (λ l. slice_index_or l v None) is ∙ r);
    }
both_written P Q pl slots s s2 t (Some d) x inside room apart h e = by_test (nat_lt d (length s)) refl e
  where
    by_test : (b : Bool) → nat_lt d (length s) ≡ b → set_in s d x b ≡ Some s2 → BothWritten Q pl slots s s2 t (Some d) x
    by_test false g e = cc
    by_test true g e =
        let lt : d < length s = ltb-true d (length s) g in
        let w = place_written slots t (pl d) x (inside d lt) room in
        let is : slice_set s d (Some x) ≡ s2 = cc in
        record {
          file = w.file;
          is = w.is;
          size = ap length (sym is) ∙ length-set s d (Some x);
          roomy = w.roomy;
          shows = λ v y q r.
              ⊎_elim
              (λ (same : v ≡ d).
              let e2 : slice_index_or (slice_set s d (Some x)) d None ≡ Some y = ap (λ l. slice_index_or l d None) is ∙ subst (λ n. slice_index_or s2 n None ≡ Some y) same r in
              let e3 : Some x ≡ Some y = sym (get_or-set_same s d (Some x) None lt) ∙ e2 in
              ap (λ n. read_place w.file (pl n)) same ∙ w.same ∙ e3)
              (λ (other : v ≢ d).
              let size2 = ap length (sym is) ∙ length-set s d (Some x) in
              let here = within s2 v y r in
              let k = apart v (omega arith) q (λ n. other (some_same d v n)) in
              w.others (pl v) (k.1 d lt refl) ∙ h v y k.0 (sym (get_or-set_other s d v (Some x) None other) ∙ ap (λ l. slice_index_or l v None) is ∙ r))
              (cases_eq v d);
          only = λ v y r.
              ⊎_elim
              (λ (same : v ≡ d). inl (ap Some (sym same)))
              (λ (other : v ≢ d). inr (sym (get_or-set_other s d v (Some x) None other) ∙ ap (λ l. slice_index_or l v None) is ∙ r))
              (cases_eq v d);
        }

pub length-kept : (ks : List ℕ) (s : Bank) → length (kept_of ks s) ≡ length s
length-kept [] s = length-replicate (length s) None
length-kept (k ∷ ks) s = length-set (kept_of ks s) k (slice_index_or s k None) ∙ length-kept ks s

kept_read : (ks : List ℕ) (s : Bank) (q : ℕ) (x : Value) → Has q ks → slice_index_or s q None ≡ Some x → slice_index_or (kept_of ks s) q None ≡ Some x
kept_read [] s q x h e = absurd h
kept_read (k ∷ ks) s q x h e =
    ⊎_elim
    (λ (same : q ≡ k).
    let lt = within s q x e in
    let long = length-kept ks s in
    ap (λ n. slice_index_or (slice_set (kept_of ks s) k (slice_index_or s k None)) n None) same
    ∙ get_or-set_same (kept_of ks s) k (slice_index_or s k None) None (omega arith)
    ∙ ap (λ n. slice_index_or s n None) (sym same) ∙ e)
    (λ (other : q ≢ k).
    get_or-set_other (kept_of ks s) k q (slice_index_or s k None) None other
    ∙ kept_read ks s q x (⊎_elim (λ (a : q ≡ k). absurd (other a)) (λ (b : Has q ks). b) h) e)
    (cases_eq q k)

pub none_in_replicate : (n v : ℕ) (x : Value) → slice_index_or (replicate n None) v None ≡ Some x → ⊥
none_in_replicate zero v x e = cc
none_in_replicate (suc n) zero x e = cc
none_in_replicate (suc n) (suc v) x e = none_in_replicate n v x e

-- behind a call only listed registers are set
pub kept_only : (ks : List ℕ) (s : Bank) (q : ℕ) (x : Value) → slice_index_or (kept_of ks s) q None ≡ Some x → Has q ks × (slice_index_or s q None ≡ Some x)
kept_only [] s q x e = absurd (none_in_replicate (length s) q x e)
kept_only (k ∷ ks) s q x e =
    ⊎_elim
    (λ (same : q ≡ k).
    let lt = within (kept_of (k ∷ ks) s) q x e in
    let long = length-set (kept_of ks s) k (slice_index_or s k None) in
    let e2 : slice_index_or (slice_set (kept_of ks s) k (slice_index_or s k None)) k None ≡ Some x = subst (λ n. slice_index_or (kept_of (k ∷ ks) s) n None ≡ Some x) same e in
    (inl same, ap (λ n. slice_index_or s n None) same ∙ sym (get_or-set_same (kept_of ks s) k (slice_index_or s k None) None (omega arith)) ∙ e2))
    (λ (other : q ≢ k).
    let h = kept_only ks s q x (sym (get_or-set_other (kept_of ks s) k q (slice_index_or s k None) None other) ∙ e) in
    (inr h.0, h.1))
    (cases_eq q k)

pub has_member : (ks : List ℕ) (q : ℕ) → is_member ks q ≡ true → Has q ks
has_member [] q e = cc
has_member (k ∷ ks) q e = by_test (λ h. has_member ks q h) (k == q) refl e
  where
    by_test : (is_member ks q ≡ true → Has q ks) → (b : Bool) → (k == q) ≡ b → (if b then true else is_member ks q) ≡ true → Has q (k ∷ ks)
    by_test rest true t h = inl (sym (eqb-true k q t))
    by_test rest false t h = inr (rest h)

-- a call keeps a register that is listed, and each slot
pub keeps : (ks : List ℕ) (t : File) (p : Place) (x : Value) → ((q : ℕ) → p ≡ InRegister q → Has q ks) → read_place t p ≡ Some x → read_place (places.keep ks t) p ≡ Some x
keeps ks t (InRegister q) x h e = kept_read ks t.registers q x (h q refl) e
keeps ks t (Slot k) x h e = e

pub keeps_room : (slots : ℕ) (ks : List ℕ) (t : File) → Roomy slots t → Roomy slots (places.keep ks t)
keeps_room slots ks t room = (length-kept ks t.registers ∙ room.0, room.1)

none_all : (rs : List ℕ) (xs : List Value) (s : Bank) → write_all virtual None rs xs ≡ Some s → ⊥
none_all [] xs s e = cc
none_all (r ∷ rs) xs s e = cc

-- parameters and their places that were written
pub record AllWritten (pl : ℕ → Place) (slots : ℕ) (all rs : List ℕ) (xs : List Value) (s s2 : Bank) (t : File) : Type 0 where
  pub file : File
  pub is : write_all places (Some t) (map pl rs) xs ≡ Some file
  pub size : length s2 ≡ length s
  pub roomy : Roomy slots file
  pub shows : Shows (λ v. Has v all) pl s2 file
  pub only : (v : ℕ) (y : Value) → slice_index_or s2 v None ≡ Some y → Has v all ⊎ (slice_index_or s v None ≡ Some y)

pub all_written : (pl : ℕ → Place) (slots : ℕ) (all rs : List ℕ) (xs : List Value) (s s2 : Bank) (t : File) → ((v : ℕ) → v < length s → is_inside slots (pl v) ≡ true) → ((v w : ℕ) → v < length s → w < length s → Has v all → Has w all → v ≢ w → pl v ≢ pl w) → ((v : ℕ) → Has v rs → Has v all) → Roomy slots t → Shows (λ v. Has v all) pl s t → write_all virtual (Some s) rs xs ≡ Some s2 → AllWritten pl slots all rs xs s s2 t
all_written pl slots all [] [] s s2 t inside apart part room h e =
    let is : s ≡ s2 = cc in
    record {
      file = t;
      is = refl;
      size = ap length (sym is);
      roomy = room;
      shows = subst (λ l. Shows (λ v. Has v all) pl l t) is h;
      only = λ v y r. inr (ap (λ l. slice_index_or l v None) is ∙ r);
    }
all_written pl slots all [] (x ∷ xs) s s2 t inside apart part room h e = cc
all_written pl slots all (r ∷ rs) [] s s2 t inside apart part room h e = cc
all_written pl slots all (r ∷ rs) (x ∷ xs) s s2 t inside apart part room h e =
    by_write (λ s1 file i ap2 room2 shows e2. all_written pl slots all rs xs s1 s2 file i ap2 (λ v q. part v (inr q)) room2 shows e2) (virtual.write s r x) refl e
  where
    by_write : ((s1 : Bank) (file : File) → ((v : ℕ) → v < length s1 → is_inside slots (pl v) ≡ true) → ((v w : ℕ) → v < length s1 → w < length s1 → Has v all → Has w all → v ≢ w → pl v ≢ pl w) → Roomy slots file → Shows (λ v. Has v all) pl s1 file → write_all virtual (Some s1) rs xs ≡ Some s2 → AllWritten pl slots all rs xs s1 s2 file) → (o : Option Bank) → virtual.write s r x ≡ o → write_all virtual o rs xs ≡ Some s2 → AllWritten pl slots all (r ∷ rs) (x ∷ xs) s s2 t
    by_write rest None g e = absurd (none_all rs xs s2 e)
    by_write rest (Some s1) g e =
        let b = both_written (λ v. Has v all) (λ v. Has v all) pl slots s s1 t (Some r) x inside room
        (λ v l1 q n. (q, λ w l2 is. apart v w l1 l2 q (part w (inl (some_same r w is))) (λ k. n (is ∙ ap Some (sym k))))) h g in
        let size = b.size in
        let c = rest s1 b.file (λ v lt. inside v (omega arith)) (λ v w l1 l2. apart v w (omega arith) (omega arith)) b.roomy b.shows e in
        record {
          file = c.file;
          is = ap (λ o. write_all places o (map pl rs) xs) b.is ∙ c.is;
          size = c.size ∙ b.size;
          roomy = c.roomy;
          shows = c.shows;
          only = λ v y q.
              ⊎_elim
              (λ (has : Has v all). inl has)
              (λ (before : slice_index_or s1 v None ≡ Some y).
              ⊎_elim (λ (same : Some r ≡ Some v). inl (part v (inl (some_same r v same)))) (λ (k : slice_index_or s v None ≡ Some y). inr k) (b.only v y before))
              (c.only v y q);
        }
