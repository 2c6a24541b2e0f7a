-- The arguments of a call go to the places of parameters, or to words of the callee's frame.
use Rattle.std.proofs.Common.{◌≡◌, ◌≢◌, ◌⊎◌, ⊎_elim, inl, inr, ℕ, ◌+◌, ◌*◌, ◌%◌, ◌^◌, ◌<◌, ◌≤◌, Bool, true, false, List, [], ◌∷◌, ◌++◌, length, Option, Some, None, refl, sym, ap, ◌∙◌, subst, arith}
use Rattle.std.specs.Prelude.{not, if◌then◌else◌}
use Rattle.std.proofs.lemmas.Bool.{cases_eq, and_parts}
use Rattle.rv_core.specs.declared.row.Width.{Width}
use Rattle.rv_core.specs.declared.row.Width.TheVariants.{Word as Whole}
use Rattle.rv_core.specs.Arithmetic.{byte_count}
use Rattle.rv_core.specs.Memory.{read_from}
use Rattle.rv_core.specs.Machine.{World}
use Rattle.rv_steps.specs.Steps.{Later}
use Rattle.low_ir.specs.declared.places.Place.{Place}
use Rattle.low_ir.specs.declared.places.Place.TheVariants.{Register as InRegister, Slot}
use Rattle.low_ir.specs.declared.run.Value.{Value}
use Rattle.low_ir.specs.Code.{Operand}
use Rattle.low_ir.specs.Effects.{is_member}
use Rattle.low_ir.specs.Runs.{operand_value, values_cons, values, write_all}
use Rattle.low_ir.specs.Places.{File, read_place, write_place, places, result_register}
use Rattle.asm_program.specs.Numbers.{base, second_base, first_free, second_free, machine_register}
use Rattle.asm_program.specs.Frames.{position, home_at, slot_at}
use Rattle.asm_program.specs.Operands.{into_code}
use Rattle.asm_program.specs.Emission.{reads_register, registers_among, is_once, is_direct, store_argument, pass_code}
use Rattle.simulation_relation.specs.Noted.{Noted, singles}
use Rattle.simulation_relation.specs.Plans.{frame_size, AreApart}
use Rattle.simulation_relation.specs.Positions.{Course}
use Rattle.simulation_relation.specs.Views.{view_of, HasRoom, Shows}
use Rattle.simulation_steps.proofs.Given.{Given, state, reg, read, At}
use Rattle.simulation_steps.proofs.Places.{value_is, steady_is, machine_register-same, IsFrameWord, slot_word}
use Rattle.simulation_steps.proofs.Operands.{frame, code, in_parts, into, Ready, IsOther, slot_inside}
use Rattle.simulation_steps.proofs.Apart.{position-below}
use Rattle.simulation_steps.proofs.Holding.{same_place, Written, place_written, strict, written_there}
use Rattle.simulation_steps.proofs.Plains.{operand-small}
use Rattle.simulation_steps.proofs.Homes.{member_head, member_tail, member_cases, position-same, home_word}
use Rattle.simulation_steps.proofs.Arguments.{unset, operand-unset, reads-rest, ready_unset, Put, store_runs}
use Rattle.simulation_law.proofs.Late.{AreTold}

-- operands that don't read a register have the same values without it
values-unset : (t : File) (q : ℕ) (xs : List (Operand Place)) → reads_register q xs ≡ false → values places (unset t q) xs ≡ values places t xs
values-unset t q [] e = refl
values-unset t q (x ∷ xs) e =
    ap (λ o. values_cons o (values places (unset t q) xs)) (operand-unset t q x xs e) ∙ ap (values_cons (operand_value places t x)) (values-unset t q xs (reads-rest q x xs e))

-- the values of operands, the first one and the others
pub record Split (o : Option Value) (os : Option (List Value)) (vs : List Value) : Type 0 where
  pub head : Value
  pub rest : List Value
  pub first : o ≡ Some head
  pub others : os ≡ Some rest
  pub are : vs ≡ head ∷ rest

pub split : (o : Option Value) (os : Option (List Value)) (vs : List Value) → values_cons o os ≡ Some vs → Split o os vs
split None os vs e = absurd cc
split (Some x) None vs e = absurd cc
split (Some x) (Some xs) vs e = record { head = x; rest = xs; first = refl; others = refl; are = let same : x ∷ xs ≡ vs = cc in sym same }

not_false : (b : Bool) → not b ≡ true → b ≡ false
not_false false e = refl
not_false true e = absurd cc

-- registers of parameters
among_tail : (p : Place) (ps : List Place) (q : ℕ) → is_member (registers_among ps) q ≡ true → is_member (registers_among (p ∷ ps)) q ≡ true
among_tail (InRegister r) ps q e = member_tail r q (registers_among ps) e
among_tail (Slot j) ps q e = e

module _ (g : Given) where
  -- where the value of a parameter's register is: in its home, if it is loaded late, or in the register
  abbrev pub IsPassed : ℕ → ℕ → Bool → ℕ → ℕ → Type 0
  IsPassed n c true q w = read g n Whole (home_at (frame g c) q) ≡ Some w
  IsPassed n c false q w = reg g n (machine_register q) ≡ w

  -- the values of parameters await function c
  pub record Awaits (n c : ℕ) (late : List ℕ) (u : File) : Type 0 where
    pub registers : (q : ℕ) (x : Value) → read_place u (InRegister q) ≡ Some x → IsPassed n c (is_member late q) q (code g x)
    pub slots : (j : ℕ) (x : Value) → read_place u (Slot j) ≡ Some x → read g n Whole (slot_at (frame g c) j) ≡ Some (code g x)

  -- bytes outside a frame
  abbrev pub IsOutside : ℕ → ℕ → ℕ → Type 0
  IsOutside c a n = (a + n ≤ (frame g c).at) ⊎ ((frame g c).at + frame_size (frame g c) ≤ a)

  -- a call of function c by f, of whose arguments some are loaded late
  pub record Between (f c : ℕ) (late : List ℕ) : Type 0 where
    pub callee : c < length g.layout.program.functions
    pub other : f ≢ c
    pub homes : (q : ℕ) → is_member late q ≡ true → is_member (frame g c).homes q ≡ true

  -- an argument was passed; file has what the caller's places still have
  record Argued (k : Course) (n m f c : ℕ) (t : File) (p : Place) (xs : List (Operand Place)) (late : List ℕ) (u : File) (ys : List Noted) : Type 0 where
    at : At g k m ys
    registers : (r : ℕ) → r ≢ first_free → r ≢ second_free → IsOther g p r → reg g m r ≡ reg g n r
    input : (state g m).world.input ≡ (state g n).world.input
    output : (state g m).world.output ≡ (state g n).world.output
    beside : (y : Width) (a : ℕ) → IsOutside c a (byte_count y) → read g m y a ≡ read g n y a
    awaits : Awaits m c late u
    file : File
    ready : Ready g f file m
    values_are : values places file xs ≡ values places t xs

  -- into the parameter's register at once
  direct_runs : (k : Course) (P : ℕ → Type 0) (n f c q : ℕ) (late : List ℕ) (t u w : File) (xs : List (Operand Place)) (ys : List Noted) (x : Operand Place) (v : Value) → Ready g f t n → operand_value places t x ≡ Some v → HasRoom g.layout.memory (frame g c) u → Awaits n c late u
      → write_place u (InRegister q) v ≡ Some w → is_member late q ≡ false → reads_register q xs ≡ false
      → At g k n (singles (into_code (frame g f) (machine_register q) x) ++ ys) → ((m : ℕ) → Argued k n m f c t (InRegister q) xs late w ys → Later P m) → Later P n
  direct_runs k P n f c q late t u w xs ys x v ready e room awaits written never unread h go =
      let inside : q ≤ result_register = written_there g c u w (InRegister q) v room written in
      let value = value_is q inside in
      let wr = place_written u w (InRegister q) v written in
      into g k P n f (machine_register q) t ys x v value.some value.less ready e h
      (λ m a. go m
      (record {
        at = a.at;
        registers = λ r one two other. a.others r other;
        input = ap (λ (z : World). z.input) a.world;
        output = ap (λ (z : World). z.output) a.world;
        beside = λ y b o. ap (λ (z : World). read_from (λ d. d.read) y z.memory b) a.world;
        awaits =
            record {
              registers = λ p y found.
                  ⊎_elim
                  (λ (same : p ≡ q).
                  let both : Some v ≡ Some y = sym wr.same ∙ ap (λ z. read_place w (InRegister z)) (sym same) ∙ found in
                  let is : v ≡ y = cc in
                  subst (λ z. IsPassed m c (is_member late z) z (code g y)) (sym same) (subst (λ b. IsPassed m c b q (code g y)) (sym never) (a.value ∙ ap (code g) is)))
                  (λ (other : p ≢ q).
                  kept m p (code g y) (λ z. ap (λ (s : World). read_from (λ d. d.read) Whole s.memory z) a.world) (a.others (machine_register p) (λ z. other (machine_register-same p q z))) (is_member late p)
                  (awaits.registers p y (sym (wr.others (InRegister p) (λ z. other cc)) ∙ found)))
                  (cases_eq p q);
              slots = λ j y found. ap (λ (z : World). read_from (λ d. d.read) Whole z.memory (slot_at (frame g c) j)) a.world ∙ awaits.slots j y (sym (wr.others (Slot j) (λ z. cc)) ∙ found);
            };
        file = unset t q;
        ready = ready_unset g k n m f q (code g v) t ys inside ready a;
        values_are = values-unset t q xs unread;
      }))
    where
      kept : (m p y : ℕ) → ((a : ℕ) → read g m Whole a ≡ read g n Whole a) → reg g m (machine_register p) ≡ reg g n (machine_register p) → (b : Bool) → IsPassed n c b p y → IsPassed m c b p y
      kept m p y reads same true z = reads (home_at (frame g c) p) ∙ z
      kept m p y reads same false z = same ∙ z

  -- the word of the callee's frame in which the value of a place awaits the call
  abbrev IsWordOf : ℕ → List ℕ → Place → ℕ → Type 0
  IsWordOf c late (InRegister q) a = (is_member late q ≡ true) × (a ≡ home_at (frame g c) q)
  IsWordOf c late (Slot j) a = a ≡ slot_at (frame g c) j

  homes_apart : (c q p : ℕ) → is_member (frame g c).homes q ≡ true → is_member (frame g c).homes p ≡ true → q ≢ p → AreApart (home_at (frame g c) q) 4 (home_at (frame g c) p) 4
  homes_apart c q p a b other = apart_by (position (frame g c).homes q) (position (frame g c).homes p) (λ e. other (position-same (frame g c).homes q p a b e))
    where
      apart_by : (i j : ℕ) → i ≢ j → AreApart ((frame g c).at + 4 * (1 + length (frame g c).saved + i)) 4 ((frame g c).at + 4 * (1 + length (frame g c).saved + j)) 4
      apart_by i j n = ⊎_elim (λ (h : i < j). inl (omega arith)) (λ (h : j < i). inr (omega arith)) (strict i j n)

  -- other words of that frame
  home_beside : (c q a : ℕ) (late : List ℕ) (p : Place) → ((r : ℕ) → is_member late r ≡ true → is_member (frame g c).homes r ≡ true) → is_member late q ≡ true → InRegister q ≢ p → IsWordOf c late p a → AreApart (home_at (frame g c) q) 4 a 4
  home_beside c q a late (InRegister r) homes l other word = subst (λ z. AreApart (home_at (frame g c) q) 4 z 4) (sym word.1) (homes_apart c q r (homes q l) (homes r word.0) (λ e. other (ap InRegister e)))
  home_beside c q a late (Slot j) homes l other word = let less = position-below (frame g c).homes q (homes q l) in inl (omega (arith, word))

  slot_beside : (c i a : ℕ) (late : List ℕ) (p : Place) → ((r : ℕ) → is_member late r ≡ true → is_member (frame g c).homes r ≡ true) → Slot i ≢ p → IsWordOf c late p a → AreApart (slot_at (frame g c) i) 4 a 4
  slot_beside c i a late (InRegister r) homes other word = let less = position-below (frame g c).homes r (homes r word.0) in let is = word.1 in inr (omega arith)
  slot_beside c i a late (Slot j) homes other word = ⊎_elim (λ (h : i < j). inl (omega (arith, word))) (λ (h : j < i). inr (omega (arith, word))) (strict i j (λ e. other (ap Slot e)))

  ready_stored : (k : Course) (n m f c a w : ℕ) (t : File) (ys : List Noted) → f ≢ c → c < length g.layout.program.functions → IsFrameWord g.image (frame g c) a → Ready g f t n → Put g k n m a w ys → Ready g f t m
  ready_stored k n m f c a w t ys other there word ready put =
      record {
        there = ready.there;
        based = put.registers base (λ e. omega (arith, e)) (λ e. omega (arith, e)) ∙ ready.based;
        second = put.registers second_base (λ e. omega (arith, e)) (λ e. omega (arith, e)) ∙ ready.second;
        room = ready.room;
        shows = shows;
      }
    where
      shows : Shows g.layout.memory (frame g f) t (view_of (state g m))
      shows (InRegister q) x e = put.registers (machine_register q) (steady_is q).five (steady_is q).six ∙ ready.shows (InRegister q) x e
      shows (Slot j) x e =
          let own = slot_word g.layout g.image g.laid f j ready.there (slot_inside g f n j t x ready e) in
          let low = own.from in
          let high = own.to in
          let from = word.from in
          let to = word.to in
          put.beside Whole (slot_at (frame g f) j)
          (⊎_elim
          (λ (h : (frame g f).at + frame_size (frame g f) ≤ (frame g c).at). inl (omega arith))
          (λ (h : (frame g c).at + frame_size (frame g c) ≤ (frame g f).at). inr (omega arith))
          (g.laid.plan.frames_apart f c other ready.there there))
          ∙ ready.shows (Slot j) x e

  -- into a word of the callee's frame
  stored_runs : (k : Course) (P : ℕ → Type 0) (n f c a : ℕ) (late : List ℕ) (p : Place) (all : List Place) (t u w : File) (xs : List (Operand Place)) (ys : List Noted) (x : Operand Place) (v : Value) → Between f c late → Ready g f t n → operand_value places t x ≡ Some v → Awaits n c late u
      → write_place u p v ≡ Some w → IsFrameWord g.image (frame g c) a → IsWordOf c late p a
      → At g k n (singles (store_argument (frame g f) (frame g c) all x a) ++ ys) → ((m : ℕ) → Argued k n m f c t p xs late w ys → Later P m) → Later P n
  stored_runs k P n f c a late p all t u w xs ys x v between ready e awaits written word is h go =
      let wr = place_written u w p v written in
      let small = operand-small g f t x v ready.room e in
      let whole : code g v % 2 ^ 32 ≡ code g v = omega arith in
      let from = word.from in
      let to = word.to in
      store_runs g k P n f c a t ys all x v ready e word.small word.aligned word.ram word.opens h
      (λ m b.
      let same : read g m Whole a ≡ Some (code g v) = b.same ∙ ap Some whole in
      go m
      (record {
        at = b.at;
        registers = λ r one two other. b.registers r one two;
        input = b.input;
        output = b.output;
        beside = λ y z o. b.beside y z (⊎_elim (λ (low : z + byte_count y ≤ (frame g c).at). inl (omega arith)) (λ (high : (frame g c).at + frame_size (frame g c) ≤ z). inr (omega arith)) o);
        awaits =
            record {
              registers = λ q y found.
                  ⊎_elim
                  (λ (here : InRegister q ≡ p).
                  let both : Some v ≡ Some y = sym wr.same ∙ ap (read_place w) (sym here) ∙ found in
                  let value : v ≡ y = cc in
                  let at = subst (λ d. IsWordOf c late d a) (sym here) is in
                  subst (λ z. IsPassed m c z q (code g y)) (sym at.0) (ap (read g m Whole) (sym at.1) ∙ same ∙ ap (λ z. Some (code g z)) value))
                  (λ (other : InRegister q ≢ p).
                  kept m q (code g y) (λ l. b.beside Whole (home_at (frame g c) q) (home_beside c q a late p between.homes l other is)) (b.registers (machine_register q) (steady_is q).five (steady_is q).six) (is_member late q) refl
                  (awaits.registers q y (sym (wr.others (InRegister q) other) ∙ found)))
                  (same_place (InRegister q) p);
              slots = λ j y found.
                  ⊎_elim
                  (λ (here : Slot j ≡ p).
                  let both : Some v ≡ Some y = sym wr.same ∙ ap (read_place w) (sym here) ∙ found in
                  let value : v ≡ y = cc in
                  let at = subst (λ d. IsWordOf c late d a) (sym here) is in
                  ap (read g m Whole) (sym at) ∙ same ∙ ap (λ z. Some (code g z)) value)
                  (λ (other : Slot j ≢ p). b.beside Whole (slot_at (frame g c) j) (slot_beside c j a late p between.homes other is) ∙ awaits.slots j y (sym (wr.others (Slot j) other) ∙ found))
                  (same_place (Slot j) p);
            };
        file = t;
        ready = ready_stored k n m f c a (code g v) t ys between.other between.callee word ready b;
        values_are = refl;
      }))
    where
      kept : (m q y : ℕ) → (is_member late q ≡ true → read g m Whole (home_at (frame g c) q) ≡ read g n Whole (home_at (frame g c) q)) → reg g m (machine_register q) ≡ reg g n (machine_register q) → (b : Bool) → is_member late q ≡ b → IsPassed n c b q y → IsPassed m c b q y
      kept m q y reads same true l z = reads l ∙ z
      kept m q y reads same false l z = same ∙ z

  -- what is written is in words
  room-written : (c : ℕ) (t u : File) (d : Place) (x : Value) → Written t u d x → code g x < 2 ^ 32 → HasRoom g.layout.memory (frame g c) t → HasRoom g.layout.memory (frame g c) u
  room-written c t u d x w small room =
      record {
        registers = w.registers ∙ room.registers;
        slots = let long = w.slots in let most = room.slots in omega arith;
        words = λ p y e.
            ⊎_elim
            (λ (same : p ≡ d). let value : x ≡ y = let both : Some x ≡ Some y = sym w.same ∙ ap (read_place u) (sym same) ∙ e in cc in subst (λ z. code g z < 2 ^ 32) value small)
            (λ (other : p ≢ d). room.words p y (sym (w.others p other) ∙ e))
            (same_place p d);
      }

  -- the arguments were passed, to a function whose places have them as in u
  pub record Passed (k : Course) (n m c : ℕ) (ps : List Place) (late : List ℕ) (u : File) (ys : List Noted) : Type 0 where
    pub at : At g k m ys
    pub registers : (r : ℕ) → r ≢ first_free → r ≢ second_free → ((q : ℕ) → is_member (registers_among ps) q ≡ true → r ≢ machine_register q) → reg g m r ≡ reg g n r
    pub input : (state g m).world.input ≡ (state g n).world.input
    pub output : (state g m).world.output ≡ (state g n).world.output
    pub beside : (y : Width) (a : ℕ) → IsOutside c a (byte_count y) → read g m y a ≡ read g n y a
    pub awaits : Awaits m c late u
    pub room : HasRoom g.layout.memory (frame g c) u
    pub inside : (q : ℕ) → is_member (registers_among ps) q ≡ true → q ≤ result_register

  joined : (k : Course) (n m j f c : ℕ) (t u w : File) (p : Place) (ps : List Place) (xs : List (Operand Place)) (late : List ℕ) (zs ys : List Noted) → ((q : ℕ) → p ≡ InRegister q → q ≤ result_register) → Argued k n m f c t p xs late u zs → Passed k m j c ps late w ys → Passed k n j c (p ∷ ps) late w ys
  joined k n m j f c t u w p ps xs late zs ys inside a b =
      record {
        at = b.at;
        registers = λ r one two others. b.registers r one two (λ q e. others q (among_tail p ps q e)) ∙ a.registers r one two (head_other p r others);
        input = b.input ∙ a.input;
        output = b.output ∙ a.output;
        beside = λ y x o. b.beside y x o ∙ a.beside y x o;
        awaits = b.awaits;
        room = b.room;
        inside = inside_all p inside;
      }
    where
      head_other : (d : Place) (r : ℕ) → ((q : ℕ) → is_member (registers_among (d ∷ ps)) q ≡ true → r ≢ machine_register q) → IsOther g d r
      head_other (InRegister q) r others = others q (member_head q (registers_among ps))
      head_other (Slot i) r others = tt

      inside_all : (d : Place) → ((q : ℕ) → d ≡ InRegister q → q ≤ result_register) → (q : ℕ) → is_member (registers_among (d ∷ ps)) q ≡ true → q ≤ result_register
      inside_all (InRegister r) h q e = ⊎_elim (λ (same : r ≡ q). h q (ap InRegister same)) (λ (rest : is_member (registers_among ps) q ≡ true). b.inside q rest) (member_cases r q (registers_among ps) e)
      inside_all (Slot i) h q e = b.inside q e

  -- the arguments behind one
  abbrev Rest : Course → (ℕ → Type 0) → ℕ → ℕ → List ℕ → List Place → List (Operand Place) → List Place → List Noted → List Value → File → Type 0
  Rest k P f c late all xs ps ys vs w =
      (m : ℕ) (t u : File) → Ready g f t m → values places t xs ≡ Some vs → HasRoom g.layout.memory (frame g c) u → Awaits m c late u → write_all places (Some u) ps vs ≡ Some w
      → At g k m (singles (pass_code (frame g f) (frame g c) all xs ps) ++ ys) → ((j : ℕ) → Passed k m j c ps late w ys → Later P j) → Later P m

  -- one argument and those behind it
  passes : (k : Course) (P : ℕ → Type 0) (n f c : ℕ) (late : List ℕ) (all : List Place) (x : Operand Place) (xs : List (Operand Place)) (p : Place) (ps : List Place) (ys : List Noted) (t u u2 w : File) (v : Value) (vs : List Value) → Between f c late → Ready g f t n
      → operand_value places t x ≡ Some v → values places t xs ≡ Some vs → HasRoom g.layout.memory (frame g c) u → Awaits n c late u → AreTold late all (x ∷ xs) (p ∷ ps) → write_place u p v ≡ Some u2 → write_all places (Some u2) ps vs ≡ Some w
      → At g k n (singles (pass_code (frame g f) (frame g c) all (x ∷ xs) (p ∷ ps)) ++ ys) → Rest k P f c late all xs ps ys vs w → ((m : ℕ) → Passed k n m c (p ∷ ps) late w ys → Later P m) → Later P n
  passes k P n f c late all x xs (Slot i) ps ys t u u2 w v vs between ready e es room awaits told written all_written h rest go =
      let there = written_there g c u u2 (Slot i) v room written in
      let behind = pass_code (frame g f) (frame g c) all xs ps in
      let small = operand-small g f t x v ready.room e in
      stored_runs k P n f c (slot_at (frame g c) i) late (Slot i) all t u u2 xs (singles behind ++ ys) x v between ready e awaits written (slot_word g.layout g.image g.laid c i between.callee there) refl
      (in_parts g k n (store_argument (frame g f) (frame g c) all x (slot_at (frame g c) i)) behind ys h)
      (λ m a. rest m a.file u2 a.ready (a.values_are ∙ es) (room-written c u u2 (Slot i) v (place_written u u2 (Slot i) v written) small room) a.awaits all_written a.at
      (λ j b. go j (joined k n m j f c t u2 w (Slot i) ps xs late (singles behind ++ ys) ys (λ q z. absurd cc) a b)))
  passes k P n f c late all x xs (InRegister q) ps ys t u u2 w v vs between ready e es room awaits told written all_written h rest go =
      by_direct (is_direct all q xs) refl
      (in_parts g k n (if is_direct all q xs then into_code (frame g f) (machine_register q) x else store_argument (frame g f) (frame g c) all x (home_at (frame g c) q)) (pass_code (frame g f) (frame g c) all xs ps) ys h)
    where
      behind : List Noted
      behind = singles (pass_code (frame g f) (frame g c) all xs ps) ++ ys

      inside : (r : ℕ) → InRegister q ≡ InRegister r → r ≤ result_register
      inside r z = let same : q ≡ r = cc in subst (λ y. y ≤ result_register) same (written_there g c u u2 (InRegister q) v room written)

      go_on : (m : ℕ) → Argued k n m f c t (InRegister q) xs late u2 behind → Later P m
      go_on m a =
          rest m a.file u2 a.ready (a.values_are ∙ es) (room-written c u u2 (InRegister q) v (place_written u u2 (InRegister q) v written) (operand-small g f t x v ready.room e) room) a.awaits all_written a.at
          (λ j b. go j (joined k n m j f c t u2 w (InRegister q) ps xs late behind ys inside a b))

      by_direct : (b : Bool) → is_direct all q xs ≡ b → At g k n (singles (if b then into_code (frame g f) (machine_register q) x else store_argument (frame g f) (frame g c) all x (home_at (frame g c) q)) ++ behind) → Later P n
      by_direct true d z =
          let parts = and_parts (not (reads_register q xs)) (is_once q (registers_among all)) d in
          direct_runs k P n f c q late t u u2 xs behind x v ready e room awaits written (told.0 ∙ ap not d) (not_false (reads_register q xs) parts.0) z go_on
      by_direct false d z =
          let is_late = told.0 ∙ ap not d in
          stored_runs k P n f c (home_at (frame g c) q) late (InRegister q) all t u u2 xs behind x v between ready e awaits written (home_word g c q between.callee (between.homes q is_late)) (is_late, refl) z go_on

  -- all arguments
  pub pass_runs : (k : Course) (P : ℕ → Type 0) (n f c : ℕ) (late : List ℕ) (all : List Place) (xs : List (Operand Place)) (ps : List Place) (ys : List Noted) (vs : List Value) (t u w : File) → Between f c late → Ready g f t n
      → values places t xs ≡ Some vs → HasRoom g.layout.memory (frame g c) u → Awaits n c late u → AreTold late all xs ps → write_all places (Some u) ps vs ≡ Some w
      → At g k n (singles (pass_code (frame g f) (frame g c) all xs ps) ++ ys) → ((m : ℕ) → Passed k n m c ps late w ys → Later P m) → Later P n
  pass_runs k P n f c late all [] [] ys [] t u w between ready e room awaits told written h go =
      let same : u ≡ w = cc in
      go n
      (subst (λ z. Passed k n n c [] late z ys) same
      (record { at = h; registers = λ r one two others. refl; input = refl; output = refl; beside = λ y a o. refl; awaits = awaits; room = room; inside = λ q z. absurd cc }))
  pass_runs k P n f c late all [] [] ys (v ∷ vs) t u w between ready e room awaits told written h go = absurd cc
  pass_runs k P n f c late all [] (p ∷ ps) ys [] t u w between ready e room awaits told written h go = absurd cc
  pass_runs k P n f c late all [] (p ∷ ps) ys (v ∷ vs) t u w between ready e room awaits told written h go = absurd cc
  pass_runs k P n f c late all (x ∷ xs) [] ys vs t u w between ready e room awaits told written h go =
      let s = split (operand_value places t x) (values places t xs) vs e in
      let none : None ≡ Some w = subst (λ z. write_all places (Some u) [] z ≡ Some w) s.are written in
      absurd cc
  pass_runs k P n f c late all (x ∷ xs) (p ∷ ps) ys vs t u w between ready e room awaits told written h go =
      let s = split (operand_value places t x) (values places t xs) vs e in
      by_file (write_place u p s.head) refl (subst (λ z. write_all places (Some u) (p ∷ ps) z ≡ Some w) s.are written)
      (λ m t2 u2 ready2 e2 room2 awaits2 written2 at next. pass_runs k P m f c late all xs ps ys s.rest t2 u2 w between ready2 e2 room2 awaits2 (told_rest p told) written2 at next)
    where
      told_rest : (d : Place) → AreTold late all (x ∷ xs) (d ∷ ps) → AreTold late all xs ps
      told_rest (InRegister q) z = z.1
      told_rest (Slot j) z = z

      by_file : (o : Option File) → write_place u p (split (operand_value places t x) (values places t xs) vs e).head ≡ o → write_all places o ps (split (operand_value places t x) (values places t xs) vs e).rest ≡ Some w
          → Rest k P f c late all xs ps ys (split (operand_value places t x) (values places t xs) vs e).rest w → Later P n
      by_file None e2 z rest = absurd cc
      by_file (Some u2) e2 z rest =
          let s = split (operand_value places t x) (values places t xs) vs e in
          passes k P n f c late all x xs p ps ys t u u2 w s.head s.rest between ready s.first s.others room awaits told e2 z h rest go
