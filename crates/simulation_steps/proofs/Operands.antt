-- Operands come into registers, and results go to their places.
use Rattle.std.proofs.Common.{◌≡◌, ◌≢◌, ◌⊎◌, ℕ, ◌+◌, ◌%◌, ◌^◌, ◌<◌, ◌≤◌, Bool, true, false, List, [], ◌++◌, length, Some, refl, sym, ap, ◌∙◌, subst, arith}
use Rattle.std.specs.Prelude.{◌==◌, if◌then◌else◌}
use Rattle.std.proofs.lemmas.List.{append_assoc, map-append}
use Rattle.rv_core.specs.declared.row.Width.{Width}
use Rattle.rv_core.specs.declared.row.Width.TheVariants.{Word as Whole}
use Rattle.rv_core.specs.Arithmetic.{byte_count}
use Rattle.rv_core.specs.Instructions.{Instruction}
use Rattle.rv_core.specs.Memory.{read_from}
use Rattle.rv_core.specs.Machine.{World}
use Rattle.rv_steps.specs.Steps.{Later}
use Rattle.low_ir.specs.declared.places.Place.{Place}
use Rattle.low_ir.specs.declared.places.Place.TheVariants.{Register as InRegister, Slot}
use Rattle.low_ir.specs.declared.run.Value.{Value}
use Rattle.low_ir.specs.declared.run.Value.TheVariants.{Word}
use Rattle.low_ir.specs.Code.{Operand, Register, Constant}
use Rattle.low_ir.specs.Runs.{operand_value}
use Rattle.low_ir.specs.Places.{File, read_place, places, result_register}
use Rattle.asm_program.specs.Numbers.{base, second_base, base_address, first_free, second_free, machine_register, constant_code}
use Rattle.asm_program.specs.Frames.{Frame, frame_of, slot_at}
use Rattle.asm_program.specs.Operands.{place_register, operand_register, operand_code, into_code, result_code, put_code, store_code}
use Rattle.simulation_relation.specs.Noted.{Noted, single, singles}
use Rattle.simulation_relation.specs.Positions.{Course}
use Rattle.simulation_relation.specs.Views.{view_of, code_of, IsLocated, HasRoom, Shows}
use Rattle.simulation_steps.proofs.Given.{Given, state, reg, read, At}
use Rattle.simulation_steps.proofs.Words.{test-zero}
use Rattle.simulation_steps.proofs.Places.{IsSteady, value_is, slot_word, within}
use Rattle.simulation_steps.proofs.Stepping.{Wrote}
use Rattle.simulation_steps.proofs.Moving.{Stored, constant, move, load, store}

abbrev pub frame : Given → ℕ → Frame
frame g f = frame_of g.layout.memory f

abbrev pub code : Given → Value → ℕ
code g v = code_of g.layout.memory v

-- a register for a moment: no value and no base stands in it
pub record IsFree (t : ℕ) : Type 0 where
  pub some : 0 < t
  pub less : t < 32
  pub base_not : base ≢ t
  pub second_not : second_base ≢ t
  pub steady_not : (r : ℕ) → IsSteady r → r ≢ t

pub first_is_free : IsFree first_free
first_is_free = record { some = omega arith; less = omega arith; base_not = λ e. omega (arith, e); second_not = λ e. omega (arith, e); steady_not = λ r s. s.five }

pub second_is_free : IsFree second_free
second_is_free = record { some = omega arith; less = omega arith; base_not = λ e. omega (arith, e); second_not = λ e. omega (arith, e); steady_not = λ r s. s.six }

pub some_word : (w : ℕ) (v : Value) → Some (Word w) ≡ Some v → Word w ≡ v
some_word w v e = cc

singles_split : (is js : List Instruction) (xs : List Noted) → singles (is ++ js) ++ xs ≡ singles is ++ (singles js ++ xs)
singles_split is js xs = ap (λ ys. ys ++ xs) (map-append single is js) ∙ append_assoc (singles is) (singles js) xs

module _ (g : Given) where
  -- code in two parts
  pub in_parts : (k : Course) (n : ℕ) (is js : List Instruction) (xs : List Noted) → At g k n (singles (is ++ js) ++ xs) → At g k n (singles is ++ (singles js ++ xs))
  in_parts k n is js xs h = subst (λ ys. At g k n ys) (singles_split is js xs) h

  -- a machine that shows the values of an activation of function f
  pub record Ready (f : ℕ) (file : File) (n : ℕ) : Type 0 where
    pub there : f < length g.layout.program.functions
    pub based : reg g n base ≡ base_address
    pub second : reg g n second_base ≡ g.layout.memory.second
    pub room : HasRoom g.layout.memory (frame g f) file
    pub shows : Shows g.layout.memory (frame g f) file (view_of (state g n))

  -- registers of values that are set are among those of the machine
  pub register_inside : (f n q : ℕ) (file : File) (v : Value) → Ready f file n → read_place file (InRegister q) ≡ Some v → q ≤ result_register
  register_inside f n q file v r e =
      let less = within file.registers q v e in
      let long = r.room.registers in
      omega arith

  pub slot_inside : (f n j : ℕ) (file : File) (v : Value) → Ready f file n → read_place file (Slot j) ≡ Some v → j < (frame g f).slots
  slot_inside f n j file v r e =
      let less = within file.slots j v e in
      let long = r.room.slots in
      omega arith

  -- it goes on to show them while a free register is written
  pub ready_kept : (f n m t : ℕ) (file : File) → IsFree t → Ready f file n → (state g m).world ≡ (state g n).world → ((q : ℕ) → q ≢ t → reg g m q ≡ reg g n q) → Ready f file m
  ready_kept f n m t file free r world others =
      record {
        there = r.there;
        based = others base free.base_not ∙ r.based;
        second = others second_base free.second_not ∙ r.second;
        room = r.room;
        shows = kept;
      }
    where
      kept : Shows g.layout.memory (frame g f) file (view_of (state g m))
      kept (InRegister q) v e = others (machine_register q) (free.steady_not (machine_register q) (value_is q (register_inside f n q file v r e)).steady) ∙ r.shows (InRegister q) v e
      kept (Slot j) v e = ap (λ (x : World). read_from (λ b. b.read) Whole x.memory (slot_at (frame g f) j)) world ∙ r.shows (Slot j) v e

  -- an operand is in a register; t may have been written for it
  pub record Fetched (k : Course) (n m t r w : ℕ) (xs : List Noted) : Type 0 where
    pub at : At g k m xs
    pub world : (state g m).world ≡ (state g n).world
    pub value : reg g m r ≡ w
    pub others : (q : ℕ) → q ≢ t → reg g m q ≡ reg g n q

  constant_operand : (k : Course) (P : ℕ → Type 0) (n t w : ℕ) (xs : List Noted) (zero : Bool) → IsFree t → w < 2 ^ 32 → (w == 0) ≡ zero → At g k n (singles (if zero then [] else constant_code t w) ++ xs)
      → ((m : ℕ) → Fetched k n m t (if zero then 0 else t) w xs → Later P m) → Later P n
  constant_operand k P n t w xs true free small is h go = go n (record { at = h; world = refl; value = sym (test-zero w is); others = λ q o. refl })
  constant_operand k P n t w xs false free small is h go =
      constant g k P n xs t w free.some free.less small h (λ m a. go m (record { at = a.at; world = a.world; value = a.value; others = a.others }))

  pub operand : (k : Course) (P : ℕ → Type 0) (n f t : ℕ) (file : File) (xs : List Noted) (x : Operand Place) (v : Value) → IsFree t → Ready f file n → operand_value places file x ≡ Some v
      → At g k n (singles (operand_code (frame g f) t x) ++ xs) → ((m : ℕ) → Fetched k n m t (operand_register (frame g f) t x) (code g v) xs → Later P m) → Later P n
  operand k P n f t file xs (Register (InRegister q)) v free r e h go = go n (record { at = h; world = refl; value = r.shows (InRegister q) v e; others = λ p o. refl })
  operand k P n f t file xs (Register (Slot j)) v free r e h go =
      let w = slot_word g.layout g.image g.laid f j r.there (slot_inside f n j file v r e) in
      load g k P n xs t (slot_at (frame g f) j) (code g v) free.some free.less r.based w.small w.aligned w.ram (r.shows (Slot j) v e) h
      (λ m a. go m (record { at = a.at; world = a.world; value = a.value; others = a.others }))
  operand k P n f t file xs (Constant c) v free r e h go =
      let same : c % 2 ^ 32 ≡ code g v = ap (code g) (some_word (c % 2 ^ 32) v e) in
      constant_operand k P n t (c % 2 ^ 32) xs (c % 2 ^ 32 == 0) free (omega arith) refl h
      (λ m a. go m (record { at = a.at; world = a.world; value = a.value ∙ same; others = a.others }))

  -- an operand comes into a given register
  pub into : (k : Course) (P : ℕ → Type 0) (n f r : ℕ) (file : File) (xs : List Noted) (x : Operand Place) (v : Value) → 0 < r → r < 32 → Ready f file n → operand_value places file x ≡ Some v
      → At g k n (singles (into_code (frame g f) r x) ++ xs) → ((m : ℕ) → Wrote g k n m r (code g v) xs → Later P m) → Later P n
  into k P n f r file xs (Register (InRegister q)) v some less ready e h go = move g k P n xs r (machine_register q) (code g v) some less (ready.room.words (InRegister q) v e) (ready.shows (InRegister q) v e) h go
  into k P n f r file xs (Register (Slot j)) v some less ready e h go =
      let w = slot_word g.layout g.image g.laid f j ready.there (slot_inside f n j file v ready e) in
      load g k P n xs r (slot_at (frame g f) j) (code g v) some less ready.based w.small w.aligned w.ram (ready.shows (Slot j) v e) h go
  into k P n f r file xs (Constant c) v some less ready e h go =
      let same : c % 2 ^ 32 ≡ code g v = ap (code g) (some_word (c % 2 ^ 32) v e) in
      constant g k P n xs r (c % 2 ^ 32) some less (omega arith) h
      (λ m a. go m (record { at = a.at; world = a.world; value = a.value ∙ same; others = a.others }))

  -- where an operand is, no second one comes
  pub operand_apart : (f n : ℕ) (file : File) (x : Operand Place) (v : Value) → Ready f file n → operand_value places file x ≡ Some v → operand_register (frame g f) first_free x ≢ second_free
  operand_apart f n file (Register (InRegister q)) v r e = (value_is q (register_inside f n q file v r e)).steady.six
  operand_apart f n file (Register (Slot j)) v r e = λ x. omega (arith, x)
  operand_apart f n file (Constant c) v r e = by_zero (c % 2 ^ 32 == 0)
    where
      by_zero : (b : Bool) → (if b then 0 else first_free) ≢ second_free
      by_zero true x = omega (arith, x)
      by_zero false x = omega (arith, x)

  -- a place that an activation has
  abbrev pub IsThere : ℕ → Place → Type 0
  IsThere f (InRegister q) = q ≤ result_register
  IsThere f (Slot j) = j < (frame g f).slots

  -- a register that isn't the place's, and bytes that aren't
  abbrev pub IsOther : Place → ℕ → Type 0
  IsOther (InRegister q) r = r ≢ machine_register q
  IsOther (Slot j) r = Unit {0}

  abbrev pub IsBeside : ℕ → Place → ℕ → ℕ → Type 0
  IsBeside f (InRegister q) a n = Unit {0}
  IsBeside f (Slot j) a n = (a + n ≤ slot_at (frame g f) j) ⊎ (slot_at (frame g f) j + 4 ≤ a)

  -- a place got a word
  pub record Gave (k : Course) (n m f : ℕ) (d : Place) (w : ℕ) (xs : List Noted) : Type 0 where
    pub at : At g k m xs
    pub input : (state g m).world.input ≡ (state g n).world.input
    pub output : (state g m).world.output ≡ (state g n).world.output
    pub registers : (r : ℕ) → IsSteady r → IsOther d r → reg g m r ≡ reg g n r
    pub reads : (y : Width) (a : ℕ) → IsBeside f d a (byte_count y) → read g m y a ≡ read g n y a
    pub located : IsLocated (frame g f) (view_of (state g m)) d w

  -- what some code before it left as it was, but for free registers
  pub gave_behind : (k : Course) (n m j f : ℕ) (d : Place) (w : ℕ) (xs : List Noted) → (state g m).world ≡ (state g n).world → ((r : ℕ) → IsSteady r → IsOther d r → reg g m r ≡ reg g n r) → Gave k m j f d w xs → Gave k n j f d w xs
  gave_behind k n m j f d w xs world registers b =
      record {
        at = b.at;
        input = b.input ∙ ap (λ (x : World). x.input) world;
        output = b.output ∙ ap (λ (x : World). x.output) world;
        registers = λ r s o. b.registers r s o ∙ registers r s o;
        reads = λ y a o. b.reads y a o ∙ ap (λ (x : World). read_from (λ c. c.read) y x.memory a) world;
        located = b.located;
      }

  from_stored : (k : Course) (n m f t j w : ℕ) (xs : List Noted) → IsFree t → w < 2 ^ 32 → Stored g k n m t Whole (slot_at (frame g f) j) w xs → Gave k n m f (Slot j) w xs
  from_stored k n m f t j w xs free small a =
      record {
        at = a.at;
        input = a.input;
        output = a.output;
        registers = λ r s o. a.registers r (free.steady_not r s);
        reads = λ y b o. a.beside y b o;
        located = let whole : w % 2 ^ 32 ≡ w = omega arith in a.same ∙ ap Some whole;
      }

  pub from_wrote : (k : Course) (n m f q w : ℕ) (xs : List Noted) → Wrote g k n m (machine_register q) w xs → Gave k n m f (InRegister q) w xs
  from_wrote k n m f q w xs a =
      record {
        at = a.at;
        input = ap (λ (x : World). x.input) a.world;
        output = ap (λ (x : World). x.output) a.world;
        registers = λ r s o. a.others r o;
        reads = λ y b o. ap (λ (x : World). read_from (λ c. c.read) y x.memory b) a.world;
        located = a.value;
      }

  -- a word in a register goes to a slot, with t for the address
  pub to_slot : (k : Course) (P : ℕ → Type 0) (n f t r j w : ℕ) (xs : List Noted) → IsFree t → r ≢ t → f < length g.layout.program.functions → j < (frame g f).slots → w < 2 ^ 32 → reg g n base ≡ base_address → reg g n r ≡ w
      → At g k n (singles (store_code t r (slot_at (frame g f) j)) ++ xs) → ((m : ℕ) → Gave k n m f (Slot j) w xs → Later P m) → Later P n
  to_slot k P n f t r j w xs free other there less small based is h go =
      let word = slot_word g.layout g.image g.laid f j there less in
      store g k P n xs t r (slot_at (frame g f) j) w free.some free.less other based word.small word.aligned word.ram is word.opens h
      (λ m a. go m (from_stored k n m f t j w xs free small a))

  -- a result that is in the register of its place, or in x5, goes to its place
  pub result : (k : Course) (P : ℕ → Type 0) (n f w : ℕ) (xs : List Noted) (d : Place) → f < length g.layout.program.functions → IsThere f d → w < 2 ^ 32 → reg g n base ≡ base_address
      → reg g n (place_register (frame g f) first_free d) ≡ w → At g k n (singles (result_code (frame g f) first_free second_free d) ++ xs) → ((m : ℕ) → Gave k n m f d w xs → Later P m) → Later P n
  result k P n f w xs (InRegister q) there inside small based is h go = go n (record { at = h; input = refl; output = refl; registers = λ r s o. refl; reads = λ y a o. refl; located = is })
  result k P n f w xs (Slot j) there inside small based is h go = to_slot k P n f second_free first_free j w xs second_is_free (λ x. omega (arith, x)) there inside small based is h go

  -- what is in another register goes to a place
  pub put : (k : Course) (P : ℕ → Type 0) (n f r w : ℕ) (xs : List Noted) (d : Place) → r ≢ first_free → f < length g.layout.program.functions → IsThere f d → w < 2 ^ 32 → reg g n base ≡ base_address → reg g n r ≡ w
      → At g k n (singles (put_code (frame g f) r d) ++ xs) → ((m : ℕ) → Gave k n m f d w xs → Later P m) → Later P n
  put k P n f r w xs (InRegister q) other there inside small based is h go =
      let value = value_is q inside in
      move g k P n xs (machine_register q) r w value.some value.less small is h (λ m a. go m (from_wrote k n m f q w xs a))
  put k P n f r w xs (Slot j) other there inside small based is h go = to_slot k P n f first_free r j w xs first_is_free other there inside small based is h go
