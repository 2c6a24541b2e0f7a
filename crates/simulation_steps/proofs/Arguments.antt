-- One argument of a call.
use Rattle.std.proofs.Common.{◌≡◌, ◌≢◌, ◌⊎◌, ⊎_elim, ℕ, ◌+◌, ◌%◌, ◌^◌, ◌<◌, ◌≤◌, Bool, true, false, List, ◌∷◌, ◌++◌, length, Some, None, refl, sym, ap, ◌∙◌, arith, get_or-set_same, get_or-set_other, length-set}
use Rattle.std.specs.Prelude.{◌==◌, if◌then◌else◌, slice_index_or, slice_set}
use Rattle.std.proofs.lemmas.Bool.{cases_eq}
use Rattle.std.proofs.lemmas.Bool.Decides.{nat_tests}
use Rattle.rv_core.specs.declared.regions.Region.TheVariants.{Ram}
use Rattle.rv_core.specs.Regions.{region_of}
use Rattle.rv_core.specs.declared.row.Width.{Width}
use Rattle.rv_core.specs.declared.row.Width.TheVariants.{Word as Whole}
use Rattle.rv_core.specs.Arithmetic.{byte_count}
use Rattle.rv_core.specs.Memory.{read_from}
use Rattle.rv_core.specs.Machine.{World}
use Rattle.rv_steps.specs.Steps.{Later}
use Rattle.low_ir.specs.declared.places.Place.{Place}
use Rattle.low_ir.specs.declared.places.Place.TheVariants.{Register as InRegister, Slot}
use Rattle.low_ir.specs.declared.run.Value.{Value}
use Rattle.low_ir.specs.Code.{Operand, Register, Constant}
use Rattle.low_ir.specs.Runs.{operand_value}
use Rattle.low_ir.specs.Places.{File, read_place, with_registers, places, result_register}
use Rattle.asm_program.specs.Numbers.{base, second_base, first_free, second_free, machine_register}
use Rattle.asm_program.specs.Frames.{slot_at}
use Rattle.asm_program.specs.Operands.{operand_register, operand_code, store_code}
use Rattle.asm_program.specs.Emission.{reads_register, store_argument}
use Rattle.simulation_relation.specs.Noted.{Noted, singles}
use Rattle.simulation_relation.specs.Positions.{Course}
use Rattle.simulation_relation.specs.Views.{view_of, Shows}
use Rattle.simulation_relation.specs.Layouts.{IsOpen}
use Rattle.simulation_steps.proofs.Given.{Given, state, reg, read, At}
use Rattle.simulation_steps.proofs.Places.{value_is, machine_register-same}
use Rattle.simulation_steps.proofs.Stepping.{Wrote}
use Rattle.simulation_steps.proofs.Moving.{store}
use Rattle.simulation_steps.proofs.Operands.{frame, code, first_is_free, in_parts, Ready, ready_kept, operand, operand_apart}

-- a store in which a register has no value
abbrev pub unset : File → ℕ → File
unset t q = with_registers t (slice_set t.registers q None)

-- what the others hold
pub read-unset : (t : File) (q : ℕ) (p : Place) (x : Value) → q < length t.registers → read_place (unset t q) p ≡ Some x → (read_place t p ≡ Some x) × (p ≢ InRegister q)
read-unset t q (Slot k) x less e = (e, λ z. cc)
read-unset t q (InRegister r) x less e =
    ⊎_elim
    (λ (same : r ≡ q). let none : None ≡ Some x = sym (get_or-set_same t.registers q None None less) ∙ ap (λ n. slice_index_or (slice_set t.registers q None) n None) (sym same) ∙ e in absurd cc)
    (λ (other : r ≢ q). (sym (get_or-set_other t.registers q r None None other) ∙ e, λ z. other cc))
    (cases_eq r q)

pub read-other : (t : File) (q r : ℕ) → r ≢ q → read_place (unset t q) (InRegister r) ≡ read_place t (InRegister r)
read-other t q r other = get_or-set_other t.registers q r None None other

-- operands that don't read it have the same values
pub operand-unset : (t : File) (q : ℕ) (x : Operand Place) (xs : List (Operand Place)) → reads_register q (x ∷ xs) ≡ false → operand_value places (unset t q) x ≡ operand_value places t x
operand-unset t q (Constant w) xs e = refl
operand-unset t q (Register (Slot k)) xs e = refl
operand-unset t q (Register (InRegister r)) xs e = by_test (q == r) refl e
  where
    by_test : (b : Bool) → (q == r) ≡ b → (if b then true else reads_register q xs) ≡ false → read_place (unset t q) (InRegister r) ≡ read_place t (InRegister r)
    by_test true s z = absurd cc
    by_test false s z = read-other t q r (λ same. let yes_it : (q == r) ≡ true = grind (arith, nat_tests) in let both : true ≡ false = sym yes_it ∙ s in cc)

pub reads-rest : (q : ℕ) (x : Operand Place) (xs : List (Operand Place)) → reads_register q (x ∷ xs) ≡ false → reads_register q xs ≡ false
reads-rest q (Constant w) xs e = e
reads-rest q (Register (Slot k)) xs e = e
reads-rest q (Register (InRegister r)) xs e = by_test (q == r) e
  where
    by_test : (b : Bool) → (if b then true else reads_register q xs) ≡ false → reads_register q xs ≡ false
    by_test true z = absurd cc
    by_test false z = z

module _ (g : Given) where
  -- the caller's other values still stand where they were, once a register has an argument
  pub ready_unset : (k : Course) (n m f q v : ℕ) (t : File) (xs : List Noted) → q ≤ result_register → Ready g f t n → Wrote g k n m (machine_register q) v xs → Ready g f (unset t q) m
  ready_unset k n m f q v t xs less r w =
      let long = r.room.registers in
      record {
        there = r.there;
        based = w.others base (λ e. (value_is q less).base_not (sym e)) ∙ r.based;
        second = w.others second_base (λ e. (value_is q less).second_not (sym e)) ∙ r.second;
        room =
            record {
              registers = length-set t.registers q None ∙ r.room.registers;
              slots = r.room.slots;
              words = λ p x e. r.room.words p x (read-unset t q p x (omega arith) e).0;
            };
        shows = shows;
      }
    where
      shows : Shows g.layout.memory (frame g f) (unset t q) (view_of (state g m))
      shows (InRegister p) x e =
          let long = r.room.registers in
          let h = read-unset t q (InRegister p) x (omega arith) e in
          w.others (machine_register p) (λ z. h.1 (ap InRegister (machine_register-same p q z))) ∙ r.shows (InRegister p) x h.0
      shows (Slot j) x e = ap (λ (z : World). read_from (λ b. b.read) Whole z.memory (slot_at (frame g f) j)) w.world ∙ r.shows (Slot j) x e

  -- an argument that goes to a word of memory
  pub record Put (k : Course) (n m a w : ℕ) (xs : List Noted) : Type 0 where
    pub at : At g k m xs
    pub registers : (r : ℕ) → r ≢ first_free → r ≢ second_free → reg g m r ≡ reg g n r
    pub input : (state g m).world.input ≡ (state g n).world.input
    pub output : (state g m).world.output ≡ (state g n).world.output
    pub same : read g m Whole a ≡ Some (w % 2 ^ 32)
    pub beside : (y : Width) (b : ℕ) → (b + byte_count y ≤ a) ⊎ (a + 4 ≤ b) → read g m y b ≡ read g n y b

  pub store_runs : (k : Course) (P : ℕ → Type 0) (n f c a : ℕ) (t : File) (xs : List Noted) (all : List Place) (x : Operand Place) (v : Value) → Ready g f t n → operand_value places t x ≡ Some v → a < 2 ^ 32 → a % 4 ≡ 0 → region_of a ≡ Some Ram → IsOpen g.image a 4
      → At g k n (singles (store_argument (frame g f) (frame g c) all x a) ++ xs) → ((m : ℕ) → Put k n m a (code g v) xs → Later P m) → Later P n
  store_runs k P n f c a t xs all x v ready e small aligned inside opens h go =
      let r = operand_register (frame g f) first_free x in
      let rest = store_code second_free r a in
      operand g k P n f first_free t (singles rest ++ xs) x v first_is_free ready e (in_parts g k n (operand_code (frame g f) first_free x) rest xs h)
      (λ m p. store g k P m xs second_free r a (code g v) (omega arith) (omega arith) (operand_apart g f n t x v ready e) (ready_kept g f n m first_free t first_is_free ready p.world p.others).based small aligned inside p.value opens p.at
      (λ j q. go j
      (record {
        at = q.at;
        registers = λ z one two. q.registers z two ∙ p.others z one;
        input = q.input ∙ ap (λ (z : World). z.input) p.world;
        output = q.output ∙ ap (λ (z : World). z.output) p.world;
        same = q.same;
        beside = λ y b o. q.beside y b o ∙ ap (λ (z : World). read_from (λ d. d.read) y z.memory b) p.world;
      })))
