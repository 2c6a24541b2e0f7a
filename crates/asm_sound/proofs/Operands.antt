-- The code of operands and addresses keeps its ranges.
use Rattle.std.proofs.Common.{◌≡◌, ◌≢◌, ℕ, ◌+◌, ◌*◌, ◌%◌, ◌^◌, ◌<◌, ◌≤◌, ◌==◌, pos, Bool, true, false, [], ◌∷◌, ◌++◌, Option, Some, None, All, refl, arith, if◌then◌else◌}
use Rattle.std.specs.Prelude.{nat_lt}
use Rattle.std.specs.Option.{option_to_list}
use Rattle.std.proofs.lemmas.Bool.{and_from, lt-ltb}
use Rattle.std.proofs.lemmas.Bool.Decides.{nat_tests}
use Rattle.std.proofs.lemmas.List.Elements.{All-head}
use Rattle.rv_core.specs.declared.op.Op.TheVariants.{Add}
use Rattle.rv_core.specs.Instructions.{instruction, in_row, is_within}
use Rattle.asm_items.specs.Items.{in_rows}
use Rattle.asm_forms.proofs.FitLemmas.{rows-append}
use Rattle.low_ir.specs.declared.places.Place.{Place}
use Rattle.low_ir.specs.declared.places.Place.TheVariants.{Register as InRegister, Slot}
use Rattle.low_ir.specs.Code.{Operand, Register, Constant, Base, Fixed, Through, Address}
use Rattle.low_ir.specs.Places.{machine_registers, result_register}
use Rattle.asm_program.specs.Numbers.{result, first_free, second_free, machine_register, reach_code, reach_register, reach_offset, object_code, object_register, constant_code, load_word, store_word, is_short, load_upper}
use Rattle.asm_program.specs.Frames.{Frame, Memory, slot_at, object_at}
use Rattle.asm_program.specs.Operands.{load_code, store_code, place_register, fetch_code, operand_register, operand_code, into_code, result_code, put_code, offset_code, offset_register, far_code, far_register, code_to, register_to, offset_to, address_code, address_register, address_offset}
use Rattle.asm_program.specs.Ranges.{IsRegister, InOperand, InBase, InAddress}
use Rattle.asm_sound.proofs.Words.{alone, before, rows_if, small_if, upper_row, load_row, store_row, lower_in, reach_in, reach_small, reach_rows, object_in, object_small, object_rows, constant_rows, move_rows}

pub machine_small : (q : ℕ) → q ≤ result_register → machine_register q < 32
machine_small q h = by (nat_lt q 2) (nat_lt q 4) (nat_lt q 10) (q == result_register) refl refl
  where
    by : (a b c d : Bool) → nat_lt q 2 ≡ a → (q == result_register) ≡ d → (if a then 2 * q + 2 else (if b then q + 6 else (if c then q + 7 else (if d then result else q + 8)))) < 32
    by true b c d e f = let less : q < 2 = grind (arith, nat_tests) in omega arith
    by false true c d e f = omega arith
    by false false true d e f = omega arith
    by false false false true e f = omega arith
    by false false false false e f = let other : q ≢ result_register = grind (arith, f, nat_tests) in omega (arith, other)

pub lasting_small : (q : ℕ) → q < machine_registers → machine_register q < 32
lasting_small q h = machine_small q (omega (arith, h))

pub add_row : (d x y : ℕ) → d < 32 → x < 32 → y < 32 → in_row (instruction Add d x y (pos 0)) ≡ true
add_row d x y h k l = and_from (nat_lt d 32) _ (lt-ltb d 32 h) (and_from (nat_lt x 32) _ (lt-ltb x 32 k) (and_from (nat_lt y 32) true (lt-ltb y 32 l) refl))

pub load_rows : (r a : ℕ) → r < 32 → in_rows (load_code r a) ≡ true
load_rows r a h = rows-append (reach_code r a) (load_word r (reach_register r a) (reach_offset a) ∷ []) (reach_rows r a h) (alone (load_word r (reach_register r a) (reach_offset a)) (load_row r (reach_register r a) (reach_offset a) h (reach_small r a h) (reach_in a)))

pub store_rows : (t r a : ℕ) → t < 32 → r < 32 → in_rows (store_code t r a) ≡ true
store_rows t r a h k = rows-append (reach_code t a) (store_word r (reach_register t a) (reach_offset a) ∷ []) (reach_rows t a h) (alone (store_word r (reach_register t a) (reach_offset a)) (store_row r (reach_register t a) (reach_offset a) k (reach_small t a h) (reach_in a)))

module _ (fr : Frame) where
  pub place_small : (t : ℕ) (p : Place) → t < 32 → IsRegister p → place_register fr t p < 32
  place_small t (InRegister q) h r = machine_small q r
  place_small t (Slot k) h r = h

  pub fetch_rows : (t : ℕ) (p : Place) → t < 32 → in_rows (fetch_code fr t p) ≡ true
  fetch_rows t (InRegister q) h = refl
  fetch_rows t (Slot k) h = load_rows t (slot_at fr k) h

  pub operand_small : (t : ℕ) (x : Operand Place) → t < 32 → InOperand x → operand_register fr t x < 32
  operand_small t (Register p) h r = place_small t p h r
  operand_small t (Constant w) h r = small_if (w % 2 ^ 32 == 0) 0 t (omega arith) h

  pub operand_rows : (t : ℕ) (x : Operand Place) → t < 32 → in_rows (operand_code fr t x) ≡ true
  operand_rows t (Register p) h = fetch_rows t p h
  operand_rows t (Constant w) h = rows_if (w % 2 ^ 32 == 0) [] (constant_code t (w % 2 ^ 32)) refl (constant_rows t (w % 2 ^ 32) h)

  pub into_rows : (r : ℕ) (x : Operand Place) → r < 32 → InOperand x → in_rows (into_code fr r x) ≡ true
  into_rows r (Register (InRegister q)) h i = move_rows r (machine_register q) h (machine_small q i)
  into_rows r (Register (Slot k)) h i = load_rows r (slot_at fr k) h
  into_rows r (Constant w) h i = constant_rows r (w % 2 ^ 32) h

  pub result_rows : (t u : ℕ) (p : Place) → t < 32 → u < 32 → in_rows (result_code fr t u p) ≡ true
  result_rows t u (InRegister q) h k = refl
  result_rows t u (Slot n) h k = store_rows u t (slot_at fr n) k h

  pub put_rows : (r : ℕ) (p : Place) → r < 32 → IsRegister p → in_rows (put_code fr r p) ≡ true
  put_rows r (InRegister q) h i = move_rows (machine_register q) r (machine_small q i) h
  put_rows r (Slot k) h i = store_rows first_free r (slot_at fr k) (omega arith) h

  module _ (m : Memory) where
    offset_rows : (r : ℕ) (p : Option Place) → r < 32 → All IsRegister (option_to_list p) → in_rows (offset_code fr m r p) ≡ true
    offset_rows r None h i = refl
    offset_rows r (Some p) h i =
        rows-append (fetch_code fr second_free p) (instruction Add first_free r (place_register fr second_free p) (pos 0) ∷ []) (fetch_rows second_free p (omega arith))
        (alone (instruction Add first_free r (place_register fr second_free p) (pos 0)) (add_row first_free r (place_register fr second_free p) (omega arith) h (place_small second_free p (omega arith) (All-head IsRegister p [] i))))

    offset_small : (r : ℕ) (p : Option Place) → r < 32 → offset_register fr m r p < 32
    offset_small r None h = h
    offset_small r (Some p) h = omega arith

    far_rows : (b : Bool) (r n : ℕ) → r < 32 → in_rows (far_code fr m b r n) ≡ true
    far_rows true r n h = refl
    far_rows false r n h = before (load_upper second_free n) (instruction Add first_free r second_free (pos 0) ∷ []) (upper_row second_free n (omega arith)) (alone (instruction Add first_free r second_free (pos 0)) (add_row first_free r second_free (omega arith) h (omega arith)))

    far_small : (b : Bool) (r : ℕ) → r < 32 → far_register fr m b r < 32
    far_small true r h = h
    far_small false r h = omega arith

    code_rows : (b : Base Place) (p : Option Place) (n : ℕ) → InBase b → All IsRegister (option_to_list p) → in_rows (code_to fr m b p n) ≡ true
    code_rows (Fixed o) p n h i =
        let a = (object_at m o + n) % 2 ^ 32 in
        let r = object_register m.second first_free a in
        rows-append (object_code m.second first_free a) (offset_code fr m r p) (object_rows m.second first_free a (omega arith)) (offset_rows r p (object_small m.second first_free a (omega arith)) i)
    code_rows (Through q claim) p n h i =
        let r = place_register fr first_free q in
        let small = place_small first_free q (omega arith) h in
        rows-append (fetch_code fr first_free q) (offset_code fr m r p ++ far_code fr m (is_short (n % 2 ^ 32)) (offset_register fr m r p) (n % 2 ^ 32)) (fetch_rows first_free q (omega arith))
        (rows-append (offset_code fr m r p) (far_code fr m (is_short (n % 2 ^ 32)) (offset_register fr m r p) (n % 2 ^ 32)) (offset_rows r p small i) (far_rows (is_short (n % 2 ^ 32)) (offset_register fr m r p) (n % 2 ^ 32) (offset_small r p small)))

    register_small : (b : Base Place) (p : Option Place) (n : ℕ) → InBase b → register_to fr m b p n < 32
    register_small (Fixed o) p n h = let a = (object_at m o + n) % 2 ^ 32 in offset_small (object_register m.second first_free a) p (object_small m.second first_free a (omega arith))
    register_small (Through q claim) p n h = let r = place_register fr first_free q in far_small (is_short (n % 2 ^ 32)) (offset_register fr m r p) (offset_small r p (place_small first_free q (omega arith) h))

    offset_in : (b : Base Place) (n : ℕ) → is_within (2 ^ 11) (offset_to fr m b n) ≡ true
    offset_in (Fixed o) n = object_in m.second ((object_at m o + n) % 2 ^ 32)
    offset_in (Through q claim) n = lower_in (n % 2 ^ 32)

    pub address_rows : (a : Address Place) → InAddress a → in_rows (address_code fr m a) ≡ true
    address_rows a h = code_rows a.base a.offset a.displacement h.0 h.1

    pub address_small : (a : Address Place) → InAddress a → address_register fr m a < 32
    address_small a h = register_small a.base a.offset a.displacement h.0

    pub address_in : (a : Address Place) → is_within (2 ^ 11) (address_offset fr m a) ≡ true
    address_in a = offset_in a.base a.displacement
