-- The code of instructions keeps its ranges.
use Rattle.std.proofs.Common.{◌≡◌, ℕ, ◌%◌, ◌^◌, ◌<◌, ℤ, pos, Bool, true, false, ◌&&◌, [], ◌∷◌, ◌++◌, Option, Some, None, refl, arith, if◌then◌else◌}
use Rattle.std.specs.Prelude.{nat_lt}
use Rattle.std.proofs.lemmas.Bool.{and_from, lt-ltb}
use Rattle.rv_core.specs.declared.op.Op.{Op}
use Rattle.rv_core.specs.declared.op.Op.TheVariants as ops
use Rattle.rv_core.specs.declared.row.Alu.{Alu}
use Rattle.rv_core.specs.declared.row.Alu.TheVariants.{Sum, Difference, ShiftLeft, IsLess, IsLessUnsigned, BitXor, ShiftRight, ShiftRightSigned, BitOr, BitAnd, Product, HighProduct, HighProductMixed, HighProductUnsigned, Quotient, QuotientUnsigned, Remainder, RemainderUnsigned}
use Rattle.rv_core.specs.Instructions.{Instruction, instruction, in_row, is_within, addi, ecall}
use Rattle.asm_items.specs.Items.{in_rows}
use Rattle.asm_forms.proofs.FitLemmas.{rows-append}
use Rattle.low_ir.specs.declared.object.Kind.{Kind}
use Rattle.low_ir.specs.declared.object.Kind.TheVariants.{Unsigned8, Signed8, Unsigned16, Signed16, Word}
use Rattle.low_ir.specs.declared.places.Place.{Place}
use Rattle.low_ir.specs.declared.places.Place.TheVariants.{Register as InRegister, Slot}
use Rattle.low_ir.specs.Code.{Operand, Register, Constant, Address, Plain, Set, Operate, Point, Load, Store, Put, Get}
use Rattle.asm_program.specs.Numbers.{result, service, first_free, second_free, machine_register, is_short, lower_of}
use Rattle.asm_program.specs.Frames.{Frame, Memory, slot_at}
use Rattle.asm_program.specs.Operands.{store_code, place_register, operand_register, operand_code, into_code, result_code, address_code, address_register, address_offset}
use Rattle.asm_program.specs.Emission.{register_op, load_op, store_op, immediate_form, immediate_of, set_code, operate_by, plain_code}
use Rattle.asm_program.specs.Ranges.{IsRegister, InOperand, InAddress, InPlain}
use Rattle.asm_sound.proofs.Words.{alone, before, addi_row, lower_in}
use Rattle.asm_sound.proofs.Operands.{machine_small, place_small, operand_small, operand_rows, into_rows, result_rows, put_rows, store_rows, address_rows, address_small, address_in}

-- two registers and a number
two : (d x : ℕ) (w : Bool) → d < 32 → x < 32 → w ≡ true → (nat_lt d 32 && (nat_lt x 32 && w)) ≡ true
two d x w h k l = and_from (nat_lt d 32) (nat_lt x 32 && w) (lt-ltb d 32 h) (and_from (nat_lt x 32) w (lt-ltb x 32 k) l)

three : (d x y : ℕ) → d < 32 → x < 32 → y < 32 → (nat_lt d 32 && (nat_lt x 32 && (nat_lt y 32 && true))) ≡ true
three d x y h k l = two d x (nat_lt y 32 && true) h k (and_from (nat_lt y 32) true (lt-ltb y 32 l) refl)

register_row : (operator : Alu) (d x y : ℕ) → d < 32 → x < 32 → y < 32 → in_row (instruction (register_op operator) d x y (pos 0)) ≡ true
register_row Sum d x y h k l = three d x y h k l
register_row Difference d x y h k l = three d x y h k l
register_row ShiftLeft d x y h k l = three d x y h k l
register_row IsLess d x y h k l = three d x y h k l
register_row IsLessUnsigned d x y h k l = three d x y h k l
register_row BitXor d x y h k l = three d x y h k l
register_row ShiftRight d x y h k l = three d x y h k l
register_row ShiftRightSigned d x y h k l = three d x y h k l
register_row BitOr d x y h k l = three d x y h k l
register_row BitAnd d x y h k l = three d x y h k l
register_row Product d x y h k l = three d x y h k l
register_row HighProduct d x y h k l = three d x y h k l
register_row HighProductMixed d x y h k l = three d x y h k l
register_row HighProductUnsigned d x y h k l = three d x y h k l
register_row Quotient d x y h k l = three d x y h k l
register_row QuotientUnsigned d x y h k l = three d x y h k l
register_row Remainder d x y h k l = three d x y h k l
register_row RemainderUnsigned d x y h k l = three d x y h k l

pub read_row : (kind : Kind) (d a : ℕ) (o : ℤ) → d < 32 → a < 32 → is_within (2 ^ 11) o ≡ true → in_row (instruction (load_op kind) d a 0 o) ≡ true
read_row Unsigned8 d a o h k w = two d a (is_within (2 ^ 11) o) h k w
read_row Signed8 d a o h k w = two d a (is_within (2 ^ 11) o) h k w
read_row Unsigned16 d a o h k w = two d a (is_within (2 ^ 11) o) h k w
read_row Signed16 d a o h k w = two d a (is_within (2 ^ 11) o) h k w
read_row Word d a o h k w = two d a (is_within (2 ^ 11) o) h k w

pub write_row : (kind : Kind) (a x : ℕ) (o : ℤ) → a < 32 → x < 32 → is_within (2 ^ 11) o ≡ true → in_row (instruction (store_op kind) 0 a x o) ≡ true
write_row Unsigned8 a x o h k w = two a x (is_within (2 ^ 11) o) h k w
write_row Signed8 a x o h k w = two a x (is_within (2 ^ 11) o) h k w
write_row Unsigned16 a x o h k w = two a x (is_within (2 ^ 11) o) h k w
write_row Signed16 a x o h k w = two a x (is_within (2 ^ 11) o) h k w
write_row Word a x o h k w = two a x (is_within (2 ^ 11) o) h k w

-- a form with a number has its row, whatever its registers
abbrev FormFits : Option (Op × ℤ) → Type 0
FormFits None = Unit {0}
FormFits (Some form) = (d x : ℕ) → d < 32 → x < 32 → in_row (instruction form.0 d x 0 form.1) ≡ true

abbrev TakesNumber : Op → Type 0
TakesNumber op = (d x : ℕ) (o : ℤ) → d < 32 → x < 32 → is_within (2 ^ 11) o ≡ true → in_row (instruction op d x 0 o) ≡ true

abbrev TakesAmount : Op → Type 0
TakesAmount op = (d x n : ℕ) → d < 32 → x < 32 → nat_lt n 32 ≡ true → in_row (instruction op d x 0 (pos n)) ≡ true

number_fits : (op : Op) (n : ℕ) (b : Bool) → TakesNumber op → FormFits (if b then Some (op, lower_of n) else None)
number_fits op n true t = λ d x h k. t d x (lower_of n) h k (lower_in n)
number_fits op n false t = tt

amount_fits : (op : Op) (n : ℕ) (b : Bool) → nat_lt n 32 ≡ b → TakesAmount op → FormFits (if b then Some (op, pos n) else None)
amount_fits op n true e t = λ d x h k. t d x n h k e
amount_fits op n false e t = tt

form_fits : (operator : Alu) (n : ℕ) → FormFits (immediate_form operator n)
form_fits Sum n = number_fits ops.Addi n (is_short n) (λ d x o h k w. two d x (is_within (2 ^ 11) o) h k w)
form_fits Difference n = tt
form_fits ShiftLeft n = amount_fits ops.Slli n (nat_lt n 32) refl (λ d x i h k w. two d x (nat_lt i 32) h k w)
form_fits IsLess n = number_fits ops.Slti n (is_short n) (λ d x o h k w. two d x (is_within (2 ^ 11) o) h k w)
form_fits IsLessUnsigned n = number_fits ops.Sltiu n (is_short n) (λ d x o h k w. two d x (is_within (2 ^ 11) o) h k w)
form_fits BitXor n = number_fits ops.Xori n (is_short n) (λ d x o h k w. two d x (is_within (2 ^ 11) o) h k w)
form_fits ShiftRight n = amount_fits ops.Srli n (nat_lt n 32) refl (λ d x i h k w. two d x (nat_lt i 32) h k w)
form_fits ShiftRightSigned n = amount_fits ops.Srai n (nat_lt n 32) refl (λ d x i h k w. two d x (nat_lt i 32) h k w)
form_fits BitOr n = number_fits ops.Ori n (is_short n) (λ d x o h k w. two d x (is_within (2 ^ 11) o) h k w)
form_fits BitAnd n = number_fits ops.Andi n (is_short n) (λ d x o h k w. two d x (is_within (2 ^ 11) o) h k w)
form_fits Product n = tt
form_fits HighProduct n = tt
form_fits HighProductMixed n = tt
form_fits HighProductUnsigned n = tt
form_fits Quotient n = tt
form_fits QuotientUnsigned n = tt
form_fits Remainder n = tt
form_fits RemainderUnsigned n = tt

chosen_fits : (operator : Alu) (y : Operand Place) → FormFits (immediate_of operator y)
chosen_fits operator (Register p) = tt
chosen_fits operator (Constant w) = form_fits operator (w % 2 ^ 32)

module _ (fr : Frame) where
  set_rows : (d : Place) (x : Operand Place) → IsRegister d → InOperand x → in_rows (set_code fr d x) ≡ true
  set_rows (InRegister q) x h k = into_rows fr (machine_register q) x (machine_small q h) k
  set_rows (Slot n) x h k =
      rows-append (operand_code fr first_free x) (store_code second_free (operand_register fr first_free x) (slot_at fr n)) (operand_rows fr first_free x (omega arith)) (store_rows second_free (operand_register fr first_free x) (slot_at fr n) (omega arith) (operand_small fr first_free x (omega arith) k))

  operate_rows : (form : Option (Op × ℤ)) (operator : Alu) (d : Place) (x y : Operand Place) → FormFits form → IsRegister d → InOperand x → InOperand y → in_rows (operate_by fr form operator d x y) ≡ true
  operate_rows None operator d x y f h k l =
      let i = instruction (register_op operator) (place_register fr first_free d) (operand_register fr first_free x) (operand_register fr second_free y) (pos 0) in
      let rest = result_code fr first_free second_free d in
      rows-append (operand_code fr first_free x) (operand_code fr second_free y ++ (i ∷ rest)) (operand_rows fr first_free x (omega arith))
      (rows-append (operand_code fr second_free y) (i ∷ rest) (operand_rows fr second_free y (omega arith))
      (before i rest (register_row operator (place_register fr first_free d) (operand_register fr first_free x) (operand_register fr second_free y) (place_small fr first_free d (omega arith) h) (operand_small fr first_free x (omega arith) k) (operand_small fr second_free y (omega arith) l))
      (result_rows fr first_free second_free d (omega arith) (omega arith))))
  operate_rows (Some form) operator d x y f h k l =
      let i = instruction form.0 (place_register fr first_free d) (operand_register fr first_free x) 0 form.1 in
      let rest = result_code fr first_free second_free d in
      rows-append (operand_code fr first_free x) (i ∷ rest) (operand_rows fr first_free x (omega arith))
      (before i rest (f (place_register fr first_free d) (operand_register fr first_free x) (place_small fr first_free d (omega arith) h) (operand_small fr first_free x (omega arith) k)) (result_rows fr first_free second_free d (omega arith) (omega arith)))

  -- an instruction that reaches memory or points there, behind the code of its address
  behind_address : (m : Memory) (a : Address Place) (i : Instruction) (d : Place) → InAddress a → in_row i ≡ true → in_rows (address_code fr m a ++ i ∷ result_code fr first_free second_free d) ≡ true
  behind_address m a i d h k = rows-append (address_code fr m a) (i ∷ result_code fr first_free second_free d) (address_rows fr m a h) (before i (result_code fr first_free second_free d) k (result_rows fr first_free second_free d (omega arith) (omega arith)))

  pub plain_rows : (m : Memory) (i : Plain Place) → InPlain i → in_rows (plain_code fr m i) ≡ true
  plain_rows m (Set d x) h = set_rows d x h.0 h.1
  plain_rows m (Operate operator d x y) h = operate_rows (immediate_of operator y) operator d x y (chosen_fits operator y) h.0 h.1 h.2
  plain_rows m (Point d a) h =
      behind_address m a (addi (place_register fr first_free d) (address_register fr m a) (address_offset fr m a)) d h.1
      (addi_row (place_register fr first_free d) (address_register fr m a) (address_offset fr m a) (place_small fr first_free d (omega arith) h.0) (address_small fr m a h.1) (address_in fr m a))
  plain_rows m (Load kind d a) h =
      behind_address m a (instruction (load_op kind) (place_register fr first_free d) (address_register fr m a) 0 (address_offset fr m a)) d h.1
      (read_row kind (place_register fr first_free d) (address_register fr m a) (address_offset fr m a) (place_small fr first_free d (omega arith) h.0) (address_small fr m a h.1) (address_in fr m a))
  plain_rows m (Store kind a x) h =
      let i = instruction (store_op kind) 0 (address_register fr m a) (operand_register fr second_free x) (address_offset fr m a) in
      rows-append (address_code fr m a) (operand_code fr second_free x ++ (i ∷ [])) (address_rows fr m a h.0)
      (rows-append (operand_code fr second_free x) (i ∷ []) (operand_rows fr second_free x (omega arith))
      (alone i (write_row kind (address_register fr m a) (operand_register fr second_free x) (address_offset fr m a) (address_small fr m a h.0) (operand_small fr second_free x (omega arith) h.1) (address_in fr m a))))
  plain_rows m (Put x) h = rows-append (into_code fr result x) (addi service 0 (pos 2) ∷ ecall ∷ []) (into_rows fr result x (omega arith) h) refl
  plain_rows m (Get d) h = put_rows fr result d (omega arith) h
