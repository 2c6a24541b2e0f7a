-- An instruction in the ranges of its row is what its word decodes to.
use Rattle.std.proofs.Common.{◌≡◌, ℕ, ◌+◌, ◌*◌, ◌/◌, ◌%◌, ◌^◌, ◌<◌, arith, ℤ, pos, negsuc, Bool, true, Some, refl, sym, ap, ◌∙◌}
use Rattle.std.specs.Prelude.{nat_lt, ◌&&◌, ◌==◌}
use Rattle.std.specs.Int.{w32, cast_unsigned}
use Rattle.std.proofs.lemmas.Int.{ints}
use Rattle.std.proofs.lemmas.Bool.{and_parts}
use Rattle.std.proofs.lemmas.Bool.Decides.{nat_tests}
use Rattle.wcc_base.specs.Signs.{signed_of}
use Rattle.rv_core.specs.declared.op.Op.{Op}
use Rattle.rv_core.specs.declared.op.Op.TheVariants.{Lui, Auipc, Jal, Jalr, Beq, Bne, Blt, Bge, Bltu, Bgeu, Lb, Lh, Lw, Lbu, Lhu, Sb, Sh, Sw, Addi, Slti, Sltiu, Xori, Ori, Andi, Slli, Srli, Srai, Add, Sub, Sll, Slt, Sltu, Xor, Srl, Sra, Or, And, Mul, Mulh, Mulhsu, Mulhu, Div, Divu, Rem, Remu, Ecall}
use Rattle.rv_core.specs.declared.row.Format.{Format}
use Rattle.rv_core.specs.declared.row.Format.TheVariants.{R, I, Shift, S, B, U, J, Fixed}
use Rattle.rv_core.specs.declared.row.Row.{Row}
use Rattle.rv_core.specs.Rows.{row_of, all_ops}
use Rattle.rv_core.specs.Instructions.{Instruction, instruction, is_within, is_zero, is_amount, is_multiple, in_format, in_row}
use Rattle.rv_core.specs.Words.{AreFields, low_five, high_seven, low_jump, high_jump, fields_by, word_of, instruction_by, first_match, decode_of}
use Rattle.rv_core.proofs.Decoding.{decode-word}

-- of the fields of an instruction, its row is the first that matches
pub first_match-fields : (op : Op) (i : Instruction) (n : ℕ) → first_match all_ops (fields_by (row_of op).format (row_of op) i n) ≡ Some (instruction_by (row_of op).format op (fields_by (row_of op).format (row_of op) i n))
first_match-fields Lui i n = refl
first_match-fields Auipc i n = refl
first_match-fields Jal i n = refl
first_match-fields Jalr i n = refl
first_match-fields Beq i n = refl
first_match-fields Bne i n = refl
first_match-fields Blt i n = refl
first_match-fields Bge i n = refl
first_match-fields Bltu i n = refl
first_match-fields Bgeu i n = refl
first_match-fields Lb i n = refl
first_match-fields Lh i n = refl
first_match-fields Lw i n = refl
first_match-fields Lbu i n = refl
first_match-fields Lhu i n = refl
first_match-fields Sb i n = refl
first_match-fields Sh i n = refl
first_match-fields Sw i n = refl
first_match-fields Addi i n = refl
first_match-fields Slti i n = refl
first_match-fields Sltiu i n = refl
first_match-fields Xori i n = refl
first_match-fields Ori i n = refl
first_match-fields Andi i n = refl
first_match-fields Slli i n = refl
first_match-fields Srli i n = refl
first_match-fields Srai i n = refl
first_match-fields Add i n = refl
first_match-fields Sub i n = refl
first_match-fields Sll i n = refl
first_match-fields Slt i n = refl
first_match-fields Sltu i n = refl
first_match-fields Xor i n = refl
first_match-fields Srl i n = refl
first_match-fields Sra i n = refl
first_match-fields Or i n = refl
first_match-fields And i n = refl
first_match-fields Mul i n = refl
first_match-fields Mulh i n = refl
first_match-fields Mulhsu i n = refl
first_match-fields Mulhu i n = refl
first_match-fields Div i n = refl
first_match-fields Divu i n = refl
first_match-fields Rem i n = refl
first_match-fields Remu i n = refl
first_match-fields Ecall i n = refl

-- the numbers of a row have at most the bits of their places
abbrev is_small : Row → Bool
is_small r = nat_lt r.opcode (2 ^ 7) && (nat_lt r.funct3 (2 ^ 3) && nat_lt r.funct7 (2 ^ 7))

pub record IsSmall (r : Row) : Type 0 where
  pub opcode : r.opcode < 2 ^ 7
  pub funct3 : r.funct3 < 2 ^ 3
  pub funct7 : r.funct7 < 2 ^ 7

small-from : (r : Row) → is_small r ≡ true → IsSmall r
small-from r h = record { opcode = grind (arith, nat_tests); funct3 = grind (arith, nat_tests); funct7 = grind (arith, nat_tests) }

is_small-row : (op : Op) → is_small (row_of op) ≡ true
is_small-row Lui = refl
is_small-row Auipc = refl
is_small-row Jal = refl
is_small-row Jalr = refl
is_small-row Beq = refl
is_small-row Bne = refl
is_small-row Blt = refl
is_small-row Bge = refl
is_small-row Bltu = refl
is_small-row Bgeu = refl
is_small-row Lb = refl
is_small-row Lh = refl
is_small-row Lw = refl
is_small-row Lbu = refl
is_small-row Lhu = refl
is_small-row Sb = refl
is_small-row Sh = refl
is_small-row Sw = refl
is_small-row Addi = refl
is_small-row Slti = refl
is_small-row Sltiu = refl
is_small-row Xori = refl
is_small-row Ori = refl
is_small-row Andi = refl
is_small-row Slli = refl
is_small-row Srli = refl
is_small-row Srai = refl
is_small-row Add = refl
is_small-row Sub = refl
is_small-row Sll = refl
is_small-row Slt = refl
is_small-row Sltu = refl
is_small-row Xor = refl
is_small-row Srl = refl
is_small-row Sra = refl
is_small-row Or = refl
is_small-row And = refl
is_small-row Mul = refl
is_small-row Mulh = refl
is_small-row Mulhsu = refl
is_small-row Mulhu = refl
is_small-row Div = refl
is_small-row Divu = refl
is_small-row Rem = refl
is_small-row Remu = refl
is_small-row Ecall = refl

pub row-small : (op : Op) → IsSmall (row_of op)
row-small op = small-from (row_of op) (is_small-row op)

-- four tests that hold
record Four (a b c d : Bool) : Type 0 where
  first : a ≡ true
  second : b ≡ true
  third : c ≡ true
  fourth : d ≡ true

four : (a b c d : Bool) → (a && (b && (c && d))) ≡ true → Four a b c d
four a b c d h =
    let p = and_parts a (b && (c && d)) h in
    let q = and_parts b (c && d) p.1 in
    let r = and_parts c d q.1 in
    record { first = p.0; second = q.0; third = r.0; fourth = r.1 }

below : (a b : ℕ) → nat_lt a b ≡ true → a < b
below a b h = grind (arith, nat_tests)

zero-is : (a : ℕ) → (a == 0) ≡ true → a ≡ 0
zero-is a h = grind (arith, nat_tests)

-- the fields of an instruction have at most the bits of their places
pub fields-small : (f : Format) (r : Row) (i : Instruction) (n : ℕ) → IsSmall r → in_format f i.rd i.rs1 i.rs2 i.imm ≡ true → AreFields (fields_by f r i n)
fields-small R r i n s h =
    let k = four (nat_lt i.rd 32) (nat_lt i.rs1 32) (nat_lt i.rs2 32) (is_zero i.imm) h in
    record { opcode = s.opcode; rd = below i.rd 32 k.first; funct3 = s.funct3; rs1 = below i.rs1 32 k.second; rs2 = below i.rs2 32 k.third; funct7 = s.funct7 }
fields-small I r i n s h =
    let k = four (nat_lt i.rd 32) (nat_lt i.rs1 32) (i.rs2 == 0) (is_within (2 ^ 11) i.imm) h in
    record { opcode = s.opcode; rd = below i.rd 32 k.first; funct3 = s.funct3; rs1 = below i.rs1 32 k.second; rs2 = omega arith; funct7 = omega arith }
fields-small Shift r i n s h =
    let k = four (nat_lt i.rd 32) (nat_lt i.rs1 32) (i.rs2 == 0) (is_amount i.imm) h in
    record { opcode = s.opcode; rd = below i.rd 32 k.first; funct3 = s.funct3; rs1 = below i.rs1 32 k.second; rs2 = omega arith; funct7 = s.funct7 }
fields-small S r i n s h =
    let k = four (i.rd == 0) (nat_lt i.rs1 32) (nat_lt i.rs2 32) (is_within (2 ^ 11) i.imm) h in
    record { opcode = s.opcode; rd = omega arith; funct3 = s.funct3; rs1 = below i.rs1 32 k.second; rs2 = below i.rs2 32 k.third; funct7 = omega arith }
fields-small B r i n s h =
    let k = four (i.rd == 0) (nat_lt i.rs1 32) (nat_lt i.rs2 32) (is_within (2 ^ 12) i.imm && is_multiple 1 i.imm) h in
    record { opcode = s.opcode; rd = omega arith; funct3 = s.funct3; rs1 = below i.rs1 32 k.second; rs2 = below i.rs2 32 k.third; funct7 = omega arith }
fields-small U r i n s h =
    let k = four (nat_lt i.rd 32) (i.rs1 == 0) (i.rs2 == 0) (is_within (2 ^ 31) i.imm && is_multiple 12 i.imm) h in
    record { opcode = s.opcode; rd = below i.rd 32 k.first; funct3 = omega arith; rs1 = omega arith; rs2 = omega arith; funct7 = omega arith }
fields-small J r i n s h =
    let k = four (nat_lt i.rd 32) (i.rs1 == 0) (i.rs2 == 0) (is_within (2 ^ 20) i.imm && is_multiple 1 i.imm) h in
    record { opcode = s.opcode; rd = below i.rd 32 k.first; funct3 = omega arith; rs1 = omega arith; rs2 = omega arith; funct7 = omega arith }
fields-small Fixed r i n s h = record { opcode = s.opcode; rd = omega arith; funct3 = omega arith; rs1 = omega arith; rs2 = omega arith; funct7 = omega arith }

-- the low bits of a number that fits them, read with a sign
within-pos : (h n : ℕ) → is_within h (pos n) ≡ true → n < h
within-pos h n w = below n h w

within-neg : (h n : ℕ) → is_within h (negsuc n) ≡ true → n < h
within-neg h n w = below n h w

pub signed_of-low12 : (z : ℤ) → is_within (2 ^ 11) z ≡ true → signed_of 12 (cast_unsigned w32 z % 2 ^ 12) ≡ z
signed_of-low12 (pos n) w = let b = within-pos (2 ^ 11) n w in grind (arith, ints)
signed_of-low12 (negsuc n) w = let b = within-neg (2 ^ 11) n w in grind (arith, ints)

pub signed_of-low13 : (z : ℤ) → is_within (2 ^ 12) z ≡ true → signed_of 13 (cast_unsigned w32 z % 2 ^ 13) ≡ z
signed_of-low13 (pos n) w = let b = within-pos (2 ^ 12) n w in grind (arith, ints)
signed_of-low13 (negsuc n) w = let b = within-neg (2 ^ 12) n w in grind (arith, ints)

pub signed_of-low21 : (z : ℤ) → is_within (2 ^ 20) z ≡ true → signed_of 21 (cast_unsigned w32 z % 2 ^ 21) ≡ z
signed_of-low21 (pos n) w = let b = within-pos (2 ^ 20) n w in grind (arith, ints)
signed_of-low21 (negsuc n) w = let b = within-neg (2 ^ 20) n w in grind (arith, ints)

pub signed_of-low32 : (z : ℤ) → is_within (2 ^ 31) z ≡ true → signed_of 32 (cast_unsigned w32 z) ≡ z
signed_of-low32 (pos n) w = let b = within-pos (2 ^ 31) n w in grind (arith, ints)
signed_of-low32 (negsuc n) w = let b = within-neg (2 ^ 31) n w in grind (arith, ints)

cast-small : (z : ℤ) → is_within (2 ^ 31) z ≡ true → cast_unsigned w32 z < 2 ^ 32
cast-small (pos n) w = let b = within-pos (2 ^ 31) n w in omega (arith, ints)
cast-small (negsuc n) w = let b = within-neg (2 ^ 31) n w in omega (arith, ints)

zero-number : (z : ℤ) → is_zero z ≡ true → z ≡ pos 0
zero-number (pos n) h = ap pos (zero-is n h)
zero-number (negsuc n) h = cc

amount-back : (z : ℤ) → is_amount z ≡ true → pos (low_five (cast_unsigned w32 z)) ≡ z
amount-back (pos n) h = let b = below n 32 h in ap pos (omega (arith, ints))
amount-back (negsuc n) h = cc

-- the bits of each immediate, put together again
i_bits : (n : ℕ) → low_five n + 2 ^ 5 * high_seven n ≡ n % 2 ^ 12
i_bits n = omega arith

b_bits : (n : ℕ) → n % 2 ≡ 0 → 2 * (low_jump n / 2) + 2 ^ 5 * (high_jump 12 n % 2 ^ 6) + 2 ^ 11 * (low_jump n % 2) + 2 ^ 12 * (high_jump 12 n / 2 ^ 6) ≡ n % 2 ^ 13
b_bits n even = omega arith

u_bits : (n : ℕ) → n < 2 ^ 32 → n % 2 ^ 12 ≡ 0 → 2 ^ 12 * (n / 2 ^ 12 % 2 ^ 3) + 2 ^ 15 * (n / 2 ^ 15 % 2 ^ 5) + 2 ^ 20 * (n / 2 ^ 20 % 2 ^ 5) + 2 ^ 25 * (n / 2 ^ 25 % 2 ^ 7) ≡ n
u_bits n small low = omega arith

j_bits : (n : ℕ) → n % 2 ≡ 0 → 2 * (low_jump n / 2) + 2 ^ 5 * (high_jump 20 n % 2 ^ 6) + 2 ^ 11 * (low_jump n % 2) + 2 ^ 12 * (n / 2 ^ 12 % 2 ^ 3) + 2 ^ 15 * (n / 2 ^ 15 % 2 ^ 5) + 2 ^ 20 * (high_jump 20 n / 2 ^ 6) ≡ n % 2 ^ 21
j_bits n even = omega arith

-- the instruction of its fields is the instruction
pub instruction-fields : (f : Format) (r : Row) (i : Instruction) → in_format f i.rd i.rs1 i.rs2 i.imm ≡ true → instruction_by f i.op (fields_by f r i (cast_unsigned w32 i.imm)) ≡ i
instruction-fields R r i h =
    let k = four (nat_lt i.rd 32) (nat_lt i.rs1 32) (nat_lt i.rs2 32) (is_zero i.imm) h in
    ap (instruction i.op i.rd i.rs1 i.rs2) (sym (zero-number i.imm k.fourth))
instruction-fields I r i h =
    let k = four (nat_lt i.rd 32) (nat_lt i.rs1 32) (i.rs2 == 0) (is_within (2 ^ 11) i.imm) h in
    let n = cast_unsigned w32 i.imm in
    ap (instruction i.op i.rd i.rs1 0) (ap (signed_of 12) (i_bits n) ∙ signed_of-low12 i.imm k.fourth)
    ∙ ap (λ y. instruction i.op i.rd i.rs1 y i.imm) (sym (zero-is i.rs2 k.third))
instruction-fields Shift r i h =
    let k = four (nat_lt i.rd 32) (nat_lt i.rs1 32) (i.rs2 == 0) (is_amount i.imm) h in
    ap (instruction i.op i.rd i.rs1 0) (amount-back i.imm k.fourth)
    ∙ ap (λ y. instruction i.op i.rd i.rs1 y i.imm) (sym (zero-is i.rs2 k.third))
instruction-fields S r i h =
    let k = four (i.rd == 0) (nat_lt i.rs1 32) (nat_lt i.rs2 32) (is_within (2 ^ 11) i.imm) h in
    let n = cast_unsigned w32 i.imm in
    ap (instruction i.op 0 i.rs1 i.rs2) (ap (signed_of 12) (i_bits n) ∙ signed_of-low12 i.imm k.fourth)
    ∙ ap (λ d. instruction i.op d i.rs1 i.rs2 i.imm) (sym (zero-is i.rd k.first))
instruction-fields B r i h =
    let k = four (i.rd == 0) (nat_lt i.rs1 32) (nat_lt i.rs2 32) (is_within (2 ^ 12) i.imm && is_multiple 1 i.imm) h in
    let p = and_parts (is_within (2 ^ 12) i.imm) (is_multiple 1 i.imm) k.fourth in
    let n = cast_unsigned w32 i.imm in
    ap (instruction i.op 0 i.rs1 i.rs2) (ap (signed_of 13) (b_bits n (zero-is (n % 2) p.1)) ∙ signed_of-low13 i.imm p.0)
    ∙ ap (λ d. instruction i.op d i.rs1 i.rs2 i.imm) (sym (zero-is i.rd k.first))
instruction-fields U r i h =
    let k = four (nat_lt i.rd 32) (i.rs1 == 0) (i.rs2 == 0) (is_within (2 ^ 31) i.imm && is_multiple 12 i.imm) h in
    let p = and_parts (is_within (2 ^ 31) i.imm) (is_multiple 12 i.imm) k.fourth in
    let n = cast_unsigned w32 i.imm in
    ap (instruction i.op i.rd 0 0) (ap (signed_of 32) (u_bits n (cast-small i.imm p.0) (zero-is (n % 2 ^ 12) p.1)) ∙ signed_of-low32 i.imm p.0)
    ∙ ap (λ x. instruction i.op i.rd x 0 i.imm) (sym (zero-is i.rs1 k.second))
    ∙ ap (λ y. instruction i.op i.rd i.rs1 y i.imm) (sym (zero-is i.rs2 k.third))
instruction-fields J r i h =
    let k = four (nat_lt i.rd 32) (i.rs1 == 0) (i.rs2 == 0) (is_within (2 ^ 20) i.imm && is_multiple 1 i.imm) h in
    let p = and_parts (is_within (2 ^ 20) i.imm) (is_multiple 1 i.imm) k.fourth in
    let n = cast_unsigned w32 i.imm in
    ap (instruction i.op i.rd 0 0) (ap (signed_of 21) (j_bits n (zero-is (n % 2) p.1)) ∙ signed_of-low21 i.imm p.0)
    ∙ ap (λ x. instruction i.op i.rd x 0 i.imm) (sym (zero-is i.rs1 k.second))
    ∙ ap (λ y. instruction i.op i.rd i.rs1 y i.imm) (sym (zero-is i.rs2 k.third))
instruction-fields Fixed r i h =
    let k = four (i.rd == 0) (i.rs1 == 0) (i.rs2 == 0) (is_zero i.imm) h in
    ap (instruction i.op 0 0 0) (sym (zero-number i.imm k.fourth))
    ∙ ap (λ d. instruction i.op d 0 0 i.imm) (sym (zero-is i.rd k.first))
    ∙ ap (λ x. instruction i.op i.rd x 0 i.imm) (sym (zero-is i.rs1 k.second))
    ∙ ap (λ y. instruction i.op i.rd i.rs1 y i.imm) (sym (zero-is i.rs2 k.third))

-- an instruction in the ranges of its row is what its word decodes to
pub decode_of-word_of : (i : Instruction) → in_row i ≡ true → decode_of (word_of i) ≡ Some i
decode_of-word_of i h =
    let n = cast_unsigned w32 i.imm in
    let r = row_of i.op in
    decode-word i (fields-small r.format r i n (row-small i.op) h)
    (first_match-fields i.op i n ∙ ap Some (instruction-fields r.format r i h))
