-- A word of the table is read as its instruction.
use Rattle.std.proofs.Common.{◌≡◌, ℕ, ◌+◌, ◌*◌, ◌/◌, ◌%◌, ◌^◌, ◌<◌, arith, ℤ, pos, negsuc, ◌≤ℤ◌, Some, refl, ap, ◌∙◌}
use Rattle.std.specs.Prelude.{FitsSigned}
use Rattle.std.specs.Int.{w32, cast_unsigned}
use Rattle.std.proofs.lemmas.Int.{ints}
use Rattle.wcc_base.specs.Signs.{signed_of}
use Rattle.rv_core.specs.declared.op.Op.TheVariants.{Addi, Lui}
use Rattle.rv_core.specs.declared.fields.Fields.{Fields}
use Rattle.rv_core.specs.Rows.{all_ops}
use Rattle.rv_core.specs.Instructions.{Instruction, instruction, addi, lui, ecall}
use Rattle.rv_core.specs.Words.{AreFields, pack, unpack, low_five, high_seven, fields_of, word_of, first_match, decode_of}

abbrev fields : ℕ → ℕ → ℕ → ℕ → ℕ → ℕ → Fields
fields opcode rd funct3 rs1 rs2 funct7 = record { opcode = opcode; rd = rd; funct3 = funct3; rs1 = rs1; rs2 = rs2; funct7 = funct7 }

-- the fields of a packed word
unpack-fields : (op d f x y t : ℕ) → op < 2 ^ 7 → d < 2 ^ 5 → f < 2 ^ 3 → x < 2 ^ 5 → y < 2 ^ 5 → t < 2 ^ 7 → unpack (pack (fields op d f x y t)) ≡ fields op d f x y t
unfolding pack unpack
unpack-fields op d f x y t a b c e g h =
    let n = op + 2 ^ 7 * d + 2 ^ 12 * f + 2 ^ 15 * x + 2 ^ 20 * y + 2 ^ 25 * t in
    let e1 : n % 2 ^ 7 ≡ op = omega arith in
    let e2 : n / 2 ^ 7 % 2 ^ 5 ≡ d = omega arith in
    let e3 : n / 2 ^ 12 % 2 ^ 3 ≡ f = omega arith in
    let e4 : n / 2 ^ 15 % 2 ^ 5 ≡ x = omega arith in
    let e5 : n / 2 ^ 20 % 2 ^ 5 ≡ y = omega arith in
    let e6 : n / 2 ^ 25 ≡ t = omega arith in
    ap (λ k. fields k (n / 2 ^ 7 % 2 ^ 5) (n / 2 ^ 12 % 2 ^ 3) (n / 2 ^ 15 % 2 ^ 5) (n / 2 ^ 20 % 2 ^ 5) (n / 2 ^ 25)) e1
    ∙ ap (λ k. fields op k (n / 2 ^ 12 % 2 ^ 3) (n / 2 ^ 15 % 2 ^ 5) (n / 2 ^ 20 % 2 ^ 5) (n / 2 ^ 25)) e2
    ∙ ap (λ k. fields op d k (n / 2 ^ 15 % 2 ^ 5) (n / 2 ^ 20 % 2 ^ 5) (n / 2 ^ 25)) e3
    ∙ ap (λ k. fields op d f k (n / 2 ^ 20 % 2 ^ 5) (n / 2 ^ 25)) e4
    ∙ ap (λ k. fields op d f x k (n / 2 ^ 25)) e5
    ∙ ap (λ k. fields op d f x y k) e6

pub unpack-pack : (w : Fields) → AreFields w → unpack (pack w) ≡ w
unpack-pack w a = unpack-fields w.opcode w.rd w.funct3 w.rs1 w.rs2 w.funct7 a.opcode a.rd a.funct3 a.rs1 a.rs2 a.funct7

-- it is enough to find the row of the fields
pub decode-word : (i : Instruction) → AreFields (fields_of i) → first_match all_ops (fields_of i) ≡ Some i → decode_of (word_of i) ≡ Some i
unfolding decode_of
decode-word i a found = ap (first_match all_ops) (unpack-pack (fields_of i) a) ∙ found

-- the low twelve bits of a number that fits them
pub signed_of-low12 : (imm : ℤ) → negsuc 2047 ≤ℤ imm → imm ≤ℤ pos 2047 → signed_of 12 (cast_unsigned w32 imm % 2 ^ 12) ≡ imm
signed_of-low12 (pos n) low high = grind (arith, ints)
signed_of-low12 (negsuc n) low high = grind (arith, ints)

low_five-high_seven : (n : ℕ) → low_five n + 2 ^ 5 * high_seven n ≡ n % 2 ^ 12
low_five-high_seven n = omega arith

pub decode_addi : (rd rs1 : ℕ) (imm : ℤ) → rd < 32 → rs1 < 32 → negsuc 2047 ≤ℤ imm → imm ≤ℤ pos 2047 → decode_of (word_of (addi rd rs1 imm)) ≡ Some (addi rd rs1 imm)
decode_addi rd rs1 imm d s low high =
    let n = cast_unsigned w32 imm in
    decode-word (addi rd rs1 imm)
    (record { opcode = omega arith; rd = d; funct3 = omega arith; rs1 = s; rs2 = omega arith; funct7 = omega arith })
    (ap (λ z. Some (instruction Addi rd rs1 0 z)) (ap (signed_of 12) (low_five-high_seven n) ∙ signed_of-low12 imm low high))

pub signed_of-cast : (imm : ℤ) → FitsSigned w32 imm → signed_of 32 (cast_unsigned w32 imm) ≡ imm
signed_of-cast (pos n) fits = grind (arith, ints)
signed_of-cast (negsuc n) fits = grind (arith, ints)

upper-parts : (n : ℕ) → n < 2 ^ 32 → n % 2 ^ 12 ≡ 0 → 2 ^ 12 * (n / 2 ^ 12 % 2 ^ 3) + 2 ^ 15 * (n / 2 ^ 15 % 2 ^ 5) + 2 ^ 20 * (n / 2 ^ 20 % 2 ^ 5) + 2 ^ 25 * (n / 2 ^ 25 % 2 ^ 7) ≡ n
upper-parts n small low = omega arith

cast-small : (imm : ℤ) → FitsSigned w32 imm → cast_unsigned w32 imm < 2 ^ 32
cast-small (pos n) fits = omega (arith, ints)
cast-small (negsuc n) fits = omega (arith, ints)

pub decode_lui : (rd : ℕ) (imm : ℤ) → rd < 32 → FitsSigned w32 imm → cast_unsigned w32 imm % 2 ^ 12 ≡ 0 → decode_of (word_of (lui rd imm)) ≡ Some (lui rd imm)
decode_lui rd imm d fits low =
    let n = cast_unsigned w32 imm in
    decode-word (lui rd imm)
    (record { opcode = omega arith; rd = d; funct3 = omega arith; rs1 = omega arith; rs2 = omega arith; funct7 = omega arith })
    (ap (λ z. Some (instruction Lui rd 0 0 z)) (ap (signed_of 32) (upper-parts n (cast-small imm fits) low) ∙ signed_of-cast imm fits))

pub decode_ecall : decode_of (word_of ecall) ≡ Some ecall
decode_ecall = decode-word ecall (record { opcode = omega arith; rd = omega arith; funct3 = omega arith; rs1 = omega arith; rs2 = omega arith; funct7 = omega arith }) refl
