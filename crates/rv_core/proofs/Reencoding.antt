-- What a word decodes to is in the ranges of its row, and its word is that word.
use Rattle.std.proofs.Common.{◌≡◌, ℕ, ◌+◌, ◌*◌, ◌/◌, ◌%◌, ◌^◌, ◌<◌, arith, ℤ, Bool, true, false, Option, Some, None, refl, sym, ap, ◌∙◌, List, [], ◌∷◌}
use Rattle.std.specs.Prelude.{IfSome, nat_lt, ◌&&◌, ◌==◌, if◌then◌else◌}
use Rattle.std.specs.Int.{w32, cast_unsigned}
use Rattle.std.proofs.lemmas.Int.{ints}
use Rattle.std.proofs.lemmas.Bool.{and_parts, and_from}
use Rattle.std.proofs.lemmas.Bool.Decides.{nat_tests}
use Rattle.wcc_base.specs.Signs.{signed_of}
use Rattle.rv_core.specs.declared.op.Op.{Op}
use Rattle.rv_core.specs.declared.row.Format.{Format}
use Rattle.rv_core.specs.declared.row.Format.TheVariants.{R, I, Shift, S, B, U, J, Fixed}
use Rattle.rv_core.specs.declared.row.Row.{Row}
use Rattle.rv_core.specs.declared.fields.Fields.{Fields}
use Rattle.rv_core.specs.Rows.{row_of, all_ops}
use Rattle.rv_core.specs.Instructions.{Instruction, instruction, is_within, is_multiple, in_format, in_row}
use Rattle.rv_core.specs.Words.{AreFields, pack, unpack, low_five, high_seven, low_jump, high_jump, fields_by, word_of, matches_by, matches, instruction_by, first_match, decode_of}

-- the instruction is that of a row which matches
pub record IsMatch (w : Fields) (i : Instruction) : Type 0 where
  pub op : Op
  pub matching : matches (row_of op) w ≡ true
  pub is : i ≡ instruction_by (row_of op).format op w

match-by : (b : Bool) (op : Op) (ops : List Op) (w : Fields) (i : Instruction) → matches (row_of op) w ≡ b → ((first_match ops w ≡ Some i) → IsMatch w i) → (if b then Some (instruction_by (row_of op).format op w) else first_match ops w) ≡ Some i → IsMatch w i
match-by true op ops w i is later h = record { op = op; matching = is; is = cc }
match-by false op ops w i is later h = later h

pub match-found : (ops : List Op) (w : Fields) (i : Instruction) → first_match ops w ≡ Some i → IsMatch w i
match-found [] w i h = cc
match-found (op ∷ ops) w i h = match-by (matches (row_of op) w) op ops w i refl (λ l. match-found ops w i l) h

-- the low k bits of a number that k bits stand for
pub low-signed_of12 : (n : ℕ) → n < 2 ^ 12 → cast_unsigned w32 (signed_of 12 n) % 2 ^ 12 ≡ n
low-signed_of12 n small = grind (arith, ints, nat_tests)

pub low-signed_of13 : (n : ℕ) → n < 2 ^ 13 → cast_unsigned w32 (signed_of 13 n) % 2 ^ 13 ≡ n
low-signed_of13 n small = grind (arith, ints, nat_tests)

pub low-signed_of21 : (n : ℕ) → n < 2 ^ 21 → cast_unsigned w32 (signed_of 21 n) % 2 ^ 21 ≡ n
low-signed_of21 n small = grind (arith, ints, nat_tests)

pub low-signed_of32 : (n : ℕ) → n < 2 ^ 32 → cast_unsigned w32 (signed_of 32 n) ≡ n
low-signed_of32 n small = grind (arith, ints, nat_tests)

-- a number of k bits fits them
pub within-signed_of12 : (n : ℕ) → n < 2 ^ 12 → is_within (2 ^ 11) (signed_of 12 n) ≡ true
within-signed_of12 n small = grind (arith, nat_tests)

pub within-signed_of13 : (n : ℕ) → n < 2 ^ 13 → is_within (2 ^ 12) (signed_of 13 n) ≡ true
within-signed_of13 n small = grind (arith, nat_tests)

pub within-signed_of21 : (n : ℕ) → n < 2 ^ 21 → is_within (2 ^ 20) (signed_of 21 n) ≡ true
within-signed_of21 n small = grind (arith, nat_tests)

pub within-signed_of32 : (n : ℕ) → n < 2 ^ 32 → is_within (2 ^ 31) (signed_of 32 n) ≡ true
within-signed_of32 n small = grind (arith, nat_tests)

-- the parts of the bits that an immediate was put together from
five-from : (n y t : ℕ) → n % 2 ^ 12 ≡ y + 2 ^ 5 * t → y < 2 ^ 5 → low_five n ≡ y
five-from n y t e h = omega arith

seven-from : (n y t : ℕ) → n % 2 ^ 12 ≡ y + 2 ^ 5 * t → y < 2 ^ 5 → t < 2 ^ 7 → high_seven n ≡ t
seven-from n y t e h k = omega arith

abbrev branch_bits : ℕ → ℕ → ℕ
branch_bits d t = 2 * (d / 2) + 2 ^ 5 * (t % 2 ^ 6) + 2 ^ 11 * (d % 2) + 2 ^ 12 * (t / 2 ^ 6)

branch-low : (n d t : ℕ) → n % 2 ^ 13 ≡ branch_bits d t → d < 2 ^ 5 → t < 2 ^ 7 → low_jump n ≡ d
branch-low n d t e h k = omega arith

branch-high : (n d t : ℕ) → n % 2 ^ 13 ≡ branch_bits d t → d < 2 ^ 5 → t < 2 ^ 7 → high_jump 12 n ≡ t
branch-high n d t e h k = omega arith

abbrev jump_bits : ℕ → ℕ → ℕ → ℕ → ℕ
jump_bits f x y t = 2 * (y / 2) + 2 ^ 5 * (t % 2 ^ 6) + 2 ^ 11 * (y % 2) + 2 ^ 12 * f + 2 ^ 15 * x + 2 ^ 20 * (t / 2 ^ 6)

jump-three : (n f x y t : ℕ) → n % 2 ^ 21 ≡ jump_bits f x y t → f < 2 ^ 3 → x < 2 ^ 5 → y < 2 ^ 5 → t < 2 ^ 7 → n / 2 ^ 12 % 2 ^ 3 ≡ f
jump-three n f x y t e a b c d = omega arith

jump-five : (n f x y t : ℕ) → n % 2 ^ 21 ≡ jump_bits f x y t → f < 2 ^ 3 → x < 2 ^ 5 → y < 2 ^ 5 → t < 2 ^ 7 → n / 2 ^ 15 % 2 ^ 5 ≡ x
jump-five n f x y t e a b c d = omega arith

jump-low : (n f x y t : ℕ) → n % 2 ^ 21 ≡ jump_bits f x y t → f < 2 ^ 3 → x < 2 ^ 5 → y < 2 ^ 5 → t < 2 ^ 7 → low_jump n ≡ y
jump-low n f x y t e a b c d = omega arith

jump-high : (n f x y t : ℕ) → n % 2 ^ 21 ≡ jump_bits f x y t → f < 2 ^ 3 → x < 2 ^ 5 → y < 2 ^ 5 → t < 2 ^ 7 → high_jump 20 n ≡ t
jump-high n f x y t e a b c d = omega arith

abbrev fields : ℕ → ℕ → ℕ → ℕ → ℕ → ℕ → Fields
fields o d f x y t = record { opcode = o; rd = d; funct3 = f; rs1 = x; rs2 = y; funct7 = t }

fields-same : (w : Fields) (o d f x y t : ℕ) → o ≡ w.opcode → d ≡ w.rd → f ≡ w.funct3 → x ≡ w.rs1 → y ≡ w.rs2 → t ≡ w.funct7 → fields o d f x y t ≡ w
fields-same w o d f x y t a b c e g h =
    ap (λ k. fields k d f x y t) a
    ∙ ap (λ k. fields w.opcode k f x y t) b
    ∙ ap (λ k. fields w.opcode w.rd k x y t) c
    ∙ ap (λ k. fields w.opcode w.rd w.funct3 k y t) e
    ∙ ap (λ k. fields w.opcode w.rd w.funct3 w.rs1 k t) g
    ∙ ap (λ k. fields w.opcode w.rd w.funct3 w.rs1 w.rs2 k) h

equal-from : (a b : ℕ) → (a == b) ≡ true → b ≡ a
equal-from a b h = grind (arith, nat_tests)

low12 : (w : Fields) → AreFields w → (w.rs2 + 2 ^ 5 * w.funct7 < 2 ^ 12) × (w.rd + 2 ^ 5 * w.funct7 < 2 ^ 12)
low12 w a = let b = a.rs2 in let c = a.funct7 in let d = a.rd in (omega arith, omega arith)

branch-small : (w : Fields) → AreFields w → branch_bits w.rd w.funct7 < 2 ^ 13
branch-small w a = let b = a.rd in let c = a.funct7 in omega arith

jump-small : (w : Fields) → AreFields w → jump_bits w.funct3 w.rs1 w.rs2 w.funct7 < 2 ^ 21
jump-small w a = let b = a.funct3 in let c = a.rs1 in let d = a.rs2 in let e = a.funct7 in omega arith

abbrev upper_bits : Fields → ℕ
upper_bits w = 2 ^ 12 * w.funct3 + 2 ^ 15 * w.rs1 + 2 ^ 20 * w.rs2 + 2 ^ 25 * w.funct7

upper-small : (w : Fields) → AreFields w → upper_bits w < 2 ^ 32
upper-small w a = let b = a.funct3 in let c = a.rs1 in let d = a.rs2 in let e = a.funct7 in omega arith

-- the fields of the instruction of some fields are those fields
pub fields-instruction : (f : Format) (r : Row) (op : Op) (w : Fields) → AreFields w → w.opcode ≡ r.opcode → matches_by f r w ≡ true → fields_by f r (instruction_by f op w) (cast_unsigned w32 (instruction_by f op w).imm) ≡ w
fields-instruction R r op w a o m =
    let p = and_parts (w.funct3 == r.funct3) (w.funct7 == r.funct7) m in
    fields-same w r.opcode w.rd r.funct3 w.rs1 w.rs2 r.funct7 (sym o) refl (equal-from w.funct3 r.funct3 p.0) refl refl (equal-from w.funct7 r.funct7 p.1)
fields-instruction I r op w a o m =
    let n = cast_unsigned w32 (signed_of 12 (w.rs2 + 2 ^ 5 * w.funct7)) in
    let e = low-signed_of12 (w.rs2 + 2 ^ 5 * w.funct7) (low12 w a).0 in
    fields-same w r.opcode w.rd r.funct3 w.rs1 (low_five n) (high_seven n) (sym o) refl (equal-from w.funct3 r.funct3 m) refl (five-from n w.rs2 w.funct7 e a.rs2) (seven-from n w.rs2 w.funct7 e a.rs2 a.funct7)
fields-instruction Shift r op w a o m =
    let p = and_parts (w.funct3 == r.funct3) (w.funct7 == r.funct7) m in
    let s = a.rs2 in
    fields-same w r.opcode w.rd r.funct3 w.rs1 (low_five w.rs2) r.funct7 (sym o) refl (equal-from w.funct3 r.funct3 p.0) refl (omega arith) (equal-from w.funct7 r.funct7 p.1)
fields-instruction S r op w a o m =
    let n = cast_unsigned w32 (signed_of 12 (w.rd + 2 ^ 5 * w.funct7)) in
    let e = low-signed_of12 (w.rd + 2 ^ 5 * w.funct7) (low12 w a).1 in
    fields-same w r.opcode (low_five n) r.funct3 w.rs1 w.rs2 (high_seven n) (sym o) (five-from n w.rd w.funct7 e a.rd) (equal-from w.funct3 r.funct3 m) refl refl (seven-from n w.rd w.funct7 e a.rd a.funct7)
fields-instruction B r op w a o m =
    let n = cast_unsigned w32 (signed_of 13 (branch_bits w.rd w.funct7)) in
    let e = low-signed_of13 (branch_bits w.rd w.funct7) (branch-small w a) in
    fields-same w r.opcode (low_jump n) r.funct3 w.rs1 w.rs2 (high_jump 12 n) (sym o) (branch-low n w.rd w.funct7 e a.rd a.funct7) (equal-from w.funct3 r.funct3 m) refl refl (branch-high n w.rd w.funct7 e a.rd a.funct7)
fields-instruction U r op w a o m =
    let n = cast_unsigned w32 (signed_of 32 (upper_bits w)) in
    let e : n ≡ upper_bits w = low-signed_of32 (upper_bits w) (upper-small w a) in
    let b = a.funct3 in
    let c = a.rs1 in
    let d = a.rs2 in
    let g = a.funct7 in
    fields-same w r.opcode w.rd (n / 2 ^ 12 % 2 ^ 3) (n / 2 ^ 15 % 2 ^ 5) (n / 2 ^ 20 % 2 ^ 5) (n / 2 ^ 25 % 2 ^ 7) (sym o) refl (omega arith) (omega arith) (omega arith) (omega arith)
fields-instruction J r op w a o m =
    let n = cast_unsigned w32 (signed_of 21 (jump_bits w.funct3 w.rs1 w.rs2 w.funct7)) in
    let e = low-signed_of21 (jump_bits w.funct3 w.rs1 w.rs2 w.funct7) (jump-small w a) in
    fields-same w r.opcode w.rd (n / 2 ^ 12 % 2 ^ 3) (n / 2 ^ 15 % 2 ^ 5) (low_jump n) (high_jump 20 n) (sym o) refl
    (jump-three n w.funct3 w.rs1 w.rs2 w.funct7 e a.funct3 a.rs1 a.rs2 a.funct7)
    (jump-five n w.funct3 w.rs1 w.rs2 w.funct7 e a.funct3 a.rs1 a.rs2 a.funct7)
    (jump-low n w.funct3 w.rs1 w.rs2 w.funct7 e a.funct3 a.rs1 a.rs2 a.funct7)
    (jump-high n w.funct3 w.rs1 w.rs2 w.funct7 e a.funct3 a.rs1 a.rs2 a.funct7)
fields-instruction Fixed r op w a o m =
    let p = and_parts (w.rd == 0) ((w.funct3 == 0) && ((w.rs1 == 0) && ((w.rs2 == 0) && (w.funct7 == 0)))) m in
    let q = and_parts (w.funct3 == 0) ((w.rs1 == 0) && ((w.rs2 == 0) && (w.funct7 == 0))) p.1 in
    let k = and_parts (w.rs1 == 0) ((w.rs2 == 0) && (w.funct7 == 0)) q.1 in
    let l = and_parts (w.rs2 == 0) (w.funct7 == 0) k.1 in
    fields-same w r.opcode 0 0 0 0 0 (sym o) (equal-from w.rd 0 p.0) (equal-from w.funct3 0 q.0) (equal-from w.rs1 0 k.0) (equal-from w.rs2 0 l.0) (equal-from w.funct7 0 l.1)

op-instruction : (f : Format) (op : Op) (w : Fields) → (instruction_by f op w).op ≡ op
op-instruction R op w = refl
op-instruction I op w = refl
op-instruction Shift op w = refl
op-instruction S op w = refl
op-instruction B op w = refl
op-instruction U op w = refl
op-instruction J op w = refl
op-instruction Fixed op w = refl

-- the parts of a word
pub unpack-small : (n : ℕ) → n < 2 ^ 32 → AreFields (unpack n)
unfolding unpack
unpack-small n h = record { opcode = omega arith; rd = omega arith; funct3 = omega arith; rs1 = omega arith; rs2 = omega arith; funct7 = omega arith }

pub pack-unpack : (n : ℕ) → n < 2 ^ 32 → pack (unpack n) ≡ n
unfolding pack unpack
pack-unpack n h = omega arith

word-by : (j : Instruction) (op : Op) → j.op ≡ op → word_of j ≡ pack (fields_by (row_of op).format (row_of op) j (cast_unsigned w32 j.imm))
word-by j op e = ap (λ o. pack (fields_by (row_of o).format (row_of o) j (cast_unsigned w32 j.imm))) e

word-matched : (op : Op) (w : Fields) → AreFields w → matches (row_of op) w ≡ true → word_of (instruction_by (row_of op).format op w) ≡ pack w
word-matched op w a m =
    let r = row_of op in
    let p = and_parts (w.opcode == r.opcode) (matches_by r.format r w) m in
    word-by (instruction_by r.format op w) op (op-instruction r.format op w)
    ∙ ap pack (fields-instruction r.format r op w a (sym (equal-from w.opcode r.opcode p.0)) p.1)

-- where a word decodes to an instruction, it is the instruction's word
pub word_of-decode_of : (n : ℕ) (i : Instruction) → n < 2 ^ 32 → decode_of n ≡ Some i → word_of i ≡ n
unfolding decode_of
word_of-decode_of n i h d =
    let m = match-found all_ops (unpack n) i d in
    ap word_of m.is ∙ word-matched m.op (unpack n) (unpack-small n h) m.matching ∙ pack-unpack n h

four-from : (a b c d : Bool) → a ≡ true → b ≡ true → c ≡ true → d ≡ true → (a && (b && (c && d))) ≡ true
four-from a b c d p q r s = and_from a (b && (c && d)) p (and_from b (c && d) q (and_from c d r s))

below-test : (a b : ℕ) → a < b → nat_lt a b ≡ true
below-test a b h = grind (arith, nat_tests)

zero-test : (a : ℕ) → a ≡ 0 → (a == 0) ≡ true
zero-test a h = grind (arith, nat_tests)

-- the instruction of some fields is in the ranges of its format
pub instruction-in_format : (f : Format) (op : Op) (w : Fields) → AreFields w → in_format f (instruction_by f op w).rd (instruction_by f op w).rs1 (instruction_by f op w).rs2 (instruction_by f op w).imm ≡ true
instruction-in_format R op w a = four-from (nat_lt w.rd 32) (nat_lt w.rs1 32) (nat_lt w.rs2 32) true (below-test w.rd 32 a.rd) (below-test w.rs1 32 a.rs1) (below-test w.rs2 32 a.rs2) refl
instruction-in_format I op w a =
    let m = w.rs2 + 2 ^ 5 * w.funct7 in
    four-from (nat_lt w.rd 32) (nat_lt w.rs1 32) true (is_within (2 ^ 11) (signed_of 12 m)) (below-test w.rd 32 a.rd) (below-test w.rs1 32 a.rs1) refl (within-signed_of12 m (low12 w a).0)
instruction-in_format Shift op w a = four-from (nat_lt w.rd 32) (nat_lt w.rs1 32) true (nat_lt w.rs2 32) (below-test w.rd 32 a.rd) (below-test w.rs1 32 a.rs1) refl (below-test w.rs2 32 a.rs2)
instruction-in_format S op w a =
    let m = w.rd + 2 ^ 5 * w.funct7 in
    four-from true (nat_lt w.rs1 32) (nat_lt w.rs2 32) (is_within (2 ^ 11) (signed_of 12 m)) refl (below-test w.rs1 32 a.rs1) (below-test w.rs2 32 a.rs2) (within-signed_of12 m (low12 w a).1)
instruction-in_format B op w a =
    let m = branch_bits w.rd w.funct7 in
    let z = signed_of 13 m in
    let e = low-signed_of13 m (branch-small w a) in
    let even : cast_unsigned w32 z % 2 ≡ 0 = omega arith in
    four-from true (nat_lt w.rs1 32) (nat_lt w.rs2 32) (is_within (2 ^ 12) z && is_multiple 1 z) refl (below-test w.rs1 32 a.rs1) (below-test w.rs2 32 a.rs2)
    (and_from (is_within (2 ^ 12) z) (is_multiple 1 z) (within-signed_of13 m (branch-small w a)) (zero-test (cast_unsigned w32 z % 2) even))
instruction-in_format U op w a =
    let m = upper_bits w in
    let z = signed_of 32 m in
    let e = low-signed_of32 m (upper-small w a) in
    let low : cast_unsigned w32 z % 2 ^ 12 ≡ 0 = omega arith in
    four-from (nat_lt w.rd 32) true true (is_within (2 ^ 31) z && is_multiple 12 z) (below-test w.rd 32 a.rd) refl refl
    (and_from (is_within (2 ^ 31) z) (is_multiple 12 z) (within-signed_of32 m (upper-small w a)) (zero-test (cast_unsigned w32 z % 2 ^ 12) low))
instruction-in_format J op w a =
    let m = jump_bits w.funct3 w.rs1 w.rs2 w.funct7 in
    let z = signed_of 21 m in
    let e = low-signed_of21 m (jump-small w a) in
    let even : cast_unsigned w32 z % 2 ≡ 0 = omega arith in
    four-from (nat_lt w.rd 32) true true (is_within (2 ^ 20) z && is_multiple 1 z) (below-test w.rd 32 a.rd) refl refl
    (and_from (is_within (2 ^ 20) z) (is_multiple 1 z) (within-signed_of21 m (jump-small w a)) (zero-test (cast_unsigned w32 z % 2) even))
instruction-in_format Fixed op w a = refl

-- a word decodes only to an instruction in the ranges of its row
pub matched-in_row : (op : Op) (w : Fields) → AreFields w → in_row (instruction_by (row_of op).format op w) ≡ true
matched-in_row op w a =
    let i = instruction_by (row_of op).format op w in
    ap (λ o. in_format (row_of o).format i.rd i.rs1 i.rs2 i.imm) (op-instruction (row_of op).format op w)
    ∙ instruction-in_format (row_of op).format op w a

-- the parts of an instruction don't go by its name
parts-instruction : (f : Format) (op o : Op) (w : Fields) → instruction_by f op w ≡ instruction op (instruction_by f o w).rd (instruction_by f o w).rs1 (instruction_by f o w).rs2 (instruction_by f o w).imm
parts-instruction R op o w = refl
parts-instruction I op o w = refl
parts-instruction Shift op o w = refl
parts-instruction S op o w = refl
parts-instruction B op o w = refl
parts-instruction U op o w = refl
parts-instruction J op o w = refl
parts-instruction Fixed op o w = refl

-- an instruction that was put together from the parts
pub built-instruction : (f : Format) (op o : Op) (w : Fields) (rd rs1 rs2 : ℕ) (imm : ℤ) → f ≡ (row_of op).format → rd ≡ (instruction_by f o w).rd → rs1 ≡ (instruction_by f o w).rs1 → rs2 ≡ (instruction_by f o w).rs2 → imm ≡ (instruction_by f o w).imm → instruction op rd rs1 rs2 imm ≡ instruction_by (row_of op).format op w
built-instruction f op o w rd rs1 rs2 imm e a b c d =
    let g = instruction_by f o w in
    ap (λ x. instruction op x rs1 rs2 imm) a
    ∙ ap (λ x. instruction op g.rd x rs2 imm) b
    ∙ ap (λ x. instruction op g.rd g.rs1 x imm) c
    ∙ ap (λ x. instruction op g.rd g.rs1 g.rs2 x) d
    ∙ sym (parts-instruction f op o w)
    ∙ ap (λ x. instruction_by x op w) e

-- the same, where it decodes to one
pub IfSome-decode_of : (n : ℕ) (o : Option Instruction) → n < 2 ^ 32 → o ≡ decode_of n → IfSome o (λ i. word_of i ≡ n)
IfSome-decode_of n None h e = tt
IfSome-decode_of n (Some i) h e = word_of-decode_of n i h (sym e)
