-- Instructions and the ranges of their fields (RISC-V unprivileged manual 2.2, 2.3).
use Rattle.std.specs.Prelude.{ℕ, ◌%◌, ◌^◌, ◌==◌, ◌&&◌, ℤ, pos, negsuc, Bool, false, nat_lt}
use Rattle.std.specs.Int.{w32, cast_unsigned}
use Rattle.rv_core.specs.declared.op.Op.{Op}
use Rattle.rv_core.specs.declared.op.Op.TheVariants.{Lui, Addi, Ecall}
use Rattle.rv_core.specs.declared.row.Format.{Format}
use Rattle.rv_core.specs.declared.row.Format.TheVariants.{R, I, Shift, S, B, U, J, Fixed}
use Rattle.rv_core.specs.Rows.{row_of}

-- an instruction as it is written: its name, its registers and its immediate
pub record Instruction : Type 0 where
  pub op : Op
  pub rd : ℕ
  pub rs1 : ℕ
  pub rs2 : ℕ
  pub imm : ℤ

-- the number isn't below -h and is below h
abbrev pub is_within : ℕ → ℤ → Bool
is_within h (pos n) = nat_lt n h
is_within h (negsuc n) = nat_lt n h

abbrev pub is_zero : ℤ → Bool
is_zero (pos n) = n == 0
is_zero (negsuc n) = false

-- the amount of a shift
abbrev pub is_amount : ℤ → Bool
is_amount (pos n) = nat_lt n 32
is_amount (negsuc n) = false

-- the low k bits are 0
abbrev pub is_multiple : ℕ → ℤ → Bool
is_multiple k imm = cast_unsigned w32 imm % 2 ^ k == 0

-- the fields that a format has are in their ranges, and the others are 0
abbrev pub in_format : Format → ℕ → ℕ → ℕ → ℤ → Bool
in_format R rd rs1 rs2 imm = nat_lt rd 32 && (nat_lt rs1 32 && (nat_lt rs2 32 && is_zero imm))
in_format I rd rs1 rs2 imm = nat_lt rd 32 && (nat_lt rs1 32 && ((rs2 == 0) && is_within (2 ^ 11) imm))
in_format Shift rd rs1 rs2 imm = nat_lt rd 32 && (nat_lt rs1 32 && ((rs2 == 0) && is_amount imm))
in_format S rd rs1 rs2 imm = (rd == 0) && (nat_lt rs1 32 && (nat_lt rs2 32 && is_within (2 ^ 11) imm))
in_format B rd rs1 rs2 imm = (rd == 0) && (nat_lt rs1 32 && (nat_lt rs2 32 && (is_within (2 ^ 12) imm && is_multiple 1 imm)))
in_format U rd rs1 rs2 imm = nat_lt rd 32 && ((rs1 == 0) && ((rs2 == 0) && (is_within (2 ^ 31) imm && is_multiple 12 imm)))
in_format J rd rs1 rs2 imm = nat_lt rd 32 && ((rs1 == 0) && ((rs2 == 0) && (is_within (2 ^ 20) imm && is_multiple 1 imm)))
in_format Fixed rd rs1 rs2 imm = (rd == 0) && ((rs1 == 0) && ((rs2 == 0) && is_zero imm))

-- the fields are in the ranges of the instruction's row
abbrev pub in_row : Instruction → Bool
in_row i = in_format (row_of i.op).format i.rd i.rs1 i.rs2 i.imm

abbrev pub instruction : Op → ℕ → ℕ → ℕ → ℤ → Instruction
instruction op rd rs1 rs2 imm = record { op = op; rd = rd; rs1 = rs1; rs2 = rs2; imm = imm }

abbrev pub addi : ℕ → ℕ → ℤ → Instruction
addi rd rs1 imm = instruction Addi rd rs1 0 imm

abbrev pub lui : ℕ → ℤ → Instruction
lui rd imm = instruction Lui rd 0 0 imm

abbrev pub ecall : Instruction
ecall = instruction Ecall 0 0 0 (pos 0)
