-- The word of an instruction, and the instruction of a word (RISC-V unprivileged manual 2.2, 2.3: instruction formats and immediates).
use Rattle.std.specs.Prelude.{ℕ, ◌+◌, ◌*◌, ◌/◌, ◌%◌, ◌^◌, ◌<◌, ◌==◌, ◌&&◌, pos, Bool, true, List, [], ◌∷◌, Option, Some, None, if◌then◌else◌}
use Rattle.std.specs.Int.{w32, cast_unsigned}
use Rattle.wcc_base.specs.Signs.{signed_of}
use Rattle.rv_core.specs.declared.op.Op.{Op}
use Rattle.rv_core.specs.declared.row.Format.{Format}
use Rattle.rv_core.specs.declared.row.Format.TheVariants.{R, I, Shift, S, B, U, J, Fixed}
use Rattle.rv_core.specs.declared.row.Row.{Row}
use Rattle.rv_core.specs.declared.fields.Fields.{Fields}
use Rattle.rv_core.specs.Rows.{row_of, all_ops}
use Rattle.rv_core.specs.Instructions.{Instruction, instruction}

-- the fields have at most the bits of their places
pub record AreFields (w : Fields) : Type 0 where
  pub opcode : w.opcode < 2 ^ 7
  pub rd : w.rd < 2 ^ 5
  pub funct3 : w.funct3 < 2 ^ 3
  pub rs1 : w.rs1 < 2 ^ 5
  pub rs2 : w.rs2 < 2 ^ 5
  pub funct7 : w.funct7 < 2 ^ 7

-- a word of six fields, the opcode in the low bits
unfoldable pub pack : Fields → ℕ
pack w = w.opcode + 2 ^ 7 * w.rd + 2 ^ 12 * w.funct3 + 2 ^ 15 * w.rs1 + 2 ^ 20 * w.rs2 + 2 ^ 25 * w.funct7

-- the six fields of a word
unfoldable pub unpack : ℕ → Fields
unpack n = record { opcode = n % 2 ^ 7; rd = n / 2 ^ 7 % 2 ^ 5; funct3 = n / 2 ^ 12 % 2 ^ 3; rs1 = n / 2 ^ 15 % 2 ^ 5; rs2 = n / 2 ^ 20 % 2 ^ 5; funct7 = n / 2 ^ 25 }

-- five and seven bits of an I or S immediate
abbrev pub low_five : ℕ → ℕ
low_five n = n % 2 ^ 5

abbrev pub high_seven : ℕ → ℕ
high_seven n = n / 2 ^ 5 % 2 ^ 7

-- five bits of a B immediate: 4 to 1, and 11 below them; a J immediate has the same in the place of rs2
abbrev pub low_jump : ℕ → ℕ
low_jump n = n / 2 ^ 11 % 2 + 2 * (n / 2 % 2 ^ 4)

-- seven bits of an immediate whose top bit has that number: the top bit, and 10 to 5
abbrev pub high_jump : ℕ → ℕ → ℕ
high_jump top n = n / 2 ^ 5 % 2 ^ 6 + 2 ^ 6 * (n / 2 ^ top % 2)

-- the fields of a format, where n are the bits of the immediate
abbrev pub fields_by : Format → Row → Instruction → ℕ → Fields
fields_by R r i n = record { opcode = r.opcode; rd = i.rd; funct3 = r.funct3; rs1 = i.rs1; rs2 = i.rs2; funct7 = r.funct7 }
fields_by I r i n = record { opcode = r.opcode; rd = i.rd; funct3 = r.funct3; rs1 = i.rs1; rs2 = low_five n; funct7 = high_seven n }
fields_by Shift r i n = record { opcode = r.opcode; rd = i.rd; funct3 = r.funct3; rs1 = i.rs1; rs2 = low_five n; funct7 = r.funct7 }
fields_by S r i n = record { opcode = r.opcode; rd = low_five n; funct3 = r.funct3; rs1 = i.rs1; rs2 = i.rs2; funct7 = high_seven n }
fields_by B r i n = record { opcode = r.opcode; rd = low_jump n; funct3 = r.funct3; rs1 = i.rs1; rs2 = i.rs2; funct7 = high_jump 12 n }
fields_by U r i n = record { opcode = r.opcode; rd = i.rd; funct3 = n / 2 ^ 12 % 2 ^ 3; rs1 = n / 2 ^ 15 % 2 ^ 5; rs2 = n / 2 ^ 20 % 2 ^ 5; funct7 = n / 2 ^ 25 % 2 ^ 7 }
fields_by J r i n = record { opcode = r.opcode; rd = i.rd; funct3 = n / 2 ^ 12 % 2 ^ 3; rs1 = n / 2 ^ 15 % 2 ^ 5; rs2 = low_jump n; funct7 = high_jump 20 n }
fields_by Fixed r i n = record { opcode = r.opcode; rd = 0; funct3 = 0; rs1 = 0; rs2 = 0; funct7 = 0 }

-- the fields of an instruction's word
abbrev pub fields_of : Instruction → Fields
fields_of i = fields_by (row_of i.op).format (row_of i.op) i (cast_unsigned w32 i.imm)

-- the word of an instruction
abbrev pub word_of : Instruction → ℕ
word_of i = pack (fields_of i)

-- the fields are those of a word with this row, as far as the format fixes them
abbrev pub matches_by : Format → Row → Fields → Bool
matches_by R r w = (w.funct3 == r.funct3) && (w.funct7 == r.funct7)
matches_by I r w = w.funct3 == r.funct3
matches_by Shift r w = (w.funct3 == r.funct3) && (w.funct7 == r.funct7)
matches_by S r w = w.funct3 == r.funct3
matches_by B r w = w.funct3 == r.funct3
matches_by U r w = true
matches_by J r w = true
matches_by Fixed r w = (w.rd == 0) && ((w.funct3 == 0) && ((w.rs1 == 0) && ((w.rs2 == 0) && (w.funct7 == 0))))

abbrev pub matches : Row → Fields → Bool
matches r w = (w.opcode == r.opcode) && matches_by r.format r w

-- the instruction of these fields
abbrev pub instruction_by : Format → Op → Fields → Instruction
instruction_by R op w = instruction op w.rd w.rs1 w.rs2 (pos 0)
instruction_by I op w = instruction op w.rd w.rs1 0 (signed_of 12 (w.rs2 + 2 ^ 5 * w.funct7))
instruction_by Shift op w = instruction op w.rd w.rs1 0 (pos w.rs2)
instruction_by S op w = instruction op 0 w.rs1 w.rs2 (signed_of 12 (w.rd + 2 ^ 5 * w.funct7))
instruction_by B op w = instruction op 0 w.rs1 w.rs2 (signed_of 13 (2 * (w.rd / 2) + 2 ^ 5 * (w.funct7 % 2 ^ 6) + 2 ^ 11 * (w.rd % 2) + 2 ^ 12 * (w.funct7 / 2 ^ 6)))
instruction_by U op w = instruction op w.rd 0 0 (signed_of 32 (2 ^ 12 * w.funct3 + 2 ^ 15 * w.rs1 + 2 ^ 20 * w.rs2 + 2 ^ 25 * w.funct7))
instruction_by J op w = instruction op w.rd 0 0 (signed_of 21 (2 * (w.rs2 / 2) + 2 ^ 5 * (w.funct7 % 2 ^ 6) + 2 ^ 11 * (w.rs2 % 2) + 2 ^ 12 * w.funct3 + 2 ^ 15 * w.rs1 + 2 ^ 20 * (w.funct7 / 2 ^ 6)))
instruction_by Fixed op w = instruction op 0 0 0 (pos 0)

-- the first instruction of the table whose row matches
abbrev pub first_match : List Op → Fields → Option Instruction
first_match [] w = None
first_match (op ∷ ops) w = if matches (row_of op) w then Some (instruction_by (row_of op).format op w) else first_match ops w

-- the instruction of a word, if a row matches it
unfoldable pub decode_of : ℕ → Option Instruction
decode_of n = first_match all_ops (unpack n)
