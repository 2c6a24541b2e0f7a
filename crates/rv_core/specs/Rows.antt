-- The instruction table: each instruction's format, opcode, funct3, funct7, class of cost and effect (RISC-V unprivileged manual, RV32I base and M extension, instruction set listings).
use Rattle.std.specs.Prelude.{ℕ, List, [], ◌∷◌, true, false}
use Rattle.rv_core.specs.declared.op.Op.{Op}
use Rattle.rv_core.specs.declared.op.Op.TheVariants.{Lui, Auipc, Jal, Jalr, Beq, Bne, Blt, Bge, Bltu, Bgeu, Lb, Lh, Lw, Lbu, Lhu, Sb, Sh, Sw, Addi, Slti, Sltiu, Xori, Ori, Andi, Slli, Srli, Srai, Add, Sub, Sll, Slt, Sltu, Xor, Srl, Sra, Or, And, Mul, Mulh, Mulhsu, Mulhu, Div, Divu, Rem, Remu, Ecall}
use Rattle.rv_core.specs.declared.row.Format.{Format}
use Rattle.rv_core.specs.declared.row.Format.TheVariants.{R, I, Shift, S, B, U, J, Fixed}
use Rattle.rv_core.specs.declared.row.Class.{Class}
use Rattle.rv_core.specs.declared.row.Class.TheVariants.{Plain, Multiply, Divide, Load, Store, Branch, Jump, System}
use Rattle.rv_core.specs.declared.row.Alu.TheVariants.{Sum, Difference, ShiftLeft, IsLess, IsLessUnsigned, BitXor, ShiftRight, ShiftRightSigned, BitOr, BitAnd, Product, HighProduct, HighProductMixed, HighProductUnsigned, Quotient, QuotientUnsigned, Remainder, RemainderUnsigned}
use Rattle.rv_core.specs.declared.row.Condition.TheVariants.{Equal, NotEqual, Less, AtLeast, LessUnsigned, AtLeastUnsigned}
use Rattle.rv_core.specs.declared.row.Width.TheVariants.{Byte, Half, Word}
use Rattle.rv_core.specs.declared.row.Effect.{Effect}
use Rattle.rv_core.specs.declared.row.Effect.TheVariants.{SetUpper, AddUpper, Link, LinkRegister, BranchIf, Read, Write, WithImmediate, WithRegister, CallEnvironment}
use Rattle.rv_core.specs.declared.row.Row.{Row}

abbrev pub row : Format → ℕ → ℕ → ℕ → Class → Effect → Row
row format opcode funct3 funct7 class effect = record { format = format; opcode = opcode; funct3 = funct3; funct7 = funct7; class = class; effect = effect }

-- the row of each instruction; what a format doesn't have is 0
abbrev pub row_of : Op → Row
row_of Lui = row U 0x37 0 0 Plain SetUpper
row_of Auipc = row U 0x17 0 0 Plain AddUpper
row_of Jal = row J 0x6f 0 0 Jump Link
row_of Jalr = row I 0x67 0 0 Jump LinkRegister
row_of Beq = row B 0x63 0 0 Branch (BranchIf Equal)
row_of Bne = row B 0x63 1 0 Branch (BranchIf NotEqual)
row_of Blt = row B 0x63 4 0 Branch (BranchIf Less)
row_of Bge = row B 0x63 5 0 Branch (BranchIf AtLeast)
row_of Bltu = row B 0x63 6 0 Branch (BranchIf LessUnsigned)
row_of Bgeu = row B 0x63 7 0 Branch (BranchIf AtLeastUnsigned)
row_of Lb = row I 0x03 0 0 Load (Read Byte true)
row_of Lh = row I 0x03 1 0 Load (Read Half true)
row_of Lw = row I 0x03 2 0 Load (Read Word true)
row_of Lbu = row I 0x03 4 0 Load (Read Byte false)
row_of Lhu = row I 0x03 5 0 Load (Read Half false)
row_of Sb = row S 0x23 0 0 Store (Write Byte)
row_of Sh = row S 0x23 1 0 Store (Write Half)
row_of Sw = row S 0x23 2 0 Store (Write Word)
row_of Addi = row I 0x13 0 0 Plain (WithImmediate Sum)
row_of Slti = row I 0x13 2 0 Plain (WithImmediate IsLess)
row_of Sltiu = row I 0x13 3 0 Plain (WithImmediate IsLessUnsigned)
row_of Xori = row I 0x13 4 0 Plain (WithImmediate BitXor)
row_of Ori = row I 0x13 6 0 Plain (WithImmediate BitOr)
row_of Andi = row I 0x13 7 0 Plain (WithImmediate BitAnd)
row_of Slli = row Shift 0x13 1 0x00 Plain (WithImmediate ShiftLeft)
row_of Srli = row Shift 0x13 5 0x00 Plain (WithImmediate ShiftRight)
row_of Srai = row Shift 0x13 5 0x20 Plain (WithImmediate ShiftRightSigned)
row_of Add = row R 0x33 0 0x00 Plain (WithRegister Sum)
row_of Sub = row R 0x33 0 0x20 Plain (WithRegister Difference)
row_of Sll = row R 0x33 1 0x00 Plain (WithRegister ShiftLeft)
row_of Slt = row R 0x33 2 0x00 Plain (WithRegister IsLess)
row_of Sltu = row R 0x33 3 0x00 Plain (WithRegister IsLessUnsigned)
row_of Xor = row R 0x33 4 0x00 Plain (WithRegister BitXor)
row_of Srl = row R 0x33 5 0x00 Plain (WithRegister ShiftRight)
row_of Sra = row R 0x33 5 0x20 Plain (WithRegister ShiftRightSigned)
row_of Or = row R 0x33 6 0x00 Plain (WithRegister BitOr)
row_of And = row R 0x33 7 0x00 Plain (WithRegister BitAnd)
row_of Mul = row R 0x33 0 0x01 Multiply (WithRegister Product)
row_of Mulh = row R 0x33 1 0x01 Multiply (WithRegister HighProduct)
row_of Mulhsu = row R 0x33 2 0x01 Multiply (WithRegister HighProductMixed)
row_of Mulhu = row R 0x33 3 0x01 Multiply (WithRegister HighProductUnsigned)
row_of Div = row R 0x33 4 0x01 Divide (WithRegister Quotient)
row_of Divu = row R 0x33 5 0x01 Divide (WithRegister QuotientUnsigned)
row_of Rem = row R 0x33 6 0x01 Divide (WithRegister Remainder)
row_of Remu = row R 0x33 7 0x01 Divide (WithRegister RemainderUnsigned)
row_of Ecall = row Fixed 0x73 0 0 System CallEnvironment

-- all instructions, in the order of the table
abbrev pub all_ops : List Op
all_ops =
    Lui ∷ Auipc ∷ Jal ∷ Jalr ∷ Beq ∷ Bne ∷ Blt ∷ Bge ∷ Bltu ∷ Bgeu ∷ Lb ∷ Lh ∷ Lw ∷ Lbu ∷ Lhu ∷ Sb ∷ Sh ∷ Sw
    ∷ Addi ∷ Slti ∷ Sltiu ∷ Xori ∷ Ori ∷ Andi ∷ Slli ∷ Srli ∷ Srai
    ∷ Add ∷ Sub ∷ Sll ∷ Slt ∷ Sltu ∷ Xor ∷ Srl ∷ Sra ∷ Or ∷ And
    ∷ Mul ∷ Mulh ∷ Mulhsu ∷ Mulhu ∷ Div ∷ Divu ∷ Rem ∷ Remu ∷ Ecall ∷ []
