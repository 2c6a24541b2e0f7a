-- The machine: its state and one step, by what the fetched instruction does (RISC-V unprivileged manual 2.4 to 2.8 and M; traps, environment calls and cycles are this machine's own).
use Rattle.std.specs.Prelude.{ℕ, zero, suc, ◌+◌, ◌*◌, ◌/◌, ◌%◌, ◌^◌, ◌-◌, ◌==◌, ℤ, List, [], ◌∷◌, ◌++◌, drop, replicate, Bool, true, false, Option, Some, None, slice_index, slice_set, if◌then◌else◌}
use Rattle.rv_core.specs.declared.regions.Region.{Region}
use Rattle.rv_core.specs.declared.row.Width.{Width}
use Rattle.rv_core.specs.declared.row.Width.TheVariants.{Word}
use Rattle.rv_core.specs.declared.row.Effect.{Effect}
use Rattle.rv_core.specs.declared.row.Effect.TheVariants.{SetUpper, AddUpper, Link, LinkRegister, BranchIf, Read, Write, WithImmediate, WithRegister, CallEnvironment}
use Rattle.rv_core.specs.Rows.{row_of}
use Rattle.rv_core.specs.Instructions.{Instruction}
use Rattle.rv_core.specs.Words.{decode_of}
use Rattle.rv_core.specs.Regions.{region_of}
use Rattle.rv_core.specs.Table.{Table, cost_of, wait_of}
use Rattle.rv_core.specs.Arithmetic.{signed, word, displaced, alu_value, holds, byte_count, extended}
use Rattle.rv_core.specs.Images.{Image}
use Rattle.rv_core.specs.Memory.{Block, loaded, read_from, written_to}

pub data Ending : Type 0 where
  Running : Ending
  Exited : (value : ℤ) → Ending
  Trapped : (kind : ℕ) → Ending

-- what an instruction on registers leaves alone
pub record World : Type 0 where
  pub memory : List Block
  pub input : List ℕ
  pub output : List ℕ

-- the last instruction is that of the latest step; before the first step there is none
pub record State : Type 0 where
  pub pc : ℕ
  pub registers : List ℕ
  pub world : World
  pub last : Option Instruction
  pub cycles : ℕ
  pub ending : Ending

-- the state before the first step
abbrev pub start_of : Image → List ℕ → State
start_of image input =
    record {
      pc = image.entry;
      registers = replicate 32 0;
      world = record { memory = loaded image.segments; input = input; output = [] };
      last = None;
      cycles = 0;
      ending = Running;
    }

-- the word of a register; x0 reads as zero
abbrev pub register_of : List ℕ → ℕ → ℕ
register_of registers zero = 0
register_of registers (suc n) = slice_index registers (suc n)

abbrev pub with_register : List ℕ → ℕ → ℕ → List ℕ
with_register registers zero value = registers
with_register registers (suc n) value = slice_set registers (suc n) value

-- the word at the pc, if it is aligned and wholly in code
unfoldable pub fetched : List Block → ℕ → Option ℕ
fetched memory pc = if pc % 4 == 0 then read_from (λ b. b.exec) Word memory pc else None

-- the address behind an instruction
abbrev pub behind : ℕ → ℕ
behind pc = (pc + 4) % 2 ^ 32

-- the address that rs1 and the immediate give
abbrev pub address_of : Instruction → State → ℕ
address_of i s = displaced (register_of s.registers i.rs1) i.imm

-- what an instruction does: it goes to an address with these registers and this world, exits, or traps
pub data Action : Type 0 where
  GoesTo : (pc : ℕ) (registers : List ℕ) (world : World) → Action
  Leaves : (value : ℤ) → Action
  Traps : (kind : ℕ) → Action

-- the next instruction follows, with this value in the register
abbrev pub sets : ℕ → ℕ → State → Action
sets rd value s = GoesTo (behind s.pc) (with_register s.registers rd value) s.world

-- the address behind the instruction goes into the register
abbrev pub jumps : ℕ → ℕ → State → Action
jumps rd to s = GoesTo to (with_register s.registers rd (behind s.pc)) s.world

abbrev pub branches : ℤ → Bool → State → Action
branches imm true s = GoesTo (displaced s.pc imm) s.registers s.world
branches imm false s = GoesTo (behind s.pc) s.registers s.world

-- a load of what was found
abbrev pub reads : ℕ → (Width × Bool) → Option ℕ → State → Action
reads rd kind None s = Traps 3
reads rd kind (Some n) s = sets rd (extended kind.0 kind.1 n) s

abbrev pub reads_at : ℕ → (Width × Bool) → ℕ → State → Action
reads_at rd kind at s = if at % byte_count kind.0 == 0 then reads rd kind (read_from (λ b. b.read) kind.0 s.world.memory at) s else Traps 5

-- a store that makes this memory
abbrev pub writes : Option (List Block) → State → Action
writes None s = Traps 4
writes (Some memory) s = GoesTo (behind s.pc) s.registers (record s.world { memory = memory })

abbrev pub writes_at : Width → ℕ → ℕ → State → Action
writes_at w value at s = if at % byte_count w == 0 then writes (written_to w s.world.memory at value) s else Traps 5

-- the next byte of the input, or -1
abbrev pub input_value : List ℕ → ℕ
input_value [] = 2 ^ 32 - 1
input_value (b ∷ bs) = b

-- exit with x10, read a byte into x10, or write x10 modulo 256
abbrev pub calls : ℕ → State → Action
calls zero s = Leaves (signed (register_of s.registers 10))
calls (suc zero) s = GoesTo (behind s.pc) (with_register s.registers 10 (input_value s.world.input)) (record s.world { input = drop 1 s.world.input })
calls (suc (suc zero)) s =
    let byte = register_of s.registers 10 % 2 ^ 8 in
    GoesTo (behind s.pc) (with_register s.registers 10 byte) (record s.world { output = s.world.output ++ byte ∷ [] })
calls (suc (suc (suc n))) s = Traps 6

abbrev pub performed_by : Effect → Instruction → State → Action
performed_by SetUpper i s = sets i.rd (word i.imm) s
performed_by AddUpper i s = sets i.rd (displaced s.pc i.imm) s
performed_by Link i s = jumps i.rd (displaced s.pc i.imm) s
performed_by LinkRegister i s = jumps i.rd (address_of i s / 2 * 2) s
performed_by (BranchIf c) i s = branches i.imm (holds c (register_of s.registers i.rs1) (register_of s.registers i.rs2)) s
performed_by (Read w signed) i s = reads_at i.rd (w, signed) (address_of i s) s
performed_by (Write w) i s = writes_at w (register_of s.registers i.rs2) (address_of i s) s
performed_by (WithImmediate f) i s = sets i.rd (alu_value f (register_of s.registers i.rs1) (word i.imm)) s
performed_by (WithRegister f) i s = sets i.rd (alu_value f (register_of s.registers i.rs1) (register_of s.registers i.rs2)) s
performed_by CallEnvironment i s = calls (register_of s.registers 17) s

-- what an instruction does
abbrev pub performed : Instruction → State → Action
performed i s = performed_by (row_of i.op).effect i s

-- whether it is a branch that is taken
abbrev pub taken_by : Effect → Instruction → State → Bool
taken_by (BranchIf c) i s = holds c (register_of s.registers i.rs1) (register_of s.registers i.rs2)
taken_by e i s = false

abbrev pub is_taken : Instruction → State → Bool
is_taken i s = taken_by (row_of i.op).effect i s

-- the address that it loads or stores at
abbrev pub access_by : Effect → Instruction → State → Option ℕ
access_by (Read w signed) i s = Some (address_of i s)
access_by (Write w) i s = Some (address_of i s)
access_by e i s = None

abbrev pub access_of : Instruction → State → Option ℕ
access_of i s = access_by (row_of i.op).effect i s

abbrev pub region_accessed : Option ℕ → Option Region
region_accessed None = None
region_accessed (Some at) = region_of at

-- the cost of an instruction that was fetched there; code lies in a region
abbrev pub cost_at : Table → Instruction → Option Region → Option Region → Bool → ℕ
cost_at t i None access taken = 0
cost_at t i (Some fetch) access taken = cost_of t i fetch access taken

-- how long it waits for the last instruction
abbrev pub wait_behind : Table → Option Instruction → Instruction → ℕ
wait_behind t None i = 0
wait_behind t (Some before) i = wait_of t before i

-- the cycles of a step: the cost of its instruction, and the wait for that of the step before
abbrev pub step_cycles : Table → Instruction → State → ℕ
step_cycles t i s = cost_at t i (region_of s.pc) (region_accessed (access_of i s)) (is_taken i s) + wait_behind t s.last i

-- the step is paid
abbrev pub paid : Table → Instruction → State → State
paid t i s = record s { last = Some i; cycles = s.cycles + step_cycles t i s }

-- a trap changes nothing but that the machine has ended
abbrev pub trapped : ℕ → State → State
trapped kind s = record s { ending = Trapped kind }

-- the state behind an instruction that does this
abbrev pub done : Table → Instruction → State → Action → State
done t i s (GoesTo pc registers world) = record (paid t i s) { pc = pc; registers = registers; world = world }
done t i s (Leaves value) = record (paid t i s) { ending = Exited value }
done t i s (Traps kind) = trapped kind s

abbrev pub step_instr : Table → Option Instruction → State → State
step_instr t None s = trapped 2 s
step_instr t (Some i) s = done t i s (performed i s)

abbrev pub step_word : Table → Option ℕ → State → State
step_word t None s = trapped 1 s
step_word t (Some w) s = step_instr t (decode_of w) s

abbrev pub step_ending : Table → Ending → State → State
step_ending t Running s = step_word t (fetched s.world.memory s.pc) s
step_ending t (Exited v) s = s
step_ending t (Trapped k) s = s

-- one step, after which a machine that has ended stays as it is
unfoldable pub step : Table → State → State
step t s = step_ending t s.ending s

-- n steps
abbrev pub steps : Table → ℕ → State → State
steps t zero s = s
steps t (suc n) s = steps t n (step t s)
