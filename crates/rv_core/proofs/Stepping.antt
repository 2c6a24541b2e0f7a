-- One step of the machine over straight code in flash.
use Rattle.std.proofs.Common.{◌≡◌, ℕ, ◌+◌, ◌-◌, ◌%◌, ◌^◌, ◌<◌, arith, ℤ, pos, negsuc, ◌≤ℤ◌, Option, Some, None, refl, sym, ap, subst, ◌∙◌, List, [], ◌∷◌, ◌++◌, length, drop, true, false}
use Rattle.std.specs.Prelude.{FitsSigned, nat_le, slice_index, ◌==◌, ◌&&◌, not, if◌then◌else◌}
use Rattle.std.specs.Int.{w32, cast_unsigned}
use Rattle.std.proofs.lemmas.Bool.Decides.{nat_tests}
use Rattle.std.proofs.lemmas.List.{drop-drop, length-drop, get_or-drop}
use Rattle.rv_core.specs.declared.regions.Region.TheVariants.{Flash}
use Rattle.rv_core.specs.declared.row.Width.TheVariants.{Word}
use Rattle.rv_core.specs.Instructions.{Instruction, addi, lui, ecall}
use Rattle.rv_core.specs.Words.{word_of, decode_of}
use Rattle.rv_core.specs.Regions.{region_of}
use Rattle.rv_core.specs.Rows.{row_of}
use Rattle.rv_core.specs.Table.{Table, cost_of, loads, uses}
use Rattle.rv_core.specs.Arithmetic.{signed, displaced, alu_value}
use Rattle.rv_core.specs.Memory.{Block, number_at}
use Rattle.rv_core.specs.Machine.{State, Running, Exited, fetched, step, step_ending, step_word, step_instr, performed, done, sets, calls, access_of, is_taken, region_accessed, cost_at, wait_behind, step_cycles, register_of, with_register}
use Rattle.rv_core.specs.Bytes.{le_words}
use Rattle.rv_core.proofs.Decoding.{decode_addi, decode_lui, decode_ecall}

-- the instruction loads no register, so that nothing waits for it
abbrev pub NoLoad : Option Instruction → Type 0
NoLoad None = Unit {0}
NoLoad (Some i) = loads (row_of i.op).class ≡ false

-- a running machine that waits for no load
pub record At (memory : List Block) (s : State) (pc : ℕ) (registers output : List ℕ) (cycles : ℕ) : Type 0 where
  pub running : s.ending ≡ Running
  pub memory_is : s.world.memory ≡ memory
  pub pc_is : s.pc ≡ pc
  pub registers_are : s.registers ≡ registers
  pub output_is : s.world.output ≡ output
  pub no_load : NoLoad s.last
  pub cycles_are : s.cycles ≡ cycles

-- a machine that has exited
pub record Over (s : State) (value : ℤ) (output : List ℕ) (cycles : ℕ) : Type 0 where
  pub ends : s.ending ≡ Exited value
  pub output_is : s.world.output ≡ output
  pub cycles_are : s.cycles ≡ cycles

-- a step is what the fetched instruction does
pub step-performed : (t : Table) (s : State) (w : ℕ) (i : Instruction) → s.ending ≡ Running → fetched s.world.memory s.pc ≡ Some w → decode_of w ≡ Some i → step t s ≡ done t i s (performed i s)
unfolding step
step-performed t s w i running here is =
    ap (λ e. step_ending t e s) running
    ∙ ap (λ o. step_word t o s) here
    ∙ ap (λ o. step_instr t o s) is

pub performs : (t : Table) (memory : List Block) (s : State) (pc : ℕ) (registers output : List ℕ) (cycles w : ℕ) (i : Instruction) → At memory s pc registers output cycles → fetched memory pc ≡ Some w → decode_of w ≡ Some i → step t s ≡ done t i s (performed i s)
performs t memory s pc registers output cycles w i a here is =
    step-performed t s w i a.running (ap (λ m. fetched m s.pc) a.memory_is ∙ ap (λ p. fetched memory p) a.pc_is ∙ here) is

-- nothing waits where there was no load
pub wait-none : (t : Table) (o : Option Instruction) (i : Instruction) → NoLoad o → wait_behind t o i ≡ 0
wait-none t None i n = refl
wait-none t (Some b) i n = ap (λ x. if x && (not (b.rd == 0) && uses i b.rd) then t.stall else 0) n

plus-none : (a b : ℕ) → b ≡ 0 → a + b ≡ a
plus-none a b e = omega arith

-- the cycles of an instruction on registers in flash, behind one that loads nothing
cycles-flash : (t : Table) (i : Instruction) (s : State) (pc : ℕ) → s.pc ≡ pc → region_of pc ≡ Some Flash → access_of i s ≡ None → is_taken i s ≡ false → NoLoad s.last → step_cycles t i s ≡ cost_of t i Flash None false
cycles-flash t i s pc is flash accessed taken n =
    plus-none (cost_at t i (region_of s.pc) (region_accessed (access_of i s)) (is_taken i s)) (wait_behind t s.last i) (wait-none t s.last i n)
    ∙ ap (λ p. cost_at t i (region_of p) (region_accessed (access_of i s)) (is_taken i s)) is
    ∙ ap (λ r. cost_at t i r (region_accessed (access_of i s)) (is_taken i s)) flash
    ∙ ap (λ a. cost_of t i Flash (region_accessed a) (is_taken i s)) accessed
    ∙ ap (λ b. cost_of t i Flash None b) taken

-- an instruction that goes on to the next one
goes_on-at : (t : Table) (i : Instruction) (rd value : ℕ) (memory : List Block) (s : State) (pc : ℕ) (registers output : List ℕ) (cycles : ℕ) → At memory s pc registers output cycles → NoLoad (Some i) → access_of i s ≡ None → is_taken i s ≡ false → pc + 4 < 2 ^ 32 → region_of pc ≡ Some Flash
    → At memory (done t i s (sets rd value s)) (pc + 4) (with_register s.registers rd value) output (cycles + cost_of t i Flash None false)
goes_on-at t i rd value memory s pc registers output cycles a n accessed taken fits flash = record {
  running = a.running;
  memory_is = a.memory_is;
  pc_is = let e : (pc + 4) % 2 ^ 32 ≡ pc + 4 = omega arith in ap (λ p. (p + 4) % 2 ^ 32) a.pc_is ∙ e;
  registers_are = refl;
  output_is = a.output_is;
  no_load = n;
  cycles_are = ap (λ c. s.cycles + c) (cycles-flash t i s pc a.pc_is flash accessed taken a.no_load) ∙ ap (λ c. c + cost_of t i Flash None false) a.cycles_are;
}

pub step_addi : (t : Table) (memory : List Block) (s : State) (pc : ℕ) (registers output : List ℕ) (cycles rd rs1 : ℕ) (imm : ℤ) → At memory s pc registers output cycles → fetched memory pc ≡ Some (word_of (addi rd rs1 imm)) → rd < 32 → rs1 < 32 → negsuc 2047 ≤ℤ imm → imm ≤ℤ pos 2047 → pc + 4 < 2 ^ 32 → region_of pc ≡ Some Flash
    → At memory (step t s) (pc + 4) (with_register registers rd (displaced (register_of registers rs1) imm)) output (cycles + (t.fetch_flash + t.alu))
unfolding alu_value
step_addi t memory s pc registers output cycles rd rs1 imm a here lt lt' low high fits flash =
    let i = addi rd rs1 imm in
    let after : List ℕ → List ℕ = λ r. with_register r rd (displaced (register_of r rs1) imm) in
    let e = performs t memory s pc registers output cycles (word_of i) i a here (decode_addi rd rs1 imm lt lt' low high) in
    let n = goes_on-at t i rd (displaced (register_of s.registers rs1) imm) memory s pc registers output cycles a refl refl refl fits flash in
    subst (λ x. At memory x (pc + 4) (after registers) output (cycles + (t.fetch_flash + t.alu))) (sym e) (record {
      running = n.running;
      memory_is = n.memory_is;
      pc_is = n.pc_is;
      registers_are = ap after a.registers_are;
      output_is = n.output_is;
      no_load = n.no_load;
      cycles_are = n.cycles_are ∙ omega arith;
    })

pub step_lui : (t : Table) (memory : List Block) (s : State) (pc : ℕ) (registers output : List ℕ) (cycles rd : ℕ) (imm : ℤ) → At memory s pc registers output cycles → fetched memory pc ≡ Some (word_of (lui rd imm)) → rd < 32 → FitsSigned w32 imm → cast_unsigned w32 imm % 2 ^ 12 ≡ 0 → pc + 4 < 2 ^ 32 → region_of pc ≡ Some Flash
    → At memory (step t s) (pc + 4) (with_register registers rd (cast_unsigned w32 imm)) output (cycles + (t.fetch_flash + t.alu))
step_lui t memory s pc registers output cycles rd imm a here lt in_range low fits flash =
    let i = lui rd imm in
    let after : List ℕ → List ℕ = λ r. with_register r rd (cast_unsigned w32 imm) in
    let e = performs t memory s pc registers output cycles (word_of i) i a here (decode_lui rd imm lt in_range low) in
    let n = goes_on-at t i rd (cast_unsigned w32 imm) memory s pc registers output cycles a refl refl refl fits flash in
    subst (λ x. At memory x (pc + 4) (after registers) output (cycles + (t.fetch_flash + t.alu))) (sym e) (record {
      running = n.running;
      memory_is = n.memory_is;
      pc_is = n.pc_is;
      registers_are = ap after a.registers_are;
      output_is = n.output_is;
      no_load = n.no_load;
      cycles_are = n.cycles_are ∙ omega arith;
    })

-- a call that writes a byte
pub step_print : (t : Table) (memory : List Block) (s : State) (pc : ℕ) (registers output : List ℕ) (cycles : ℕ) → At memory s pc registers output cycles → fetched memory pc ≡ Some (word_of ecall) → register_of registers 17 ≡ 2 → pc + 4 < 2 ^ 32 → region_of pc ≡ Some Flash
    → At memory (step t s) (pc + 4) (with_register registers 10 (register_of registers 10 % 2 ^ 8)) (output ++ (register_of registers 10 % 2 ^ 8) ∷ []) (cycles + (t.fetch_flash + t.ecall))
step_print t memory s pc registers output cycles a here is fits flash =
    let e = performs t memory s pc registers output cycles (word_of ecall) ecall a here decode_ecall ∙ ap (λ n. done t ecall s (calls n s)) (ap (λ r. register_of r 17) a.registers_are ∙ is) in
    let after : List ℕ → List ℕ = λ r. with_register r 10 (register_of r 10 % 2 ^ 8) in
    let n = goes_on-at t ecall 0 0 memory s pc registers output cycles a refl refl refl fits flash in
    subst (λ x. At memory x (pc + 4) (after registers) (output ++ (register_of registers 10 % 2 ^ 8) ∷ []) (cycles + (t.fetch_flash + t.ecall))) (sym e) (record {
      running = n.running;
      memory_is = n.memory_is;
      pc_is = n.pc_is;
      registers_are = ap after a.registers_are;
      output_is = ap (λ o. o ++ (register_of s.registers 10 % 2 ^ 8) ∷ []) a.output_is ∙ ap (λ r. output ++ (register_of r 10 % 2 ^ 8) ∷ []) a.registers_are;
      no_load = n.no_load;
      cycles_are = n.cycles_are ∙ omega arith;
    })

-- a call that exits
pub step_exit : (t : Table) (memory : List Block) (s : State) (pc : ℕ) (registers output : List ℕ) (cycles : ℕ) → At memory s pc registers output cycles → fetched memory pc ≡ Some (word_of ecall) → register_of registers 17 ≡ 0 → pc + 4 < 2 ^ 32 → region_of pc ≡ Some Flash
    → Over (step t s) (signed (register_of registers 10)) output (cycles + (t.fetch_flash + t.ecall))
step_exit t memory s pc registers output cycles a here is fits flash =
    let e = performs t memory s pc registers output cycles (word_of ecall) ecall a here decode_ecall ∙ ap (λ n. done t ecall s (calls n s)) (ap (λ r. register_of r 17) a.registers_are ∙ is) in
    let n = goes_on-at t ecall 0 0 memory s pc registers output cycles a refl refl refl fits flash in
    subst (λ x. Over x (signed (register_of registers 10)) output (cycles + (t.fetch_flash + t.ecall))) (sym e) (record {
      ends = ap (λ r. Exited (signed (register_of r 10))) a.registers_are;
      output_is = a.output_is;
      cycles_are = n.cycles_are ∙ omega arith;
    })

-- these words stand in the code from that place to its end
pub record Stands (code : List ℕ) (pc : ℕ) (ws : List ℕ) : Type 0 where
  pub bytes : drop pc code ≡ le_words ws

-- code in flash from 0 on
abbrev pub code_memory : List ℕ → List Block
code_memory code = record { at = 0; bytes = code; read = true; write = false; exec = true } ∷ []

pub Stands-next : (code : List ℕ) (pc w : ℕ) (ws : List ℕ) → Stands code pc (w ∷ ws) → Stands code (pc + 4) ws
Stands-next code pc w ws s = record { bytes = sym (drop-drop 4 pc code) ∙ ap (drop 4) s.bytes }

-- the number of four bytes
number_at-le_words : (w : ℕ) (ws : List ℕ) → w < 2 ^ 32 → number_at Word (le_words (w ∷ ws)) 0 ≡ w
unfolding number_at
number_at-le_words w ws fits = omega arith

number_at-drop : (code : List ℕ) (pc : ℕ) → number_at Word code pc ≡ number_at Word (drop pc code) 0
unfolding number_at
number_at-drop code pc =
    let zero_more : pc + 0 ≡ pc = omega arith in
    let first : slice_index (drop pc code) 0 ≡ slice_index code pc = get_or-drop pc code 0 0 ∙ ap (slice_index code) zero_more in
    omega (arith, first, get_or-drop pc code 1 0, get_or-drop pc code 2 0, get_or-drop pc code 3 0)

pub fetched-code : (code : List ℕ) (pc w : ℕ) (ws : List ℕ) → Stands code pc (w ∷ ws) → pc % 4 ≡ 0 → w < 2 ^ 32 → fetched (code_memory code) pc ≡ Some w
unfolding fetched
fetched-code code pc w ws s aligned fits =
    let length_is : length (drop pc code) ≡ 4 + length (le_words ws) = ap length s.bytes ∙ omega arith in
    let low : nat_le 0 pc ≡ true = grind (arith, nat_tests) in
    let high : nat_le (pc + 4) (0 + length code) ≡ true = grind (arith, nat_tests, length-drop pc code) in
    let place : pc - 0 ≡ pc = omega arith in
    let number : number_at Word code (pc - 0) ≡ w = ap (number_at Word code) place ∙ number_at-drop code pc ∙ ap (λ bytes. number_at Word bytes 0) s.bytes ∙ number_at-le_words w ws fits in
    rw (aligned, low, high, number) refl
