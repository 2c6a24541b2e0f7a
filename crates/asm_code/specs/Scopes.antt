-- A function of a program, and what its code takes from elsewhere.
use Rattle.std.specs.Prelude.{◌≡◌, ℕ, List, length, slice_index_or}
use Rattle.low_ir.specs.declared.places.Place.{Place}
use Rattle.low_ir.specs.Code.{Instr, End, Block, Note}
use Rattle.low_ir.specs.Places.{Placed, no_placing, machine_registers, registers_of, place_instr, place_code, place_end, place_block, place_blocks}
use Rattle.low_ir.specs.Placings.{placings_of, placed_of}
use Rattle.asm_program.specs.Frames.{Memory, frame_of}
use Rattle.asm_program.specs.Functions.{PlacedBlock, function_in, is_leaf, at_once}
use Rattle.asm_emission.specs.View.{place_at}
use Rattle.low_ir.specs.declared.places.LowReg.{LowReg}
use Rattle.asm_code.specs.declared.scope.Scope.{Scope}

-- the registers that the call at a place of the code keeps, by the list of masks of its function
abbrev pub kept_at : List ℕ → ℕ → List ℕ
kept_at masks p = registers_of machine_registers (slice_index_or masks p 0)

module _ (s : Scope) where
  abbrev pub program : Placed
  program = placed_of s.code.now

  abbrev pub memory : Memory
  memory = s.memory.now

  -- its instructions over places
  abbrev pub placed_instr : ℕ → Instr ℕ Note → Instr Place (List ℕ)
  placed_instr = place_instr (place_at s.places.now) (kept_at s.kept.now)

  abbrev pub placed_code : ℕ → List (Instr ℕ Note) → List (Instr Place (List ℕ))
  placed_code = place_code (place_at s.places.now) (kept_at s.kept.now)

  abbrev pub placed_end : End ℕ → End Place
  placed_end = place_end (place_at s.places.now)

  abbrev pub placed_block : ℕ → Block ℕ Note → PlacedBlock
  placed_block = place_block (place_at s.places.now) (kept_at s.kept.now)

  abbrev pub placed_blocks : ℕ → List (Block ℕ Note) → List PlacedBlock
  placed_blocks = place_blocks (place_at s.places.now) (kept_at s.kept.now)

  -- what is said of the function is so
  pub record IsScope : Type 0 where
    pub frame : s.frame.now ≡ frame_of memory s.number
    pub leaf : s.leaf ≡ is_leaf (function_in program s.number)
    pub at_once : s.at_once ≡ at_once memory program s.number
    pub blocks : s.blocks ≡ length (function_in program s.number).blocks

-- the scope of function f, over the places that the code gives to its registers
pub record IsScopeOf (code : LowReg) (m : Memory) (f : ℕ) (s : Scope) : Type 0 where
  pub program_is : s.code.now ≡ code
  pub memory_is : s.memory.now ≡ m
  pub number_is : s.number ≡ f
  pub places_is : s.places.now ≡ (slice_index_or (placings_of code) f no_placing).places
  pub kept_is : s.kept.now ≡ (slice_index_or (placings_of code) f no_placing).kept
  pub scope : IsScope s
