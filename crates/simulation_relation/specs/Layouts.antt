-- Laid programs: where the blocks of a program stand in the code of an image, and what that has to meet.
use Rattle.std.specs.Prelude.{◌≡◌, ◌⊎◌, ℕ, suc, ◌+◌, ◌^◌, ◌<◌, ◌≤◌, true, false, List, [], ◌∷◌, length, Option, Some, None, All, Contains, slice_get}
use Rattle.rv_core.specs.declared.regions.Region.{Region}
use Rattle.rv_core.specs.Images.{Image}
use Rattle.rv_core.specs.Memory.{loaded}
use Rattle.rv_core.specs.Stores.{frames_of}
use Rattle.rv_core.specs.Stores as stores
use Rattle.rv_core.specs.Instructions.{ecall}
use Rattle.rv_core.specs.Code.{instruction_in}
use Rattle.rv_core.specs.Runs.{sets_upper}
use Rattle.code_flow_system.specs.Moves.{Code}
use Rattle.asm_items.specs.declared.item.Item.{Item}
use Rattle.asm_items.specs.Offsets.{IsCodeAddress}
use Rattle.asm_items.specs.Items.{Starts, words, size}
use Rattle.asm_items.specs.Standing.{HasWords, is_exit}
use Rattle.asm_writing.specs.Forms.{IsLike}
use Rattle.low_ir.specs.Arrays.{bytes_of}
use Rattle.low_ir.specs.declared.run.Began.{Began}
use Rattle.low_ir.specs.Code.{Object}
use Rattle.low_ir.specs.Effects.{can_store}
use Rattle.low_ir.specs.Places.{Placed}
use Rattle.asm_program.specs.Frames.{Memory, frame_of, object_at}
use Rattle.asm_program.specs.Formed.{IsProgram}
use Rattle.asm_program.specs.Functions.{PlacedBlock, function_in, block_count}
use Rattle.claims_definition.specs.Lines.{Access, access_at}
use Rattle.simulation_relation.specs.Plans.{Needs, IsPlan, frame_size}
use Rattle.simulation_relation.specs.Noted.{Noted, noted_at}

-- a program, where its data lie, where its blocks begin and end, its code, which blocks begin at an address,
-- and what each function's code accesses
pub record Layout : Type 0 where
  pub program : Placed
  pub memory : Memory
  pub needs : Needs
  pub regions : ℕ → Region
  pub starts : Starts
  pub stops : Starts
  pub code : Code
  pub begins : ℕ → List Began
  pub accesses : ℕ → List Access

-- an item of function f, in one of its forms, stands from one address to another
pub record Stands (l : Layout) (f a : ℕ) (x : Noted) (to : ℕ) : Type 0 where
  pub form : Item
  pub like : IsLike x.item form
  pub address : IsCodeAddress a
  pub words : HasWords l.code a (words l.starts f a form)
  pub exit : l.code.exit a ≡ is_exit form
  pub ends : to ≡ a + size form
  pub room : to ≤ 2 ^ 30
  -- what it may touch is among its function's accesses
  pub there : f ≤ length l.program.functions
  pub listed : All (Contains (l.accesses f)) (access_at l.regions a x.touch)

-- items of function f stand in a row from one address to another
abbrev pub HasCode : Layout → ℕ → ℕ → ℕ → List Noted → Type 0
HasCode l f stop a [] = a ≡ stop
HasCode l f stop a (x ∷ xs) = (to : ℕ) × Stands l f a x to × HasCode l f stop to xs

-- some bytes that can be read and written in a block of memory, and in one of several blocks
pub record Opens (f : stores.Frame) (a n : ℕ) : Type 0 where
  pub read : f.read ≡ true
  pub write : f.write ≡ true
  pub from : f.at ≤ a
  pub to : a + n ≤ f.at + f.size

abbrev pub AreOpen : List stores.Frame → ℕ → ℕ → Type 0
AreOpen [] a n = ⊥
AreOpen (f ∷ fs) a n = Opens f a n ⊎ AreOpen fs a n

-- in the memory of an image
abbrev pub IsOpen : Image → ℕ → ℕ → Type 0
IsOpen image a n = AreOpen (frames_of (loaded image.segments)) a n

-- each function's frame, and each array that isn't constant; one without elements may have no segment
pub record IsMemoryOf (l : Layout) (image : Image) : Type 0 where
  pub frames : (f : ℕ) → f < length l.program.functions → IsOpen image (frame_of l.memory f).at (frame_size (frame_of l.memory f))
  pub objects : (o : ℕ) (x : Object) → slice_get l.program.objects o ≡ Some x → can_store x.storage ≡ true → 0 < bytes_of x → IsOpen image (object_at l.memory o) (bytes_of x)

-- which blocks begin where: blocks of the program alone, at their starts
abbrev pub started_in : ℕ → ℕ → Option PlacedBlock → List Began
started_in f b None = []
started_in f b (Some block) = record { function = f; block = b } ∷ []

abbrev pub started : Placed → ℕ → ℕ → List Began
started p f b = started_in f b (slice_get (function_in p f).blocks b)

-- the items of each block of a program stand in the code of an image
pub record IsLaid (l : Layout) (image : Image) : Type 0 where
  pub formed : IsProgram l.program
  pub plan : IsPlan l.program l.memory l.needs l.regions
  pub opens : IsMemoryOf l image
  pub fetches : (a : ℕ) → l.code.fetch a ≡ instruction_in image a
  pub blocks : (f b : ℕ) → f < suc (length l.program.functions) → b < block_count l.memory l.program f → HasCode l f (l.stops f b) (l.starts f b) (noted_at l.memory l.program f b)
  pub places : (f b : ℕ) → IsCodeAddress (l.starts f b)
  pub next : (f b : ℕ) → f < suc (length l.program.functions) → suc b < block_count l.memory l.program f → l.stops f b ≡ l.starts f (suc b)
  pub entry : image.entry ≡ l.starts (length l.program.functions) 0
  pub begins : (f b : ℕ) → f < suc (length l.program.functions) → b < block_count l.memory l.program f → l.begins (l.starts f b) ≡ started l.program f b
  pub quiet : (f b a : ℕ) → f < suc (length l.program.functions) → b < block_count l.memory l.program f → l.starts f b < a → a < l.stops f b → l.begins a ≡ []
  -- no return is resolved by an instruction before it, and only environment calls are listed as exits
  pub no_link : (a : ℕ) → sets_upper (l.code.fetch a) 1 ≡ false
  pub exits : (a : ℕ) → l.code.exit a ≡ true → l.code.fetch a ≡ Some ecall
