-- What a machine shows of a run over places: the values of an activation in registers and in its frame, and the arrays.
use Rattle.std.specs.Prelude.{◌≡◌, ℕ, suc, ◌+◌, ◌*◌, ◌%◌, ◌^◌, ◌<◌, ◌≤◌, List, length, Option, Some, None, slice_get, slice_index_or}
use Rattle.rv_core.specs.declared.row.Width.{Width}
use Rattle.rv_core.specs.declared.row.Width.TheVariants.{Word as Whole}
use Rattle.rv_core.specs.Memory.{read_from}
use Rattle.rv_core.specs.Machine.{State, register_of}
use Rattle.low_ir.specs.declared.places.Place.{Place}
use Rattle.low_ir.specs.declared.places.Place.TheVariants.{Register as InRegister, Slot}
use Rattle.low_ir.specs.declared.run.Value.{Value}
use Rattle.low_ir.specs.declared.run.Value.TheVariants.{Word, Pointer}
use Rattle.low_ir.specs.Kinds.{width_of, kind_bytes, converted}
use Rattle.low_ir.specs.Code.{Object}
use Rattle.low_ir.specs.Effects.{Contents}
use Rattle.low_ir.specs.Places.{File, read_place, result_register}
use Rattle.asm_program.specs.Numbers.{machine_register}
use Rattle.asm_program.specs.Frames.{Frame, Memory, slot_at, object_at}

-- what code can see of a machine: its registers, and the numbers in its memory
pub record View : Type 0 where
  pub register : ℕ → ℕ
  pub read : Width → ℕ → Option ℕ

abbrev pub view_of : State → View
view_of s = record { register = register_of s.registers; read = λ w a. read_from (λ b. b.read) w s.world.memory a }

-- the word at an address
abbrev pub HasWord : View → ℕ → ℕ → Type 0
HasWord v a w = v.read Whole a ≡ Some w

-- a value as a word
abbrev pub code_of : Memory → Value → ℕ
code_of m (Word w) = w
code_of m (Pointer o n) = (object_at m o + n) % 2 ^ 32

-- a word in its place
abbrev pub IsLocated : Frame → View → Place → ℕ → Type 0
IsLocated fr v (InRegister q) w = v.register (machine_register q) ≡ w
IsLocated fr v (Slot k) w = HasWord v (slot_at fr k) w

-- an activation has so many places, and what it has in them are words
pub record HasRoom (m : Memory) (fr : Frame) (file : File) : Type 0 where
  pub registers : length file.registers ≡ suc result_register
  pub slots : length file.slots ≤ fr.slots
  pub words : (p : Place) (x : Value) → read_place file p ≡ Some x → code_of m x < 2 ^ 32

-- its values stand in their places
abbrev pub Shows : Memory → Frame → File → View → Type 0
Shows m fr file v = (p : Place) (x : Value) → read_place file p ≡ Some x → IsLocated fr v p (code_of m x)

-- the elements of an array that were written stand in memory, as their kind keeps them
abbrev pub HasElements : ℕ → Contents → View → Type 0
HasElements a c v = (i w : ℕ) → slice_index_or c.elements i None ≡ Some w → (v.read (width_of c.kind) (a + kind_bytes c.kind * i) ≡ Some (w % 2 ^ (8 * kind_bytes c.kind))) × (converted c.kind w ≡ w)

-- an array of a program as a run goes on
pub record IsArray (m : Memory) (o : ℕ) (x : Object) (c : Contents) (v : View) : Type 0 where
  pub kind : c.kind ≡ x.kind
  pub storage : c.storage ≡ x.storage
  pub size : length c.elements ≡ x.size
  pub elements : HasElements (object_at m o) c v

abbrev pub HasArrays : Memory → List Object → List Contents → View → Type 0
HasArrays m objects cs v = (o : ℕ) (c : Contents) → slice_get cs o ≡ Some c → (x : Object) × (slice_get objects o ≡ Some x) × IsArray m o x c v
