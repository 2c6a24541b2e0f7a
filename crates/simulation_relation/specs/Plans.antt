-- Where frames and arrays lie, and which registers a function saves: what a layout decides before it emits code.
use Rattle.std.specs.Prelude.{◌≡◌, ◌≢◌, ◌⊎◌, ℕ, ◌+◌, ◌*◌, ◌%◌, ◌^◌, ◌<◌, ◌≤◌, true, false, List, ◌++◌, length, Option, Some, Contains, slice_get}
use Rattle.std.specs.List.{flat_map}
use Rattle.std.specs.Option.{option_to_list}
use Rattle.rv_core.specs.declared.regions.Region.{Region}
use Rattle.rv_core.specs.declared.regions.Region.TheVariants.{Flash, Ram}
use Rattle.rv_core.specs.Regions.{region_start, region_size}
use Rattle.low_ir.specs.Arrays.{bytes_of}
use Rattle.low_ir.specs.declared.places.Place.{Place}
use Rattle.low_ir.specs.declared.object.Storage.TheVariants.{Constant as Fixed'}
use Rattle.low_ir.specs.Code.{Operand, Instr, Do, Call, Object}
use Rattle.low_ir.specs.Places.{Placed, machine_registers}
use Rattle.low_ir.specs.Effects.{dest, is_member}
use Rattle.asm_program.specs.Frames.{Frame, Memory, frame_of, object_at}
use Rattle.asm_program.specs.Emission.{registers_among, kept_among}
use Rattle.asm_program.specs.Functions.{PlacedBlock, PlacedFunction, function_in}

abbrev pub parameters_of : Placed → ℕ → List Place
parameters_of p f = (function_in p f).parameters

-- the machine registers that an instruction writes, those in which it passes arguments among them
abbrev pub writes_of : Placed → Instr Place (List ℕ) → List ℕ
writes_of p (Do i) = registers_among (option_to_list (dest i))
writes_of p (Call d callee args note) = registers_among (option_to_list d ++ parameters_of p callee)

abbrev pub block_writes : Placed → List (Instr Place (List ℕ)) → List ℕ
block_writes p is = flat_map (writes_of p) is

abbrev pub function_writes : Placed → PlacedFunction → List ℕ
function_writes p fn = flat_map (λ (b : PlacedBlock). block_writes p b.code) fn.blocks

-- the registers that those who wait for a function need to have back, by function
abbrev pub Needs : Type 0
Needs = ℕ → List ℕ

-- function f saves what it writes and others need, and nothing else
pub record Saves (p : Placed) (m : Memory) (needs : Needs) (f : ℕ) : Type 0 where
  pub writes : (q : ℕ) → Contains (function_writes p (function_in p f)) q → is_member (needs f) q ≡ true → is_member (frame_of m f).saved q ≡ true
  pub needed : (q : ℕ) → is_member (frame_of m f).saved q ≡ true → is_member (needs f) q ≡ true

-- a call of function g by function f
pub record SavesAt (p : Placed) (m : Memory) (needs : Needs) (f g : ℕ) (note : List ℕ) : Type 0 where
  -- what the call keeps can be kept
  pub lasting : (q : ℕ) → is_member note q ≡ true → q < machine_registers
  -- and is needed of the callee, or is that of a parameter, and has a home
  pub kept : (q : ℕ) → is_member note q ≡ true → is_member (registers_among (parameters_of p g)) q ≡ false → is_member (needs g) q ≡ true
  pub homes : (q : ℕ) → is_member (kept_among (parameters_of p g) note) q ≡ true → is_member (frame_of m f).homes q ≡ true
  -- what others need of the caller, and it doesn't save, is needed of the callee
  pub passed : (q : ℕ) → is_member (needs f) q ≡ true → is_member (frame_of m f).saved q ≡ false → is_member (needs g) q ≡ true
  pub arguments : (q : ℕ) → is_member (registers_among (parameters_of p g)) q ≡ true → is_member (frame_of m g).homes q ≡ true

-- some bytes that lie in a region
pub record LiesIn (r : Region) (at size : ℕ) : Type 0 where
  pub from : region_start r ≤ at
  pub to : at + size ≤ region_start r + region_size r

abbrev pub AreApart : ℕ → ℕ → ℕ → ℕ → Type 0
AreApart a n b k = (a + n ≤ b) ⊎ (b + k ≤ a)

abbrev pub frame_size : Frame → ℕ
frame_size fr = 4 * (1 + length fr.saved + length fr.homes + fr.slots)

pub record IsFramePlaced (fr : Frame) : Type 0 where
  pub aligned : fr.at % 4 ≡ 0
  pub in_ram : LiesIn Ram fr.at (frame_size fr)
  pub saved : (q : ℕ) → is_member fr.saved q ≡ true → q < machine_registers

-- a plan for a program; regions says in which region each array lies
pub record IsPlan (p : Placed) (m : Memory) (needs : Needs) (regions : ℕ → Region) : Type 0 where
  pub frames : (f : ℕ) → f < length p.functions → IsFramePlaced (frame_of m f)
  pub slots : (f : ℕ) → f < length p.functions → (function_in p f).size ≤ (frame_of m f).slots
  pub frames_apart : (f g : ℕ) → f ≢ g → f < length p.functions → g < length p.functions → AreApart (frame_of m f).at (frame_size (frame_of m f)) (frame_of m g).at (frame_size (frame_of m g))
  -- what others need can be kept over calls
  pub lasting : (f q : ℕ) → f < length p.functions → is_member (needs f) q ≡ true → q < machine_registers
  pub saves : (f : ℕ) → f < length p.functions → Saves p m needs f
  pub calls : (f g : ℕ) (b : PlacedBlock) (d : Option Place) (args : List (Operand Place)) (note : List ℕ) → f < length p.functions → Contains (function_in p f).blocks b → Contains b.code (Call d g args note) → SavesAt p m needs f g note
  pub objects : (o : ℕ) (x : Object) → slice_get p.objects o ≡ Some x → LiesIn (regions o) (object_at m o) (bytes_of x)
  pub aligned : (o : ℕ) (x : Object) → slice_get p.objects o ≡ Some x → object_at m o % 4 ≡ 0
  pub objects_apart : (o n : ℕ) (x y : Object) → o ≢ n → slice_get p.objects o ≡ Some x → slice_get p.objects n ≡ Some y → AreApart (object_at m o) (bytes_of x) (object_at m n) (bytes_of y)
  pub beside_frames : (o f : ℕ) (x : Object) → slice_get p.objects o ≡ Some x → f < length p.functions → AreApart (object_at m o) (bytes_of x) (frame_of m f).at (frame_size (frame_of m f))
  -- the second base is a word
  pub second : m.second < 2 ^ 32
  -- only constants lie where nothing can be stored
  pub stored : (o : ℕ) (x : Object) → slice_get p.objects o ≡ Some x → regions o ≡ Flash → x.storage ≡ Fixed'
