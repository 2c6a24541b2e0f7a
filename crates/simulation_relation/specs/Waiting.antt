-- The activations that wait: what a call leaves for its caller, and where it returns.
use Rattle.std.specs.Prelude.{◌≡◌, ℕ, ◌^◌, ◌<◌, ◌≤◌, ◌++◌, pos, Bool, true, false, List, [], ◌∷◌, length, Some, slice_get, slice_index, Contains}
use Rattle.rv_core.specs.Instructions.{addi}
use Rattle.asm_items.specs.declared.item.Item.TheVariants as items
use Rattle.low_ir.specs.declared.places.Place.{Place}
use Rattle.low_ir.specs.declared.places.Place.TheVariants.{Register as InRegister, Slot}
use Rattle.low_ir.specs.declared.run.Value.{Value}
use Rattle.low_ir.specs.Code.{Operand, Instr, Call, End}
use Rattle.low_ir.specs.Effects.{is_member}
use Rattle.low_ir.specs.Runs.{Waiting}
use Rattle.low_ir.specs.Places.{File, Placed, read_place, result_register}
use Rattle.asm_program.specs.Numbers.{link, service, machine_register}
use Rattle.asm_program.specs.Frames.{Frame, frame_of, slot_at, saved_at, home_at, return_at}
use Rattle.asm_program.specs.Emission.{registers_among, behind_call}
use Rattle.asm_program.specs.Functions.{PlacedBlock, function_in}
use Rattle.simulation_relation.specs.Plans.{parameters_of}
use Rattle.simulation_relation.specs.Noted.{noted, single, singles, noted_body}
use Rattle.simulation_relation.specs.Layouts.{Layout}
use Rattle.simulation_relation.specs.Positions.{Rest}
use Rattle.simulation_relation.specs.Views.{View, HasWord, code_of, HasRoom}

-- an activation of function f is in block b, with these instructions left of it
pub record IsIn (p : Placed) (f b : ℕ) (left : List (Instr Place (List ℕ))) (end : End Place) : Type 0 where
  pub there : f < length p.functions
  pub block : PlacedBlock
  pub has : slice_get (function_in p f).blocks b ≡ Some block
  pub before : List (Instr Place (List ℕ))
  pub code : before ++ left ≡ block.code
  pub ends : block.end ≡ end

-- what the registers that others need will hold, as far as they hold words, once an activation of function f has returned: the saved
-- word, or what they hold now
pub record Returns (l : Layout) (f : ℕ) (now : ℕ → ℕ) (v : View) (after : ℕ → ℕ) : Type 0 where
  pub saved : (q : ℕ) → is_member (frame_of l.memory f).saved q ≡ true → after q < 2 ^ 32 → HasWord v (saved_at (frame_of l.memory f) q) (after q)
  pub other : (q : ℕ) → is_member (l.needs f) q ≡ true → is_member (frame_of l.memory f).saved q ≡ false → after q < 2 ^ 32 → now q ≡ after q

abbrev pub PlacedWaiting : Type 0
PlacedWaiting = Waiting Place (List ℕ) File

-- an activation that waits for one of function g, behind which its registers are as `after` says: its values are in their slots, in
-- the registers, or, where those are for g's arguments, in its frame; and its code goes on at an address
pub record Rests (l : Layout) (w : PlacedWaiting) (g : ℕ) (v : View) (after : ℕ → ℕ) (at : ℕ) : Type 0 where
  pub called : g < w.frame.func
  pub room : HasRoom l.memory (frame_of l.memory w.frame.func) w.frame.store
  pub slots : (k : ℕ) (x : Value) → read_place w.frame.store (Slot k) ≡ Some x → HasWord v (slot_at (frame_of l.memory w.frame.func) k) (code_of l.memory x)
  pub registers : (q : ℕ) (x : Value) → read_place w.frame.store (InRegister q) ≡ Some x → is_member (registers_among (parameters_of l.program g)) q ≡ false → (is_member (l.needs g) q ≡ true) × (after q ≡ code_of l.memory x)
  pub parameters : (q : ℕ) → is_member (registers_among (parameters_of l.program g)) q ≡ true → q ≤ result_register
  pub args : List (Operand Place)
  pub note : List ℕ
  pub homes : (q : ℕ) (x : Value) → read_place w.frame.store (InRegister q) ≡ Some x → is_member (registers_among (parameters_of l.program g)) q ≡ true → (is_member note q ≡ true) × (is_member (frame_of l.memory w.frame.func).homes q ≡ true) × HasWord v (home_at (frame_of l.memory w.frame.func) q) (code_of l.memory x)
  pub block : ℕ
  pub inside : IsIn l.program w.frame.func block w.frame.code w.frame.end
  pub call : Contains inside.block.code (Call w.into g args note)
  pub rest : Rest l w.frame.func (l.stops w.frame.func block) at
      (singles (behind_call (frame_of l.memory w.frame.func) w.into (parameters_of l.program g) note) ++ noted_body l.memory l.program w.frame.func block w.frame.code w.frame.end)

-- behind its call the start code ends the run
abbrev pub IsHome : Layout → ℕ → Type 0
IsHome l at = let start = length l.program.functions in Rest l start (l.stops start 0) at (single (addi service 0 (pos 0)) ∷ noted items.Exit ∷ [])

-- the activations below one of function g, behind which registers are as `after` says: each goes on where its call returns, the last
-- of them returns to the start code
abbrev pub AreWaiting : Layout → List PlacedWaiting → ℕ → View → (ℕ → ℕ) → List ℕ → Type 0
AreWaiting l ws g v after [] = ⊥
AreWaiting l [] g v after (at ∷ ats) = IsHome l at × (ats ≡ [])
AreWaiting l (w ∷ ws) g v after (at ∷ ats) =
    Rests l w g v after at
    × ((later : ℕ → ℕ) × Returns l w.frame.func after v later × HasWord v (return_at (frame_of l.memory w.frame.func)) (slice_index ats 0) × AreWaiting l ws w.frame.func v later ats)

-- a leaf function has its return address in x1, and another one in its frame
abbrev pub IsLinked : Bool → Frame → View → ℕ → Type 0
IsLinked true fr v at = v.register link ≡ at
IsLinked false fr v at = HasWord v (return_at fr) at

abbrev pub register_in : View → ℕ → ℕ
register_in v q = v.register (machine_register q)
