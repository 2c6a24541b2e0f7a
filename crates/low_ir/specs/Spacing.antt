-- What an assignment of places has to meet, and what it then keeps.
use Rattle.std.specs.Prelude.{◌≡◌, ◌≢◌, ℕ, ◌<◌, ◌≤◌, Bool, true, nat_le, nat_lt, List, ◌∷◌, Option, Some, slice_get}
use Rattle.low_ir.specs.declared.places.Place.{Place}
use Rattle.low_ir.specs.declared.places.Place.TheVariants.{Register as InRegister, Slot}
use Rattle.low_ir.specs.Code.{Plain, Instr, Do, Call, Operand, End, Function, Note, Low}
use Rattle.low_ir.specs.Effects.{World, dest, is_member, is_served}
use Rattle.low_ir.specs.Formed.{written_by}
use Rattle.low_ir.specs.Runs.{lrun}
use Rattle.low_ir.specs.Turns.{IsGood}
use Rattle.low_ir.specs.Live.{Has, Live, Spot, IsPlace, InInterval, Together, CallAt, ServedAt}
use Rattle.low_ir.specs.Places.{Assignment, is_lasting, placed, prun, result_register}

abbrev pub is_inside : ℕ → Place → Bool
is_inside slots (InRegister q) = nat_le q result_register
is_inside slots (Slot k) = nat_lt k slots

-- registers that live together have different places, each in its range; a call keeps each machine register in whose register's
-- interval it stands, but for that of its value; and the result register is the place of no parameter and of no register in whose
-- interval the environment performs an instruction, but for that of its value
pub record Fits (a : Assignment) (f : ℕ) (fn : Function ℕ Note) : Type 0 where
  pub apart : (v w : ℕ) → v < fn.size → w < fn.size → v ≢ w → Together fn v w → a.place f v ≢ a.place f w
  pub kept : (p v q : ℕ) (d : Option ℕ) → v < fn.size → CallAt fn p d → d ≢ Some v → InInterval fn p v → a.place f v ≡ InRegister q → is_member (a.kept f p) q ≡ true
  pub served : (p v : ℕ) (d : Option ℕ) → v < fn.size → ServedAt fn p d → d ≢ Some v → InInterval fn p v → is_lasting (a.place f v) ≡ true
  pub passed : (v : ℕ) → v < fn.size → Has v fn.parameters → is_lasting (a.place f v) ≡ true
  pub inside : (v : ℕ) → v < fn.size → is_inside (a.slots f) (a.place f v) ≡ true

abbrev pub IsAssignment : Assignment → Low → Type 0
IsAssignment a p = (f : ℕ) (fn : Function ℕ Note) → slice_get p.functions f ≡ Some fn → Fits a f fn

-- numbers between which each place of a register lies
abbrev pub Covers : (ℕ → ℕ → ℕ) → (ℕ → ℕ → ℕ) → Low → Type 0
Covers lo hi p = (f : ℕ) (fn : Function ℕ Note) (at v : ℕ) → slice_get p.functions f ≡ Some fn → IsPlace fn at v → (lo f v ≤ at) × (at ≤ hi f v)

-- what an assignment meets that is made from such numbers
pub record Spaced (lo hi : ℕ → ℕ → ℕ) (a : Assignment) (f : ℕ) (fn : Function ℕ Note) : Type 0 where
  pub apart : (v w : ℕ) → v < fn.size → w < fn.size → v ≢ w → lo f v ≤ hi f w → lo f w ≤ hi f v → a.place f v ≢ a.place f w
  pub kept : (p v q : ℕ) (d : Option ℕ) → v < fn.size → CallAt fn p d → d ≢ Some v → lo f v ≤ p → p ≤ hi f v → a.place f v ≡ InRegister q → is_member (a.kept f p) q ≡ true
  pub served : (p v : ℕ) (d : Option ℕ) → v < fn.size → ServedAt fn p d → d ≢ Some v → lo f v ≤ p → p ≤ hi f v → is_lasting (a.place f v) ≡ true
  pub passed : (v : ℕ) → v < fn.size → Has v fn.parameters → is_lasting (a.place f v) ≡ true
  pub inside : (v : ℕ) → v < fn.size → is_inside (a.slots f) (a.place f v) ≡ true

abbrev pub IsSpaced : (ℕ → ℕ → ℕ) → (ℕ → ℕ → ℕ) → Assignment → Low → Type 0
IsSpaced lo hi a p = (f : ℕ) (fn : Function ℕ Note) → slice_get p.functions f ≡ Some fn → Spaced lo hi a f fn

-- what a run wants of an assignment, by single instructions: what is written is no place of another register that is live behind it,
-- a call keeps what is live behind it, nothing is in the result register that is live behind what the environment performs, but for
-- its value, and parameters have different places
pub record Safe (a : Assignment) (f : ℕ) (fn : Function ℕ Note) : Type 0 where
  pub apart : (p d v : ℕ) (i : Instr ℕ Note) (is : List (Instr ℕ Note)) (end : End ℕ) → v < fn.size → d < fn.size → Spot fn.blocks p (i ∷ is) end → written_by i ≡ Some d → Live fn.blocks is end v → v ≢ d → a.place f v ≢ a.place f d
  pub kept : (p v q g : ℕ) (d : Option ℕ) (args : List (Operand ℕ)) (note : Note) (is : List (Instr ℕ Note)) (end : End ℕ) → v < fn.size → Spot fn.blocks p (Call d g args note ∷ is) end → Live fn.blocks is end v → d ≢ Some v → a.place f v ≡ InRegister q → is_member (a.kept f p) q ≡ true
  pub served : (p v : ℕ) (i : Plain ℕ) (is : List (Instr ℕ Note)) (end : End ℕ) → v < fn.size → Spot fn.blocks p (Do i ∷ is) end → is_served i ≡ true → Live fn.blocks is end v → dest i ≢ Some v → is_lasting (a.place f v) ≡ true
  pub parameters : (v w : ℕ) → v < fn.size → w < fn.size → Has v fn.parameters → Has w fn.parameters → v ≢ w → a.place f v ≢ a.place f w
  pub inside : (v : ℕ) → v < fn.size → is_inside (a.slots f) (a.place f v) ≡ true

abbrev pub IsSafe : Assignment → Low → Type 0
IsSafe a p = (f : ℕ) (fn : Function ℕ Note) → slice_get p.functions f ≡ Some fn → Safe a f fn

-- each good run over virtual registers is a good run over places with the same value and the same world: arrays, input that is left,
-- output and trace
abbrev pub Carries : Assignment → Low → Type 0
Carries a p = (input : List ℕ) (n v : ℕ) (u : World) → IsGood p (lrun p input n) v u → IsGood (placed a p) (prun (placed a p) input n) v u
