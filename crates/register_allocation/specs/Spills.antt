-- Where registers have slots.
use Rattle.std.specs.Prelude.{◌≡◌, ℕ, ◌<◌, ◌≤◌, List, [], ◌∷◌, length, Some, slice_get, slice_index_or}
use Rattle.low_ir.specs.declared.places.Place.TheVariants.{Slot}
use Rattle.low_ir.specs.Code.{Function, Low, Note}
use Rattle.low_ir.specs.Live.{Has, InInterval}
use Rattle.low_ir.specs.Places.{Placing, machine_registers, no_placing, place_in}

abbrev pub AreDistinct : List ℕ → Type 0
AreDistinct [] = Unit {0}
AreDistinct (v ∷ vs) = (Has v vs → ⊥) × AreDistinct vs

-- the place p is covered by the intervals of more registers than there are machine registers
pub record IsCrowded (fn : Function ℕ Note) (p : ℕ) : Type 0 where
  pub registers : List ℕ
  pub many : machine_registers < length registers
  pub distinct : AreDistinct registers
  pub cover : (v : ℕ) → Has v registers → (v < fn.size) × InInterval fn p v

-- a register has a slot only where a place of its own interval is so
abbrev pub SpillsWhereCrowded : Function ℕ Note → Placing → Type 0
SpillsWhereCrowded fn pl = (v k : ℕ) → v < fn.size → place_in pl v ≡ Slot k → (p : ℕ) × InInterval fn p v × IsCrowded fn p

abbrev pub SpillWhereCrowded : Low → List Placing → Type 0
SpillWhereCrowded q pls = (f : ℕ) (fn : Function ℕ Note) → slice_get q.functions f ≡ Some fn → SpillsWhereCrowded fn (slice_index_or pls f no_placing)

-- no function has more slots than registers
abbrev pub HaveFewSlots : Low → List Placing → Type 0
HaveFewSlots q pls = (f : ℕ) (fn : Function ℕ Note) → slice_get q.functions f ≡ Some fn → (slice_index_or pls f no_placing).slots ≤ fn.size
