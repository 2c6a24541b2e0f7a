-- Assignments of places for the example, and what a run ends with.
use Rattle.std.specs.Prelude.{ℕ, zero, suc, List, Option, Some, None}
use Rattle.low_ir.specs.declared.places.Place.{Place}
use Rattle.low_ir.specs.declared.places.Place.TheVariants.{Register as InRegister}
use Rattle.low_ir.specs.Places.{Assignment}
use Rattle.low_ir.specs.Runs.{Run, Going, Done, Bad}

-- in the first function two registers share a place
abbrev place_of : ℕ → ℕ → Place
place_of zero v = InRegister 1
place_of (suc f) v = InRegister v

-- the calls keep these registers
abbrev pub in_registers : List ℕ → Assignment
in_registers kept = record { place = place_of; kept = λ f p. kept; slots = λ f. 0 }

-- the same, but the two registers that are live together share a place
abbrev one_register : ℕ → ℕ → Place
one_register f v = InRegister 1

abbrev pub sharing : List ℕ → Assignment
sharing kept = record { place = one_register; kept = λ f p. kept; slots = λ f. 0 }

-- the value of a run that has ended
abbrev pub value : {R K S : Type 0} → Run R K S → Option ℕ
value (Going r) = None
value (Done v u) = Some v
value Bad = None
