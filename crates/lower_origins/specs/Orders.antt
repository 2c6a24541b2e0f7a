-- In the order of the low program each function stands behind those that it calls.
use Rattle.std.specs.Prelude.{◌≡◌, ℕ, ◌<◌, true, List, [], ◌∷◌, ◌++◌, Some, slice_get}
use Rattle.high_ir.specs.Formed.{IsHigh}
use Rattle.high_ir.specs.Standing.{callees_of}
use Rattle.high_ir.specs.Tree.{Function, Program}
use Rattle.low_ir.specs.Effects.{is_member}
use Rattle.lower_definition.specs.Calls.{order, place_in}

-- all of these are among those
abbrev pub AreAmong : List ℕ → List ℕ → Type 0
AreAmong seen [] = Unit {0}
AreAmong seen (g ∷ gs) = (is_member seen g ≡ true) × AreAmong seen gs

-- a function of the program, all of whose callees were seen
pub record IsBehind (fs : List Function) (seen : List ℕ) (f : ℕ) : Type 0 where
  pub function : Function
  pub there : slice_get fs f ≡ Some function
  pub callees : AreAmong seen (callees_of function.body)

-- each function is behind those that it calls, where these were seen before
abbrev pub IsClosed : List Function → (seen : List ℕ) → List ℕ → Type 0
IsClosed fs seen [] = Unit {0}
IsClosed fs seen (g ∷ gs) = IsBehind fs seen g × IsClosed fs (seen ++ g ∷ []) gs

-- of a function that is in the order: it is in the program, its place has its number, and its callees have lower places
pub record HasPlace (p : Program) (f : ℕ) : Type 0 where
  pub function : Function
  pub there : slice_get p.functions f ≡ Some function
  pub number : slice_get (order p) (place_in (order p) f) ≡ Some f
  pub called : (g : ℕ) → is_member (callees_of function.body) g ≡ true → (is_member (order p) g ≡ true) × (place_in (order p) g < place_in (order p) f)

pub record IsOrdered (p : Program) : Type 0 where
  pub main : is_member (order p) p.main ≡ true
  pub places : (f : ℕ) → is_member (order p) f ≡ true → HasPlace p f

abbrev pub OrderIsClosed : Type 0
OrderIsClosed = (p : Program) → IsHigh p → IsOrdered p
