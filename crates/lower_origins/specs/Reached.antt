-- Which functions of a program calls reach from main.
use Rattle.std.specs.Prelude.{◌≡◌, ℕ, true, Some, slice_get}
use Rattle.high_ir.specs.Formed.{IsHigh}
use Rattle.high_ir.specs.Standing.{callees_of}
use Rattle.high_ir.specs.Tree.{Function, Program}
use Rattle.low_ir.specs.Effects.{is_member}
use Rattle.lower_definition.specs.Calls.{order}

-- main is reached, and so is what a function calls that is reached
pub data IsReached (p : Program) : ℕ → Type 0 where
  Main : (g : ℕ) (is : g ≡ p.main) → IsReached p g
  Called : (f g : ℕ) (h : Function) (there : slice_get p.functions f ≡ Some h) (calls : is_member (callees_of h.body) g ≡ true) (caller : IsReached p f) → IsReached p g

pub record ListsReached (p : Program) : Type 0 where
  pub reached : (f : ℕ) → is_member (order p) f ≡ true → IsReached p f
  pub listed : (f : ℕ) → IsReached p f → is_member (order p) f ≡ true

abbrev pub OrderIsReached : Type 0
OrderIsReached = (p : Program) → IsHigh p → ListsReached p
