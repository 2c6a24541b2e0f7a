-- Each loose worth is the total of a loose flow, so that a bound of these is a bound of all loose worths.
use Rattle.std.specs.Prelude.{ℤ, pos, ◌≤ℤ◌, List, length, All}
use Rattle.code_flow_system.specs.declared.moves.Move.{Move}
use Rattle.code_flow_system.specs.declared.shapes.LoopShape.{LoopShape}
use Rattle.code_flow_system.specs.declared.shapes.Span.{Span}
use Rattle.code_flow_system.specs.Systems.{System}
use Rattle.code_flow_system.specs.Counts.{Amounts, total}
use Rattle.code_flow_system.specs.Loose.{IsLoose}
use Rattle.path_ranges.specs.LooseDriver.{no_worths, AreLooseBelow}

-- no loose flow of one unit has a total above a bound
abbrev pub LooseTotalsBelow : System → (Move → ℤ) → ℤ → Type 0
LooseTotalsBelow s price bound = (x : Amounts) → IsLoose s 1 x → total price x s.moves ≤ℤ bound

-- at any prices that aren't negative
abbrev pub LooseWorthsAreTotals : System → List LoopShape → List Span → Type 0
LooseWorthsAreTotals s ls ps = (price : Move → ℤ) (bound : ℤ) → All (λ m. pos 0 ≤ℤ price m) s.moves → pos 0 ≤ℤ bound → LooseTotalsBelow s price bound → AreLooseBelow s ls price bound (no_worths (length s.moves)) ps
