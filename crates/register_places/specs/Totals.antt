-- How often a loop's header and its jump back run in all.
use Rattle.std.specs.Prelude.{◌≡◌, ℕ, ◌+◌, ◌-◌, ◌*◌, ◌≤◌, Bool, true, false, List, [], ◌∷◌, Some, All, slice_get}
use Rattle.low_ir.specs.declared.run.Began.{Began}
use Rattle.low_ir.specs.Code.{Loop, Function, Low, Note}
use Rattle.low_ir.specs.Effects.{World}
use Rattle.low_ir.specs.Runs.{lrun}
use Rattle.low_ir.specs.Turns.{IsGood, is_at}

abbrev pub once : Bool → ℕ
once true = 1
once false = 0

-- how often block b of function f began
abbrev pub began_count : ℕ → ℕ → List Began → ℕ
began_count f b [] = 0
began_count f b (e ∷ es) = once (is_at e f b) + began_count f b es

-- the starts of all entries together: each entry is one start that comes not from the latch
pub record KeepsTotals (f : ℕ) (trace : List Began) (l : Loop) : Type 0 where
  pub backs : began_count f l.latch trace ≤ began_count f l.header trace
  pub least : l.least * (began_count f l.header trace - began_count f l.latch trace) ≤ began_count f l.header trace
  pub most : began_count f l.header trace ≤ l.most * (began_count f l.header trace - began_count f l.latch trace)

-- of each loop in each good run
abbrev pub TotalsKept : Low → Type 0
TotalsKept p =
    (input : List ℕ) (n v : ℕ) (u : World) → IsGood p (lrun p input n) v u
    → (f : ℕ) (fn : Function ℕ Note) → slice_get p.functions f ≡ Some fn → All (KeepsTotals f u.trace) fn.loops
