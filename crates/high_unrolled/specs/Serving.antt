-- When one run serves for another: wherever the first is good, the second is the same.
use Rattle.std.specs.Prelude.{◌≡◌, ℕ, List, Option, Some, None}
use Rattle.high_ir.specs.Meaning.{World, State, Outcome, Goes, Leaves, Returns, Bad, Given, Calls, Labels, run}
use Rattle.high_ir.specs.Runs.{enter}
use Rattle.high_ir.specs.Tree.{Statement, Function}

-- a good outcome is the same in the second
abbrev pub Serves : Outcome → Outcome → Type 0
Serves Bad o = Unit {0}
Serves (Goes st) o = o ≡ Goes st
Serves (Leaves d st) o = o ≡ Leaves d st
Serves (Returns v w t) o = o ≡ Returns v w t

abbrev pub ServesCall : Option Given → Option Given → Type 0
ServesCall None o = Unit {0}
ServesCall (Some g) o = o ≡ Some g

-- each good call is the same in the second
pub record CallsServe (c d : Calls) : Type 0 where
  pub by : (f : ℕ) (values arrays : List ℕ) (w : World) (trace : List ℕ) → ServesCall (c f values arrays w trace) (d f values arrays w trace)

-- a label, where there is one, is the same in the second
abbrev pub ServesLabel : Option ℕ → Option ℕ → Type 0
ServesLabel None o = Unit {0}
ServesLabel (Some x) o = o ≡ Some x

-- a statement under other labels serves for a statement whose marks are their own labels
pub record Stands (m : Labels) (s t : Statement) : Type 0 where
  pub by : (c d : Calls) → CallsServe c d → (passed : List ℕ) (st : State) → Serves (run Some c passed s st) (run m d passed t st)

-- the same of a function and its number
pub record FunctionStands (m : Labels) (f : ℕ) (o p : Option Function) : Type 0 where
  pub by : (c d : Calls) → CallsServe c d → (values arrays : List ℕ) (w : World) (trace : List ℕ) → ServesCall (enter Some o c f values arrays w trace) (enter m p d f values arrays w trace)
