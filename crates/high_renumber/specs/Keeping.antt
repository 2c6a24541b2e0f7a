-- What a program whose marks and loops stand for those of another has to keep of it.
use Rattle.std.specs.Prelude.{◌≡◌, ℕ, ◌<◌, ◌≤◌, ◌^◌, List, length, map, Option, Some, None, All}
use Rattle.wcc_base.specs.Budgets.{most_depth}
use Rattle.high_ir.specs.Formed.{IsHigh, LeavesWithin, RanksFall}
use Rattle.high_ir.specs.Meaning.{Calls, Given, Labels, World}
use Rattle.high_ir.specs.Runs.{calls}
use Rattle.high_ir.specs.Size.{program_depth, program_nodes}
use Rattle.high_ir.specs.Standing.{loops_in, marks_in}
use Rattle.high_ir.specs.Tree.{Function, Program}
use Rattle.high_ir.specs.Weight.{reach, weight}
use Rattle.high_ir.specs.Whole.{IsWhole}
use Rattle.high_pass.specs.Carries.{bounds_of}
use Rattle.high_pass.specs.Law.{IsLawful, WithinBudgets, signature_of}
use Rattle.high_renumber.specs.Numbered.{copies_in, loop_origins, renumbered}

-- all that a program keeps to but the numbers of its marks and loops
pub record IsLoose (p : Program) : Type 0 where
  pub main : p.main < length p.functions
  pub functions : length p.functions ≤ p.marks
  pub marks : All (λ m. m < p.marks) (marks_in p.functions)
  pub loops : All (λ l. l < p.loops) (loop_origins p.functions)
  pub leaves : All LeavesWithin p.functions
  pub ranks : All (RanksFall p.functions) p.functions
  pub depth : program_depth p ≤ most_depth
  pub nodes : program_nodes p < 2 ^ 26

-- where a call is good, the second gives the same
abbrev pub ServesCall : Option Given → Option Given → Type 0
ServesCall None o = Unit {0}
ServesCall (Some g) o = o ≡ Some g

pub record CallsServe (c d : Calls) : Type 0 where
  pub by : (f : ℕ) (values arrays : List ℕ) (w : World) (trace : List ℕ) → ServesCall (c f values arrays w trace) (d f values arrays w trace)

-- the functions do what others do, with the same marks on the way, whatever these are called
abbrev pub FunctionsServe : (fs gs : List Function) → Type 0
FunctionsServe fs gs = (label : Labels) (n : ℕ) → CallsServe (calls label fs n) (calls label gs n)

-- a program that does what another does, where marks and loops have the numbers of those that they are copies of
pub record Keeps (old new : Program) : Type 0 where
  pub loose : IsLoose new
  pub functions : map signature_of new.functions ≡ map signature_of old.functions
  pub objects : new.objects ≡ old.objects
  pub main : new.main ≡ old.main
  pub marks : new.marks ≡ old.marks
  pub loops : new.loops ≡ old.loops
  pub serves : FunctionsServe old.functions new.functions
  pub bounds : All (λ l. bounds_of (loops_in old.functions) l.id ≡ Some l.bounds) (loops_in new.functions)
  pub budgets : WithinBudgets old → WithinBudgets new
  pub weight : weight new ≤ weight old
  pub reach : (mark : ℕ) → reach new mark ≤ reach old mark
  pub whole : IsWhole old → IsWhole new

abbrev pub KeptIsLawful : Type 0
KeptIsLawful = (old new : Program) → IsHigh old → Keeps old new → IsLawful old (renumbered new) (copies_in new)
