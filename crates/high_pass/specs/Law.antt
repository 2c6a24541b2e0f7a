-- The law of a pass from one program to another.
use Rattle.std.specs.Prelude.{◌≡◌, ℕ, ◌≤◌, map, All, sum_by}
use Rattle.wcc_base.specs.Budgets.{most_depth, most_locals, most_operations}
use Rattle.high_ir.specs.Tree.{Function, Program}
use Rattle.high_ir.specs.Size.{program_operations, program_depth, local_bytes}
use Rattle.high_ir.specs.Weight.{weight, reach}
use Rattle.high_ir.specs.Whole.{IsWhole}
use Rattle.high_pass.specs.Listing.{Listing}
use Rattle.high_pass.specs.Carries.{behaviour_of, Carries}

-- a program that is not too large
pub record WithinBudgets (p : Program) : Type 0 where
  -- six for each node of the largest source
  pub operations : program_operations p ≤ most_operations
  pub depth : program_depth p ≤ most_depth
  pub locals : local_bytes p ≤ most_locals

-- no factor is greater
pub record FactorsWithin (n : ℕ) (c : Listing) : Type 0 where
  pub loops : All (λ e. All (λ l. l.factor ≤ n) e.new) c.loops
  pub nevers : All (λ v. v.factor ≤ n) c.nevers

-- the program may reach the copies of a mark together at most so often
abbrev pub ReachWithin : (ℕ → ℕ) → Program → Listing → Type 0
ReachWithin bound p c = All (λ e. sum_by (reach p) e.new ≤ bound e.old) c.marks

-- what a caller has to know of a function
pub record Signature : Type 0 where
  pub values : ℕ
  pub arrays : ℕ
  pub rank : ℕ

abbrev pub signature_of : Function → Signature
signature_of f = record { values = f.values; arrays = f.arrays; rank = f.rank }

pub record IsLawful (old new : Program) (c : Listing) : Type 0 where
  pub carries : Carries (behaviour_of old) new c
  pub factors : FactorsWithin 64 c
  pub budgets : WithinBudgets old → WithinBudgets new
  pub weight : weight new ≤ weight old
  pub reach : ReachWithin (reach old) new c
  -- constants stay words
  pub whole : IsWhole old → IsWhole new
  -- the functions and the objects stay
  pub functions : map signature_of new.functions ≡ map signature_of old.functions
  pub objects : new.objects ≡ old.objects
  pub main : new.main ≡ old.main
