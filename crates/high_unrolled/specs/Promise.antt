-- What unrolling promises beside the law of passes.
use Rattle.std.specs.Prelude.{◌≡◌, ℕ, ◌+◌, ◌≤◌, ◌<◌, ◌⊎◌, All}
use Rattle.wcc_base.specs.Budgets.{most_depth, most_operations}
use Rattle.high_ir.specs.Size.{program_operations}
use Rattle.high_ir.specs.Tree.{Program}
use Rattle.high_pass.specs.Listing.{Listing}
use Rattle.high_unrolled.specs.Factor.{depth_by, growth}
use Rattle.high_unrolled.specs.Programs.{listing, program_spread, unrolled}
use Rattle.high_unrolled.specs.Unrolling.{Left}

-- the loop by the factor, in the place where it stands in the program, would pass a budget
abbrev pub PassesBudget : (factor : ℕ) → Program → Left → Type 0
PassesBudget k p l = (most_operations < program_operations p + growth k l.rolled) ⊎ (most_depth < l.level + depth_by k l.rolled)

pub record Unrolls (k : ℕ) (old new : Program) (c : Listing) : Type 0 where
  pub program : new ≡ unrolled k old
  pub copies : c ≡ listing k old
  -- a factor of 1 changes nothing
  pub alone : k ≡ 1 → new ≡ old
  -- an innermost loop that is left is one that would pass a budget
  pub left : 2 ≤ k → All (PassesBudget k new) (program_spread k old).left
