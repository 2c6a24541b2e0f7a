-- Typed programs whose plans keep to the form.
use Rattle.std.specs.Prelude.{◌≡◌, ℕ, ◌+◌, ◌≤◌, ◌<◌, nat_lt, ◌&&◌, Bool, true, false, List, length, Some, slice_get, slice_index_or, All}
use Rattle.types_tree.specs.Tree as c
use Rattle.high_ir.specs.Formed.{LeavesWithin, RanksFall}
use Rattle.high_ir.specs.Standing.{marks_of}
use Rattle.high_ir.specs.Tree.{Function}
use Rattle.plan_forms.specs.Forms.{Limits, ItemsAllowed}

abbrev pub body_of : c.Function → c.Items
body_of (c.Defined specifiers name name_at params first body body_at at) = body

-- a function calls functions that are there and whose rank is lower
abbrev pub may_call : (ranks : List ℕ) → (functions number : ℕ) → ℕ → Bool
may_call ranks functions number g = nat_lt g functions && nat_lt (slice_index_or ranks g 0) (slice_index_or ranks number 0)

abbrev pub limits_in : (ranks : List ℕ) → (functions marks number : ℕ) → Limits
limits_in ranks functions marks number = record { callable = may_call ranks functions number; first = functions; marks = marks; loops = true }

-- each body from a function on keeps to what it may call and mark
abbrev pub BodiesAllowed : (ranks : List ℕ) → (functions marks number : ℕ) → List c.Function → Type 0
BodiesAllowed ranks functions marks number fs = (i : ℕ) (f : c.Function) → slice_get fs i ≡ Some f → ItemsAllowed (limits_in ranks functions marks (number + i)) false false (body_of f)

-- what holds of each function of a program that keeps to the form
pub record FunctionFormed (fs : List Function) (marks : ℕ) (f : Function) : Type 0 where
  pub leaves : LeavesWithin f
  pub ranks : RanksFall fs f
  pub in_range : All (λ m. (length fs ≤ m) × (m < marks)) (marks_of f.body)
