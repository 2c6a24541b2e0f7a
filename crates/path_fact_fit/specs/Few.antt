-- Facts of so few terms and such small numbers that their sides come to little at counts of loose flows.
use Rattle.std.specs.Prelude.{ℕ, ◌^◌, ◌≤◌, ℤ, pos, ◌≤ℤ◌, length, All}
use Rattle.code_flow_system.specs.declared.claims.FactClaim.{FactClaim}

-- at most 2^10, and not negative
abbrev pub IsFewTerm : ℕ × ℤ → Type 0
IsFewTerm u = (pos 0 ≤ℤ u.1) × (u.1 ≤ℤ pos (2 ^ 10))

-- at most 2^6 terms on each side
pub record IsFewFact (f : FactClaim) : Type 0 where
  pub left : All IsFewTerm f.left
  pub right : All IsFewTerm f.right
  pub left_short : length f.left ≤ 2 ^ 6
  pub right_short : length f.right ≤ 2 ^ 6
