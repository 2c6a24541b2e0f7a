-- Facts of numbers that aren't negative, and what their sides come to.
use Rattle.std.specs.Prelude.{ℕ, ℤ, pos, ◌+ℤ◌, ◌≤ℤ◌, All}
use Rattle.frac128.specs.Terms.{Terms, applied}
use Rattle.code_flow_system.specs.declared.claims.FactClaim.{FactClaim}

-- no number is negative
abbrev pub AreNatural : Terms → Type 0
AreNatural ts = All (λ u. pos 0 ≤ℤ u.1) ts

abbrev pub IsNaturalFact : FactClaim → Type 0
IsNaturalFact c = AreNatural c.left × AreNatural c.right

-- left and right totals together
abbrev pub both_totals : FactClaim → (ℕ → ℤ) → ℤ
both_totals c n = applied c.left n +ℤ applied c.right n
