-- The sums that a checker adds up over a flow, by the values of loose flows: each move costs a cycle at least, so that none is made more often.
use Rattle.std.specs.Prelude.{ℕ, ◌^◌, ◌<◌, ◌≤◌, ◌*◌, ℤ, pos, ◌*ℤ◌, ◌≤ℤ◌, ◌<ℤ◌, List, ◌++◌, All, Contains}
use Rattle.rv_core.specs.Table.{Table}
use Rattle.code_flow_system.specs.declared.claims.LoopClaim.{LoopClaim}
use Rattle.code_flow_system.specs.declared.moves.Move.{Move}
use Rattle.code_flow_system.specs.Claims.{Claims}
use Rattle.code_flow_system.specs.Systems.{System, IsSystem}
use Rattle.code_flow_system.specs.Counts.{Amounts, amount, count}
use Rattle.code_flow_system.specs.Loose.{IsLoose}
use Rattle.code_flow_system.specs.Certificates.{never_limits, loop_limits, size_by, IsNarrow}
use Rattle.path_ranges.specs.Limits.{LooseValuesUnder}

-- a fetch costs something
pub record FetchesCost (t : Table) : Type 0 where
  pub flash : 1 ≤ t.fetch_flash
  pub spm : 1 ≤ t.fetch_spm

-- no count and no amount of a loose flow is larger than its value, so that a bound of values is one of theirs
abbrev pub LooseCountsBelow : Table → System → Type 0
LooseCountsBelow t s = FetchesCost t → IsSystem s → (most : ℕ) → LooseValuesUnder most t s → (unit : ℕ) (x : Amounts) → IsLoose s unit x →
    ((a : ℕ) → count x s.moves a <ℤ (pos unit *ℤ pos most)) × ((m : Move) → Contains s.moves m → amount x m <ℤ (pos unit *ℤ pos most))

-- bounds of loops that are read from 32 bits
abbrev pub HasShortBounds : LoopClaim → Type 0
HasShortBounds c = (c.min < 2 ^ 32) × (c.max < 2 ^ 32)

-- the terms of a limit at counts below a bound of at most 2^93 are narrow together, whatever its multiplier
abbrev pub LimitsAreNarrow : Claims → Type 0
LimitsAreNarrow c = All HasShortBounds c.loops → (most : ℕ) → most ≤ 2 ^ 93 → (n : ℕ → ℤ) → ((a : ℕ) → (pos 0 ≤ℤ n a) × (n a <ℤ pos most)) → (ws : List ℤ) (us : List (ℤ × ℤ)) →
    All (λ l. IsNarrow (size_by (λ t. t.1 *ℤ n t.0) l.terms)) (never_limits c.nevers ws ++ loop_limits c.loops us)
