-- When the numbers of a search have bounds: by the totals of loose flows at prices that are no smaller in size.
use Rattle.std.specs.Prelude.{◌≡◌, ◌⊎◌, ℕ, ◌≤◌, ℤ, pos, ◌+ℤ◌, ◌≤ℤ◌, ◌<ℤ◌, List, All}
use Rattle.code_flow_system.specs.declared.claims.LoopClaim.{LoopClaim}
use Rattle.code_flow_system.specs.declared.moves.Move.{Move}
use Rattle.code_flow_system.specs.declared.shapes.LoopShape.{LoopShape}
use Rattle.code_flow_system.specs.declared.shapes.Span.{Span}
use Rattle.code_flow_system.specs.Systems.{System}
use Rattle.loop_ranges.specs.Near.{IsUpTo}
use Rattle.path_places.specs.PlaceLaws.{IsReachedWhole}
use Rattle.path_places.specs.Driver.{Prices}
use Rattle.path_ranges.specs.LooseLaws.{LooseTotalsBelow}

-- a loop has to turn no more often than it may, or may not be visited; and it has to start no more than so often
abbrev pub StartsBelow : ℕ → LoopClaim → Type 0
StartsBelow starts c = ((c.min ≤ c.max) ⊎ (c.max ≡ 0)) × (c.min ≤ starts)

-- most is a bound of loose totals, and a block is more than that
pub record IsBounded (s : System) (ls : List LoopShape) (ps : List Span) (q : Prices) (price : Move → ℤ) (most : ℤ) (starts : ℕ) : Type 0 where
  pub whole : IsReachedWhole s ls ps
  pub prices : All (λ m. IsUpTo (q.of m) (price m)) s.moves
  pub positive : pos 0 ≤ℤ most
  pub totals : LooseTotalsBelow s price most
  pub apart : (most +ℤ q.low) <ℤ pos 0
  pub loops : All (StartsBelow starts) s.claims.loops
