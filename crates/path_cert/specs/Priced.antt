-- Prices that pay for facts: the costs of moves over a scale, less a multiplier of each fact at its addresses; and the certificate of the walks at such prices.
use Rattle.std.specs.Prelude.{◌≡◌, ℕ, ◌+◌, ◌*◌, ◌^◌, ◌<◌, ◌≤◌, ◌==◌, ℤ, pos, neg_ℤ, ◌+ℤ◌, ◌-ℤ◌, ◌*ℤ◌, unsigned_abs, List, [], ◌∷◌, length, All, if◌then◌else◌}
use Rattle.frac128.specs.Terms.{coefficient, applied}
use Rattle.rv_core.specs.Table.{Table}
use Rattle.code_flow_system.specs.declared.claims.FactClaim.{FactClaim}
use Rattle.code_flow_system.specs.declared.cert.Cert.{Cert}
use Rattle.code_flow_system.specs.declared.cert.Mark.TheVariants.{Neither}
use Rattle.code_flow_system.specs.declared.moves.Move.{Move}
use Rattle.code_flow_system.specs.declared.shapes.LoopShape.{LoopShape}
use Rattle.code_flow_system.specs.declared.shapes.Span.{Span}
use Rattle.code_flow_system.specs.Systems.{System}
use Rattle.code_flow_system.specs.MoveCosts.{move_cost}
use Rattle.code_flow_system.specs.Counts.{Amounts, count, total}
use Rattle.code_flow_system.specs.Flows.{value}
use Rattle.code_flow_system.specs.Certificates.{fact_limits, held, size_by, IsSigned, IsSmall, whole_part}
use Rattle.path_places.specs.Driver.{Prices}
use Rattle.path_places.specs.Duals.{values_of, potentials_of, never_multipliers, loop_multipliers}
use Rattle.path_cert.specs.Best.{best_worth}

abbrev pub fact_price : Table → System → ℕ → List ℤ → Move → ℤ
fact_price t s scale ys m = pos (move_cost t s m * scale) -ℤ held (fact_limits s.claims.facts ys) m.at

-- and their sizes: the cost over the scale, and each fact's term at the address without its sign
abbrev pub fact_size : Table → System → ℕ → List ℤ → Move → ℤ
fact_size t s scale ys m = pos (move_cost t s m * scale + size_by (λ l. l.by *ℤ coefficient l.terms m.at) (fact_limits s.claims.facts ys))

-- with the worth of a block
abbrev pub fact_prices : Table → System → ℕ → List ℤ → ℤ → Prices
fact_prices t s scale ys low = record { of = fact_price t s scale ys; low = low }

abbrev pub sizes_of : List ℤ → ℕ
sizes_of [] = 0
sizes_of (y ∷ ys) = unsigned_abs y + sizes_of ys

-- what a loose flow can come to at prices of a scale and of facts' multipliers, and the worth of a block then
abbrev pub fact_most : ℕ → List ℤ → ℕ
fact_most scale ys = 2 ^ 60 * (if scale == 0 then 1 else scale) + 2 ^ 66 * sizes_of ys

abbrev pub fact_low : ℕ → List ℤ → ℤ
fact_low scale ys = neg_ℤ (pos (4 * fact_most scale ys))

-- the multipliers of facts, each times its left less its right total
abbrev pub fact_total : List FactClaim → List ℤ → (ℕ → ℤ) → ℤ
fact_total [] ys n = pos 0
fact_total (c ∷ cs) [] n = pos 0
fact_total (c ∷ cs) (y ∷ ys) n = (y *ℤ (applied c.left n -ℤ applied c.right n)) +ℤ fact_total cs ys n

-- a total at these prices is the value over the scale, less what the facts' totals come to
abbrev pub PricesPayFacts : Table → System → Type 0
PricesPayFacts t s = (scale : ℕ) (ys : List ℤ) (x : Amounts) → total (fact_price t s scale ys) x s.moves ≡ (pos scale *ℤ value t s x) -ℤ fact_total s.claims.facts ys (count x s.moves)

-- the certificate of the walks at these prices
abbrev pub fact_certificate : Table → System → List LoopShape → List Span → ℕ → List ℤ → ℤ → Cert
fact_certificate t s ls ps scale ys low = record {
  cycles = whole_part (best_worth s ls ps (fact_prices t s scale ys low)) scale;
  mark = Neither;
  scale = scale;
  potentials = potentials_of s.moves (values_of s ls ps (fact_prices t s scale ys low)).worths s.moves;
  nevers = never_multipliers s (fact_price t s scale ys) (values_of s ls ps (fact_prices t s scale ys low));
  loops = loop_multipliers s (fact_price t s scale ys) (values_of s ls ps (fact_prices t s scale ys low));
  facts = ys;
  flow = record { unit = 0; parts = [] };
}

-- a scale, and a multiplier for each fact, with its sign and in its range
pub record AreMultipliers (s : System) (scale : ℕ) (ys : List ℤ) : Type 0 where
  pub scaled : (0 < scale) × (scale ≤ 2 ^ 48)
  pub long : length ys ≡ length s.claims.facts
  pub signs : All IsSigned (fact_limits s.claims.facts ys)
  pub small : All IsSmall ys
