-- What the numbers of walks that pay for facts are bounded by.
use Rattle.std.specs.Prelude.{ℕ, ◌+◌, ◌*◌, ◌^◌, ◌≤◌, ◌<◌, ℤ, pos, neg_ℤ, ◌+ℤ◌, ◌≤ℤ◌, ◌<ℤ◌, unsigned_abs, List, length, All}
use Rattle.rv_core.specs.Table.{Table}
use Rattle.code_flow_system.specs.declared.shapes.LoopShape.{LoopShape}
use Rattle.code_flow_system.specs.declared.shapes.Span.{Span}
use Rattle.code_flow_system.specs.Systems.{System}
use Rattle.code_flow_system.specs.Counts.{Amounts}
use Rattle.code_flow_system.specs.Flows.{IsFlow}
use Rattle.path_places.specs.Driver.{Prices, blank}
use Rattle.path_flows.specs.Flows.{amounts_of}
use Rattle.path_ranges.specs.Bounded.{IsBounded}
use Rattle.path_sizes.specs.Sizes.{AllStaySmall}
use Rattle.path_ranges.specs.Ranges.{IsEnough}
use Rattle.path_flows.specs.Free.{free}
use Rattle.path_flows.specs.CountLaws.{BacksAreFree}
use Rattle.path_ranges.specs.Narrow.{FetchesCost}
use Rattle.path_conditions.specs.Walking.{IsFactLimited}
use Rattle.path_cert.specs.Best.{best_worth, IsBestFlow}
use Rattle.path_cert.specs.Priced.{fact_low, fact_most, fact_size, fact_prices}

-- the size of the walks' numbers, by that and the number of loops
abbrev pub fact_numbers : ℕ → ℕ → ℕ
fact_numbers loops most = 6 * (most * (loops + 1)) + 4 * most + 2 ^ 32 * (loops + 1)

pub record IsFactBounded (t : Table) (s : System) (ls : List LoopShape) (ps : List Span) (scale : ℕ) (ys : List ℤ) : Type 0 where
  pub bounded : IsBounded s ls ps (fact_prices t s scale ys (fact_low scale ys)) (fact_size t s scale ys) (pos (fact_most scale ys)) (2 ^ 32)
  pub far : ((pos (fact_most scale ys) +ℤ (pos (fact_most scale ys) +ℤ pos (fact_most scale ys))) +ℤ fact_low scale ys) <ℤ pos 0
  pub enough : IsEnough s (fact_prices t s scale ys (fact_low scale ys)) (pos (fact_most scale ys)) (2 ^ 32) (pos (fact_numbers (length s.claims.loops) (fact_most scale ys)))

-- at any scale and multipliers
abbrev pub FactsAreBounded : Table → System → List LoopShape → List Span → Type 0
FactsAreBounded t s ls ps = IsFactLimited t s ls ps → (scale : ℕ) (ys : List ℤ) → IsFactBounded t s ls ps scale ys

-- 32 multipliers and a scale that times one more than the loops are at most 2^44 give numbers that three times are below 2^120
abbrev pub FactNumbersFit : Type 0
FactNumbersFit = (loops scale : ℕ) (ys : List ℤ) → loops < 2 ^ 33 → scale * (loops + 1) ≤ 2 ^ 44 → All (λ y. unsigned_abs y * (loops + 1) ≤ 2 ^ 44) ys → length ys ≤ 32 → 3 * fact_numbers loops (fact_most scale ys) < 2 ^ 120

-- a best flow whose amounts are small
pub record IsFactFlow (s : System) (ls : List LoopShape) (ps : List Span) (q : Prices) : Type 0 where
  pub best : IsBestFlow s ls ps q
  pub amounts : All (λ u. u < 2 ^ 60) (amounts_of s ls ps q)

-- the walks fit into 128 bits, and find a best flow where there is one
pub record HasFactFlow (t : Table) (s : System) (ls : List LoopShape) (ps : List Span) (scale : ℕ) (ys : List ℤ) : Type 0 where
  pub walks : AllStaySmall s ls (fact_prices t s scale ys (fact_low scale ys)) (blank (length s.moves) (fact_low scale ys)) ps
  pub open_entry : (x : Amounts) → IsFlow (free s) 1 x → neg_ℤ (pos (fact_most scale ys)) ≤ℤ best_worth s ls ps (fact_prices t s scale ys (fact_low scale ys))
  pub flow : neg_ℤ (pos (fact_most scale ys)) ≤ℤ best_worth s ls ps (fact_prices t s scale ys (fact_low scale ys)) → IsFactFlow s ls ps (fact_prices t s scale ys (fact_low scale ys))

-- where scale and multipliers are narrow
abbrev pub FactFlowsAreBest : Table → System → List LoopShape → List Span → Type 0
FactFlowsAreBest t s ls ps = IsFactLimited t s ls ps → FetchesCost t → BacksAreFree s ls → (scale : ℕ) (ys : List ℤ) → 3 * fact_numbers (length s.claims.loops) (fact_most scale ys) < 2 ^ 120 → HasFactFlow t s ls ps scale ys
