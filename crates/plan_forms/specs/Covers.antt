-- What is allowed for a node of the source, so that it covers what its plan costs.
use Rattle.std.specs.Prelude.{ℕ, ◌+◌, ◌*◌, ◌≤◌, Bool, List, Some}
use Rattle.facts_definitions.specs.Most.{bounds_at, filling_most, times}
use Rattle.facts_definitions.specs.Starts.{most_starts}
use Rattle.facts_definitions.specs.declared.facts.Bounds.{Bounds}
use Rattle.plan_forms.specs.Costs.{Rates}

-- so much for each node, of which a statement leaves some to spare: for code with these bounds and what calls cost in it,
-- and for nodes that are counted by other bounds and by how many nodes calls come to
pub record Covers (rates : Rates) (callee calls : ℕ → ℕ) (planned bounds : List Bounds) (node spare : ℕ) : Type 0 where
  pub leaf : rates.leaf ≤ 1
  pub some : 6 + 4 * rates.leaf ≤ node
  pub call : rates.call + 4 + 2 * rates.leaf ≤ node
  pub passed : rates.passed ≤ 2
  pub exit : rates.exit + rates.leaf + 1 + spare ≤ node
  pub loop : rates.loop + 1 + spare ≤ node
  pub turn : rates.turn + 3 ≤ spare
  -- the test before what stands behind a label
  pub guard : 4 + 2 * rates.leaf ≤ spare
  pub callees : (f : ℕ) → callee f ≤ node * calls f
  pub turns : (number : ℕ) (always : Bool) → rates.turns (most_starts always (bounds_at planned number).max) ≤ times always (bounds_at bounds number)
  pub fillings : (number : ℕ) → 2 + rates.leaf + rates.loop + rates.turns (bounds_at planned number).max * (rates.turn + 8 + 6 * rates.leaf) ≤ 2 * node + node * filling_most bounds (Some number)
