-- How many restrictions a source has, and what they are sums of.
use Rattle.std.specs.Prelude.{◌+◌, ◌<◌, ◌≤◌, ◌++◌, length, All}
use Rattle.facts_definitions.specs.declared.facts.Facts.{Facts}
use Rattle.facts_definitions.specs.declared.facts.Restriction.{Restriction}
use Rattle.facts_definitions.specs.declared.facts.Term.{Term}
use Rattle.flow_facts.specs.Translating.{index_in}

-- its number is at most a million, and its name is that of a function or a marker
pub record IsCountedTerm (facts : Facts) (u : Term) : Type 0 where
  pub small : u.coef ≤ 1000000
  pub counted : index_in (facts.functions ++ facts.markers) u.name.0 < length (facts.functions ++ facts.markers)

-- at most 64 terms in all
pub record IsLimited (facts : Facts) (r : Restriction) : Type 0 where
  pub few : length r.left + length r.right ≤ 64
  pub left : All (IsCountedTerm facts) r.left
  pub right : All (IsCountedTerm facts) r.right

-- at most 32 restrictions
pub record AreLimited (facts : Facts) : Type 0 where
  pub few : length facts.restrictions ≤ 32
  pub each : All (IsLimited facts) facts.restrictions
