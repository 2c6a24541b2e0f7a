-- What answers at narrow multipliers are.
use Rattle.std.specs.Prelude.{ℕ, ◌^◌, ℤ, pos, ◌≤ℤ◌, List, All, IfSome}
use Rattle.rv_core.specs.Table.{Table}
use Rattle.code_flow_system.specs.declared.cert.Part.{Part}
use Rattle.code_flow_system.specs.Systems.{System}
use Rattle.code_flow_system.specs.Counts.{count}
use Rattle.code_flow_system.specs.Flows.{IsFlow, value}
use Rattle.code_flow_system.specs.Certificates.{listed, fact_limits, IsSigned, IsInForm, Accepts}
use Rattle.path_flows.specs.Free.{free}
use Rattle.path_conditions.specs.Natural.{both_totals}
use Rattle.path_fact_columns.specs.declared.answering.Answer.{Answer}
use Rattle.path_fact_kinds.specs.Columns.{column_of, IsBest}
use Rattle.path_fact_columns.specs.Answers.{AreParts}

-- parts of a flow of one unit, whose column has small numbers and is a best one at the multipliers
pub record AreBest (t : Table) (s : System) (scale : ℕ) (ys : List ℤ) (us : List Part) : Type 0 where
  pub parts : AreParts us
  pub flow : IsFlow (free s) 1 (listed us)
  pub small : value t s (listed us) ≤ℤ pos (2 ^ 60)
  pub totals : All (λ f. both_totals f (count (listed us) s.moves) ≤ℤ pos (2 ^ 66)) s.claims.facts
  pub best : IsBest t s scale ys (column_of t s (listed us))

-- where the worth isn't negative the parts are those of a best flow; and where the multipliers have their facts' signs a certificate is in form and accepted
pub record IsAnswer (t : Table) (s : System) (scale : ℕ) (ys : List ℤ) (a : Answer) : Type 0 where
  pub best : pos 0 ≤ℤ a.worth → AreBest t s scale ys a.parts
  pub accepted : All IsSigned (fact_limits s.claims.facts ys) → IfSome a.cert (λ c. IsInForm s.claims c × Accepts t s c)
