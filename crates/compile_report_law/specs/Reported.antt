-- The report on what a source becomes.
use Rattle.std.specs.Prelude.{◌≡◌, ℕ, List, [], ◌++◌, map}
use Rattle.rv_core.specs.Table.{Table}
use Rattle.code_flow_system.specs.Certificates.{Accepts, IsInForm}
use Rattle.code_flow_system.specs.Systems.{System, IsSystemOf}
use Rattle.facts_definitions.specs.declared.facts.Facts.{Facts}
use Rattle.code_flow_answer.specs.declared.bounded.Kind.{Kind}
use Rattle.code_flow_answer.specs.declared.bounded.Kind.TheVariants.{Greatest, Empty, Wide, Spent}
use Rattle.path_fact_kinds.specs.Kinds.{HasColumns, HasKind}
use Rattle.compile_claims.specs.CopyLines.{AreLinesOf}
use Rattle.compile_claims.specs.Shares.{share_of}
use Rattle.report_shares.specs.Shares.{with_sum}
use Rattle.report_text.specs.declared.entries.Share.{Share}
use Rattle.report_text.specs.Reports.{Report}
use Rattle.compile_source_claims.specs.Handed.{AreHandedOn}
use Rattle.compile_restrictions.specs.Told.{AreFactsTold}
use Rattle.compile_stages.specs.declared.made.Made.{Made}
use Rattle.compile_stages.specs.Made.{copies_of}

-- a bound that a flow reaches is shared among the ranges of code
abbrev pub AreShared : Kind → (with_parts : List Share) → List Share → Type 0
AreShared Greatest with_parts shares = shares ≡ with_parts
AreShared Empty with_parts shares = shares ≡ []
AreShared (Wide pivot) with_parts shares = shares ≡ []
AreShared (Spent columns pivots) with_parts shares = shares ≡ []

pub record IsReported (costs : Table) (names : List (List ℕ)) (facts : Facts) (m : Made) (r : Report) : Type 0 where
  pub version : r.version ≡ 2
  pub lines : AreLinesOf names m.laid.lists.places.items (facts.functions ++ facts.markers) (copies_of m).marks r.names
  pub claims : AreHandedOn m r.claims
  pub restricted : AreFactsTold facts r.names r.claims.facts
  -- the bound of the image's flow system under these claims
  pub system : System
  pub is_system : IsSystemOf m.laid.image r.claims system
  pub form : IsInForm r.claims r.cert
  pub accepted : Accepts costs system r.cert
  pub columns : HasColumns costs system r.columns
  pub kind : HasKind costs system r.columns r.cert r.kind
  pub shared : AreShared r.kind (map (λ s. with_sum costs system r.cert.flow.parts s) (map (share_of names facts.functions) m.laid.lists.ranges.items)) r.shares
