-- What a report is put together from.
use Rattle.std.specs.Prelude.{◌≤◌, ◌^◌, ◌++◌, List, map}
use Rattle.rv_core.specs.Table.{Table}
use Rattle.code_flow_system.specs.Certificates.{Accepts, IsInForm}
use Rattle.code_flow_system.specs.Claims.{Claims}
use Rattle.code_flow_system.specs.Systems.{System, IsSystemOf}
use Rattle.facts_front.specs.declared.reading.Source.{Source}
use Rattle.path_fact_kinds.specs.Kinds.{HasColumns, HasKind}
use Rattle.report_shares.specs.Shares.{with_sum}
use Rattle.report_text.specs.declared.entries.CopyLine.{CopyLine}
use Rattle.report_text.specs.Reports.{Report, report_of}
use Rattle.compile_bound_law.specs.Laws.{AreTold}
use Rattle.compile_claims.specs.CopyLines.{AreLinesOf}
use Rattle.compile_stages.specs.declared.made.Made.{Made}
use Rattle.compile_stages.specs.Made.{copies_of}
use Rattle.compile_report_law.specs.Reported.{AreShared}
use Rattle.compile_report.specs.declared.finding.Found.{Found}
use Rattle.compile_report.specs.declared.telling.Told.{Told}
use Rattle.compile_report.specs.Sources.{names_of, ranges_of}

-- the copy lines of functions and markers
abbrev pub HasLines : Source → Made → List CopyLine → Type 0
HasLines s m lines = AreLinesOf (names_of s) m.laid.lists.places.items (s.facts.functions ++ s.facts.markers) (copies_of m).marks lines

-- and the claims by the loops of the source, with its restrictions over these lines
abbrev pub AreClaimsBy : Source → Made → List CopyLine → Claims → Type 0
AreClaimsBy s m lines claims = AreTold (names_of s) s.facts m lines claims

abbrev pub IsTold : Source → Made → Told → Type 0
IsTold s m told = AreClaimsBy s m told.lines.items told.claims

-- over some lines
abbrev pub AreClaimsOf : Source → Made → Claims → Type 0
AreClaimsOf s m claims = (lines : List CopyLine) × AreClaimsBy s m lines claims

-- the bound of a flow system, and its shares
pub record IsBound (t : Table) (s : Source) (m : Made) (system : System) (found : Found) : Type 0 where
  pub form : IsInForm system.claims found.bounded.cert
  pub accepted : Accepts t system found.bounded.cert
  pub columns : HasColumns t system found.bounded.columns
  pub kind : HasKind t system found.bounded.columns found.bounded.cert found.bounded.kind
  pub shared : AreShared found.bounded.kind (map (with_sum t system found.bounded.cert.flow.parts) (ranges_of s m)) found.shares.items
  pub cycles : found.bounded.cert.cycles ≤ 2 ^ 62

-- of the image's system under these claims
pub record HasBound (t : Table) (s : Source) (m : Made) (claims : Claims) (found : Found) : Type 0 where
  pub system : System
  pub is_system : IsSystemOf m.laid.image claims system
  pub bound : IsBound t s m system found

-- both together
abbrev pub joined_report : Told → Found → Report
joined_report told found = report_of 2 found.bounded.kind told.lines.items told.claims found.bounded.columns found.bounded.cert found.shares.items
