-- The certificate of the walks is in form and accepted, where its numbers keep their ranges.
use Rattle.std.specs.Prelude.{◌≡◌, ℕ, ◌+◌, ℤ, pos, ◌*ℤ◌, ◌≤ℤ◌, unsigned_abs, List, [], All}
use Rattle.frac128.specs.Terms.{coefficient}
use Rattle.rv_core.specs.Table.{Table}
use Rattle.code_flow_system.specs.declared.cert.Cert.{Cert}
use Rattle.code_flow_system.specs.declared.shapes.LoopShape.{LoopShape}
use Rattle.code_flow_system.specs.declared.shapes.Span.{Span}
use Rattle.code_flow_system.specs.Systems.{System}
use Rattle.code_flow_system.specs.Counts.{count, inflow}
use Rattle.code_flow_system.specs.Flows.{value}
use Rattle.code_flow_system.specs.Certificates.{IsNarrow, IsSmall, size_by, limits, listed, Accepts, IsInForm}
use Rattle.path_places.specs.Duals.{values_of}
use Rattle.path_flows.specs.CountLaws.{IsOpenSystem}
use Rattle.path_cert.specs.Certificates.{entry_worth, costs_of, certificate_of}
use Rattle.path_cert.specs.Ranges.{HasRanges}

-- ranges of the numbers of a listed flow
pub record HasFlowRanges (t : Table) (s : System) (c : Cert) : Type 0 where
  pub parts : All (λ p. IsSmall p.part) c.flow.parts
  pub balances : (a : ℕ) → IsNarrow (unsigned_abs (count (listed c.flow.parts) s.moves a) + unsigned_abs (coefficient (inflow s.entry c.flow.unit (listed c.flow.parts) s.moves) a))
  pub claims : All (λ l. IsNarrow (size_by (λ u. u.1 *ℤ count (listed c.flow.parts) s.moves u.0) l.terms)) (limits s.claims c)
  pub value : IsNarrow (unsigned_abs (value t s (listed c.flow.parts)))

-- what is asked where the entry's worth isn't negative
pub record IsOpenFlow (t : Table) (s : System) (ls : List LoopShape) (ps : List Span) : Type 0 where
  pub least : ℤ
  pub system : IsOpenSystem s ls ps (costs_of t s) least
  pub ranges : HasFlowRanges t s (certificate_of t s ls ps)

abbrev pub CertificatesAreAccepted : Table → System → List LoopShape → List Span → Type 0
CertificatesAreAccepted t s ls ps = s.claims.facts ≡ [] → HasRanges t s (certificate_of t s ls ps) → (pos 0 ≤ℤ entry_worth s (values_of s ls ps (costs_of t s)) → IsOpenFlow t s ls ps) →
    IsInForm s.claims (certificate_of t s ls ps) × Accepts t s (certificate_of t s ls ps)
