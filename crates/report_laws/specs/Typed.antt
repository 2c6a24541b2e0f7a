-- The ranges that the types of a report's fields give.
use Rattle.std.specs.Prelude.{ℕ, ◌<◌, ◌^◌, All}
use Rattle.code_flow_system.specs.declared.claims.Never.{Never}
use Rattle.code_flow_system.specs.declared.claims.Within.{Within}
use Rattle.code_flow_system.specs.declared.claims.LoopClaim.{LoopClaim}
use Rattle.code_flow_system.specs.declared.claims.FactClaim.{FactClaim}
use Rattle.code_flow_system.specs.declared.cert.Part.{Part}
use Rattle.code_flow_answer.specs.declared.bounded.Kind.{Kind}
use Rattle.code_flow_answer.specs.declared.bounded.Kind.TheVariants.{Greatest, Empty, Wide, Spent}
use Rattle.report_text.specs.declared.entries.Share.{Share}
use Rattle.report_text.specs.Reports.{Report}

abbrev pub IsWord : ℕ → Type 0
IsWord n = n < 2 ^ 32

abbrev pub IsTypedKind : Kind → Type 0
IsTypedKind Greatest = Unit {0}
IsTypedKind Empty = Unit {0}
IsTypedKind (Wide pivot) = IsWord pivot
IsTypedKind (Spent columns pivots) = IsWord columns × IsWord pivots

pub record IsTypedNever (c : Never) : Type 0 where
  pub source : IsWord c.source
  pub factor : IsWord c.factor
  pub at : IsWord c.at

pub record IsTypedWithin (w : Within) : Type 0 where
  pub first : IsWord w.first
  pub end : IsWord w.end

pub record IsTypedLoop (c : LoopClaim) : Type 0 where
  pub source : IsWord c.source
  pub factor : IsWord c.factor
  pub min : IsWord c.min
  pub max : IsWord c.max
  pub header : IsWord c.header
  pub back : IsWord c.back

pub record IsTypedFact (c : FactClaim) : Type 0 where
  pub left : All (λ t. IsWord t.0) c.left
  pub right : All (λ t. IsWord t.0) c.right

pub record IsTypedPart (p : Part) : Type 0 where
  pub at : IsWord p.at
  pub number : p.number < 2 ^ 8

pub record IsTypedShare (s : Share) : Type 0 where
  pub first : IsWord s.first
  pub end : IsWord s.end

pub record IsTyped (r : Report) : Type 0 where
  pub kind : IsTypedKind r.kind
  pub names : All (λ c. All IsWord c.places) r.names
  pub exits : All IsWord r.claims.exits
  pub nevers : All IsTypedNever r.claims.nevers
  pub regions : All IsTypedWithin r.claims.regions
  pub loops : All IsTypedLoop r.claims.loops
  pub facts : All IsTypedFact r.claims.facts
  pub potentials : All (λ t. IsWord t.0) r.cert.potentials
  pub parts : All IsTypedPart r.cert.flow.parts
  pub shares : All IsTypedShare r.shares
