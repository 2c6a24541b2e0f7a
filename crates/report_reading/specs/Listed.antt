-- What the lines of a section keep to, with their multipliers.
use Rattle.std.specs.Prelude.{◌≡◌, ℤ, List, length, map, All}
use Rattle.code_flow_system.specs.declared.claims.Never.{Never}
use Rattle.code_flow_system.specs.declared.claims.Within.{Within}
use Rattle.code_flow_system.specs.declared.claims.LoopClaim.{LoopClaim}
use Rattle.code_flow_system.specs.declared.claims.FactClaim.{FactClaim}
use Rattle.code_flow_system.specs.declared.cert.Part.{Part}
use Rattle.frac128.specs.Terms.{Terms}
use Rattle.code_flow_system.specs.Certificates.{IsSmall, AddressesAscend, IsPart, PartsAscend}
use Rattle.report_text.specs.declared.entries.Share.{Share}
use Rattle.report_text.specs.Forms.{Ascend, NamesOne, AreAllApart, IsFact, IsShare, SharesAscend}

pub record AreNevers (claims : List Never) (by : List ℤ) : Type 0 where
  pub as_many : length by ≡ length claims
  pub ascend : Ascend (map (λ n. n.at) claims)
  pub small : All IsSmall by

pub record AreRegions (claims : List Within) : Type 0 where
  pub ascend : Ascend (map (λ w. w.first) claims)
  pub named : All NamesOne claims
  pub apart : AreAllApart claims

pub record AreLoops (claims : List LoopClaim) (by : List (ℤ × ℤ)) : Type 0 where
  pub as_many : length by ≡ length claims
  pub ascend : Ascend (map (λ l. l.header) claims)
  pub small : All (λ w. IsSmall w.0 × IsSmall w.1) by

pub record AreFacts (claims : List FactClaim) (by : List ℤ) : Type 0 where
  pub as_many : length by ≡ length claims
  pub form : All IsFact claims
  pub small : All IsSmall by

pub record ArePotentials (ts : Terms) : Type 0 where
  pub ascend : AddressesAscend ts
  pub small : All (λ t. IsSmall t.1) ts

pub record AreParts (parts : List Part) : Type 0 where
  pub ascend : PartsAscend parts
  pub form : All IsPart parts

pub record AreShares (shares : List Share) : Type 0 where
  pub ascend : SharesAscend shares
  pub form : All IsShare shares
