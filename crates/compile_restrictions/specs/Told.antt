-- The restrictions of a source as claims on an image, over the addresses of copy lines.
use Rattle.std.specs.Prelude.{ℕ, List, length, All, sum_by}
use Rattle.code_flow_system.specs.declared.claims.FactClaim.{FactClaim}
use Rattle.code_flow_system.specs.Claims.{AreSums}
use Rattle.facts_definitions.specs.declared.facts.Facts.{Facts}
use Rattle.promise_report.specs.Facts.{AreFactLines, places_by}
use Rattle.report_text.specs.declared.entries.CopyLine.{CopyLine}
use Rattle.report_text.specs.Forms.{Ascend}

-- each restriction in source order, each name replaced by the sum of the addresses of its copy line, as sums in their one form
pub record AreFactsTold (facts : Facts) (lines : List CopyLine) (claims : List FactClaim) : Type 0 where
  pub each : AreFactLines facts (places_by facts lines) facts.restrictions claims
  pub sums : All AreSums claims

-- how many addresses the lines have
abbrev pub places_many : List CopyLine → ℕ
places_many lines = sum_by (λ (c : CopyLine). length c.places) lines

-- no line has an address twice
abbrev pub AreAscending : List CopyLine → Type 0
AreAscending lines = All (λ (c : CopyLine). Ascend c.places) lines
