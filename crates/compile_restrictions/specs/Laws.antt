-- What claims on restrictions keep to.
use Rattle.std.specs.Prelude.{◌≡◌, ℕ, ◌*◌, ◌≤◌, ℤ, pos, ◌≤ℤ◌, List, ◌++◌, length, None, Some, slice_get, slice_index_or, All, Contains}
use Rattle.frac128.specs.Terms.{Terms, int_sum_by}
use Rattle.code_flow_system.specs.declared.claims.FactClaim.{FactClaim}
use Rattle.code_flow_system.specs.Counts.{KeepsFact}
use Rattle.facts_definitions.specs.declared.facts.Facts.{Facts}
use Rattle.facts_limits.specs.Limits.{AreLimited}
use Rattle.meaning_semantics.specs.Runs.{first_violated}
use Rattle.path_conditions.specs.Natural.{IsNaturalFact, both_totals}
use Rattle.report_text.specs.declared.entries.CopyLine.{CopyLine}
use Rattle.report_text.specs.Forms.{IsFact}
use Rattle.compile_restrictions.specs.Told.{AreAscending, AreFactsTold, places_many}

-- an address that a claim names stands in a line
pub record StandIn (lines : List CopyLine) (c : FactClaim) : Type 0 where
  pub left : All (λ u. (line : CopyLine) × Contains lines line × Contains line.places u.0) c.left
  pub right : All (λ u. (line : CopyLine) × Contains lines line × Contains line.places u.0) c.right

-- no number is above 64 million
abbrev pub AreLow : Terms → Type 0
AreLow ts = All (λ u. u.1 ≤ℤ pos 64000000) ts

-- their terms have the numbers of reports, and stand at addresses of the lines; none is negative or large; and no side has more terms than there are addresses
pub record AreFactClaims (facts : Facts) (lines : List CopyLine) (claims : List FactClaim) : Type 0 where
  pub count : length claims ≡ length facts.restrictions
  pub form : All IsFact claims
  pub natural : All IsNaturalFact claims
  pub low : All (λ (c : FactClaim). AreLow c.left × AreLow c.right) claims
  pub standing : All (StandIn lines) claims
  pub short : All (λ (c : FactClaim). (length c.left ≤ places_many lines) × (length c.right ≤ places_many lines)) claims

abbrev pub ToldAreClaims : Type 0
ToldAreClaims = (facts : Facts) (lines : List CopyLine) (claims : List FactClaim) → AreLimited facts → AreAscending lines → AreFactsTold facts lines claims → AreFactClaims facts lines claims

-- where the addresses of each line come to at most so much, both sides come to at most 64 million times that
abbrev pub ToldAreLight : Type 0
ToldAreLight =
    (facts : Facts) (lines : List CopyLine) (claims : List FactClaim) (n : ℕ → ℤ) (most : ℕ) → AreLimited facts → AreFactsTold facts lines claims → All (λ (c : CopyLine). int_sum_by n c.places ≤ℤ pos most) lines
    → All (λ f. both_totals f n ≤ℤ pos (64000000 * most)) claims

-- where the addresses of each line come to a count, and no restriction is violated by these counts, the claims are kept
abbrev pub ToldAreKept : Type 0
ToldAreKept =
    (facts : Facts) (lines : List CopyLine) (claims : List FactClaim) (n : ℕ → ℤ) (counts : List ℕ) → AreLimited facts → length lines ≡ length (facts.functions ++ facts.markers) → AreFactsTold facts lines claims
    → ((k : ℕ) (c : CopyLine) → slice_get lines k ≡ Some c → int_sum_by n c.places ≡ pos (slice_index_or counts k 0)) → first_violated (facts.functions ++ facts.markers) counts facts.restrictions ≡ None → All (KeepsFact n) claims
