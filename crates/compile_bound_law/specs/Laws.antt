-- The claims on what is made of a source, its flow system, and the search for its greatest flow.
use Rattle.std.specs.Prelude.{◌≡◌, ℕ, ◌^◌, ◌<◌, List, [], ◌++◌, All}
use Rattle.rv_core.specs.declared.costs.Costs.{Costs}
use Rattle.rv_core.specs.Table.{table_of}
use Rattle.code_flow_system.specs.Claims.{Claims}
use Rattle.code_flow_system.specs.Systems.{System, IsSystemOf}
use Rattle.code_flow.specs.CodeFaults.{IsFault}
use Rattle.code_flow.specs.declared.finding.CodeFault.{CodeFault}
use Rattle.code_flow.specs.declared.finding.CodeFault.TheVariants.{Memory}
use Rattle.facts_definitions.specs.declared.facts.Facts.{Facts}
use Rattle.facts_sources.specs.Sources.{IsSource}
use Rattle.types_tree.specs.Tree.{Program}
use Rattle.high_ir.specs.declared.copies.LoopCopies.{LoopCopies}
use Rattle.high_ir.specs.declared.copies.NeverMark.{NeverMark}
use Rattle.path_conditions.specs.Searching.{CanSearch}
use Rattle.compile_restrictions.specs.Told.{AreFactsTold}
use Rattle.compile_claims.specs.CopyLines.{AreLinesOf}
use Rattle.compile_source_claims.specs.Handed.{AreHandedOn}
use Rattle.compile_stages.specs.declared.made.Made.{Made}
use Rattle.compile_stages.specs.Made.{IsMade, copies_of, high_of}
use Rattle.report_text.specs.declared.entries.CopyLine.{CopyLine}

-- loops have numbers below how many there are, in the claims and in their copies; those of the source have small ones; there are no
-- claims on never marks yet, and no restrictions
pub record CanBeNamed (m : Made) : Type 0 where
  pub there : All (λ c. c.source < (high_of m).loops) m.laid.claimed.claims.loops
  pub listed : All (λ e. All (λ l. l.id < (high_of m).loops) e.new) (copies_of m).loops
  pub old : All (λ (e : LoopCopies). e.old < 2 ^ 26) m.stages.last.copies.loops.items
  pub nevers : All (λ (v : NeverMark). v.old < 2 ^ 26) m.stages.last.copies.nevers.items
  pub plain : m.laid.claimed.claims.nevers ≡ []
  pub facts : m.laid.claimed.claims.facts ≡ []

-- claims can be named by the loops of the source
abbrev pub MadeCanBeNamed : Type 0
MadeCanBeNamed = (source : List ℕ) (names : List (List ℕ)) (program : Program) (facts : Facts) (m : Made) → IsSource source names program facts → IsMade names program facts m → CanBeNamed m

-- the copy lines of what is counted, and the claims that are handed on with the restrictions over them
pub record AreTold (names : List (List ℕ)) (facts : Facts) (m : Made) (lines : List CopyLine) (claims : Claims) : Type 0 where
  pub lined : AreLinesOf names m.laid.lists.places.items (facts.functions ++ facts.markers) (copies_of m).marks lines
  pub handed : AreHandedOn m claims
  pub restricted : AreFactsTold facts lines claims.facts

-- nothing but memory can be wanting for the flow system: no claim is bad, and what is reached is code
abbrev pub MadeHaveSystems : Type 0
MadeHaveSystems =
    (source : List ℕ) (names : List (List ℕ)) (program : Program) (facts : Facts) (m : Made) (lines : List CopyLine) (claims : Claims) (fault : CodeFault) → IsSource source names program facts → IsMade names program facts m → AreTold names facts m lines claims → IsFault m.laid.image claims fault → fault ≡ Memory

-- the search can be made
abbrev pub MadeCanBeBounded : Type 0
MadeCanBeBounded =
    (source : List ℕ) (names : List (List ℕ)) (program : Program) (facts : Facts) (m : Made) (lines : List CopyLine) (claims : Claims) (c : Costs) (s : System) → IsSource source names program facts → IsMade names program facts m → AreTold names facts m lines claims → IsSystemOf m.laid.image claims s
    → CanSearch (table_of c) s m.laid.claimed.shapes.items m.laid.lists.spans.items
