-- What becomes of a source.
use Rattle.std.specs.Prelude.{◌≡◌, ℕ, false, List}
use Rattle.types_tree.specs.Tree.{Program}
use Rattle.facts_definitions.specs.FlowFacts.{main_of}
use Rattle.facts_definitions.specs.declared.facts.Facts.{Facts}
use Rattle.facts_front.specs.Fronts.{RefusesSource}
use Rattle.facts_sources.specs.Sources.{IsSource}
use Rattle.facts_front.specs.declared.refusal.Refusal.{Refusal}
use Rattle.meaning_semantics.specs.Runs.{meaning}
use Rattle.meaning_semantics.specs.declared.source_run.SourceRun.{SourceRun}
use Rattle.high_ir.specs.Programs.{program_of}
use Rattle.high_ir.specs.declared.copies.Carried.{Carried}
use Rattle.high_pass.specs.Listing.{listing_of}
use Rattle.plan_carried.specs.Sources.{planned_listing}
use Rattle.plan_definition.specs.Programs.{program_planned}
use Rattle.try_sources.specs.declared.fault.Fault.{Fault}
use Rattle.try_sources.specs.declared.fault.Fault.TheVariants.{Usage, Files, Refused, Untried, Memory}

-- there is a cause to refuse it
pub record IsRefused (source : List ℕ) : Type 0 where
  pub refusal : Refusal
  pub refuses : RefusesSource false source refusal

-- why there is nothing to say of it; want of memory says nothing of it
abbrev pub Fails : List ℕ → Fault → Type 0
Fails source (Usage line) = ⊥
Fails source Files = ⊥
Fails source Refused = IsRefused source
Fails source (Untried cause) = ⊥
Fails source Memory = Unit {0}

-- its program in the high form, and what became in it of the source's functions, markers and loops
pub record IsMade (source : List ℕ) (made : Carried) : Type 0 where
  pub names : List (List ℕ)
  pub program : Program
  pub facts : Facts
  pub is_source : IsSource source names program facts
  pub planned : program_of made.program ≡ program_planned program facts (main_of program names)
  pub listed : listing_of made.copies ≡ planned_listing program facts

-- what it means on an input
pub record IsMeant (source input : List ℕ) (run : SourceRun) : Type 0 where
  pub names : List (List ℕ)
  pub program : Program
  pub facts : Facts
  pub is_source : IsSource source names program facts
  pub meant : run ≡ meaning program names facts input
