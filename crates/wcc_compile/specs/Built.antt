-- What is kept of a compilation, from the source to the report.
use Rattle.std.specs.Prelude.{◌≡◌, ℕ, List, [], length}
use Rattle.rv_core.specs.Table.{Table, table_of}
use Rattle.facts_definitions.specs.declared.facts.Facts.{Facts}
use Rattle.facts_sources.specs.Sources.{IsSourceBy}
use Rattle.types_tree.specs.Tree.{Program}
use Rattle.low_ir.specs.Placings.{placed_of}
use Rattle.claims_image.specs.Images.{laid_of}
use Rattle.spm_placement.specs.declared.item.Item.{Item}
use Rattle.spm_placement.specs.Sets.{AreBest}
use Rattle.promise_compiler.specs.declared.built.Options.{Options}
use Rattle.compile_placement.specs.Laws.{items_of}
use Rattle.compile_stages.specs.Made.{IsMade, high_of}
use Rattle.compile_stages.specs.Placed.{IsPlacedBy}
use Rattle.wcc_compile.specs.Lowered.{IsCodeOf}
use Rattle.wcc_compile.specs.Passes.{AreStages, passes, stages_of}
use Rattle.compile_report_law.specs.Reported.{IsReported}
use Rattle.wcc_compile.specs.declared.built.Built.{Built}

-- a source that is laid out, each step made of the one before it, with these options
pub record IsLaidOut (options : Options) (names : List (List ℕ)) (program : Program) (facts : Facts) (b : Built) : Type 0 where
  -- its plan, and what each pass makes of the program before it, with the copies of the source's marks and loops there
  pub stages : AreStages options names program facts (stages_of b.made.stages)
  -- no pass is left out
  pub all : length b.made.stages.before.items ≡ passes
  -- the code of the last program, by each pass of the low form
  pub code : IsCodeOf (high_of b.made) b.made.code
  -- the last program in the low form with its places, and the image of these, with its claims and lists
  pub made : IsMade names program facts b.made
  -- the report has the copy lines of these copies, the image's claims by the loops of the source, the restrictions over the copy lines, and
  -- the bound of the image's flow system under these claims
  pub reported : IsReported (table_of options.costs) names facts b.made b.report

-- what its functions and arrays gain in the scratchpad, by the flow that its certificate lists
abbrev pub gains_of : Table → Built → List Item
gains_of t b = items_of t b.report.cert.flow.parts (laid_of b.made.placement (placed_of b.made.code))

-- what lies in the scratchpad: no choice that fits gains more, by the flow of the same code with nothing there
pub record IsPlaced (options : Options) (names : List (List ℕ)) (program : Program) (facts : Facts) (b : Built) : Type 0 where
  -- the layout before, and the report on it
  pub first : Built
  pub is_first : IsLaidOut options names program facts first
  pub same : first.made.code ≡ b.made.code
  pub none : IsPlacedBy [] first.made
  -- the numbers of what is placed
  pub chosen : List ℕ
  pub best : AreBest (gains_of (table_of options.costs) first) options.spm chosen
  pub placed : IsPlacedBy chosen b.made

pub record IsBuilt (options : Options) (source : List ℕ) (b : Built) : Type 0 where
  -- the source's typed program, and its facts
  pub names : List (List ℕ)
  pub program : Program
  pub facts : Facts
  pub is_source : IsSourceBy options.derive source names program facts
  pub laid_out : IsLaidOut options names program facts b
  pub placed : IsPlaced options names program facts b
