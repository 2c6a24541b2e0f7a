-- From a source to a low program.
use Rattle.std.proofs.Common.{ℕ, List, All}
use Rattle.std.proofs.lemmas.List.Elements.{All-map}
use Rattle.facts_definitions.specs.FlowFacts.{AreFacts}
use Rattle.facts_definitions.specs.declared.facts.Facts.{Facts}
use Rattle.facts_loops.specs.Loops.{source_loops}
use Rattle.types_tree.specs.Tree as c
use Rattle.plan_carried.specs.Sources.{source_behaviour}
use Rattle.high_ir.specs.Formed.{IsHigh}
use Rattle.high_ir.specs.Tree as high
use Rattle.plan_carried.specs.Loops.{bounded}
use Rattle.high_pass.specs.Carries.{Carries}
use Rattle.high_pass.specs.Listing.{Listing}
use Rattle.low_ir.specs.Code.{Low}
use Rattle.lower_law.specs.Programs.{KeepsProgram}
use Rattle.compile_capacity.specs.Turns.{IsKeepable, LowTurns}
use Rattle.compile_capacity.proofs.Carrying.{carried_kept}
use Rattle.compile_capacity.proofs.Loops.{functions_kept}
use Rattle.compile_capacity.proofs.Lowering.{lowered_kept}
use Rattle.compile_capacity.proofs.Ordered.{facts_ordered}

pub source_kept : (source : c.Program) (names : List (List ℕ)) (facts : Facts) → AreFacts source names facts → All IsKeepable (source_behaviour source names facts).loops
source_kept source names facts are = All-map IsKeepable bounded (source_loops source facts) (functions_kept facts.bounds (facts_ordered source names facts are) source.functions)

pub all_kept : (source : c.Program) (names : List (List ℕ)) (facts : Facts) (p : high.Program) (made : Listing) (q : Low) → AreFacts source names facts → Carries (source_behaviour source names facts) p made → IsHigh p → KeepsProgram p q → LowTurns q
all_kept source names facts p made q are carries is_high keeps = lowered_kept p q keeps (carried_kept (source_behaviour source names facts) p made carries is_high (source_kept source names facts are))
