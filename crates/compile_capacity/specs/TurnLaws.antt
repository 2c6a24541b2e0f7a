-- The loops of a source can be turned as often as they have to, and so can those of what it becomes.
use Rattle.std.specs.Prelude.{ℕ, ◌*◌, ◌^◌, ◌<◌, ◌≤◌, List, All}
use Rattle.facts_definitions.specs.FlowFacts.{AreFacts}
use Rattle.facts_definitions.specs.declared.facts.Facts.{Facts}
use Rattle.types_tree.specs.Tree as c
use Rattle.high_ir.specs.Formed.{IsHigh}
use Rattle.high_ir.specs.Standing.{Bounded}
use Rattle.high_ir.specs.Tree as high
use Rattle.high_ir.specs.Weight.{weight as high_weight}
use Rattle.high_pass.specs.Carries.{Behaviour, Carries}
use Rattle.high_pass.specs.Listing.{Listing}
use Rattle.plan_carried.specs.Sources.{source_behaviour}
use Rattle.plan_formed.specs.Checked.{IsChecked}
use Rattle.low_ir.specs.Code.{Low}
use Rattle.low_ir.specs.Places.{Assignment, placed}
use Rattle.low_ir.specs.Room.{weight}
use Rattle.lower_law.specs.Programs.{KeepsProgram}
use Rattle.compile_capacity.specs.Turns.{IsKeepable, HighTurns, LowTurns}

-- a source has few loops, so their numbers are small
abbrev pub SourcesHaveFewLoops : Type 0
SourcesHaveFewLoops = (names : List (List ℕ)) (program : c.Program) (facts : Facts) → IsChecked names program facts → All (λ (l : Bounded). l.id < 2 ^ 26) (source_behaviour program names facts).loops

-- the bounds that a source has are derived, written or those of fillings
abbrev pub SourcesTurn : Type 0
SourcesTurn = (source : c.Program) (names : List (List ℕ)) (facts : Facts) → AreFacts source names facts → All IsKeepable (source_behaviour source names facts).loops

-- whatever factors passes split loops by
abbrev pub CarriedTurn : Type 0
CarriedTurn = (old : Behaviour) (p : high.Program) (c : Listing) → Carries old p c → IsHigh p → All IsKeepable old.loops → HighTurns p

abbrev pub LoweredTurn : Type 0
LoweredTurn = (p : high.Program) (q : Low) → KeepsProgram p q → HighTurns p → LowTurns q

abbrev pub PlacedTurn : Type 0
PlacedTurn = (a : Assignment) (q : Low) → LowTurns q → LowTurns (placed a q)

-- from a source to a low program
abbrev pub AllTurn : Type 0
AllTurn =
    (source : c.Program) (names : List (List ℕ)) (facts : Facts) (p : high.Program) (c : Listing) (q : Low) → AreFacts source names facts → Carries (source_behaviour source names facts) p c → IsHigh p → KeepsProgram p q → LowTurns q

-- and what its facts allow a source to execute leaves room for the numbers of a search
abbrev pub AllAreLight : Type 0
AllAreLight = (source : c.Program) (names : List (List ℕ)) (facts : Facts) (p : high.Program) (q : Low) → AreFacts source names facts → high_weight p ≤ 16 * facts.most → KeepsProgram p q → 4000 * weight q < 2 ^ 60
