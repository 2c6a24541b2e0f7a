-- The bounds of loops are small enough for one start more.
use Rattle.std.proofs.Common.{ℕ, List, [], ◌∷◌, All}
use Rattle.std.proofs.lemmas.List.Elements.{All-cons, All-head, All-nil, All-tail}
use Rattle.facts_definitions.specs.FlowFacts.{AreFacts}
use Rattle.facts_definitions.specs.declared.facts.Bounds.{Bounds}
use Rattle.facts_definitions.specs.declared.facts.Facts.{Facts}
use Rattle.types_tree.specs.Tree.{Program}
use Rattle.types_rules.specs.Typed.{IsTypedTree}
use Rattle.make_statement.specs.Planned.{IsSmall}
use Rattle.plan_formed.specs.Small.{Small}
use Rattle.plan_formed.proofs.Bounds.{bounds_small}

each_small : (bounds : List Bounds) → All Small bounds → All IsSmall bounds
each_small [] h = All-nil IsSmall
each_small (b ∷ rest) h = let small = All-head Small b rest h in All-cons IsSmall b rest (record { min = small.0; max = small.1 }) (each_small rest (All-tail Small b rest h))

pub small_facts : (names : List (List ℕ)) (program : Program) (facts : Facts) → IsTypedTree names program → AreFacts program names facts → All IsSmall facts.bounds
small_facts names program facts tree are = each_small facts.bounds (bounds_small names program facts tree are)
