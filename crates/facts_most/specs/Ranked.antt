-- How many nodes functions execute at most, as far as they are known.
use Rattle.std.specs.Prelude.{◌≡◌, ◌<◌, ℕ, List, length}
use Rattle.std.proofs.Math.ListN.{get_or}
use Rattle.facts_definitions.specs.Most.{cut, most_of}
use Rattle.facts_definitions.specs.declared.facts.Bounds.{Bounds}
use Rattle.types_tree.specs.Tree.{Program}

-- those of lower ranks are right
pub record IsMostBelow (program : Program) (bounds : List Bounds) (ranks : List ℕ) (rank : ℕ) (most : List ℕ) : Type 0 where
  pub size : length most ≡ length program.functions
  pub right : (f : ℕ) → get_or ranks f 0 < rank → get_or most f 0 ≡ cut (most_of program bounds ranks f)
