-- What holds of each function of a typed program.
use Rattle.std.specs.Prelude.{ℕ, ◌≤◌, false, List, [], ◌∷◌}
use Rattle.types_tree.specs.Tree as c
use Rattle.plan_forms.specs.Programs.{body_of}
use Rattle.plan_forms.specs.Levels.{items_levels}
use Rattle.plan_formed.specs.Placed.{ItemsPlaced}

abbrev pub FunctionsPlaced : (markers : ℕ) → List c.Function → Type 0
FunctionsPlaced markers [] = Unit {0}
FunctionsPlaced markers (f ∷ rest) = ItemsPlaced markers false false (body_of f) × FunctionsPlaced markers rest

abbrev pub FunctionsShallow : (levels : ℕ) → List c.Function → Type 0
FunctionsShallow levels [] = Unit {0}
FunctionsShallow levels (f ∷ rest) = (items_levels (body_of f) ≤ levels) × FunctionsShallow levels rest
