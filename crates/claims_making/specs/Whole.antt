-- Where the arrays of a laid program lie, and what its items touch.
use Rattle.std.specs.Prelude.{◌≡◌, ℕ, List}
use Rattle.rv_core.specs.declared.regions.Region.{Region}
use Rattle.claims_definition.specs.Listed.{Laid}
use Rattle.claims_lists.specs.declared.laying.Laying.{Laying}
use Rattle.claims_lists.specs.Lists.{IsOf}
use Rattle.claims_touches.specs.declared.touch.Touch as names
use Rattle.claims_touches.specs.Named.{AreTouches}
use Rattle.claims_making.specs.Sights.{region_in}

-- the laid program that has this code and layout, whose arrays lie in these regions, and whose items touch this
pub record IsWhole (y : Laying) (areas : List Region) (touched : List (List (List names.Touch))) (l : Laid) : Type 0 where
  pub is : IsOf y l
  pub regions : (o : ℕ) → l.regions o ≡ region_in areas o
  pub touches : AreTouches y.code.now l.memory touched
