-- Lines in an order: each is in the relation with all behind it.
use Rattle.std.specs.Prelude.{List, [], ◌∷◌, All}

abbrev pub Pairs : {X : Type 0} → (X → X → Type 0) → List X → Type 0
Pairs R [] = Unit {0}
Pairs R (x ∷ xs) = All (R x) xs × Pairs R xs

-- lines in an order, each of which keeps to a bound that the next one has to pass
pub record IsOrdered {X : Type 0} (R : X → X → Type 0) (B : X → Type 0) (xs : List X) : Type 0 where
  pub pairs : Pairs R xs
  pub bound : All B xs
