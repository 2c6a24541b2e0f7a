-- When amounts come to one place: from each place that they come to, a chosen step goes on to another such place.
use Rattle.std.specs.Prelude.{◌≡◌, ◌⊎◌, ℕ, ◌<◌, ℤ, ◌+ℤ◌, ◌≤ℤ◌, List, [], ◌∷◌, Bool, true}
use Rattle.loop_walks.specs.declared.step.Step.{Step}
use Rattle.loop_walks.specs.Rows.{Each}
use Rattle.loop_flows.specs.Passes.{amount_at}

-- a chosen step begins at the place
abbrev pub HasChosen : (Step → Bool) → List Step → ℕ → Type 0
HasChosen chosen [] a = ⊥
HasChosen chosen (m ∷ ms) a = ((m.at ≡ a) × (chosen m ≡ true)) ⊎ HasChosen chosen ms a

-- places that are open on the way to a target, by chosen steps
pub record AreOpen (chosen : Step → Bool) (ms : List Step) (Open : ℕ → Type 0) (target : ℕ) : Type 0 where
  pub goes : Each (λ m. Open m.at → chosen m ≡ true → Open m.on) ms
  pub has : (a : ℕ) → Open a → (a ≡ target) ⊎ HasChosen chosen ms a

-- what is somewhere is at an open place
abbrev pub StandsOpen : List ℕ → (ℕ → Type 0) → Type 0
StandsOpen us Open = (a : ℕ) → 0 < amount_at us a → Open a

-- a step that is made costs all that the worth falls
abbrev pub AreTight : (Step → ℤ) → (ℕ → ℤ) → List Step → List ℕ → Type 0
AreTight price p [] us = Unit {0}
AreTight price p (m ∷ ms) [] = Unit {0}
AreTight price p (m ∷ ms) (u ∷ us) = (0 < u → p m.at ≡ (price m +ℤ p m.on)) × AreTight price p ms us

-- what is somewhere is where two worths are one
abbrev pub Squeezed : (ℕ → ℤ) → (ℕ → ℤ) → List ℕ → Type 0
Squeezed p q us = (a : ℕ) → 0 < amount_at us a → p a ≡ q a

-- a step costs no more than the first worth falls, which is no less where it goes than the second; and a chosen step costs all that the second falls, at no greater cost
abbrev pub IsSqueezing : (Step → Bool) → (Step → ℤ) → (ℕ → ℤ) → (Step → ℤ) → (ℕ → ℤ) → Step → Type 0
IsSqueezing chosen price p cost q m = ((price m +ℤ p m.on) ≤ℤ p m.at) × (q m.on ≤ℤ p m.on) × (chosen m ≡ true → (q m.at ≡ (cost m +ℤ q m.on)) × (cost m ≤ℤ price m))
