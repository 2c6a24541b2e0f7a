-- A function beside the loose walk: fewer steps, at prices that are near the loose ones, and loops that turn no more often.
use Rattle.std.specs.Prelude.{◌≡◌, ◌≢◌, ◌⊎◌, ℕ, ◌<◌, ◌≤◌, ℤ, ◌≤ℤ◌, List, [], ◌∷◌, Contains, Some}
use Rattle.loop_walks.specs.declared.step.Step.{Step}
use Rattle.loop_walks.specs.declared.step.Loop.{Loop}
use Rattle.loop_walks.specs.Walks.{worth_at, range_steps}
use Rattle.loop_walks.specs.Levels.{Level}
use Rattle.loop_walks.specs.Rows.{Each}
use Rattle.loop_ranges.specs.Near.{IsNear}
use Rattle.loop_ranges.specs.Loose.{PaysLoosely, AreLooseTurns}
use Rattle.loop_ranges.specs.LooseWalk.{loose_level, loose_of, loose_turns, IsLooseWalk}

-- one of the loose steps goes the same way
pub record HasLoose (low : ℤ) (ks : List Step) (m : Step) : Type 0 where
  pub step : Step
  pub among : Contains ks step
  pub at : step.at ≡ m.at
  pub on : step.on ≡ m.on
  pub price : IsNear low m.price step.price

pub record IsBesideLoop (low : ℤ) (ms ks : List Step) (l k : Loop) : Type 0 where
  pub range : (k.header ≡ l.header) × (k.end ≡ l.end)
  pub back : (b : ℕ) → l.back ≡ Some b → k.back ≡ Some b
  pub price : IsNear low l.price k.price
  pub max : l.max ≤ k.max
  pub steps : Each (HasLoose low (range_steps k ks)) (range_steps l ms)
  pub bounds : ((0 < l.max) × (l.min ≤ l.max)) ⊎ Each (λ m. m.at ≢ l.header) ms

abbrev pub AreBesideLoops : ℤ → List Step → List Step → List Loop → List Loop → Type 0
AreBesideLoops low ms ks [] js = Unit {0}
AreBesideLoops low ms ks (l ∷ ls) [] = ⊥
AreBesideLoops low ms ks (l ∷ ls) (j ∷ js) = IsBesideLoop low ms ks l j × AreBesideLoops low ms ks ls js

-- the loose walk gives loose worths, of which most is a bound, and loose turns of the function beside it
abbrev pub LooseWalkPays : Type 0
LooseWalkPays = (low most : ℤ) (n : ℕ) (ms : List Step) (ls : List Loop) (ks : List Step) (v : Level) (js : List Loop) → IsLooseWalk n ks v js → Each (HasLoose low ks) ms → AreBesideLoops low ms ks ls js →
    ((a : ℕ) → worth_at (loose_level ks v js).worths a ≤ℤ most) →
    Each (PaysLoosely low (loose_of (loose_level ks v js))) ms × AreLooseTurns low most (loose_of (loose_level ks v js)) ms ls (loose_turns ks v.weights js)
