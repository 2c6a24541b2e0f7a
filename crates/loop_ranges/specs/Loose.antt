-- Loose worths of the places of a function, and loose turns of its loops: numbers that pay for each step, at prices that are at least as large in size.
use Rattle.std.specs.Prelude.{◌≡◌, ◌≢◌, ◌⊎◌, ℕ, ◌==◌, ◌<◌, ◌≤◌, ℤ, pos, ◌+ℤ◌, ◌-ℤ◌, ◌*ℤ◌, ◌≤ℤ◌, List, [], ◌∷◌, Option, Some, if◌then◌else◌}
use Rattle.loop_walks.specs.declared.step.Step.{Step}
use Rattle.loop_walks.specs.declared.step.Loop.{Loop}
use Rattle.loop_walks.specs.Walks.{range_steps}
use Rattle.loop_walks.specs.Rows.{Each}
use Rattle.loop_ranges.specs.Near.{IsNear, PaysFurther, IsAtMost, IsThere}

-- of each place a weight and what is still to come
pub record Loose : Type 0 where
  pub weight : ℕ → ℤ
  pub worth : ℕ → ℤ

-- a step has a loose price, that with the weight of its place and what is still to come behind it is no more than what is to come at its place
pub record PaysLoosely (low : ℤ) (x : Loose) (m : Step) : Type 0 where
  pub price : ℤ
  pub near : IsNear low m.price price
  pub positive : pos 0 ≤ℤ (price +ℤ x.weight m.at)
  pub paid : ((price +ℤ x.weight m.at) +ℤ x.worth m.on) ≤ℤ x.worth m.at

-- of a loop what a turn gains at most, the ways to its jump back, and the price of that
pub record Turn : Type 0 where
  pub gain : ℤ
  pub price : ℤ
  pub way : ℕ → Option ℤ

-- a turn has the weights of other headers alone
abbrev pub turn_weight : Loose → Loop → ℕ → ℤ
turn_weight x l a = if a == l.header then pos 0 else x.weight a

-- a step has a loose price, that with the way behind it, if that is in the range, makes a way that is no longer than that from its place
pub record TurnsLoosely (low : ℤ) (x : Loose) (l : Loop) (t : Turn) (m : Step) : Type 0 where
  pub price : ℤ
  pub near : IsNear low m.price price
  pub positive : pos 0 ≤ℤ (price +ℤ turn_weight x l m.at)
  pub further : m.on < l.end → PaysFurther (price +ℤ turn_weight x l m.at) (t.way m.on) (t.way m.at)

-- most is a bound of all loose worths
pub record IsLooseTurn (low most : ℤ) (x : Loose) (ms : List Step) (l : Loop) (t : Turn) : Type 0 where
  pub back : (b : ℕ) → l.back ≡ Some b → IsThere (t.way b)
  pub steps : Each (TurnsLoosely low x l t) (range_steps l ms)
  pub price : IsNear low l.price t.price
  pub costs : pos 0 ≤ℤ t.price
  pub positive : pos 0 ≤ℤ t.gain
  pub turn : IsAtMost (t.way l.header) t.price t.gain
  pub far : (a : ℕ) → IsAtMost (t.way a) t.price most
  pub small : (t.price ≤ℤ most) × (t.gain ≤ℤ most)
  pub turns : (pos l.max *ℤ t.gain) ≤ℤ most
  pub weight : ((pos l.max -ℤ pos 1) *ℤ t.gain) ≤ℤ x.weight l.header
  pub bounds : ((0 < l.max) × (l.min ≤ l.max)) ⊎ Each (λ m. m.at ≢ l.header) ms

abbrev pub AreLooseTurns : ℤ → ℤ → Loose → List Step → List Loop → List Turn → Type 0
AreLooseTurns low most x ms [] ts = Unit {0}
AreLooseTurns low most x ms (l ∷ ls) [] = ⊥
AreLooseTurns low most x ms (l ∷ ls) (t ∷ ts) = IsLooseTurn low most x ms l t × AreLooseTurns low most x ms ls ts
