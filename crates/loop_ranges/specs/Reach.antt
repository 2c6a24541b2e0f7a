-- How large the worths of a function get, by loose ones of all its steps and loops.
use Rattle.std.specs.Prelude.{◌≡◌, ℕ, zero, suc, ◌≤◌, ℤ, pos, ◌+ℤ◌, ◌-ℤ◌, ◌≤ℤ◌, ◌<ℤ◌, List, [], ◌∷◌, length, Bool, true}
use Rattle.loop_walks.specs.declared.step.Step.{Step}
use Rattle.loop_walks.specs.declared.step.Loop.{Loop}
use Rattle.loop_walks.specs.Walks.{worth_at}
use Rattle.loop_walks.specs.Levels.{Level, ground, settled}
use Rattle.loop_walks.specs.Rows.{AreSteps, Each, AreLoops}
use Rattle.loop_walks.specs.Laws.{IsBlank}
use Rattle.loop_ranges.specs.Near.{IsNear}
use Rattle.loop_ranges.specs.Loose.{Loose, PaysLoosely, Turn, AreLooseTurns}

-- the weight of a step's place is near the loose one
abbrev pub IsNearWeight : ℤ → Loose → List ℤ → Step → Type 0
IsNearWeight low x weights m = IsNear low (worth_at weights m.at) (x.weight m.at)

-- no loop has to start more often
abbrev pub StartBelow : ℕ → List Loop → Type 0
StartBelow q [] = Unit {0}
StartBelow q (l ∷ ls) = (l.min ≤ q) × StartBelow q ls

-- the steps and loops of a function, with loose numbers that pay for them: none is above most, a block is more than that, and no loop has to start more than q times
pub record IsLooseCode (low most : ℤ) (q n : ℕ) (x : Loose) (ms : List Step) (v : Level) (ls : List Loop) (ts : List Turn) : Type 0 where
  pub negative : low ≤ℤ pos 0
  pub positive : pos 0 ≤ℤ most
  pub apart : (most +ℤ low) <ℤ pos 0
  pub steps : AreSteps n ms
  pub loops : AreLoops n ms ls
  pub blank : IsBlank n v ls
  pub pays : Each (PaysLoosely low x) ms
  pub prices : Each (λ m. m.price ≤ℤ most) ms
  pub weights : Each (IsNearWeight low x v.weights) ms
  pub turns : AreLooseTurns low most x ms ls ts
  pub starts : StartBelow q ls

-- no jump back costs less
abbrev pub BacksAbove : ℤ → List Loop → Type 0
BacksAbove low [] = Unit {0}
BacksAbove low (l ∷ ls) = (low ≤ℤ l.price) × BacksAbove low ls

-- no worth is above
abbrev pub AreBelow : ℤ → List ℤ → Type 0
AreBelow bound ws = (a : ℕ) → worth_at ws a ≤ℤ bound

-- what is reached from a bound by so many loops
abbrev pub reach : ℤ → ℤ → ℕ → ℤ
reach step bound zero = bound
reach step bound (suc k) = reach step (bound +ℤ step) k

-- as long as no loop is settled, worths are near the loose ones at places that the steps don't leave, if they begin so
abbrev pub WorthsStayNear : Type 0
WorthsStayNear = (low most : ℤ) (q n : ℕ) (x : Loose) (ms : List Step) (v : Level) (ls : List Loop) (ts : List Turn) → IsLooseCode low most q n x ms v ls ts →
    (inside : ℕ → Bool) → Each (λ m. inside m.on ≡ true) ms → ((a : ℕ) → inside a ≡ true → IsNear low (worth_at v.worths a) (x.worth a)) →
    (a : ℕ) → inside a ≡ true → IsNear low (worth_at (ground low ms v ls).worths a) (x.worth a)

-- each loop that is settled adds at most twice the greatest loose number, a block and the most starts that it has to make
abbrev pub WorthsReach : Type 0
WorthsReach = (low most : ℤ) (q n : ℕ) (x : Loose) (ms : List Step) (v : Level) (ls : List Loop) (ts : List Turn) → IsLooseCode low most q n x ms v ls ts →
    (bound : ℤ) → low ≤ℤ bound → AreBelow bound (ground low ms v ls).worths → AreBelow (reach (((most +ℤ most) -ℤ low) +ℤ pos q) bound (length ls)) (settled low ms v ls).worths
