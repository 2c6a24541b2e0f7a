-- Steps and loops that fit, and what worths pay for.
use Rattle.std.specs.Prelude.{◌≡◌, ◌≢◌, ◌⊎◌, ℕ, ◌<◌, ◌≤◌, ℤ, pos, ◌+ℤ◌, ◌-ℤ◌, ◌≤ℤ◌, List, [], ◌∷◌, length, take, drop, Option, Some, None}
use Rattle.loop_walks.specs.declared.step.Step.{Step}
use Rattle.loop_walks.specs.declared.step.Loop.{Loop}
use Rattle.loop_walks.specs.declared.step.Pair.{Pair}
use Rattle.loop_walks.specs.Walks.{worth_at, cost, head_steps, body_steps}
use Rattle.loop_walks.specs.Multipliers.{weight_of, back_worth}
use Rattle.loop_walks.specs.Levels.{Level}

-- each step is one of n places, and goes on to a later one or to the place behind all
abbrev pub IsStep : ℕ → Step → Type 0
IsStep n m = (m.at < m.on) × (m.on ≤ n)

abbrev pub NotBefore : ℕ → List Step → Type 0
NotBefore a [] = Unit {0}
NotBefore a (m ∷ ms) = (a ≤ m.at) × NotBefore a ms

-- the steps of n places, ascending by where they begin
abbrev pub AreSteps : ℕ → List Step → Type 0
AreSteps n [] = Unit {0}
AreSteps n (m ∷ ms) = IsStep n m × NotBefore m.at ms × AreSteps n ms

abbrev pub Each : (Step → Type 0) → List Step → Type 0
Each P [] = Unit {0}
Each P (m ∷ ms) = P m × Each P ms

-- a step that goes to no place of the loop but the header
abbrev pub KeepsOut : Loop → Step → Type 0
KeepsOut l m = (m.on ≤ l.header) ⊎ (l.end ≤ m.on)

-- no step begins at the jump back, which is in the range
abbrev pub IsBack : Loop → List Step → Option ℕ → Type 0
IsBack l ms None = Unit {0}
IsBack l ms (Some b) = (l.header ≤ b) × (b < l.end) × Each (λ m. m.at ≢ b) ms

-- a loop over places and steps: the steps from outside go to its header alone
pub record IsLoopOf (n : ℕ) (ms : List Step) (l : Loop) : Type 0 where
  pub range : (l.header < l.end) × (l.end ≤ n)
  pub order : (l.head ≤ l.body) × (l.body ≤ l.rest) × (l.rest ≤ length ms)
  pub before : Each (KeepsOut l) (take l.head ms)
  pub heads : Each (λ m. m.at ≡ l.header) (head_steps l ms)
  pub body : Each (λ m. (l.header < m.at) × (m.at < l.end)) (body_steps l ms)
  pub behind : Each (KeepsOut l) (drop l.rest ms)
  pub others : Each (λ m. m.at ≢ l.header) (take l.head ms) × Each (λ m. m.at ≢ l.header) (drop l.rest ms)
  pub back : IsBack l ms l.back

abbrev pub HeadersAbove : ℕ → List Loop → Type 0
HeadersAbove a [] = Unit {0}
HeadersAbove a (l ∷ ls) = (a < l.header) × HeadersAbove a ls

-- loops that ascend by their headers
abbrev pub AreLoops : ℕ → List Step → List Loop → Type 0
AreLoops n ms [] = Unit {0}
AreLoops n ms (l ∷ ls) = IsLoopOf n ms l × HeadersAbove l.header ls × AreLoops n ms ls

-- a step costs no more than the worth falls along it
abbrev pub IsPaid : Level → Step → Type 0
IsPaid v m = (cost v.weights m +ℤ worth_at v.worths m.on) ≤ℤ worth_at v.worths m.at

abbrev pub ArePaid : Level → List Step → Type 0
ArePaid v ms = Each (IsPaid v) ms

-- so does the jump back, with the multipliers; where it is the header itself, its worth doesn't change
abbrev pub PaysBack : List ℤ → Loop → Pair → Option ℕ → Type 0
PaysBack ws l p None = Unit {0}
PaysBack ws l p (Some b) = (b ≡ l.header → l.price ≤ℤ (p.most -ℤ p.least)) × (b ≢ l.header → back_worth l (worth_at ws l.header) p ≤ℤ worth_at ws b)

-- a loop's multipliers aren't negative, they are the header's weight, and they pay its jump back
pub record IsSettled (v : Level) (l : Loop) (p : Pair) : Type 0 where
  pub least : pos 0 ≤ℤ p.least
  pub most : pos 0 ≤ℤ p.most
  pub weight : worth_at v.weights l.header ≡ weight_of l p
  pub back : PaysBack v.worths l p l.back

abbrev pub AreSettled : Level → List Loop → List Pair → Type 0
AreSettled v [] ps = Unit {0}
AreSettled v (l ∷ ls) [] = ⊥
AreSettled v (l ∷ ls) (p ∷ ps) = IsSettled v l p × AreSettled v ls ps

-- no header has a weight yet
abbrev pub HaveNone : List ℤ → List Loop → Type 0
HaveNone weights [] = Unit {0}
HaveNone weights (l ∷ ls) = (worth_at weights l.header ≡ pos 0) × HaveNone weights ls
