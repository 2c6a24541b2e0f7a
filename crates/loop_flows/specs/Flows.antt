-- The flow of a function: one pass from where it starts to the ends, then for each loop, the outermost first, a pass of its further turns from the header to the jump back.
use Rattle.std.specs.Prelude.{◌≡◌, ◌≢◌, ℕ, ◌+◌, ◌*◌, ◌==◌, ◌<◌, ◌≤◌, List, [], ◌∷◌, Bool, true, slice_set, if◌then◌else◌}
use Rattle.std.proofs.Math.ListN.{replicate}
use Rattle.loop_walks.specs.declared.step.Step.{Step}
use Rattle.loop_walks.specs.Rows.{Each}
use Rattle.loop_flows.specs.Passes.{amount_at, spread, departed, arrived}
use Rattle.loop_flows.specs.Hands.{AreOpen}

-- the further turns of a loop: its header and jump back, the chosen steps, the places from which they lead to the jump back, and how many there are for each start
pub record Turning : Type 0 where
  pub header : ℕ
  pub back : ℕ
  pub chosen : Step → Bool
  pub opened : ℕ → Bool
  pub further : ℕ

-- so much at a place of n, and at the place behind all, and nothing elsewhere
abbrev pub only_at : ℕ → ℕ → ℕ → List ℕ
only_at n a u = slice_set (replicate (n + 1) 0) a u

-- counts of two passes together
abbrev pub together : List ℕ → List ℕ → List ℕ
together [] ys = []
together (x ∷ xs) [] = []
together (x ∷ xs) (y ∷ ys) = (x + y) ∷ together xs ys

-- how often a loop turns again, where its header has been visited so often
abbrev pub turns_of : List Step → List ℕ → Turning → ℕ
turns_of ms counts t = t.further * departed ms counts t.header

abbrev pub turn_counts : ℕ → List Step → List ℕ → Turning → List ℕ
turn_counts n ms counts t = spread t.chosen (only_at n t.header (turns_of ms counts t)) ms

-- how often each step is made, with the turns of all loops
abbrev pub counts_of : ℕ → List Step → List ℕ → List Turning → List ℕ
counts_of n ms counts [] = counts
counts_of n ms counts (t ∷ ts) = counts_of n ms (together counts (turn_counts n ms counts t)) ts

-- and how often each jump back
abbrev pub backs_of : ℕ → List Step → List ℕ → List Turning → List ℕ
backs_of n ms counts [] = []
backs_of n ms counts (t ∷ ts) = turns_of ms counts t ∷ backs_of n ms (together counts (turn_counts n ms counts t)) ts

-- the jumps back from a place, and to it

abbrev pub backs_from : List Turning → List ℕ → ℕ → ℕ
backs_from [] bs a = 0
backs_from (t ∷ ts) [] a = 0
backs_from (t ∷ ts) (b ∷ bs) a = (if t.back == a then b else 0) + backs_from ts bs a

abbrev pub backs_to : List Turning → List ℕ → ℕ → ℕ
backs_to [] bs a = 0
backs_to (t ∷ ts) [] a = 0
backs_to (t ∷ ts) (b ∷ bs) a = (if t.header == a then b else 0) + backs_to ts bs a

-- a turn can be made: from the header chosen steps go to the jump back, and none begins before the header
pub record CanTurn (n : ℕ) (ms : List Step) (t : Turning) : Type 0 where
  pub places : (t.header ≤ n) × (t.back ≤ n)
  pub apart : t.back ≢ t.header
  pub leads : AreOpen t.chosen ms (λ a. t.opened a ≡ true) t.back
  pub starts : t.opened t.header ≡ true
  pub none_before : Each (λ m. t.chosen m ≡ true → t.header ≤ m.at) ms

abbrev pub HeadersBehind : ℕ → List Turning → Type 0
HeadersBehind a [] = Unit {0}
HeadersBehind a (t ∷ ts) = (a < t.header) × HeadersBehind a ts

-- loops that turn only where they can, ascending by their headers
abbrev pub CanAllTurn : ℕ → List Step → List Turning → Type 0
CanAllTurn n ms [] = Unit {0}
CanAllTurn n ms (t ∷ ts) = CanTurn n ms t × HeadersBehind t.header ts × CanAllTurn n ms ts

-- what comes to a place leaves it
abbrev pub IsConservedAt : List Step → List Turning → List ℕ → List ℕ → List ℕ → ℕ → Type 0
IsConservedAt ms ts starts counts backs a = departed ms counts a + backs_from ts backs a ≡ amount_at starts a + (arrived ms counts a + backs_to ts backs a)

-- the header is visited once more for each start than the jump back is
abbrev pub AreTurned : List Step → List ℕ → List Turning → List ℕ → Type 0
AreTurned ms counts [] bs = Unit {0}
AreTurned ms counts (t ∷ ts) [] = ⊥
AreTurned ms counts (t ∷ ts) (b ∷ bs) = ((u : ℕ) × (departed ms counts t.header ≡ u + b) × (b ≡ t.further * u)) × AreTurned ms counts ts bs
