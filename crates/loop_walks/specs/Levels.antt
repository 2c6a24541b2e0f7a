-- The levels of a nest: gains and weights from the inmost loop out, one walk to the ends, and the loops again from the outermost in. The loops ascend by their headers, so that a loop stands before those in it.
use Rattle.std.specs.Prelude.{ℕ, ◌==◌, ℤ, ◌+ℤ◌, List, [], ◌∷◌, Option, Some, None, slice_set, if◌then◌else◌}
use Rattle.loop_walks.specs.declared.step.Step.{Step}
use Rattle.loop_walks.specs.declared.step.Loop.{Loop}
use Rattle.loop_walks.specs.declared.step.Pair.{Pair}
use Rattle.loop_walks.specs.Walks.{larger, worth_at, relaxed, head_steps, body_steps}
use Rattle.loop_walks.specs.Turns.{gain}
use Rattle.loop_walks.specs.Multipliers.{first_weight, pair_of, weight_of, back_worth}

-- the weights of all headers, the inmost loops' first
abbrev pub weighed : ℤ → List Step → List ℤ → List Loop → List ℤ
weighed low ms weights [] = weights
weighed low ms weights (l ∷ ls) = let ws = weighed low ms weights ls in slice_set ws l.header (first_weight low l (gain low ws l ms))

-- what a turn of each loop gains
abbrev pub gains : ℤ → List Step → List ℤ → List Loop → List ℤ
gains low ms weights [] = []
gains low ms weights (l ∷ ls) = gain low (weighed low ms weights ls) l ms ∷ gains low ms weights ls

-- what a step is worth without a weight
abbrev pub onward_by : List ℤ → Step → ℤ
onward_by ws m = m.price +ℤ worth_at ws m.on

-- the greatest worth of these steps without any weight, and no less than a block
abbrev pub onward : ℤ → List ℤ → List Step → ℤ
onward low ws [] = low
onward low ws (m ∷ ms) = larger (onward_by ws m) (onward low ws ms)

-- worths and weights of all places
pub record Level : Type 0 where
  pub worths : List ℤ
  pub weights : List ℤ

abbrev pub level_of : List ℤ → List ℤ → Level
level_of worths weights = record { worths = worths; weights = weights }

-- the multipliers of a loop at its level
abbrev pub level_pair : ℤ → List Step → List ℤ → Loop → ℤ → Pair
level_pair low ms ws l g = pair_of l g (onward low ws (head_steps l ms)) (worth_at ws l.header)

-- the jump back, if it isn't the header, is worth so much at least
abbrev pub raised : List ℤ → Loop → Option ℕ → ℤ → List ℤ
raised ws l None z = ws
raised ws l (Some b) z = if b == l.header then ws else slice_set ws b (larger (worth_at ws b) z)

abbrev pub new_weights : Level → Loop → Pair → List ℤ
new_weights v l p = slice_set v.weights l.header (weight_of l p)

abbrev pub new_start : Level → Loop → Pair → List ℤ
new_start v l p = raised v.worths l l.back (back_worth l (worth_at v.worths l.header) p)

abbrev pub level_by : List Step → Level → Loop → Pair → Level
level_by ms v l p = record { worths = relaxed (new_weights v l p) (new_start v l p) (body_steps l ms); weights = new_weights v l p }

-- a loop is settled, whose turn gains so much
abbrev pub level_in : ℤ → List Step → Level → Loop → ℤ → Level
level_in low ms v l g = level_by ms v l (level_pair low ms v.worths l g)

-- all loops are settled, the outermost first
abbrev pub levels : ℤ → List Step → Level → List Loop → List ℤ → Level
levels low ms v [] gs = v
levels low ms v (l ∷ ls) [] = v
levels low ms v (l ∷ ls) (g ∷ gs) = levels low ms (level_in low ms v l g) ls gs

abbrev pub level_pairs : ℤ → List Step → Level → List Loop → List ℤ → List Pair
level_pairs low ms v [] gs = []
level_pairs low ms v (l ∷ ls) [] = []
level_pairs low ms v (l ∷ ls) (g ∷ gs) = level_pair low ms v.worths l g ∷ level_pairs low ms (level_in low ms v l g) ls gs

-- the level at which no loop is settled: the weights of all loops, and one walk to the ends
abbrev pub ground : ℤ → List Step → Level → List Loop → Level
ground low ms v ls =
    let weights = weighed low ms v.weights ls in
    record { worths = relaxed weights v.worths ms; weights = weights }

-- the worths and weights of all places of a function, from those before, low being that of a block
abbrev pub settled : ℤ → List Step → Level → List Loop → Level
settled low ms v ls = levels low ms (ground low ms v ls) ls (gains low ms v.weights ls)

-- the multipliers of its loops
abbrev pub settled_pairs : ℤ → List Step → Level → List Loop → List Pair
settled_pairs low ms v ls = level_pairs low ms (ground low ms v ls) ls (gains low ms v.weights ls)
