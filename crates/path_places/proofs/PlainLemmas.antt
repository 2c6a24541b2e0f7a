-- A place that is no header of a function's loops keeps its weight.
use Rattle.std.proofs.Common.{◌≡◌, ◌≢◌, ℕ, ℤ, refl, ◌∙◌, List, [], ◌∷◌}
use Rattle.loop_walks.specs.declared.step.Step.{Step}
use Rattle.loop_walks.specs.declared.step.Loop.{Loop}
use Rattle.loop_walks.specs.Walks.{worth_at}
use Rattle.loop_walks.specs.Turns.{gain}
use Rattle.loop_walks.specs.Multipliers.{first_weight, weight_of}
use Rattle.loop_walks.specs.Levels.{weighed, gains, Level, level_pair, level_by, levels, ground, settled}
use Rattle.loop_walks.proofs.LevelLemmas.{set_other}

abbrev pub NoHeader : ℕ → List Loop → Type 0
NoHeader a [] = Unit {0}
NoHeader a (l ∷ ls) = (a ≢ l.header) × NoHeader a ls

module _ (low : ℤ) (ms : List Step) (a : ℕ) where
  weighed_plain : (weights : List ℤ) (ls : List Loop) → NoHeader a ls → worth_at (weighed low ms weights ls) a ≡ worth_at weights a
  weighed_plain weights [] h = refl
  weighed_plain weights (l ∷ ls) h = set_other (weighed low ms weights ls) l.header a (first_weight low l (gain low (weighed low ms weights ls) l ms)) h.0 ∙ weighed_plain weights ls h.1

  levels_plain : (v : Level) (ls : List Loop) (gs : List ℤ) → NoHeader a ls → worth_at (levels low ms v ls gs).weights a ≡ worth_at v.weights a
  levels_plain v [] gs h = refl
  levels_plain v (l ∷ ls) [] h = refl
  levels_plain v (l ∷ ls) (g ∷ gs) h =
      levels_plain (level_by ms v l (level_pair low ms v.worths l g)) ls gs h.1 ∙ set_other v.weights l.header a (weight_of l (level_pair low ms v.worths l g)) h.0

  pub settled_plain : (v : Level) (ls : List Loop) → NoHeader a ls → worth_at (settled low ms v ls).weights a ≡ worth_at v.weights a
  settled_plain v ls h = levels_plain (ground low ms v ls) ls (gains low ms v.weights ls) h ∙ weighed_plain v.weights ls h
