-- What is left when all loops of a function are settled.
use Rattle.std.specs.Prelude.{◌≡◌, ℤ, List}
use Rattle.loop_walks.specs.declared.step.Step.{Step}
use Rattle.loop_walks.specs.declared.step.Loop.{Loop}
use Rattle.loop_walks.specs.declared.step.Pair.{Pair}
use Rattle.loop_walks.specs.Levels.{Level, levels, level_pairs}

-- the level at which all loops are settled, where a turn of each gains so much, and their multipliers
pub record AreLevels (low : ℤ) (ms : List Step) (v : Level) (ls : List Loop) (gs : List ℤ) (w : Level) (ps : List Pair) : Type 0 where
  pub level : w ≡ levels low ms v ls gs
  pub pairs : ps ≡ level_pairs low ms v ls gs
