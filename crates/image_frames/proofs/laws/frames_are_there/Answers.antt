use Rattle.asm_program.specs.Numbers.{ram}
use Rattle.image_frames.proofs.FrameLemmas.{ends, frames_count}
use Rattle.image_frames.proofs.laws.frames_are_there.Goals as goal

pub returns-clause-count : goal.returns-clause-count
returns-clause-count c = λ pl p. frames_count p ram 0 p.functions

pub returns-clause-ram : goal.returns-clause-ram
returns-clause-ram c = λ p. ends p ram 0 p.functions
