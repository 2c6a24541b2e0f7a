use Rattle.asm_backs.proofs.BackLemmas.{latch_visited}
use Rattle.asm_backs.proofs.laws.latches_are_visited.Goals as goal

pub returns : goal.returns
returns c = λ g l main image claims s here sys loadable t input n ended f k i r. latch_visited g l main image claims s here sys loadable t input n ended f k i r
