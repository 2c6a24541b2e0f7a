use Rattle.asm_backs.proofs.LatchLemmas.{latch_counted}
use Rattle.asm_backs.proofs.laws.latches_are_counted.Goals as goal

pub returns : goal.returns
returns c = λ g l main image claims s here sys unit x conserved f k i r. latch_counted g l main image claims s here sys unit x conserved f k i r
