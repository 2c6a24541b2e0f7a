use Rattle.lower_program.proofs.Following.{follows}
use Rattle.lower_program.proofs.laws.statements_are_followed.Goals as goal

pub returns : goal.returns
returns c = λ q at act call s is_place sound. follows q at is_place act call s sound
