use Rattle.compile_capacity.proofs.Sizes.{limited_fit}
use Rattle.compile_capacity.proofs.laws.limited_programs_fit.Goals as goal

pub returns : goal.returns
returns c = λ p q a limited keeps few. limited_fit p q a limited keeps few
