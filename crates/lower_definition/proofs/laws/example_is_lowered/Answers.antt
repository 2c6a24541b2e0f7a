use Rattle.std.proofs.Common.{◌≡◌, refl}
use Rattle.lower_definition.specs.Operators.{divisor_exponent}
use Rattle.lower_definition.specs.Example.{example, example_lowered}
use Rattle.lower_definition.specs.Programs.{is_small, lowered}
use Rattle.lower_definition.proofs.laws.example_is_lowered.Goals as goal

lowers : lowered example ≡ example_lowered
unfolding divisor_exponent is_small
lowers = refl

pub returns : goal.returns
returns c = lowers
