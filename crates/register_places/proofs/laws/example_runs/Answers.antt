use Rattle.std.proofs.Common.{refl}
use Rattle.rv_core.specs.Arithmetic.{alu_value, holds}
use Rattle.register_places.proofs.laws.example_runs.Goals as goal

pub returns-clause-low : goal.returns-clause-low
unfolding alu_value holds
returns-clause-low c = refl

pub returns-clause-placed : goal.returns-clause-placed
unfolding alu_value holds
returns-clause-placed c = refl

pub returns-clause-kept : goal.returns-clause-kept
unfolding alu_value holds
returns-clause-kept c = refl

pub returns-clause-shared : goal.returns-clause-shared
unfolding alu_value holds
returns-clause-shared c = refl
