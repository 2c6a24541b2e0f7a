use Rattle.compile_capacity.proofs.Light.{source_light}
use Rattle.compile_capacity.proofs.laws.all_are_light.Goals as goal

pub returns : goal.returns
returns c = λ source names facts p q are small keeps. source_light source names facts p q are small keeps
