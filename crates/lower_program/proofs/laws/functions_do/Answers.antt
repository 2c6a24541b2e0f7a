use Rattle.lower_program.proofs.Functions.{function_does}
use Rattle.lower_program.proofs.laws.functions_do.Goals as goal

pub returns : goal.returns
returns c = λ q call number scope f h stands. function_does q call number scope f h stands.there stands.variables stands.claims stands.sound
