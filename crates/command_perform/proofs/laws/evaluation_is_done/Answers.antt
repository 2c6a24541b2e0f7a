use Rattle.std.proofs.Common.{refl}
use Rattle.command_perform.proofs.Evaluations.{one_made, refusal_ends, run_ends}
use Rattle.command_perform.proofs.laws.evaluation_is_done.Goals as goal

pub returns : goal.returns
returns c = record {
  run = λ asked old run e. run_ends asked run old.files old refl e;
  refusal = λ asked old s e. refusal_ends asked s old.files old refl e;
  made = one_made;
}
