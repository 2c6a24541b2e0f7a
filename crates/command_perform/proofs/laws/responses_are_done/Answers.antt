use Rattle.std.proofs.Common.{refl}
use Rattle.command_perform.proofs.RespondRuns.{respond_ends, runs_end}
use Rattle.command_perform.proofs.laws.responses_are_done.Goals as goal

pub returns : goal.returns
returns c = record {
  done = λ asked old p. respond_ends asked old.files old refl p;
  runs = runs_end;
}
