use Rattle.std.proofs.Common.{refl}
use Rattle.command_perform.proofs.CompileRuns.{compilable_ends, compiled_holds, refused_ends}
use Rattle.command_perform.proofs.laws.compilation_is_done.Goals as goal

pub returns : goal.returns
returns c = record {
  compilable = λ asked old p. compilable_ends asked old.files old refl p;
  refused = λ asked old s p. refused_ends asked s old.files old refl p;
  holds = compiled_holds;
}
