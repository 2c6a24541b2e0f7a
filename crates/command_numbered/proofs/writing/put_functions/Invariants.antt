use Rattle.std.proofs.Common.{◌≡◌, ◌++◌}
use Rattle.command_numbered.specs.Text.{function_text, texts}
use Rattle.command_numbered.proofs.writing.put_functions.Given as goal

abbrev pub invariant-loop-i : goal.invariant-loop-i
invariant-loop-i l = l.text.items ≡ l.fn.text.items ++ texts function_text l.i
