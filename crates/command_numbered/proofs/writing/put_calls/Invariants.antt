use Rattle.std.proofs.Common.{◌≡◌, ◌++◌}
use Rattle.command_numbered.specs.Text.{call_text, texts}
use Rattle.command_numbered.proofs.writing.put_calls.Given as goal

abbrev pub invariant-loop-i : goal.invariant-loop-i
invariant-loop-i l = l.text.items ≡ l.fn.text.items ++ texts call_text l.i
