use Rattle.std.proofs.Common.{◌≡◌, ◌++◌, drop}
use Rattle.command_perform.specs.Responding.{response_lines}
use Rattle.command_perform.proofs.respond.response_text.Given as goal

abbrev pub invariant-loop-i : goal.invariant-loop-i
invariant-loop-i l = l.text.items ++ response_lines (drop l.i l.entries) (drop l.i l.found) ≡ response_lines l.entries l.found
