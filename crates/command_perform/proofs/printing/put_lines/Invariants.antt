use Rattle.std.proofs.Common.{drop}
use Rattle.command_perform.specs.Lines.{all_shown}
use Rattle.command_perform.specs.Files.{Showing}
use Rattle.command_perform.proofs.printing.put_lines.Given as goal

abbrev pub invariant-lines : goal.invariant-lines
invariant-lines g l = Showing (g.O.Sink.state l.fn.out) (g.O.Sink.state l.out) (all_shown l.lines) (all_shown (drop l.part-index l.lines))
