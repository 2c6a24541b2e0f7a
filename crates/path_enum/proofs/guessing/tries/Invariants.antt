use Rattle.std.proofs.Common.{◌≤◌}
use Rattle.rv_core.specs.Table.{table_of}
use Rattle.path_enum.specs.Guessing.{AreGuesses}
use Rattle.path_enum.proofs.guessing.tries.Given as goal

abbrev pub invariant-loop-off : goal.invariant-loop-off
invariant-loop-off l = AreGuesses (table_of l.searched.costs.now) l.searched.system.now l.searched.shapes.now l.searched.spans.now l.guesses × (l.guesses.least.cycles ≤ l.fn.guesses.least.cycles)
