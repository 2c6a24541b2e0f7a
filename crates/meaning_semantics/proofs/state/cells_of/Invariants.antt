use Rattle.std.proofs.Common.{◌≡◌, map, take}
use Rattle.meaning_semantics.specs.Runs.{elements_of}
use Rattle.meaning_semantics.proofs.state.cells_of.Given as goal

abbrev pub invariant-loop-variable : goal.invariant-loop-variable
invariant-loop-variable l = l.objects.items ≡ map elements_of (take l.variable-index l.variables)
