use Rattle.std.proofs.Common.{◌-◌, length}
use Rattle.rv_core.specs.Table.{table_of}
use Rattle.path_enum.specs.States.{IsGoing}
use Rattle.path_enum.proofs.searching.search.Given as goal

abbrev pub invariant-rounds : goal.invariant-rounds
invariant-rounds l = IsGoing (table_of l.searched.costs.now) l.searched.system.now l.searched.shapes.now l.searched.spans.now l.state

abbrev pub decreases-rounds : goal.decreases-rounds
decreases-rounds l = 200 - length l.state.columns.items
