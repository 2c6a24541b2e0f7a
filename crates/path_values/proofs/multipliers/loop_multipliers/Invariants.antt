use Rattle.std.proofs.Common.{◌≡◌, drop}
use Rattle.rv_core.specs.Table.{table_of}
use Rattle.path_values.specs.Owed.{owe_at, loops_by}
use Rattle.path_values.proofs.MultiplierLemmas.{append_of}
use Rattle.path_values.proofs.multipliers.loop_multipliers.Given as goal

abbrev pub invariant-loop-i : goal.invariant-loop-i
invariant-loop-i l =
    let owe = owe_at (table_of l.costs) l.system l.plain in
    append_of l.all.items (loops_by owe (drop l.i l.system.claims.loops) (drop l.i l.pairs)) ≡ loops_by owe l.system.claims.loops l.pairs
