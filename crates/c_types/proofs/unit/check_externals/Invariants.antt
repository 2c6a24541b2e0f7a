use Rattle.std.proofs.Common.{map}
use Rattle.types_tree.specs.View.{external_of, function_of}
use Rattle.types_rules.specs.Typing.{and_external, typed_function}
use Rattle.types_declaration.proofs.Rows.{Made, SoFar}
use Rattle.c_types.proofs.Functions.{externals_walk}
use Rattle.c_types.proofs.unit.check_externals.Given as goal

abbrev pub invariant-loop-source : goal.invariant-loop-source
invariant-loop-source l =
    SoFar externals_walk l.given l.fn.table l.source-index l.table l.fault
    × (Made externals_walk and_external l.given l.fn.table l.source-index l.table (map external_of l.items.items)
    × Made externals_walk typed_function l.given l.fn.table l.source-index l.table (map function_of l.functions.items))
