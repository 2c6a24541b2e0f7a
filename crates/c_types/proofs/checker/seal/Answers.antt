use Rattle.std.proofs.Common.{sym, subst, map}
use Rattle.c_tree.specs.Tree.{Nothing}
use Rattle.c_tree.specs.Units.{tree_of}
use Rattle.c_tree.specs.View.{external_of as source_external, row_of}
use Rattle.types_tree.specs.View.{external_of, function_of}
use Rattle.types_calls.specs.Calls.{CallsDefined}
use Rattle.c_types.proofs.Seals.{same_program, sealed}
use Rattle.types_seen.proofs.Calls.{calls_defined}
use Rattle.c_types.proofs.checker.seal.Goals as goal

pub invariant_of-result : goal.invariant_of-result
invariant_of-result c =
    let unit = c.args.unit in
    let made = c.args.draft in
    let draft = c.requires.draft in
    let names = unit.names.items in
    let whole = row_of source_external Nothing unit.items.items in
    let same = same_program names whole unit.at (map external_of made.items.items) (map function_of made.functions.items) made.variables.items draft.items draft.functions draft.variables in
    record {
      is_typed = sealed names (tree_of unit) (record { items = map external_of made.items.items; functions = map function_of made.functions.items; variables = made.variables.items; at = unit.at }) unit.is_formed unit.is_shallow unit.are_listed unit.are_names unit.are_distinct unit.are_in_order c.requires.passes same;
      calls_defined = subst CallsDefined (sym same) (calls_defined names whole unit.at c.requires.passes);
    }
