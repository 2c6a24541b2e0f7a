-- What is said of the parts of a unit.
use Rattle.std.specs.Prelude.{◌≡◌, ℕ, if◌then◌else◌, List, [], ◌∷◌, ◌++◌, length, map, Option}
use Rattle.c_tree.specs.Tree.{Row, Nothing, NoItem, Param}
use Rattle.c_tree.specs.View.{external_of as source_external, function_of as source_function, items_of as source_items, param_of as source_param, row_of}
use Rattle.c_tree.specs.declared.external.External as sources
use Rattle.c_tree.specs.declared.external.Function as source_functions
use Rattle.types_tree.specs.View.{external_of, function_of, param_of}
use Rattle.types_tree.specs.declared.external.Function as functions
use Rattle.types_rules.specs.DeclarationRules.{function_rule, is_no_list, within_function}
use Rattle.types_rules.specs.Scope.{Around, left}
use Rattle.types_rules.specs.Sights.{after_external, after_externals, body_around, external_nodes, externals_nodes, first_fault, params_nodes}
use Rattle.types_rules.specs.Specifiers.{kind_spelled}
use Rattle.types_rules.specs.StatementRules.{in_function}
use Rattle.types_rules.specs.Typing.{and_external, typed_external, typed_function, typed_params, typed_row}
use Rattle.types_rules.specs.declared.fault.Fault.{Fault}
use Rattle.types_rules.specs.declared.fault.Rule.{Rule}
use Rattle.types_statement.specs.Checked.{AreTyped}
use Rattle.types_statement.specs.declared.checked.CheckedItems.{CheckedItems}
use Rattle.c_types.specs.declared.unit.CheckedExternal.{CheckedExternal}
use Rattle.c_types.specs.declared.unit.CheckedExternals.{CheckedExternals}
use Rattle.c_types.specs.declared.unit.CheckedFunction.{CheckedFunction}
use Rattle.c_types.specs.declared.unit.CheckedList.{CheckedList}

-- the first fault in the parameters of a definition
abbrev pub definition_fault : Row (Param ℕ) → Around → Option Fault
definition_fault params a = first_fault (if is_no_list params then [] else params_nodes params a)

-- what is found of a function's parts: the rule that fails at it, the number of its first object, its parameters and its body
pub record AreParts (rule : Option Rule) (first : ℕ) (list : CheckedList) (body : CheckedItems) (source : source_functions.Function) (a b : Around) : Type 0 where
  pub behind : Around
  pub rule_is : rule ≡ function_rule source.specifiers.items source.name.0 (row_of source_param Nothing source.params.items) a
  pub first_is : first ≡ length a.variables
  pub params : map param_of list.params.items ≡ typed_params (row_of source_param Nothing source.params.items) (within_function source.specifiers.items source.name.0 (row_of source_param Nothing source.params.items) a)
  pub declared : list.fault ≡ definition_fault (row_of source_param Nothing source.params.items) (within_function source.specifiers.items source.name.0 (row_of source_param Nothing source.params.items) a)
  pub body_is : AreTyped body (source_items NoItem source.body.items) (in_function (kind_spelled source.specifiers.items)) (body_around source.specifiers.items source.name.0 (row_of source_param Nothing source.params.items) a) behind
  pub after : b ≡ left behind

-- a function's typed form, the first fault in it, and what is visible behind it
pub record IsFunction (r : CheckedFunction) (source : source_functions.Function) (a b : Around) : Type 0 where
  pub function : function_of r.function ∷ [] ≡ typed_function (source_function source) a []
  pub fault : r.fault ≡ first_fault (external_nodes (source_function source) a)
  pub after : b ≡ after_external (source_function source) a

-- the same of a part of a unit, and the functions so far
pub record IsExternal (r : CheckedExternal) (source : sources.External) (before behind : List functions.Function) (a b : Around) : Type 0 where
  pub item : external_of r.item ≡ typed_external (source_external source) a
  pub functions : map function_of behind ≡ map function_of before ++ typed_function (source_external source) a []
  pub fault : r.fault ≡ first_fault (external_nodes (source_external source) a)
  pub after : b ≡ after_external (source_external source) a

-- the same of the parts of a unit
pub record AreExternals (r : CheckedExternals) (given : List sources.External) (a b : Around) : Type 0 where
  pub items : map external_of r.items.items ≡ typed_row after_external and_external (row_of source_external Nothing given) a []
  pub functions : map function_of r.functions.items ≡ typed_row after_external typed_function (row_of source_external Nothing given) a []
  pub fault : r.fault ≡ first_fault (externals_nodes (row_of source_external Nothing given) a)
  pub after : b ≡ after_externals (row_of source_external Nothing given) a
