-- What is said of parameters.
use Rattle.std.specs.Prelude.{◌≡◌, Bool, List, map, Option}
use Rattle.c_tree.specs.Named.{map_option}
use Rattle.c_tree.specs.Tree.{Nothing}
use Rattle.c_tree.specs.View.{id_of, param_of as source_param, row_of}
use Rattle.c_tree.specs.declared.declaration.Param as sources
use Rattle.c_tree.specs.declared.expression.NameId.{NameId}
use Rattle.types_tree.specs.View.{param_of}
use Rattle.types_rules.specs.DeclarationRules.{is_taken}
use Rattle.types_rules.specs.Scope.{Around}
use Rattle.types_rules.specs.Sights.{first_fault, prototype_params_nodes}
use Rattle.types_rules.specs.Typing.{typed_params}
use Rattle.types_declaration.specs.declared.params.CheckedParams.{CheckedParams}

abbrev pub is_taken_at : Option NameId → Around → Bool
is_taken_at name a = is_taken (map_option id_of name) a

-- the typed forms of parameters of a mere declaration, and the first fault in them
pub record AreParams (r : CheckedParams) (given : List sources.Param) (a : Around) : Type 0 where
  pub params : map param_of r.params.items ≡ typed_params (row_of source_param Nothing given) a
  pub fault : r.fault ≡ first_fault (prototype_params_nodes (row_of source_param Nothing given) a)
