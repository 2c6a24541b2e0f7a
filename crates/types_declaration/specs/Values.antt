-- What is said of a list of values.
use Rattle.std.specs.Prelude.{◌≡◌, ℕ}
use Rattle.c_tree.specs.Tree.{Exprs}
use Rattle.types_tree.specs.Tree.{NoExpr}
use Rattle.types_tree.specs.View.{exprs_of}
use Rattle.types_value.specs.declared.kind.Kind.{Kind}
use Rattle.types_rules.specs.Scope.{Around}
use Rattle.types_rules.specs.Sights.{first_fault, list_nodes}
use Rattle.types_rules.specs.Types.{any_void}
use Rattle.types_rules.specs.Typing.{values_at}
use Rattle.types_declaration.specs.declared.values.Values.{Values}

-- values converted to a type, whether one is void, and the first fault in them
pub record AreValues (r : Values) (kind : Kind) (es : Exprs ℕ) (a : Around) : Type 0 where
  pub exprs : exprs_of r.exprs.items ≡ values_at kind es a NoExpr
  pub void : r.void ≡ any_void es a
  pub fault : r.fault ≡ first_fault (list_nodes es a)
