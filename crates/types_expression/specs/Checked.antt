-- What the answers of the checker say.
use Rattle.std.specs.Prelude.{◌≡◌, ℕ, Bool, ◌&&◌, nat_eq, List, length}
use Rattle.c_tree.specs.Tree.{Expr, Exprs}
use Rattle.types_tree.specs.Tree.{NoExpr}
use Rattle.types_tree.specs.View.{expr_of, exprs_of}
use Rattle.types_rules.specs.Scope.{Around}
use Rattle.types_rules.specs.Sights.{expr_nodes, first_fault}
use Rattle.types_rules.specs.Types.{any_void, arguments_fit, count, kind_of}
use Rattle.types_rules.specs.Typing.{typed_arguments, typed_expr}
use Rattle.types_rules.specs.declared.scope.ParamType.{ParamType}
use Rattle.types_expression.specs.Walk.{fault_among, fault_in}
use Rattle.types_expression.specs.declared.checked.Checked.{Checked}
use Rattle.types_expression.specs.declared.checked.CheckedArguments.{CheckedArguments}

-- an expression's typed form, its type and the first fault in it
pub record IsChecked (r : Checked) (e : Expr ℕ) (as_array : Bool) (a : Around) : Type 0 where
  pub expr : expr_of r.value.expr.value ≡ typed_expr e as_array a
  pub kind : r.value.kind ≡ kind_of e a
  pub fault : r.fault ≡ fault_in e as_array a

-- the same of arguments, and whether one is void, and whether they are as many as the parameters and fit them
pub record AreChecked (r : CheckedArguments) (es : Exprs ℕ) (params : List ParamType) (a : Around) : Type 0 where
  pub exprs : exprs_of r.exprs.items ≡ typed_arguments es params a NoExpr
  pub void : r.void ≡ any_void es a
  pub fit : r.fit ≡ (nat_eq (count es) (length params) && arguments_fit es params a)
  pub fault : r.fault ≡ fault_among es params a

-- the same, with the fault as the first among the nodes of the expression in source order
pub record IsTyped (r : Checked) (e : Expr ℕ) (as_array : Bool) (a : Around) : Type 0 where
  pub expr : expr_of r.value.expr.value ≡ typed_expr e as_array a
  pub kind : r.value.kind ≡ kind_of e a
  pub fault : r.fault ≡ first_fault (expr_nodes e as_array a)
