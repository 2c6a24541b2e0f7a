-- The first fault in an expression, as one walk finds it: that of a node itself, else the first of its parts'.
use Rattle.std.specs.Prelude.{ℕ, Bool, false, List, Option, None, slice_get}
use Rattle.c_tree.specs.Formed.{place}
use Rattle.c_tree.specs.Tree.{Expr, Number, Character, Name, Paren, Index, Call, Postfix, Prefix, Cast, Binary, Conditional, Assign, Exprs, NoExpr, AndExpr}
use Rattle.types_rules.specs.ExpressionRules.{expr_rule}
use Rattle.types_rules.specs.Scope.{Around, or_else, params_of}
use Rattle.types_rules.specs.Sights.{fault_at}
use Rattle.types_rules.specs.Types.{callee, count, takes_array}
use Rattle.types_rules.specs.declared.fault.Fault.{Fault}
use Rattle.types_rules.specs.declared.scope.ParamType.{ParamType}

abbrev pub own_fault : Expr ℕ → (as_array : Bool) → Around → Option Fault
own_fault e as_array a = fault_at (expr_rule e as_array a) (place e)

abbrev mutual
  pub fault_in : Expr ℕ → (as_array : Bool) → Around → Option Fault
  fault_in (Number constant at) x a = own_fault (Number constant at) x a
  fault_in (Character value at) x a = own_fault (Character value at) x a
  fault_in (Name name at) x a = own_fault (Name name at) x a
  fault_in (Paren inner at) x a = or_else (own_fault (Paren inner at) x a) (fault_in inner false a)
  fault_in (Index array index at) x a = or_else (own_fault (Index array index at) x a) (fault_in index false a)
  fault_in (Call function arguments at) x a = or_else (own_fault (Call function arguments at) x a) (fault_among arguments (params_of (callee function a)) a)
  fault_in (Postfix operator operand at) x a = or_else (own_fault (Postfix operator operand at) x a) (fault_in operand false a)
  fault_in (Prefix operator operand at) x a = or_else (own_fault (Prefix operator operand at) x a) (fault_in operand false a)
  fault_in (Cast specifiers operand at) x a = or_else (own_fault (Cast specifiers operand at) x a) (fault_in operand false a)
  fault_in (Binary operator left right at) x a = or_else (own_fault (Binary operator left right at) x a) (or_else (fault_in left false a) (fault_in right false a))
  fault_in (Conditional test first second at) x a =
      or_else (own_fault (Conditional test first second at) x a) (or_else (fault_in test false a) (or_else (fault_in first false a) (fault_in second false a)))
  fault_in (Assign operator target value at) x a = or_else (own_fault (Assign operator target value at) x a) (or_else (fault_in target false a) (fault_in value false a))

  pub fault_among : Exprs ℕ → List ParamType → Around → Option Fault
  fault_among NoExpr params a = None
  fault_among (AndExpr front last) params a = or_else (fault_among front params a) (fault_in last (takes_array (slice_get params (count front))) a)
