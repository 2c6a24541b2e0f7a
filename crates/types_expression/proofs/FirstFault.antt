-- What one walk finds is the first fault among the nodes in source order.
use Rattle.std.proofs.Common.{◌≡◌, refl, ap, ◌∙◌, sym, ℕ, Bool, false, List, [], ◌∷◌, ◌++◌, Option, Some, None}
use Rattle.std.specs.Prelude.{slice_get}
use Rattle.c_tree.specs.Tree.{Expr, Number, Character, Name, Paren, Index, Call, Postfix, Prefix, Cast, Binary, Conditional, Assign, Exprs, NoExpr, AndExpr}
use Rattle.types_rules.specs.Scope.{Around, or_else, params_of}
use Rattle.types_rules.specs.Sights.{Node, argument_nodes, expr_nodes, first_fault, node_fault}
use Rattle.types_rules.specs.Types.{callee, count, takes_array}
use Rattle.types_rules.specs.declared.scope.ParamType.{ParamType}
use Rattle.types_expression.specs.Walk.{fault_among, fault_in, own_fault}
use Rattle.types_expression.proofs.Choice.{or_else-assoc}

pub first_fault-append : (xs ys : List Node) → first_fault (xs ++ ys) ≡ or_else (first_fault xs) (first_fault ys)
first_fault-append [] ys = refl
first_fault-append (x ∷ xs) ys = ap (or_else (node_fault x)) (first_fault-append xs ys) ∙ sym (or_else-assoc (node_fault x) (first_fault xs) (first_fault ys))

none-right : {A : Type 0} (o : Option A) → or_else o None ≡ o
none-right (Some x) = refl
none-right None = refl

both : {A : Type 0} {a b c d : Option A} → a ≡ c → b ≡ d → or_else a b ≡ or_else c d
both {a} {b} {c} {d} p q = ap (λ o. or_else o b) p ∙ ap (or_else c) q

mutual
  pub first_in : (e : Expr ℕ) (x : Bool) (a : Around) → first_fault (expr_nodes e x a) ≡ fault_in e x a
  first_in (Number constant at) x a = refl
  first_in (Character value at) x a = refl
  first_in (Name name at) x a = none-right (own_fault (Name name at) x a)
  first_in (Paren inner at) x a = ap (or_else (own_fault (Paren inner at) x a)) (first_in inner false a)
  first_in (Index array index at) x a = ap (or_else (own_fault (Index array index at) x a)) (first_in index false a)
  first_in (Call function arguments at) x a = ap (or_else (own_fault (Call function arguments at) x a)) (first_among arguments (params_of (callee function a)) a)
  first_in (Postfix operator operand at) x a = ap (or_else (own_fault (Postfix operator operand at) x a)) (first_in operand false a)
  first_in (Prefix operator operand at) x a = ap (or_else (own_fault (Prefix operator operand at) x a)) (first_in operand false a)
  first_in (Cast specifiers operand at) x a = ap (or_else (own_fault (Cast specifiers operand at) x a)) (first_in operand false a)
  first_in (Binary operator left right at) x a =
      ap (or_else (own_fault (Binary operator left right at) x a)) (first_fault-append (expr_nodes left false a) (expr_nodes right false a) ∙ both (first_in left false a) (first_in right false a))
  first_in (Conditional test first second at) x a =
      ap (or_else (own_fault (Conditional test first second at) x a))
      (first_fault-append (expr_nodes test false a) (expr_nodes first false a ++ expr_nodes second false a)
      ∙ both (first_in test false a) (first_fault-append (expr_nodes first false a) (expr_nodes second false a) ∙ both (first_in first false a) (first_in second false a)))
  first_in (Assign operator target value at) x a =
      ap (or_else (own_fault (Assign operator target value at) x a)) (first_fault-append (expr_nodes target false a) (expr_nodes value false a) ∙ both (first_in target false a) (first_in value false a))

  pub first_among : (es : Exprs ℕ) (params : List ParamType) (a : Around) → first_fault (argument_nodes es params a) ≡ fault_among es params a
  first_among NoExpr params a = refl
  first_among (AndExpr front last) params a =
      first_fault-append (argument_nodes front params a) (expr_nodes last (takes_array (slice_get params (count front))) a)
      ∙ both (first_among front params a) (first_in last (takes_array (slice_get params (count front))) a)
