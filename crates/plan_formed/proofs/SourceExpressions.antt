-- The typed form of an expression is no larger and no deeper than the expression, and its conversions stand alone.
use Rattle.std.proofs.Common.{◌≡◌, ℕ, ◌+◌, ◌*◌, ◌≤◌, max, Bool, true, false, Option, Some, None, refl, arith}
use Rattle.std.specs.Prelude.{if◌then◌else◌, slice_get, List}
use Rattle.c_tree.specs.Size.{size, size_all}
use Rattle.c_tree.specs.Tree.{Expr, Number, Character, Name, Paren, Index, Call, Postfix, Prefix, Cast, Binary, Conditional, Assign, Exprs, NoExpr, AndExpr}
use Rattle.c_tree.specs.declared.expression.BinaryOperator.{BinaryOperator}
use Rattle.c_tree.specs.declared.expression.BinaryOperator.TheVariants as binary
use Rattle.c_tree.specs.declared.expression.PrefixOperator.{PrefixOperator}
use Rattle.c_tree.specs.declared.size.Size.{Size}
use Rattle.facts_definitions.specs.Most.{call_most, expr_most, exprs_most, place_most}
use Rattle.types_tree.specs.Tree as typed
use Rattle.types_tree.specs.declared.expression.Callee.{Callee}
use Rattle.types_tree.specs.declared.expression.Callee.TheVariants.{Getchar, Putchar, Function as Own}
use Rattle.types_value.specs.Kinds.{promoted, same_kind}
use Rattle.types_value.specs.declared.kind.Kind.{Kind}
use Rattle.types_value.specs.declared.operator.Operator.{Operator}
use Rattle.types_value.specs.declared.operator.Sign.{Sign}
use Rattle.types_rules.specs.Operations.{left_kind, operator_of, right_kind, sign_of, update_of}
use Rattle.types_rules.specs.Scope.{Around, found, params_of}
use Rattle.types_rules.specs.Types.{callee, count, kind_of, takes_array}
use Rattle.types_rules.specs.Typing.{argument_of, callee_of, converted, operated, place_in, typed_arguments, typed_assign, typed_binary, typed_expr, typed_name, typed_prefix}
use Rattle.types_rules.specs.declared.scope.Binding.{Binding}
use Rattle.types_rules.specs.declared.scope.Binding.TheVariants.{Object as Thing, Function as Routine}
use Rattle.types_rules.specs.declared.scope.ParamType.{ParamType}
use Rattle.plan_forms.specs.Conversions.{AllSingle, PlaceSingle, Single}
use Rattle.plan_forms.specs.Levels.{all_levels, levels, place_levels, slack}
use Rattle.plan_forms.proofs.DeepExpressions.{some_levels}
use Rattle.plan_forms.proofs.SizedStatements.{some_most}

-- calls count for nothing here
abbrev pub none : ℕ → ℕ
none f = 0

-- a typed expression is no larger than its source
pub record NoLarger (e : typed.Expr) (s : Size) : Type 0 where
  pub single : Single e
  pub levels_are : levels e ≤ 2 * s.depth
  pub nodes_are : expr_most none e ≤ s.nodes

-- the same of what is no conversion
pub record Plain (e : typed.Expr) (s : Size) : Type 0 where
  pub plain : slack e ≡ 0
  pub part : NoLarger e s

pub record PlaceNoLarger (place : typed.Place) (s : Size) : Type 0 where
  pub single : PlaceSingle place
  pub levels_are : place_levels place ≤ 2 * s.depth
  pub nodes_are : place_most none place ≤ s.nodes

-- expressions, where so many levels and nodes are allowed for all
pub record AllNoLarger (es : typed.Exprs) (depth nodes : ℕ) : Type 0 where
  pub single : AllSingle es
  pub levels_are : all_levels es ≤ 2 * depth
  pub nodes_are : exprs_most none es ≤ nodes

pub converted_part : (from to : Kind) (e : typed.Expr) (s : Size) → Plain e s → NoLarger (converted from to e) s
converted_part from to e s h = of (same_kind from to)
  where
    of : (b : Bool) → NoLarger (if b then e else typed.Convert to e) s
    of true = h.part
    of false = record { single = (h.plain, h.part.single); levels_are = omega (arith, h.plain, h.part.levels_are); nodes_are = h.part.nodes_are }

-- the place that is assigned is no larger than the expression that names it
pub record PlaceOf (place : typed.Place) (e : typed.Expr) : Type 0 where
  pub single : PlaceSingle place
  pub levels_are : place_levels place ≤ levels e
  pub nodes_are : place_most none place ≤ expr_most none e

no_place : (e : typed.Expr) → PlaceOf (typed.Scalar 0 0) e
no_place e = record { single = tt; levels_are = some_levels e; nodes_are = some_most none e }

place_of : (e : typed.Expr) → Single e → PlaceOf (place_in e) e
place_of (typed.Number constant at) h = no_place (typed.Number constant at)
place_of (typed.Character value at) h = no_place (typed.Character value at)
place_of (typed.Read place) h = record { single = h; levels_are = itself (place_levels place); nodes_are = itself (place_most none place) }
  where
    itself : (n : ℕ) → n ≤ n
    itself n = omega arith
place_of (typed.Array object at) h = no_place (typed.Array object at)
place_of (typed.Paren inner at) h = let p = place_of inner h in record { single = p.single; levels_are = omega (arith, p.levels_are); nodes_are = omega (arith, p.nodes_are) }
place_of (typed.Call to arguments at) h = no_place (typed.Call to arguments at)
place_of (typed.Step fix operator kind target at) h = no_place (typed.Step fix operator kind target at)
place_of (typed.Signed operator kind operand at) h = no_place (typed.Signed operator kind operand at)
place_of (typed.Cast specifiers to operand at) h = no_place (typed.Cast specifiers to operand at)
place_of (typed.Convert to operand) h = no_place (typed.Convert to operand)
place_of (typed.Operate operator kind left right at) h = no_place (typed.Operate operator kind left right at)
place_of (typed.And left right at) h = no_place (typed.And left right at)
place_of (typed.Or left right at) h = no_place (typed.Or left right at)
place_of (typed.Comma left right at) h = no_place (typed.Comma left right at)
place_of (typed.Conditional test first second at) h = no_place (typed.Conditional test first second at)
place_of (typed.Assign target value at) h = no_place (typed.Assign target value at)
place_of (typed.Update operator kind to target value at) h = no_place (typed.Update operator kind to target value at)

place_part : (e : typed.Expr) (s : Size) → NoLarger e s → PlaceNoLarger (place_in e) s
place_part e s h = let p = place_of e h.single in record { single = p.single; levels_are = omega (arith, p.levels_are, h.levels_are); nodes_are = omega (arith, p.nodes_are, h.nodes_are) }

-- nodes over their parts
abbrev over_one : Size → Size
over_one s = record { nodes = s.nodes + 1; depth = s.depth + 1 }

abbrev over_two : Size → Size → Size
over_two s t = record { nodes = s.nodes + t.nodes + 1; depth = max s.depth t.depth + 1 }

name_plain : (x : Bool) (b : Option Binding) (at : ℕ) → Plain (typed_name x b at) (record { nodes = 1; depth = 1 })
name_plain true (Some (Thing number kind const true)) at = record { plain = refl; part = record { single = tt; levels_are = omega arith; nodes_are = omega arith } }
name_plain true (Some (Thing number kind const false)) at = record { plain = refl; part = record { single = tt; levels_are = omega arith; nodes_are = omega arith } }
name_plain true (Some Routine) at = record { plain = refl; part = record { single = tt; levels_are = omega arith; nodes_are = omega arith } }
name_plain true None at = record { plain = refl; part = record { single = tt; levels_are = omega arith; nodes_are = omega arith } }
name_plain false b at = record { plain = refl; part = record { single = tt; levels_are = omega arith; nodes_are = omega arith } }

prefix_plain : (sign : Option Sign) (operator : PrefixOperator) (kind : Kind) (e : typed.Expr) (at : ℕ) (s : Size) → Plain e s → Plain (typed_prefix sign operator kind e at) (over_one s)
prefix_plain None operator kind e at s h =
    let p = place_part e s h.part in
    record { plain = refl; part = record { single = p.single; levels_are = omega (arith, p.levels_are); nodes_are = omega (arith, p.nodes_are) } }
prefix_plain (Some sign) operator kind e at s h =
    let p = converted_part kind (promoted kind) e s h in
    record { plain = refl; part = record { single = p.single; levels_are = omega (arith, p.levels_are); nodes_are = omega (arith, p.nodes_are) } }

operated_plain : (operator : Option Operator) (a b : Kind) (left right : typed.Expr) (at : ℕ) (s t : Size) → Plain left s → Plain right t → Plain (operated operator a b left right at) (over_two s t)
operated_plain None a b left right at s t h k =
    record { plain = refl; part = record { single = (h.part.single, k.part.single); levels_are = omega (arith, h.part.levels_are, k.part.levels_are); nodes_are = omega (arith, h.part.nodes_are, k.part.nodes_are) } }
operated_plain (Some operator) a b left right at s t h k =
    let p = converted_part a (left_kind operator a b) left s h in
    let q = converted_part b (right_kind operator a b) right t k in
    record { plain = refl; part = record { single = (p.single, q.single); levels_are = omega (arith, p.levels_are, q.levels_are); nodes_are = omega (arith, p.nodes_are, q.nodes_are) } }

joint_plain : (left right : typed.Expr) (at : ℕ) (s t : Size) → Plain left s → Plain right t → Plain (typed.And left right at) (over_two s t) × Plain (typed.Or left right at) (over_two s t)
joint_plain left right at s t h k = (
  record { plain = refl; part = record { single = ((h.part.single, k.part.single), h.plain, k.plain); levels_are = omega (arith, h.part.levels_are, k.part.levels_are); nodes_are = omega (arith, h.part.nodes_are, k.part.nodes_are) } },
  record { plain = refl; part = record { single = ((h.part.single, k.part.single), h.plain, k.plain); levels_are = omega (arith, h.part.levels_are, k.part.levels_are); nodes_are = omega (arith, h.part.nodes_are, k.part.nodes_are) } },
)

binary_plain : (operator : BinaryOperator) (a b : Kind) (left right : typed.Expr) (at : ℕ) (s t : Size) → Plain left s → Plain right t → Plain (typed_binary operator a b left right at) (over_two s t)
binary_plain binary.Multiply a b left right at s t h k = operated_plain (operator_of binary.Multiply) a b left right at s t h k
binary_plain binary.Divide a b left right at s t h k = operated_plain (operator_of binary.Divide) a b left right at s t h k
binary_plain binary.Remainder a b left right at s t h k = operated_plain (operator_of binary.Remainder) a b left right at s t h k
binary_plain binary.Add a b left right at s t h k = operated_plain (operator_of binary.Add) a b left right at s t h k
binary_plain binary.Subtract a b left right at s t h k = operated_plain (operator_of binary.Subtract) a b left right at s t h k
binary_plain binary.ShiftLeft a b left right at s t h k = operated_plain (operator_of binary.ShiftLeft) a b left right at s t h k
binary_plain binary.ShiftRight a b left right at s t h k = operated_plain (operator_of binary.ShiftRight) a b left right at s t h k
binary_plain binary.Less a b left right at s t h k = operated_plain (operator_of binary.Less) a b left right at s t h k
binary_plain binary.Greater a b left right at s t h k = operated_plain (operator_of binary.Greater) a b left right at s t h k
binary_plain binary.LessEqual a b left right at s t h k = operated_plain (operator_of binary.LessEqual) a b left right at s t h k
binary_plain binary.GreaterEqual a b left right at s t h k = operated_plain (operator_of binary.GreaterEqual) a b left right at s t h k
binary_plain binary.Equal a b left right at s t h k = operated_plain (operator_of binary.Equal) a b left right at s t h k
binary_plain binary.NotEqual a b left right at s t h k = operated_plain (operator_of binary.NotEqual) a b left right at s t h k
binary_plain binary.BitAnd a b left right at s t h k = operated_plain (operator_of binary.BitAnd) a b left right at s t h k
binary_plain binary.BitXor a b left right at s t h k = operated_plain (operator_of binary.BitXor) a b left right at s t h k
binary_plain binary.BitOr a b left right at s t h k = operated_plain (operator_of binary.BitOr) a b left right at s t h k
binary_plain binary.And a b left right at s t h k = (joint_plain left right at s t h k).0
binary_plain binary.Or a b left right at s t h k = (joint_plain left right at s t h k).1
binary_plain binary.Comma a b left right at s t h k = operated_plain (operator_of binary.Comma) a b left right at s t h k

assign_plain : (operator : Option Operator) (to from : Kind) (target value : typed.Expr) (at : ℕ) (s t : Size) → Plain target s → Plain value t → Plain (typed_assign operator to from (place_in target) value at) (over_two s t)
assign_plain None to from target value at s t h k =
    let p = place_part target s h.part in
    let q = converted_part from to value t k in
    record { plain = refl; part = record { single = (p.single, q.single); levels_are = omega (arith, p.levels_are, q.levels_are); nodes_are = omega (arith, p.nodes_are, q.nodes_are) } }
assign_plain (Some operator) to from target value at s t h k =
    let p = place_part target s h.part in
    let q = converted_part from (right_kind operator to from) value t k in
    record { plain = refl; part = record { single = (p.single, q.single); levels_are = omega (arith, p.levels_are, q.levels_are); nodes_are = omega (arith, p.nodes_are, q.nodes_are) } }

argument_part : (param : Option ParamType) (kind : Kind) (e : typed.Expr) (s : Size) → Plain e s → NoLarger (argument_of param kind e) s
argument_part None kind e s h = h.part
argument_part (Some param) kind e s h = of param.is_array
  where
    of : (b : Bool) → NoLarger (if b then e else converted kind param.kind e) s
    of true = h.part
    of false = converted_part kind param.kind e s h

calls_none : (to : Callee) → call_most none to ≡ 0
calls_none Getchar = refl
calls_none Putchar = refl
calls_none (Own function) = refl

call_plain : (to : Callee) (es : typed.Exprs) (at : ℕ) (s : Size) → AllNoLarger es s.depth s.nodes → Plain (typed.Call to es at) (over_one s)
call_plain to es at s p = record { plain = refl; part = record { single = p.single; levels_are = omega (arith, p.levels_are); nodes_are = omega (arith, p.nodes_are, calls_none to) } }

mutual
  pub expr_plain : (e : Expr ℕ) (x : Bool) (a : Around) → Plain (typed_expr e x a) (size e)
  expr_plain (Number constant at) x a = record { plain = refl; part = record { single = tt; levels_are = omega arith; nodes_are = omega arith } }
  expr_plain (Character value at) x a = record { plain = refl; part = record { single = tt; levels_are = omega arith; nodes_are = omega arith } }
  expr_plain (Name name at) x a = name_plain x (found name a) at
  expr_plain (Paren inner at) x a =
      let p = (expr_plain inner false a).part in
      record { plain = refl; part = record { single = p.single; levels_are = omega (arith, p.levels_are); nodes_are = omega (arith, p.nodes_are) } }
  expr_plain (Index array index at) x a =
      let p = (expr_plain index false a).part in
      record { plain = refl; part = record { single = p.single; levels_are = omega (arith, p.levels_are); nodes_are = omega (arith, p.nodes_are) } }
  expr_plain (Call function arguments at) x a =
      let s = size_all arguments in
      let p = arguments_part arguments (params_of (callee function a)) a typed.NoExpr s.depth s.nodes (omega arith) tt (omega arith) (omega arith) in
      call_plain (callee_of function a.outline) (typed_arguments arguments (params_of (callee function a)) a typed.NoExpr) at s p
  expr_plain (Postfix operator operand at) x a =
      let p = place_part (typed_expr operand false a) (size operand) (expr_plain operand false a).part in
      record { plain = refl; part = record { single = p.single; levels_are = omega (arith, p.levels_are); nodes_are = omega (arith, p.nodes_are) } }
  expr_plain (Prefix operator operand at) x a = prefix_plain (sign_of operator) operator (kind_of operand a) (typed_expr operand false a) at (size operand) (expr_plain operand false a)
  expr_plain (Cast specifiers operand at) x a =
      let p = (expr_plain operand false a).part in
      record { plain = refl; part = record { single = p.single; levels_are = omega (arith, p.levels_are); nodes_are = omega (arith, p.nodes_are) } }
  expr_plain (Binary operator left right at) x a =
      binary_plain operator (kind_of left a) (kind_of right a) (typed_expr left false a) (typed_expr right false a) at (size left) (size right) (expr_plain left false a) (expr_plain right false a)
  expr_plain (Conditional test first second at) x a =
      let kind = kind_of (Conditional test first second at) a in
      let p = (expr_plain test false a).part in
      let q = converted_part (kind_of first a) kind (typed_expr first false a) (size first) (expr_plain first false a) in
      let r = converted_part (kind_of second a) kind (typed_expr second false a) (size second) (expr_plain second false a) in
      record { plain = refl; part = record { single = (p.single, q.single, r.single); levels_are = omega (arith, p.levels_are, q.levels_are, r.levels_are); nodes_are = omega (arith, p.nodes_are, q.nodes_are, r.nodes_are) } }
  expr_plain (Assign operator target value at) x a =
      assign_plain (update_of operator) (kind_of target a) (kind_of value a) (typed_expr target false a) (typed_expr value false a) at (size target) (size value) (expr_plain target false a) (expr_plain value false a)

  -- arguments before others
  arguments_part : (es : Exprs ℕ) (params : List ParamType) (a : Around) (rest : typed.Exprs) (depth nodes : ℕ) → (size_all es).depth ≤ depth → AllSingle rest → all_levels rest ≤ 2 * depth → exprs_most none rest + (size_all es).nodes ≤ nodes → AllNoLarger (typed_arguments es params a rest) depth nodes
  arguments_part NoExpr params a rest depth nodes deep single l n = record { single = single; levels_are = l; nodes_are = omega (arith, n) }
  arguments_part (AndExpr front last) params a rest depth nodes deep single l n =
      let param = slice_get params (count front) in
      let inner = typed_expr last (takes_array param) a in
      let p = argument_part param (kind_of last a) inner (size last) (expr_plain last (takes_array param) a) in
      arguments_part front params a (typed.WithExpr (argument_of param (kind_of last a) inner) rest) depth nodes (omega (arith, deep)) (p.single, single) (omega (arith, deep, l, p.levels_are)) (omega (arith, n, p.nodes_are))
