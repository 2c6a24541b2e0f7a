-- The code of an expression has no loop.
use Rattle.std.proofs.Common.{◌≡◌, ℕ, suc, ◌<◌, true, false, List, [], refl, arith}
use Rattle.types_tree.specs.declared.expression.Callee.{Callee}
use Rattle.types_tree.specs.declared.expression.Callee.TheVariants.{Getchar, Putchar, Function as Own}
use Rattle.types_tree.specs.Tree as c
use Rattle.high_ir.specs.Standing.{loops_of_all}
use Rattle.plan_definition.specs.declared.home.Home.{Home}
use Rattle.plan_definition.specs.declared.purpose.Purpose.{Purpose}
use Rattle.plan_definition.specs.declared.purpose.Purpose.TheVariants.{Value, Effect, Unless, When}
use Rattle.plan_definition.specs.Values.{made}
use Rattle.plan_forms.specs.Forms.{Limits, Allowed, AllAllowed, CalleeAllowed, PlaceAllowed}
use Rattle.plan_forms.proofs.FormedPieces.{Leaves, all_loops-formed}
use Rattle.plan_forms.proofs.FormedExpressions.{made_formed}

-- everything but loops
abbrev free : Limits
free = record { callable = λ f. true; first = 0; marks = 0; loops = false }

callee_free : (callee : Callee) → CalleeAllowed free callee
callee_free Getchar = tt
callee_free Putchar = tt
callee_free (Own function) = refl

mutual
  place_free : (place : c.Place) → PlaceAllowed free place
  place_free (c.Scalar object at) = tt
  place_free (c.Element array index at) = expr_free index
  place_free (c.Within inner at) = place_free inner

  expr_free : (e : c.Expr) → Allowed free e
  expr_free (c.Number constant at) = tt
  expr_free (c.Character word at) = tt
  expr_free (c.Read place) = place_free place
  expr_free (c.Array object at) = tt
  expr_free (c.Paren inner at) = expr_free inner
  expr_free (c.Call callee arguments at) = (all_free arguments, callee_free callee)
  expr_free (c.Step fix operator kind target at) = place_free target
  expr_free (c.Signed operator kind operand at) = expr_free operand
  expr_free (c.Cast specifiers to operand at) = expr_free operand
  expr_free (c.Convert to operand) = expr_free operand
  expr_free (c.Operate operator kind left right at) = (expr_free left, expr_free right)
  expr_free (c.And left right at) = (expr_free left, expr_free right)
  expr_free (c.Or left right at) = (expr_free left, expr_free right)
  expr_free (c.Comma left right at) = (expr_free left, expr_free right)
  expr_free (c.Conditional test first second at) = (expr_free test, expr_free first, expr_free second)
  expr_free (c.Assign target value at) = (place_free target, expr_free value)
  expr_free (c.Update operator kind to target value at) = (place_free target, expr_free value)

  all_free : (es : c.Exprs) → AllAllowed free es
  all_free c.NoExpr = tt
  all_free (c.WithExpr first rest) = (expr_free first, all_free rest)

-- among as many blocks as it leaves
abbrev blocks_for : Purpose → ℕ
blocks_for Value = 0
blocks_for Effect = 0
blocks_for (Unless depth) = suc depth
blocks_for (When depth) = suc depth

enough : (depth : ℕ) → depth < suc depth
enough depth = omega arith

leaves_free : (purpose : Purpose) → Leaves free purpose (blocks_for purpose)
leaves_free Value = tt
leaves_free Effect = tt
leaves_free (Unless depth) = enough depth
leaves_free (When depth) = enough depth

pub no_loops : (homes : List Home) (purpose : Purpose) (e : c.Expr) (k : ℕ) → loops_of_all (made homes purpose e k).code ≡ []
no_loops homes purpose e k = all_loops-formed free refl (blocks_for purpose) (made homes purpose e k).code (made_formed free homes purpose e k (blocks_for purpose) (leaves_free purpose) (expr_free e))
