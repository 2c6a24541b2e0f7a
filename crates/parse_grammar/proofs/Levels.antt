-- Levels of operators and expressions.
use Rattle.std.proofs.Common.{ℕ, ◌-◌, ◌<◌, ◌≤◌, arith}
use Rattle.c_tree.specs.declared.expression.BinaryOperator.{BinaryOperator}
use Rattle.c_tree.specs.declared.expression.BinaryOperator.TheVariants as binary
use Rattle.c_tree.specs.Formed.{level, level_of}
use Rattle.c_tree.specs.Tree.{Expr, Prefix, Cast, Binary, Conditional, Assign}
use Rattle.parse_grammar.specs.Begun.{Bytes}

-- the level at which the last operand of a tree was read
abbrev pub tail : Expr Bytes → ℕ
tail (Prefix operator operand at) = 2
tail (Cast specifiers operand at) = 2
tail (Binary operator left right at) = level_of operator - 1
tail (Conditional test first second at) = 13
tail (Assign operator target value at) = 14
tail _ = 0

-- an operator's level is none of those that group to the right
no_right : (operator : BinaryOperator) → 13 ≤ level_of operator → 15 ≤ level_of operator
no_right binary.Comma h = omega arith
no_right _ h = absurd (omega arith)

pub least : (operator : BinaryOperator) → 3 ≤ level_of operator
least binary.Comma = omega arith
least _ = omega arith

pub most : (operator : BinaryOperator) → level_of operator ≤ 15
most binary.Comma = omega arith
most _ = omega arith

pub tail_within : (t : Expr Bytes) → tail t ≤ level t
tail_within (Binary operator left right at) = omega arith
tail_within (Prefix operator operand at) = omega arith
tail_within _ = omega arith

pub tail_below : (t : Expr Bytes) (operator : BinaryOperator) → level t ≤ level_of operator → tail t < level_of operator
tail_below (Binary other left right at) operator h = omega (arith, least operator, least other)
tail_below (Conditional test first second at) operator h = omega (arith, no_right operator h)
tail_below (Assign setter target value at) operator h = let above : 13 ≤ level_of operator = omega arith in omega (arith, no_right operator above)
tail_below _ operator h = omega (arith, least operator)

pub tail_of_primary : (t : Expr Bytes) → level t ≤ 1 → tail t < 1
tail_of_primary (Binary operator left right at) h = absurd (omega (arith, least operator))
tail_of_primary (Conditional test first second at) h = absurd (omega arith)
tail_of_primary (Assign setter target value at) h = absurd (omega arith)
tail_of_primary (Prefix sign operand at) h = absurd (omega arith)
tail_of_primary (Cast specifiers operand at) h = absurd (omega arith)
tail_of_primary _ h = omega arith

pub level_within : (t : Expr Bytes) → level t ≤ 15
level_within (Binary operator left right at) = most operator
level_within (Prefix operator operand at) = omega arith
level_within _ = omega arith
