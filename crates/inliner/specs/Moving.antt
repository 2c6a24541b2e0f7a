-- The body of a function in the frame of another function.
use Rattle.std.specs.Prelude.{ℕ, ◌+◌, List, map, Option, Some, None, slice_index_or}
use Rattle.high_ir.specs.declared.object.Array.{Array}
use Rattle.high_ir.specs.declared.object.Base.{Base}
use Rattle.high_ir.specs.declared.object.Base.TheVariants.{Object, Parameter}
use Rattle.high_ir.specs.Tree.{Expr, Constant, Variable, Element, Unary, Binary, Statement, Set, Put, Get, Keep, Mark, Seq, If, Loop, Block, Leave, Call, Return, Statements, End, Then}

-- where a body is put: its variables stand from a number on, its array parameters are the arrays that the call passes, and its value goes where the call asks for it
pub record Place : Type 0 where
  pub base : ℕ
  pub arrays : List Base
  pub into : Option ℕ

-- a call without such an array has no good run
abbrev pub moved_base : List Base → Base → Base
moved_base arrays (Object n) = Object n
moved_base arrays (Parameter n) = slice_index_or arrays n (Parameter n)

abbrev pub moved_array : List Base → Array → Array
moved_array arrays array = record { kind = array.kind; base = moved_base arrays array.base }

abbrev pub moved_into : ℕ → Option ℕ → Option ℕ
moved_into base None = None
moved_into base (Some x) = Some (base + x)

-- a return goes behind the block of the body, which so many blocks of the body are within, and leaves its value
abbrev pub ended : Option ℕ → ℕ → Expr → Statement
ended None depth e = Leave depth
ended (Some x) depth e = Seq (Then (Set x e) (Then (Leave depth) End))

module _ (p : Place) where
  abbrev pub moved_expr : Expr → Expr
  moved_expr (Constant word) = Constant word
  moved_expr (Variable x) = Variable (p.base + x)
  moved_expr (Element array index) = Element (moved_array p.arrays array) (moved_expr index)
  moved_expr (Unary operator operand) = Unary operator (moved_expr operand)
  moved_expr (Binary operator left right) = Binary operator (moved_expr left) (moved_expr right)

  -- a statement of the body that so many of its blocks stand around
  abbrev mutual
    pub moved : ℕ → Statement → Statement
    moved depth (Set x e) = Set (p.base + x) (moved_expr e)
    moved depth (Put e) = Put (moved_expr e)
    moved depth (Get x) = Get (p.base + x)
    moved depth (Keep array i e) = Keep (moved_array p.arrays array) (moved_expr i) (moved_expr e)
    moved depth (Mark m) = Mark m
    moved depth (Seq parts) = Seq (moved_all depth parts)
    moved depth (If test first other) = If (moved_expr test) (moved depth first) (moved depth other)
    moved depth (Loop id least most body) = Loop id least most (moved depth body)
    moved depth (Block body) = Block (moved (depth + 1) body)
    moved depth (Leave d) = Leave d
    moved depth (Call f values arrays into) = Call f (map moved_expr values) (map (moved_base p.arrays) arrays) (moved_into p.base into)
    moved depth (Return e) = ended p.into depth (moved_expr e)

    pub moved_all : ℕ → Statements → Statements
    moved_all depth End = End
    moved_all depth (Then first rest) = Then (moved depth first) (moved_all depth rest)
