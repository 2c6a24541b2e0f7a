-- Programs of words: their constants are, the bytes of their arrays have addresses, and their arrays have elements.
use Rattle.std.specs.Prelude.{◌*◌, ◌<◌, ◌≤◌, ◌^◌, List, [], ◌∷◌, All}
use Rattle.high_ir.specs.Tree.{Expr, Constant, Variable, Element, Unary, Binary, Function, Object, Program, Statement, Set, Put, Get, Keep, Mark, Seq, If, Loop, Block, Leave, Call, Return, Statements, End, Then}
use Rattle.high_ir.specs.Words.{kind_bytes}

-- the constants of an expression are words
abbrev pub IsWordy : Expr → Type 0
IsWordy (Constant w) = w < 2 ^ 32
IsWordy (Variable x) = Unit {0}
IsWordy (Element array index) = IsWordy index
IsWordy (Unary operator operand) = IsWordy operand
IsWordy (Binary operator left right) = IsWordy left × IsWordy right

abbrev pub AreWordy : List Expr → Type 0
AreWordy [] = Unit {0}
AreWordy (e ∷ es) = IsWordy e × AreWordy es

-- the constants of a statement are words
abbrev mutual
  pub HasWords : Statement → Type 0
  HasWords (Set x e) = IsWordy e
  HasWords (Put e) = IsWordy e
  HasWords (Get x) = Unit {0}
  HasWords (Keep array i e) = IsWordy i × IsWordy e
  HasWords (Mark m) = Unit {0}
  HasWords (Seq parts) = AllHaveWords parts
  HasWords (If test first other) = IsWordy test × (HasWords first × HasWords other)
  HasWords (Loop id least most body) = HasWords body
  HasWords (Block body) = HasWords body
  HasWords (Leave d) = Unit {0}
  HasWords (Call f values arrays into) = AreWordy values
  HasWords (Return e) = IsWordy e

  pub AllHaveWords : Statements → Type 0
  AllHaveWords End = Unit {0}
  AllHaveWords (Then first rest) = HasWords first × AllHaveWords rest

-- an array whose bytes have addresses, and whose first values are words
pub record IsSmall (o : Object) : Type 0 where
  pub size : kind_bytes o.kind * o.size ≤ 2 ^ 32
  pub values : All (λ v. v < 2 ^ 32) o.values

pub record IsWhole (p : Program) : Type 0 where
  pub words : All (λ (f : Function). HasWords f.body) p.functions
  pub objects : All IsSmall p.objects

-- each array has at least one
abbrev pub HasElements : Program → Type 0
HasElements p = All (λ (o : Object). 0 < o.size) p.objects
