-- What folding promises: nothing that is known is left to compute.
use Rattle.std.specs.Prelude.{◌≡◌, ℕ, false, Option, Some, None, All}
use Rattle.high_ir.specs.declared.expression.BinaryOperator.{BinaryOperator}
use Rattle.high_ir.specs.Tree.{Expr, Constant, Variable, Element, Unary, Binary, Statement, Set, Put, Get, Keep, Mark, Seq, If, Loop, Block, Leave, Call, Return, Statements, End, Then, Program}
use Rattle.high_pass.specs.Listing.{Listing}
use Rattle.high_folded.specs.Ranges.{gives_left, gives_right, is_idle}
use Rattle.high_folded.specs.Folded.{constant_of, folded_program}
use Rattle.high_folded.specs.Listed.{folded_listing}

-- not both of two operands are constants, and none is neutral beside the other
abbrev pub AreOpen : BinaryOperator → (left right : Expr) → Option ℕ → Option ℕ → Type 0
AreOpen operator left right None None = Unit {0}
AreOpen operator left right None (Some v) = gives_left operator left v ≡ false
AreOpen operator left right (Some u) None = gives_right operator u right ≡ false
AreOpen operator left right (Some u) (Some v) = ⊥

-- no operator stands over constants, for all of which it has a value, and none gives back its operand
abbrev pub IsComputed : Expr → Type 0
IsComputed (Constant word) = Unit {0}
IsComputed (Variable x) = Unit {0}
IsComputed (Element array index) = IsComputed index
IsComputed (Unary operator operand) = (constant_of operand ≡ None) × (is_idle operator operand ≡ false) × IsComputed operand
IsComputed (Binary operator left right) = AreOpen operator left right (constant_of left) (constant_of right) × IsComputed left × IsComputed right

-- nor has a choice a constant test
abbrev mutual
  pub IsDone : Statement → Type 0
  IsDone (Set x e) = IsComputed e
  IsDone (Put e) = IsComputed e
  IsDone (Get x) = Unit {0}
  IsDone (Keep array i e) = IsComputed i × IsComputed e
  IsDone (Mark m) = Unit {0}
  IsDone (Seq parts) = AreDone parts
  IsDone (If test first other) = (constant_of test ≡ None) × IsComputed test × IsDone first × IsDone other
  IsDone (Loop id least most body) = IsDone body
  IsDone (Block body) = IsDone body
  IsDone (Leave d) = Unit {0}
  IsDone (Call f values arrays into) = All IsComputed values
  IsDone (Return e) = IsComputed e

  pub AreDone : Statements → Type 0
  AreDone End = Unit {0}
  AreDone (Then first rest) = IsDone first × AreDone rest

-- what the pass makes of a program
pub record IsFolded (old new : Program) (copies : Listing) : Type 0 where
  pub program_is : new ≡ folded_program old
  pub copies_are : copies ≡ folded_listing old
  pub done : All (λ f. IsDone f.body) new.functions
