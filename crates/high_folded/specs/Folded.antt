-- A program in which what is known is computed: operators over constants, and choices whose test is a constant; and in which
-- what changes nothing is left out: conversions of what their kind keeps, operators with a neutral constant.
use Rattle.std.specs.Prelude.{ℕ, zero, suc, ◌+◌, List, [], ◌∷◌, ◌++◌, length, map, Option, Some, None, if◌then◌else◌}
use Rattle.high_ir.specs.declared.object.Kind.{Kind}
use Rattle.high_ir.specs.declared.object.Kind.TheVariants.{Unsigned8}
use Rattle.high_ir.specs.declared.expression.UnaryOperator.{UnaryOperator}
use Rattle.high_ir.specs.declared.expression.BinaryOperator.{BinaryOperator}
use Rattle.high_ir.specs.Tree.{Expr, Constant, Variable, Element, Unary, Binary, Statement, Set, Put, Get, Keep, Mark, Seq, If, Loop, Block, Leave, Call, Return, Statements, End, Then, Function, Program}
use Rattle.high_ir.specs.Words.{unary_word, binary_word}
use Rattle.high_folded.specs.Ranges.{gives_left, gives_right, is_idle, is_lost}

-- the word of a constant
abbrev pub constant_of : Expr → Option ℕ
constant_of (Constant word) = Some word
constant_of (Variable x) = None
constant_of (Element array index) = None
constant_of (Unary operator operand) = None
constant_of (Binary operator left right) = None

-- an operator over operands, of which these are constants: what it computes, or the operand that it gives back
abbrev pub unary_folded : Option ℕ → UnaryOperator → Expr → Expr
unary_folded None operator operand = if is_idle operator operand then operand else Unary operator operand
unary_folded (Some word) operator operand = Constant (unary_word operator word)

abbrev pub binary_folded : Option ℕ → Option ℕ → BinaryOperator → (left right : Expr) → Expr
binary_folded None None operator left right = Binary operator left right
binary_folded None (Some v) operator left right = if gives_left operator left v then left else Binary operator left right
binary_folded (Some u) None operator left right = if gives_right operator u right then right else Binary operator left right
binary_folded (Some u) (Some v) operator left right = Constant (binary_word operator u v)

abbrev pub folded_expr : Expr → Expr
folded_expr (Constant word) = Constant word
folded_expr (Variable x) = Variable x
folded_expr (Element array index) = Element array (folded_expr index)
folded_expr (Unary operator operand) = unary_folded (constant_of (folded_expr operand)) operator (folded_expr operand)
folded_expr (Binary operator left right) = binary_folded (constant_of (folded_expr left)) (constant_of (folded_expr right)) operator (folded_expr left) (folded_expr right)

-- an expression whose value is stored into an element of a kind: without the conversions that the store makes anyway
abbrev pub stored_expr : Kind → Expr → Expr
stored_expr kind (Constant word) = Constant word
stored_expr kind (Variable x) = Variable x
stored_expr kind (Element array index) = folded_expr (Element array index)
stored_expr kind (Unary operator operand) = if is_lost kind operator then stored_expr kind operand else folded_expr (Unary operator operand)
stored_expr kind (Binary operator left right) = folded_expr (Binary operator left right)

-- of a choice, one of its ways where its test is this constant, and else both
abbrev pub decided : {A : Type 0} → Option ℕ → (first other both : A) → A
decided None first other both = both
decided (Some zero) first other both = other
decided (Some (suc n)) first other both = first

-- the loops that stay, by their numbers, in the order in which they begin
abbrev mutual
  pub kept_loops : Statement → List ℕ
  kept_loops (Loop id least most body) = id ∷ kept_loops body
  kept_loops (Seq parts) = kept_all parts
  kept_loops (If test first other) = decided (constant_of (folded_expr test)) (kept_loops first) (kept_loops other) (kept_loops first ++ kept_loops other)
  kept_loops (Block body) = kept_loops body
  kept_loops (Set x e) = []
  kept_loops (Put e) = []
  kept_loops (Get x) = []
  kept_loops (Keep array i e) = []
  kept_loops (Mark m) = []
  kept_loops (Leave d) = []
  kept_loops (Call f values arrays into) = []
  kept_loops (Return e) = []

  pub kept_all : Statements → List ℕ
  kept_all End = []
  kept_all (Then first rest) = kept_loops first ++ kept_all rest

-- a statement, whose loops get the numbers from n on
abbrev mutual
  pub folded : ℕ → Statement → Statement
  folded n (Set x e) = Set x (folded_expr e)
  folded n (Put e) = Put (stored_expr Unsigned8 e)
  folded n (Get x) = Get x
  folded n (Keep array i e) = Keep array (folded_expr i) (stored_expr array.kind e)
  folded n (Mark m) = Mark m
  folded n (Seq parts) = Seq (folded_all n parts)
  folded n (If test first other) = decided (constant_of (folded_expr test)) (folded n first) (folded n other) (If (folded_expr test) (folded n first) (folded (n + length (kept_loops first)) other))
  folded n (Loop id least most body) = Loop n least most (folded (n + 1) body)
  folded n (Block body) = Block (folded n body)
  folded n (Leave d) = Leave d
  folded n (Call f values arrays into) = Call f (map folded_expr values) arrays into
  folded n (Return e) = Return (folded_expr e)

  pub folded_all : ℕ → Statements → Statements
  folded_all n End = End
  folded_all n (Then first rest) = Then (folded n first) (folded_all (n + length (kept_loops first)) rest)

abbrev pub folded_function : ℕ → Function → Function
folded_function n f = record { values = f.values; arrays = f.arrays; locals = f.locals; rank = f.rank; body = folded n f.body }

-- the same of all functions
abbrev pub kept_in : List Function → List ℕ
kept_in [] = []
kept_in (f ∷ rest) = kept_loops f.body ++ kept_in rest

abbrev pub folded_functions : ℕ → List Function → List Function
folded_functions n [] = []
folded_functions n (f ∷ rest) = folded_function n f ∷ folded_functions (n + length (kept_loops f.body)) rest

-- marks keep their numbers
abbrev pub folded_program : Program → Program
folded_program p = record { functions = folded_functions 0 p.functions; objects = p.objects; main = p.main; marks = p.marks; loops = length (kept_in p.functions) }
