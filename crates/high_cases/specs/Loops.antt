-- Programs with loops, for tests.
use Rattle.std.specs.Prelude.{ℕ, [], ◌∷◌}
use Rattle.high_ir.specs.declared.expression.BinaryOperator.TheVariants.{Add, Less, Remainder}
use Rattle.high_ir.specs.Tree.{Expr, Constant, Variable, Binary, Statement, Set, Seq, If, Loop, Block, Leave, Return, End, Then, Function, Program}

-- leaves the block around it where a value is 0
abbrev pub unless : Expr → Statement
unless test = If test (Seq End) (Leave 0)

abbrev pub add_to : (variable : ℕ) → Expr → Statement
add_to x e = Set x (Binary Add (Variable x) e)

-- for (; i < limit; i++) s += i;
abbrev pub count_up : (limit least most : ℕ) → Statement
count_up limit least most = Block (Loop 0 least most (Seq (Then (unless (Binary Less (Variable 0) (Constant limit))) (Then (add_to 1 (Variable 0)) (Then (add_to 0 (Constant 1)) End)))))

-- do do n++; while (n % 10); while (n < 100);
abbrev pub by_tens : Statement
by_tens =
    Block (Loop 0 10 10 (Seq
    (Then (Block (Loop 1 10 10 (Seq (Then (add_to 0 (Constant 1)) (Then (unless (Binary Remainder (Variable 0) (Constant 10))) End)))))
    (Then (unless (Binary Less (Variable 0) (Constant 100))) End))))

-- a function that sets two variables, has a statement, and returns one of them
abbrev pub main_of : (first : ℕ) → Statement → (returned : ℕ) → Function
main_of first body returned = record { values = 0; arrays = 0; locals = 2; rank = 0; body = Seq (Then (Set 0 (Constant first)) (Then (Set 1 (Constant 0)) (Then body (Then (Return (Variable returned)) End)))) }

-- a program of one function
abbrev pub around : Function → (loops : ℕ) → Program
around f loops = record { functions = f ∷ []; objects = []; main = 0; marks = 1; loops = loops }
