-- Two functions, the second of which calls the first three times; for tests.
use Rattle.std.specs.Prelude.{ℕ, [], ◌∷◌, None, Option, Some}
use Rattle.high_ir.specs.declared.expression.BinaryOperator.TheVariants.{Subtract}
use Rattle.high_ir.specs.Tree.{Constant, Variable, Binary, Statement, Set, Mark, Seq, If, Loop, Call, Return, End, Then}

abbrev pub pair : Statement → Statement → Statement
pair first other = Seq (Then first (Then other End))

-- passes mark 2 as often as its value says, and returns 6
abbrev pub counting_down : Statement
counting_down = Loop 0 0 9 (pair (If (Variable 0) (Mark 2) (Return (Constant 6))) (Set 0 (Binary Subtract (Variable 0) (Constant 1))))

abbrev pub call : ℕ → Option ℕ → Statement
call word into = Call 0 (Constant word ∷ []) [] into

abbrev pub calling : Statement
calling = pair (pair (call 1 None) (call 2 None)) (pair (call 3 (Some 0)) (Return (Variable 0)))
