-- A program in the high form and the program that it becomes: `for (i = 0; i < 4; i++) a[i] = b[i + 1] / 8;` in a function that is
-- run, and a function that nobody calls.
use Rattle.std.specs.Prelude.{ℕ, [], ◌∷◌, Some, None}
use Rattle.rv_core.specs.declared.row.Alu.TheVariants.{Sum, ShiftLeft, ShiftRight, ShiftRightSigned}
use Rattle.rv_core.specs.declared.row.Condition.TheVariants as conditions
use Rattle.high_ir.specs.declared.object.Array.{Array}
use Rattle.high_ir.specs.declared.object.Base.TheVariants.{Object}
use Rattle.high_ir.specs.declared.object.Kind.TheVariants as kinds
use Rattle.high_ir.specs.declared.object.Storage.TheVariants as storages
use Rattle.high_ir.specs.declared.expression.BinaryOperator.TheVariants.{Add, Divide, Less}
use Rattle.high_ir.specs.Tree as high
use Rattle.low_ir.specs.declared.object.Kind.TheVariants.{Word}
use Rattle.low_ir.specs.declared.object.Storage.TheVariants.{Global}
use Rattle.low_ir.specs.Code.{Register, Constant, Fixed, Set, Operate, Load, Store, Do, Jump, Branch, Return, Low}
use Rattle.low_ir.specs.Formed.{only_jump}

abbrev pub array : ℕ → Array
array o = record { kind = kinds.Word; base = Object o }

abbrev pub words : high.Object
words = record { kind = kinds.Word; storage = storages.Global; size = 8; values = [] }

abbrev pub once : high.Statement
once =
    high.Seq (high.Then (high.If (high.Binary Less (high.Variable 0) (high.Constant 4)) (high.Seq high.End) (high.Leave 0))
    (high.Then (high.Keep (array 0) (high.Variable 0) (high.Binary Divide (high.Element (array 1) (high.Binary Add (high.Variable 0) (high.Constant 1))) (high.Constant 8)))
    (high.Then (high.Set 0 (high.Binary Add (high.Variable 0) (high.Constant 1))) high.End)))

abbrev pub body : high.Statement
body = high.Seq (high.Then (high.Set 0 (high.Constant 0)) (high.Then (high.Block (high.Loop 0 5 5 once)) (high.Then (high.Return (high.Constant 0)) high.End)))

abbrev pub example : high.Program
example = record {
  functions =
      record { values = 0; arrays = 0; locals = 0; rank = 0; body = high.Return (high.Constant 0) }
      ∷ record { values = 0; arrays = 0; locals = 1; rank = 0; body = body }
      ∷ [];
  objects = words ∷ words ∷ [];
  main = 1;
  marks = 2;
  loops = 1;
}

-- the index is scaled once, its constant part is in the displacement, and what is below 0 gets 7 more before its bits go down
abbrev pub example_lowered : Low
example_lowered = record {
  functions =
      record {
        parameters = [];
        size = 5;
        loops = record { id = 0; least = 5; most = 5; header = 1; latch = 3 } ∷ [];
        blocks =
            record { mark = Some 1; code = Do (Set 0 (Constant 0)) ∷ []; end = Jump 1 }
            ∷ record { mark = None; code = []; end = Branch conditions.Less (Register 0) (Constant 4) 2 4 }
            ∷ record {
              mark = None;
              code =
                  Do (Operate ShiftLeft 1 (Register 0) (Constant 2))
                  ∷ Do (Load Word 3 (record { base = Fixed 1; offset = Some 1; displacement = 4 }))
                  ∷ Do (Operate ShiftRightSigned 4 (Register 3) (Constant 31))
                  ∷ Do (Operate ShiftRight 4 (Register 4) (Constant 29))
                  ∷ Do (Operate Sum 4 (Register 3) (Register 4))
                  ∷ Do (Operate ShiftRightSigned 2 (Register 4) (Constant 3))
                  ∷ Do (Store Word (record { base = Fixed 0; offset = Some 1; displacement = 0 }) (Register 2))
                  ∷ Do (Operate Sum 0 (Register 0) (Constant 1))
                  ∷ [];
              end = Jump 3;
            }
            ∷ only_jump 1
            ∷ record { mark = None; code = []; end = Return (Constant 0) }
            ∷ [];
      }
      ∷ [];
  claims = [];
  objects = record { kind = Word; storage = Global; size = 8; values = [] } ∷ record { kind = Word; storage = Global; size = 8; values = [] } ∷ [];
  main = 0;
  marks = 2;
}
