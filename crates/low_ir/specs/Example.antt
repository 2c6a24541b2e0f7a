-- A program with a loop and a call: the sum of three squares.
use Rattle.std.specs.Prelude.{ℕ, [], ◌∷◌, Some, None}
use Rattle.rv_core.specs.declared.row.Alu.TheVariants.{Sum, Difference, Product}
use Rattle.rv_core.specs.declared.row.Condition.TheVariants.{Equal}
use Rattle.low_ir.specs.Code.{Register, Constant, Set, Operate, Put, Do, Call, Jump, Branch, Return, Function, Low, Note}
use Rattle.low_ir.specs.Formed.{only_jump}

abbrev pub square : Function ℕ Note
square =
    record {
      parameters = 0 ∷ [];
      size = 2;
      loops = [];
      blocks = record { mark = Some 0; code = Do (Operate Product 1 (Register 0) (Register 0)) ∷ []; end = Return (Register 1) } ∷ [];
    }

abbrev pub squares : Function ℕ Note
squares =
    record {
      parameters = [];
      size = 3;
      loops = record { id = 0; least = 4; most = 4; header = 2; latch = 4 } ∷ [];
      blocks =
          record { mark = Some 1; code = []; end = Jump 1 }
          ∷ record { mark = None; code = Do (Set 0 (Constant 3)) ∷ Do (Set 1 (Constant 0)) ∷ []; end = Jump 2 }
          ∷ record { mark = Some 2; code = []; end = Branch Equal (Register 0) (Constant 0) 5 3 }
          ∷ record { mark = None; code = Call (Some 2) 0 (Register 0 ∷ []) tt ∷ Do (Operate Sum 1 (Register 1) (Register 2)) ∷ Do (Operate Difference 0 (Register 0) (Constant 1)) ∷ []; end = Jump 4 }
          ∷ only_jump 2
          ∷ record { mark = None; code = Do (Put (Register 1)) ∷ []; end = Return (Register 1) }
          ∷ [];
    }

abbrev pub example : Low
example = record { functions = square ∷ squares ∷ []; claims = []; objects = []; main = 1; marks = 3 }
