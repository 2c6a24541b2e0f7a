-- What a call passes.
use Rattle.std.specs.Prelude.{◌≡◌, ℕ, ◌<◌, ◌≤◌, List, length, map, take, All}
use Rattle.low_ir.specs.declared.places.Place.{Place}
use Rattle.low_ir.specs.Code.{Operand}
use Rattle.low_ir.specs.Places.{Placed}
use Rattle.asm_program.specs.Emission.{kept_among}
use Rattle.asm_program.specs.Functions.{function_in}
use Rattle.asm_program.specs.Ranges.{IsLasting, InOperand}
use Rattle.asm_emission.specs.View.{operand_of}
use Rattle.asm_code.specs.declared.passed.Passing.{Passing}

-- these operands, in the places of the callee's first parameters, of which the call keeps some
pub record Passes (p : Placed) (callee : ℕ) (args : List (Operand Place)) (note : List ℕ) (passing : Passing) : Type 0 where
  pub places : passing.places.items ≡ take (length args) (function_in p callee).parameters
  pub arguments : map operand_of passing.arguments.items ≡ args
  pub kept : passing.kept.items ≡ kept_among passing.places.items note

-- places and operands are in their ranges, and no more places than operands
pub record IsPassing (passing : Passing) : Type 0 where
  pub registers : All IsLasting passing.places.items
  pub operands : All InOperand (map operand_of passing.arguments.items)
  pub below : All (λ q. q < 24) passing.kept.items
  pub few : length passing.places.items ≤ length passing.arguments.items
