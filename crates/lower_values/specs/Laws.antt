-- The instructions of an operator compute it, and the code of an expression finds its value.
use Rattle.std.specs.Prelude.{ℕ, ◌+◌, ◌<◌, ◌≤◌, ◌^◌, Bool, List, length, ◌≡◌, Some}
use Rattle.high_ir.specs.declared.expression.UnaryOperator.{UnaryOperator}
use Rattle.high_ir.specs.declared.expression.BinaryOperator.{BinaryOperator}
use Rattle.high_ir.specs.Words.{unary_word, binary_word}
use Rattle.low_ir.specs.Code.{Operand}
use Rattle.low_ir.specs.Effects.{World}
use Rattle.low_ir.specs.Runs.{Bank}
use Rattle.lower_definition.specs.Operators.{binary_code, binary_needs, unary_code, unary_needs}
use Rattle.lower_values.specs.Computing.{Has, Puts}
use Rattle.high_ir.specs.Tree.{Expr}
use Rattle.lower_definition.specs.Values.{Scope, Share, operand, tested, value_into}
use Rattle.lower_values.specs.Meeting.{Decides, Finds, IsBelow, MeetsWorld, Stands}
use Rattle.high_ir.specs.Meaning as high
use Rattle.high_ir.specs.Whole.{IsWordy}

-- over any bank that has the registers d and, where they are needed, those from t on: the left operand may be read behind a write of t
abbrev pub UnaryComputes : Type 0
UnaryComputes =
    (claims : List (List ℕ)) (u : World) (s : Bank) (operator : UnaryOperator) (d t : ℕ) (x : Operand ℕ) (a : ℕ) → d < t → t + unary_needs operator ≤ length s → a < 2 ^ 32 → Has s x a → Puts claims u (unary_code operator d t x) s t d (unary_word operator a)

abbrev pub BinaryComputes : Type 0
BinaryComputes =
    (claims : List (List ℕ)) (u : World) (s : Bank) (shifts : Bool) (operator : BinaryOperator) (d t : ℕ) (x y : Operand ℕ) (a b : ℕ) → d < t → t + binary_needs operator ≤ length s → a < 2 ^ 32 → b < 2 ^ 32 → IsBelow t x → Has s x a → Has s y b → Puts claims u (binary_code shifts operator d t x y) s t d (binary_word operator a b)

-- a frame and a world of both forms, where the registers from t on are free
pub record Ground (scope : Scope) (shares : List Share) (claims : List (List ℕ)) (u : World) (passed : List ℕ) (vars : high.Variables) (w : high.World) (s : Bank) (t : ℕ) : Type 0 where
  pub world : MeetsWorld scope w u
  pub stands : Stands scope claims passed vars shares s t

-- an expression as an operand, in a register, and as a test
pub record IsFound (scope : Scope) (shares : List Share) (claims : List (List ℕ)) (u : World) (s : Bank) (t : ℕ) (e : Expr) (v : ℕ) : Type 0 where
  pub as_operand : (operand scope shares e t).free ≤ length s → Finds claims u (operand scope shares e t).code s t (operand scope shares e t).value v
  pub in_register : (d : ℕ) → d < t → (value_into scope shares e d t).free ≤ length s → Puts claims u (value_into scope shares e d t).code s t d v
  pub as_test : (tested scope shares e t).free ≤ length s → Decides claims u (tested scope shares e t) s t v

abbrev pub ExpressionsAreFound : Type 0
ExpressionsAreFound =
    (scope : Scope) (shares : List Share) (claims : List (List ℕ)) (u : World) (passed : List ℕ) (vars : high.Variables) (w : high.World) (s : Bank) (t : ℕ) (e : Expr) (v : ℕ) → Ground scope shares claims u passed vars w s t → IsWordy e → high.value_of passed vars w e ≡ Some v → IsFound scope shares claims u s t e v
