-- What the code makes of expressions and their parts.
use Rattle.std.specs.Prelude.{◌≡◌, ℕ, ◌+◌, Bool, true, false, List, map}
use Rattle.types_tree.specs.Tree as c
use Rattle.types_value.specs.Kinds.{is_signed, promoted}
use Rattle.types_value.specs.declared.kind.Kind.{Kind as CType}
use Rattle.types_value.specs.declared.operator.Operator.{Operator}
use Rattle.high_ir.specs.declared.object.Array.{Array}
use Rattle.high_ir.specs.Tree.{Expr, Constant, Variable, Element, Set, Keep, Statements, Then}
use Rattle.high_ir.specs.View.{expr_of}
use Rattle.high_code.specs.Code.{joined, alone}
use Rattle.plan_definition.specs.declared.home.Home.{Home}
use Rattle.plan_definition.specs.declared.purpose.Purpose.{Purpose}
use Rattle.plan_definition.specs.declared.purpose.Purpose.TheVariants.{Value, Effect, Unless, When}
use Rattle.plan_definition.specs.Operators.{convert, operated}
use Rattle.plan_definition.specs.Values as values
use Rattle.plan_definition.specs.Values.{finished, made, only_code, placed}
use Rattle.make_pieces.specs.declared.valued.Valued.{Valued}
use Rattle.make_pieces.specs.View.{code_of, valued_of}
use Rattle.make_expression.specs.declared.assigning.Change.{Change}
use Rattle.make_expression.specs.declared.passing.Passing.{Passing}

abbrev pub is_effect : Purpose → Bool
is_effect Value = false
is_effect Effect = true
is_effect (Unless depth) = false
is_effect (When depth) = false

-- the code that is asked for, and the value where it isn't dropped
pub record Makes (purpose : Purpose) (v : Valued) (p : values.Valued) : Type 0 where
  pub code : code_of v.code ≡ p.code
  pub whole : is_effect purpose ≡ false → valued_of v ≡ p

abbrev pub passing_of : Passing → values.Passing
passing_of p = record { code = code_of p.code; values = map expr_of p.values.items; arrays = p.arrays.items }

-- a new value from the old one
abbrev pub updated_word : Change → (right old : Expr) → Expr
updated_word change right old = operated change.operator (is_signed change.kind) (convert change.kind old) right

abbrev pub stepped_word : Operator → CType → ℕ → Expr
stepped_word operator kind x = operated operator (is_signed (promoted kind)) (Variable x) (Constant 1)

-- a value that is stored in an element from the temporary behind k
abbrev pub from_next : Statements → Array → ℕ → (index value : Expr) → values.Valued
from_next code array k index value = record { code = joined code (Then (Set (k + 1) value) (alone (Keep array index (Variable (k + 1))))); value = Variable (k + 1) }

-- an element that is stepped, with its old value in a temporary
abbrev pub element_behind : Operator → CType → ℕ → Array → values.Valued → values.Valued
element_behind operator kind next array i = record { code = joined i.code (Then (Set next (Element array i.value)) (alone (Keep array i.value (stepped_word operator kind next)))); value = Variable next }

-- one of the ways of a choice: its effects, or its value in the temporary
abbrev pub way : List Home → Purpose → c.Expr → ℕ → Statements
way homes Effect e k = (made homes Effect e k).code
way homes Value e k = placed k (made homes Value e k)
way homes (Unless depth) e k = placed k (made homes Value e k)
way homes (When depth) e k = placed k (made homes Value e k)

-- the code of a choice by value, and its value in the temporary k
abbrev pub chosen_for : Purpose → Statements → ℕ → values.Valued
chosen_for Effect code k = only_code code
chosen_for Value code k = finished Value (record { code = code; value = Variable k })
chosen_for (Unless depth) code k = finished (Unless depth) (record { code = code; value = Variable k })
chosen_for (When depth) code k = finished (When depth) (record { code = code; value = Variable k })
