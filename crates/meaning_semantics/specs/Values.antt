-- What expressions do and give (C11 6.5). `call` is what calls of functions do.
use Rattle.std.specs.Prelude.{ℕ, Bool, true, false, not, List, [], ◌∷◌, Option, Some, slice_index_or}
use Rattle.types_value.specs.Kinds.{converted, is_void, promoted}
use Rattle.types_value.specs.Operators.{computed, signed_by}
use Rattle.types_tree.specs.Tree.{Place, Scalar, Element, Within, Expr, Number, Character, Read, Array, Paren, Call, Step, Signed, Cast, Convert, Operate, And, Or, Comma, Conditional, Assign, Update, Exprs, NoExpr, WithExpr}
use Rattle.types_tree.specs.declared.expression.Callee.{Callee}
use Rattle.types_tree.specs.declared.expression.Callee.TheVariants.{Getchar, Putchar, Function as Own}
use Rattle.types_tree.specs.declared.variable.Variable.{Variable}
use Rattle.meaning_semantics.specs.declared.outcome.Found.{Found}
use Rattle.meaning_semantics.specs.declared.outcome.Operands.{Operands}
use Rattle.meaning_semantics.specs.declared.outcome.Target.{Target}
use Rattle.meaning_semantics.specs.State.{State, Outcome, Fine, then_do, read, write, placed, array_number, at_place, settled, changed, step_operator, step_value, got, put, needed, choose, truth}

-- what a call of a function with these words does, at a place; none where the function ends without a value
abbrev pub Calls : Type 0
Calls = (function : ℕ) → List ℕ → (at : ℕ) → State → Outcome (Option ℕ)

-- `getchar` and `putchar` stand for calls of their own (C11 7.21.7)
abbrev pub called : Calls → Callee → (at : ℕ) → List ℕ → State → Outcome (Option ℕ)
called call Getchar at words st = then_do (got st) (λ word st1. Fine (Some word) st1)
called call Putchar at words st = then_do (put (slice_index_or words 0 0) st) (λ word st1. Fine (Some word) st1)
called call (Own function) at words st = call function.0 words at st

-- the operands from the left to the right
abbrev pub both : (left right : State → Outcome ℕ) → State → Outcome Operands
both left right st = then_do (left st) (λ x st1. then_do (right st1) (λ y st2. Fine (record { left = x; right = y }) st2))

-- what is assigned is found before the right side is evaluated
abbrev pub targeted : (State → Outcome Found) → (State → Outcome ℕ) → State → Outcome Target
targeted find value st = then_do (find st) (λ found st1. then_do (value st1) (λ word st2. Fine (record { found = found; word = word }) st2))

module _ (variables : List Variable) (call : Calls) where
  abbrev mutual
    -- an index is tested as soon as its element is found
    pub find : Place → State → Outcome Found
    find (Scalar object at) st = Fine (record { object = object; index = 0; at = at }) st
    find (Element array index at) st =
        then_do (value index true st) (λ i st1. then_do (array_number variables array at st1) (λ object st2. placed (record { object = object; index = i; at = at }) st2))
    find (Within inner at) st = find inner st

    -- brackets, the right side of a comma, both parts of a conditional and conversions use a value where theirs is used
    pub value : Expr → (used : Bool) → State → Outcome ℕ
    value (Number constant at) used st = Fine constant.value st
    value (Character word at) used st = Fine word st
    value (Read place) used st = then_do (find place st) read
    value (Array object at) used st = array_number variables object at st
    value (Paren inner at) used st = value inner used st
    value (Call callee arguments at) used st = then_do (then_do (values arguments st) (called call callee at)) (needed used at)
    value (Step fix operator kind target at) used st =
        then_do (find target st) (λ found st1. then_do (changed (at_place at found) (step_operator operator) (promoted kind) kind 1 st1) (λ change st2. Fine (step_value fix change) st2))
    value (Signed operator kind operand at) used st = then_do (value operand true st) (λ x st1. settled (signed_by operator kind x) at st1)
    value (Cast specifiers to operand at) used st = then_do (value operand (not (is_void to)) st) (λ x st1. Fine (converted to x) st1)
    value (Convert to operand) used st = then_do (value operand used st) (λ x st1. Fine (converted to x) st1)
    value (Operate operator kind left right at) used st =
        then_do (both (value left true) (value right true) st) (λ x st1. settled (computed operator kind x.left x.right) at st1)
    value (And left right at) used st =
        then_do (value left true st) (λ x st1. choose x (then_do (value right true st1) (λ y st2. Fine (truth y) st2)) (Fine 0 st1))
    value (Or left right at) used st =
        then_do (value left true st) (λ x st1. choose x (Fine 1 st1) (then_do (value right true st1) (λ y st2. Fine (truth y) st2)))
    value (Comma left right at) used st = then_do (value left false st) (λ x st1. value right used st1)
    value (Conditional test first second at) used st =
        then_do (value test true st) (λ x st1. choose x (value first used st1) (value second used st1))
    value (Assign target right at) used st =
        then_do (targeted (find target) (value right true) st) (λ target st1. write target.found target.word st1)
    value (Update operator kind to target right at) used st =
        then_do (targeted (find target) (value right true) st) (λ target st1.
        then_do (changed (at_place at target.found) operator kind to target.word st1) (λ change st2. Fine change.behind st2))

    pub values : Exprs → State → Outcome (List ℕ)
    values NoExpr st = Fine [] st
    values (WithExpr e rest) st = then_do (value e true st) (λ word st1. then_do (values rest st1) (λ words st2. Fine (word ∷ words) st2))
