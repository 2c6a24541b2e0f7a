-- What the expressions of numbered sources give.
use Rattle.std.proofs.Common.{◌≡◌, ℕ, ◌+◌, ◌*◌, ◌%◌, ◌<◌, ◌≤◌, Bool, true, List, Some, Ok, refl, ap, ◌∙◌, arith}
use Rattle.c_tree.specs.declared.expression.PostfixOperator.TheVariants.{Increment}
use Rattle.types_tree.specs.Tree.{Scalar, Expr, Number, Read, Paren, Step, Operate, Assign}
use Rattle.types_tree.specs.declared.expression.Fix.TheVariants.{Postfix}
use Rattle.types_tree.specs.declared.variable.Variable.{Variable}
use Rattle.types_value.specs.Operators.{computed}
use Rattle.types_value.specs.declared.kind.Kind.TheVariants.{Int}
use Rattle.types_value.specs.declared.operator.Operator.{Operator}
use Rattle.types_value.specs.declared.operator.Operator.TheVariants.{Multiply, Remainder, Add}
use Rattle.meaning_semantics.specs.State.{State, Outcome, Fine, settled, step_value, then_do, write}
use Rattle.meaning_semantics.specs.Values.{Calls, value}
use Rattle.meaning_semantics.specs.declared.outcome.Change.{Change}
use Rattle.meaning_semantics.specs.declared.outcome.Operands.{Operands}
use Rattle.meaning_semantics.specs.declared.outcome.Target.{Target}
use Rattle.command_numbered.proofs.Trees.{int}
use Rattle.command_numbered.proofs.Programs as typed
use Rattle.command_numbered.proofs.Cells.{Cell, IsOne, found_at, put, reads, writes}
use Rattle.command_numbered.proofs.RunWords.{product_is, remainder_is, sum_is}

module _ (variables : List Variable) (call : Calls) where
  pub read_value : (object at w : ℕ) (used : Bool) (st : State) → Cell object (Some w) st → value variables call (Read (Scalar object at)) used st ≡ Fine w st
  read_value object at w used st h = reads object at w st h

  pub operate_value : (operator : Operator) (left right : Expr) (at x y z : ℕ) (used : Bool) (st : State) → value variables call left true st ≡ Fine x st → value variables call right true st ≡ Fine y st → computed operator Int x y ≡ Ok z
      → value variables call (Operate operator Int left right at) used st ≡ Fine z st
  operate_value operator left right at x y z used st l r c =
      ap (λ o. then_do {A = Operands} (then_do o (λ x st1. then_do (value variables call right true st1) (λ y st2. Fine (record { left = x; right = y }) st2))) compute) l
      ∙ ap (λ o. then_do {A = Operands} (then_do o (λ y st2. Fine (record { left = x; right = y }) st2)) compute) r
      ∙ ap (λ o. settled o at st) c
    where
      compute : Operands → State → Outcome ℕ
      compute x st1 = settled (computed operator Int x.left x.right) at st1

  -- what is assigned may change the state first
  pub assign_value : (object name_at at w : ℕ) (right : Expr) (used : Bool) (st st1 : State) → value variables call right true st ≡ Fine w st1 → IsOne object st1
      → value variables call (Assign (Scalar object name_at) right at) used st ≡ Fine w (put object (Some w) st1)
  assign_value object name_at at w right used st st1 r one =
      ap (λ o. then_do {A = Target} (then_do o (λ v st2. Fine (record { found = found_at object name_at; word = v }) st2)) (λ x st2. write x.found x.word st2)) r
      ∙ writes object st1 one name_at w

  -- a step behind its operand gives the old value
  pub step_up : (object name_at at w : ℕ) (used : Bool) (st : State) → Cell object (Some w) st → w < 1000 → value variables call (Step Postfix Increment Int (Scalar object name_at) at) used st ≡ Fine w (put object (Some (w + 1)) st)
  step_up object name_at at w used st h low =
      ap (λ o. then_do {A = Change} (then_do o (λ before st1. then_do (settled (computed Add Int before 1) at st1) (written before))) given) (reads object at w st h)
      ∙ ap (λ r. then_do {A = Change} (then_do (settled r at st) (written w)) given) (sum_is w 1 (omega (arith, low)) (omega arith) (omega (arith, low)))
      ∙ ap (λ o. then_do {A = Change} (then_do o (λ behind st3. Fine (record { before = w; behind = behind }) st3)) given) (writes object st (Some w, h) at (w + 1))
    where
      written : ℕ → ℕ → State → Outcome Change
      written before result st2 = then_do (write (found_at object at) result st2) (λ behind st3. Fine (record { before = before; behind = behind }) st3)

      given : Change → State → Outcome ℕ
      given change st2 = Fine (step_value Postfix change) st2

  abbrev scaled : (s : ℕ) (q : ℕ → ℕ) → Expr
  scaled s q = Operate Multiply Int (Read (Scalar s (q 32))) (Number (int 5) (q 34)) (q 32)

  abbrev moved : (s i : ℕ) (q : ℕ → ℕ) → Expr
  moved s i q = Operate Add Int (scaled s q) (Number (int i) (q 36)) (q 32)

  scaled_value : (s w : ℕ) (q : ℕ → ℕ) (st : State) → Cell s (Some w) st → w < 1000 → value variables call (scaled s q) true st ≡ Fine (w * 5) st
  scaled_value s w q st h low =
      operate_value Multiply (Read (Scalar s (q 32))) (Number (int 5) (q 34)) (q 32) w 5 (w * 5) true st (read_value s (q 32) w true st h) refl (product_is w 5 (omega (arith, low)) (omega arith) (omega (arith, low)))

  moved_value : (s i w : ℕ) (q : ℕ → ℕ) (st : State) → Cell s (Some w) st → w < 1000 → i ≤ 100 → value variables call (moved s i q) true st ≡ Fine (w * 5 + i) st
  moved_value s i w q st h low few =
      operate_value Add (scaled s q) (Number (int i) (q 36)) (q 32) (w * 5) i (w * 5 + i) true st (scaled_value s w q st h low) refl (sum_is (w * 5) i (omega (arith, low)) (omega (arith, few)) (omega (arith, low, few)))

  -- (s * 5 + i) % 1000
  pub next_value : (x k s l i w : ℕ) (q : ℕ → ℕ) (used : Bool) (st : State) → Cell s (Some w) st → w < 1000 → i ≤ 100 → value variables call (typed.step x k s l i q) used st ≡ Fine ((w * 5 + i) % 1000) st
  next_value x k s l i w q used st h low few =
      operate_value Remainder (Paren (moved s i q) (q 31)) (Number (int 1000) (q 39)) (q 31) (w * 5 + i) 1000 ((w * 5 + i) % 1000) used st (moved_value s i w q st h low few) refl (remainder_is (w * 5 + i) 999 (omega (arith, low, few)) (omega arith))
