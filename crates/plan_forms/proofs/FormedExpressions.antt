-- The code of expressions keeps to the form.
use Rattle.std.proofs.Common.{ℕ, suc, ◌+◌, ◌<◌, Bool, true, false, not, List, Option, Some, None, arith}
use Rattle.std.specs.Prelude.{◌&&◌, ◌||◌}
use Rattle.types_tree.specs.declared.expression.Callee.{Callee}
use Rattle.types_tree.specs.declared.expression.Callee.TheVariants.{Getchar, Putchar, Function as Own}
use Rattle.types_tree.specs.declared.expression.Fix.{Fix}
use Rattle.types_tree.specs.declared.expression.Fix.TheVariants.{Prefix, Postfix}
use Rattle.types_tree.specs.Tree as c
use Rattle.types_value.specs.Kinds.{is_signed, promoted}
use Rattle.types_value.specs.declared.kind.Kind.{Kind as CType}
use Rattle.types_value.specs.declared.operator.Operator.{Operator}
use Rattle.types_value.specs.declared.operator.Sign.{Sign}
use Rattle.types_value.specs.declared.operator.Sign.TheVariants.{Negate, Plus, Complement, Not}
use Rattle.high_ir.specs.declared.object.Array.{Array}
use Rattle.high_ir.specs.Tree.{Expr, Constant, Variable, Element, Set, Put, Get, Keep, Seq, If, Leave, Call, Statements, End, Then}
use Rattle.high_code.specs.Code.{joined, alone, is_empty}
use Rattle.plan_definition.specs.declared.home.Home.{Home}
use Rattle.plan_definition.specs.declared.purpose.Purpose.{Purpose}
use Rattle.plan_definition.specs.declared.purpose.Purpose.TheVariants.{Value, Effect, Unless, When}
use Rattle.plan_definition.specs.Homes.{Target, InFrame, InMemory, loaded}
use Rattle.plan_definition.specs.Operators.{convert, operated, signed}
use Rattle.plan_definition.specs.Values.{Valued, Passing, aimed, argument, array_named, assigned, called, changed_by, changed_in, choice, firm, first_value, for_operand, is_changed, is_joint, is_leaf, is_variable, kept, known, leaf, leaf_for, made, operated_on, passing, placed, plain, put, signed_for, step_operator, stepped, stepped_behind, updated}
use Rattle.plan_forms.specs.Forms.{Limits, AllFormed, Allowed, AllAllowed, CalleeAllowed, PlaceAllowed}
use Rattle.plan_forms.proofs.FormedPieces.{Leaves, formed_finished, formed_held, formed_joined}

pub none_left : (n : ℕ) → 0 < suc n
none_left n = omega arith

deeper_left : (d n : ℕ) → d < n → suc d < suc n
deeper_left d n lt = omega (arith, lt)

module _ (l : Limits) where
  leaf_formed : (purpose : Purpose) (k n : ℕ) (p : Valued) → AllFormed l n p.code → AllFormed l n (leaf_for purpose k p).code
  leaf_formed Effect k n p h = h
  leaf_formed Value k n p h = formed_held l (not (is_leaf p.value)) k n p End h tt
  leaf_formed (Unless depth) k n p h = formed_held l (not (is_leaf p.value)) k n p End h tt
  leaf_formed (When depth) k n p h = formed_held l (not (is_leaf p.value)) k n p End h tt

  kept_formed : (k n : ℕ) (p : Valued) (after : Statements) → AllFormed l n p.code → AllFormed l n after → AllFormed l n (kept k p after).code
  kept_formed k n p after h a = formed_held l (not (is_empty after) && is_changed p.value after) k n p after h a

  firm_formed : (k n : ℕ) (p : Valued) (after : Statements) → AllFormed l n p.code → AllFormed l n after → AllFormed l n (firm k p after).code
  firm_formed k n p after h a = formed_held l (not (is_leaf p.value) || (is_changed p.value after || is_variable (k + 1) p.value)) k n p after h a

  assigned_formed : (purpose : Purpose) (k n : ℕ) (target : Target) (code : Statements) (right : Valued) → AllFormed l n code → AllFormed l n right.code → AllFormed l n (assigned purpose k target code right).code
  assigned_formed purpose k n (InFrame x) code right h r = formed_joined l n code (joined right.code (alone (Set x right.value))) h (formed_joined l n right.code (alone (Set x right.value)) r (tt, tt))
  assigned_formed purpose k n (InMemory array index) code right h r =
      let value = leaf_for purpose (k + 1) right in
      let i = kept k (record { code = code; value = index }) value.code in
      formed_joined l n i.code (alone (Keep array i.value value.value)) (kept_formed k n (record { code = code; value = index }) value.code h (leaf_formed purpose (k + 1) n right r)) (tt, tt)

  changed_formed : (purpose : Purpose) (k n : ℕ) (array : Array) (i : Valued) (new converted : Expr → Expr) → AllFormed l n i.code → AllFormed l n (changed_in purpose array k i new converted).code
  changed_formed Effect k n array i new converted h = formed_joined l n i.code (alone (Keep array i.value (new (Element array i.value)))) h (tt, tt)
  changed_formed Value k n array i new converted h = formed_joined l n i.code (Then (Set (k + 1) (converted (new (Element array i.value)))) (alone (Keep array i.value (Variable (k + 1))))) h (tt, (tt, tt))
  changed_formed (Unless depth) k n array i new converted h = formed_joined l n i.code (Then (Set (k + 1) (converted (new (Element array i.value)))) (alone (Keep array i.value (Variable (k + 1))))) h (tt, (tt, tt))
  changed_formed (When depth) k n array i new converted h = formed_joined l n i.code (Then (Set (k + 1) (converted (new (Element array i.value)))) (alone (Keep array i.value (Variable (k + 1))))) h (tt, (tt, tt))

  updated_formed : (purpose : Purpose) (operator : Operator) (kind to : CType) (k n : ℕ) (target : Target) (code : Statements) (right : Valued) → AllFormed l n code → AllFormed l n right.code → AllFormed l n (updated purpose operator kind to k target code right).code
  updated_formed purpose operator kind to k n (InFrame x) code right h r =
      let e = convert to (operated operator (is_signed kind) (convert kind (Variable x)) right.value) in
      formed_joined l n code (joined right.code (alone (Set x e))) h (formed_joined l n right.code (alone (Set x e)) r (tt, tt))
  updated_formed purpose operator kind to k n (InMemory array index) code right h r =
      changed_formed purpose k n array (firm k (record { code = code; value = index }) right.code) (λ old. operated operator (is_signed kind) (convert kind old) right.value) (convert to) (firm_formed k n (record { code = code; value = index }) right.code h r)

  behind_formed : (operator : Operator) (kind : CType) (k n : ℕ) (target : Target) (code : Statements) → AllFormed l n code → AllFormed l n (stepped_behind operator kind k target code).code
  behind_formed operator kind k n (InFrame x) code h =
      formed_joined l n code (Then (Set k (Variable x)) (alone (Set x (convert kind (operated operator (is_signed (promoted kind)) (Variable k) (Constant 1)))))) h (tt, (tt, tt))
  behind_formed operator kind k n (InMemory array index) code h =
      let i = firm k (record { code = code; value = index }) End in
      formed_joined l n i.code (Then (Set (k + 1) (Element array i.value)) (alone (Keep array i.value (operated operator (is_signed (promoted kind)) (Variable (k + 1)) (Constant 1)))))
      (firm_formed k n (record { code = code; value = index }) End h tt) (tt, (tt, tt))

  stepped_formed : (purpose : Purpose) (fix : Fix) (operator : Operator) (kind : CType) (k n : ℕ) (target : Target) (code : Statements) → AllFormed l n code → AllFormed l n (stepped purpose fix operator kind k target code).code
  stepped_formed purpose Prefix operator kind k n target code h = updated_formed purpose operator (promoted kind) kind k n target code (known 1) h tt
  stepped_formed Effect Postfix operator kind k n target code h = updated_formed Effect operator (promoted kind) kind k n target code (known 1) h tt
  stepped_formed Value Postfix operator kind k n target code h = behind_formed operator kind k n target code h
  stepped_formed (Unless depth) Postfix operator kind k n target code h = behind_formed operator kind k n target code h
  stepped_formed (When depth) Postfix operator kind k n target code h = behind_formed operator kind k n target code h

  put_formed : (purpose : Purpose) (k n : ℕ) (p : Valued) → AllFormed l n p.code → AllFormed l n (put purpose k p).code
  put_formed purpose k n p h = of purpose
    where
      effect : AllFormed l n (joined p.code (alone (Put p.value)))
      effect = formed_joined l n p.code (alone (Put p.value)) h (tt, tt)

      value : AllFormed l n (joined (leaf k p).code (alone (Put (leaf k p).value)))
      value = formed_joined l n (leaf k p).code (alone (Put (leaf k p).value)) (formed_held l (not (is_leaf p.value)) k n p End h tt) (tt, tt)

      of : (purpose : Purpose) → AllFormed l n (put purpose k p).code
      of Effect = effect
      of Value = value
      of (Unless depth) = value
      of (When depth) = value

  called_formed : (purpose : Purpose) (callee : Callee) (k n : ℕ) (p : Passing) → CalleeAllowed l callee → AllFormed l n p.code → AllFormed l n (called purpose callee k p).code
  called_formed purpose Getchar k n p may h = formed_joined l n p.code (alone (Get k)) h (tt, tt)
  called_formed purpose Putchar k n p may h = put_formed purpose k n (record { code = p.code; value = first_value p.values }) h
  called_formed purpose (Own function) k n p may h = of purpose
    where
      value : AllFormed l n (joined p.code (alone (Call function.0 p.values p.arrays (Some k))))
      value = formed_joined l n p.code (alone (Call function.0 p.values p.arrays (Some k))) h (may, tt)

      of : (purpose : Purpose) → AllFormed l n (called purpose (Own function) k p).code
      of Effect = formed_joined l n p.code (alone (Call function.0 p.values p.arrays None)) h (may, tt)
      of Value = value
      of (Unless depth) = value
      of (When depth) = value

  choice_formed : (joint : Bool) (n : ℕ) (test : Valued) (jumps first other : Statements) → AllFormed l n test.code → AllFormed l (suc (suc n)) jumps → AllFormed l n first → AllFormed l n other → AllFormed l (suc (suc n)) first → AllFormed l (suc n) other → AllFormed l n (choice joint test jumps first other)
  choice_formed false n test jumps first other t j f o f2 o1 = formed_joined l n test.code (alone (If test.value (Seq first) (Seq other))) t ((f, o), tt)
  choice_formed true n test jumps first other t j f o f2 o1 =
      ((formed_joined l (suc (suc n)) jumps (joined first (alone (Leave 1))) j (formed_joined l (suc (suc n)) first (alone (Leave 1)) f2 (one n, tt)), o1), tt)
    where
      one : (n : ℕ) → 1 < suc (suc n)
      one n = omega arith

  argument_formed : (homes : List Home) (o : Option ℕ) (k n : ℕ) (p : Valued) (rest : Passing) → AllFormed l n p.code → AllFormed l n rest.code → AllFormed l n (argument homes o k p rest).code
  argument_formed homes (Some object) k n p rest h r = r
  argument_formed homes None k n p rest h r = kept_formed k n p rest.code h r

  placed_formed : (k n : ℕ) (p : Valued) → AllFormed l n p.code → AllFormed l n (placed k p)
  placed_formed k n p h = formed_joined l n p.code (alone (Set k p.value)) h (tt, tt)

  signed_formed : (operator : Sign) (purpose : Purpose) (n : ℕ) (p : Valued) → Leaves l purpose n → AllFormed l n p.code → AllFormed l n (signed_for operator purpose p).code
  signed_formed Not (Unless depth) n p leaves h = h
  signed_formed Not (When depth) n p leaves h = h
  signed_formed Not Value n p leaves h = h
  signed_formed Not Effect n p leaves h = h
  signed_formed Negate purpose n p leaves h = formed_finished l purpose n (changed_by (signed Negate) p) leaves h
  signed_formed Plus purpose n p leaves h = formed_finished l purpose n (changed_by (signed Plus) p) leaves h
  signed_formed Complement purpose n p leaves h = formed_finished l purpose n (changed_by (signed Complement) p) leaves h

  operand_leaves : (operator : Sign) (purpose : Purpose) (n : ℕ) → Leaves l purpose n → Leaves l (for_operand operator purpose) n
  operand_leaves Not (Unless depth) n h = h
  operand_leaves Not (When depth) n h = h
  operand_leaves Not Value n h = tt
  operand_leaves Not Effect n h = tt
  operand_leaves Negate purpose n h = tt
  operand_leaves Plus purpose n h = tt
  operand_leaves Complement purpose n h = tt

  plain_leaves : (purpose : Purpose) (n : ℕ) → Leaves l (plain purpose) n
  plain_leaves Value n = tt
  plain_leaves Effect n = tt
  plain_leaves (Unless depth) n = tt
  plain_leaves (When depth) n = tt

  module _ (homes : List Home) where
    abbrev chosen_value : (test first second : c.Expr) → ℕ → Valued
    chosen_value test first second k = record { code = choice (is_joint test) (made homes Value test k) (made homes (Unless 0) test k).code (placed k (made homes Value first k)) (placed k (made homes Value second k)); value = Variable k }

    -- a choice of values, whose parts keep to the form among whichever blocks
    chosen_formed : (test first second : c.Expr) (k n : ℕ) → ((m : ℕ) → AllFormed l m (made homes Value test k).code) → ((m : ℕ) → AllFormed l (suc m) (made homes (Unless 0) test k).code) → ((m : ℕ) → AllFormed l m (made homes Value first k).code) → ((m : ℕ) → AllFormed l m (made homes Value second k).code) →
        AllFormed l n (chosen_value test first second k).code
    chosen_formed test first second k n t j f o =
        choice_formed (is_joint test) n (made homes Value test k) (made homes (Unless 0) test k).code (placed k (made homes Value first k)) (placed k (made homes Value second k)) (t n) (j (suc n))
        (placed_formed k n (made homes Value first k) (f n)) (placed_formed k n (made homes Value second k) (o n)) (placed_formed k (suc (suc n)) (made homes Value first k) (f (suc (suc n)))) (placed_formed k (suc n) (made homes Value second k) (o (suc n)))

    mutual
      pub aimed_formed : (place : c.Place) (k n : ℕ) → PlaceAllowed l place → AllFormed l n (aimed homes place k).code
      aimed_formed (c.Scalar object at) k n may = tt
      aimed_formed (c.Element array index at) k n may = made_formed Value index k n tt may
      aimed_formed (c.Within inner at) k n may = aimed_formed inner k n may

      pub made_formed : (purpose : Purpose) (e : c.Expr) (k n : ℕ) → Leaves l purpose n → Allowed l e → AllFormed l n (made homes purpose e k).code
      made_formed purpose (c.Number constant at) k n leaves may = formed_finished l purpose n (known constant.value) leaves tt
      made_formed purpose (c.Character word at) k n leaves may = formed_finished l purpose n (known word) leaves tt
      made_formed purpose (c.Read place) k n leaves may = let p = aimed homes place k in formed_finished l purpose n (record { code = p.code; value = loaded p.target }) leaves (aimed_formed place k n may)
      made_formed purpose (c.Array object at) k n leaves may = formed_finished l purpose n (known 0) leaves tt
      made_formed purpose (c.Paren inner at) k n leaves may = made_formed purpose inner k n leaves may
      made_formed purpose (c.Call callee arguments at) k n leaves may = formed_finished l purpose n (called purpose callee k (passing homes arguments k)) leaves (called_formed purpose callee k n (passing homes arguments k) may.1 (passing_formed arguments k n may.0))
      made_formed purpose (c.Step fix operator kind target at) k n leaves may =
          let p = aimed homes target k in
          formed_finished l purpose n (stepped purpose fix (step_operator operator) kind k p.target p.code) leaves (stepped_formed purpose fix (step_operator operator) kind k n p.target p.code (aimed_formed target k n may))
      made_formed purpose (c.Signed operator kind operand at) k n leaves may = signed_formed operator purpose n (made homes (for_operand operator purpose) operand k) leaves (made_formed (for_operand operator purpose) operand k n (operand_leaves operator purpose n leaves) may)
      made_formed purpose (c.Cast specifiers to operand at) k n leaves may = formed_finished l purpose n (changed_by (convert to) (made homes (plain purpose) operand k)) leaves (made_formed (plain purpose) operand k n (plain_leaves purpose n) may)
      made_formed purpose (c.Convert to operand) k n leaves may = formed_finished l purpose n (changed_by (convert to) (made homes (plain purpose) operand k)) leaves (made_formed (plain purpose) operand k n (plain_leaves purpose n) may)
      made_formed purpose (c.Operate operator kind left right at) k n leaves may =
          formed_finished l purpose n (operated_on operator kind k (made homes Value left k) (made homes Value right (k + 1))) leaves
          (kept_formed k n (made homes Value left k) (made homes Value right (k + 1)).code (made_formed Value left k n tt may.0) (made_formed Value right (k + 1) n tt may.1))
      made_formed Value (c.And left right at) k n leaves may =
          let x = (made homes (Unless 0) left (k + 1)).code in
          let y = (made homes (Unless 0) right (k + 1)).code in
          (tt, (formed_joined l (suc n) (joined x y) (alone (Set k (Constant 1))) (formed_joined l (suc n) x y (made_formed (Unless 0) left (k + 1) (suc n) (none_left n) may.0) (made_formed (Unless 0) right (k + 1) (suc n) (none_left n) may.1)) (tt, tt), tt))
      made_formed Effect (c.And left right at) k n leaves may =
          (formed_joined l (suc n) (made homes (Unless 0) left k).code (made homes Effect right k).code (made_formed (Unless 0) left k (suc n) (none_left n) may.0) (made_formed Effect right k (suc n) tt may.1), tt)
      made_formed (Unless depth) (c.And left right at) k n leaves may =
          formed_joined l n (made homes (Unless depth) left k).code (made homes (Unless depth) right k).code (made_formed (Unless depth) left k n leaves may.0) (made_formed (Unless depth) right k n leaves may.1)
      made_formed (When depth) (c.And left right at) k n leaves may =
          (formed_joined l (suc n) (made homes (Unless 0) left k).code (made homes (When (suc depth)) right k).code (made_formed (Unless 0) left k (suc n) (none_left n) may.0) (made_formed (When (suc depth)) right k (suc n) (deeper_left depth n leaves) may.1), tt)
      made_formed Value (c.Or left right at) k n leaves may =
          let x = (made homes (When 0) left (k + 1)).code in
          let y = (made homes (When 0) right (k + 1)).code in
          (tt, (formed_joined l (suc n) (joined x y) (alone (Set k (Constant 0))) (formed_joined l (suc n) x y (made_formed (When 0) left (k + 1) (suc n) (none_left n) may.0) (made_formed (When 0) right (k + 1) (suc n) (none_left n) may.1)) (tt, tt), tt))
      made_formed Effect (c.Or left right at) k n leaves may =
          (formed_joined l (suc n) (made homes (When 0) left k).code (made homes Effect right k).code (made_formed (When 0) left k (suc n) (none_left n) may.0) (made_formed Effect right k (suc n) tt may.1), tt)
      made_formed (Unless depth) (c.Or left right at) k n leaves may =
          (formed_joined l (suc n) (made homes (When 0) left k).code (made homes (Unless (suc depth)) right k).code (made_formed (When 0) left k (suc n) (none_left n) may.0) (made_formed (Unless (suc depth)) right k (suc n) (deeper_left depth n leaves) may.1), tt)
      made_formed (When depth) (c.Or left right at) k n leaves may =
          formed_joined l n (made homes (When depth) left k).code (made homes (When depth) right k).code (made_formed (When depth) left k n leaves may.0) (made_formed (When depth) right k n leaves may.1)
      made_formed purpose (c.Comma left right at) k n leaves may = formed_joined l n (made homes Effect left k).code (made homes purpose right k).code (made_formed Effect left k n tt may.0) (made_formed purpose right k n leaves may.1)
      made_formed Effect (c.Conditional test first second at) k n leaves may =
          choice_formed (is_joint test) n (made homes Value test k) (made homes (Unless 0) test k).code (made homes Effect first k).code (made homes Effect second k).code (made_formed Value test k n tt may.0) (made_formed (Unless 0) test k (suc (suc n)) (none_left (suc n)) may.0)
          (made_formed Effect first k n tt may.1) (made_formed Effect second k n tt may.2) (made_formed Effect first k (suc (suc n)) tt may.1) (made_formed Effect second k (suc n) tt may.2)
      made_formed Value (c.Conditional test first second at) k n leaves may = chosen_formed test first second k n (λ m. made_formed Value test k m tt may.0) (λ m. made_formed (Unless 0) test k (suc m) (none_left m) may.0) (λ m. made_formed Value first k m tt may.1) (λ m. made_formed Value second k m tt may.2)
      made_formed (Unless depth) (c.Conditional test first second at) k n leaves may =
          formed_finished l (Unless depth) n (chosen_value test first second k) leaves
          (chosen_formed test first second k n (λ m. made_formed Value test k m tt may.0) (λ m. made_formed (Unless 0) test k (suc m) (none_left m) may.0) (λ m. made_formed Value first k m tt may.1) (λ m. made_formed Value second k m tt may.2))
      made_formed (When depth) (c.Conditional test first second at) k n leaves may =
          formed_finished l (When depth) n (chosen_value test first second k) leaves
          (chosen_formed test first second k n (λ m. made_formed Value test k m tt may.0) (λ m. made_formed (Unless 0) test k (suc m) (none_left m) may.0) (λ m. made_formed Value first k m tt may.1) (λ m. made_formed Value second k m tt may.2))
      made_formed purpose (c.Assign target right at) k n leaves may =
          let p = aimed homes target k in
          formed_finished l purpose n (assigned purpose k p.target p.code (made homes Value right (k + 1))) leaves (assigned_formed purpose k n p.target p.code (made homes Value right (k + 1)) (aimed_formed target k n may.0) (made_formed Value right (k + 1) n tt may.1))
      made_formed purpose (c.Update operator kind to target right at) k n leaves may =
          let p = aimed homes target k in
          formed_finished l purpose n (updated purpose operator kind to k p.target p.code (made homes Value right (k + 1))) leaves (updated_formed purpose operator kind to k n p.target p.code (made homes Value right (k + 1)) (aimed_formed target k n may.0) (made_formed Value right (k + 1) n tt may.1))

      pub passing_formed : (es : c.Exprs) (k n : ℕ) → AllAllowed l es → AllFormed l n (passing homes es k).code
      passing_formed c.NoExpr k n may = tt
      passing_formed (c.WithExpr e rest) k n may = argument_formed homes (array_named e) k n (made homes Value e k) (passing homes rest (k + 1)) (made_formed Value e k n tt may.0) (passing_formed rest (k + 1) n may.1)
