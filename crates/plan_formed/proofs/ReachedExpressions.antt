-- How often the code of an expression reaches a mark: by its calls alone.
use Rattle.std.proofs.Common.{◌≡◌, ℕ, suc, ◌+◌, ◌≤◌, Bool, true, false, not, List, Option, Some, None, refl, ap, ◌∙◌, arith}
use Rattle.std.specs.Prelude.{◌&&◌, ◌||◌}
use Rattle.facts_definitions.specs.Most.{call_most, expr_most, exprs_most, place_most}
use Rattle.types_tree.specs.declared.expression.Callee.{Callee}
use Rattle.types_tree.specs.declared.expression.Callee.TheVariants.{Getchar, Putchar, Function as Own}
use Rattle.types_tree.specs.declared.expression.Fix.{Fix}
use Rattle.types_tree.specs.declared.expression.Fix.TheVariants.{Prefix, Postfix}
use Rattle.types_tree.specs.Tree as c
use Rattle.types_value.specs.Kinds.{is_signed, promoted}
use Rattle.types_value.specs.declared.kind.Kind.{Kind as CType}
use Rattle.types_value.specs.declared.operator.Operator.{Operator}
use Rattle.types_value.specs.declared.operator.Sign.{Sign}
use Rattle.types_value.specs.declared.operator.Sign.TheVariants.{Negate, Plus, Complement, Not}
use Rattle.high_ir.specs.declared.object.Array.{Array}
use Rattle.high_ir.specs.Tree.{Expr, Constant, Variable, Element, Set, Put, Get, Keep, Seq, If, Leave, Call, Statements, End, Then}
use Rattle.high_ir.specs.Weight.{reach_of, reach_of_all}
use Rattle.high_code.specs.Code.{joined, alone, nothing, is_empty}
use Rattle.plan_definition.specs.declared.home.Home.{Home}
use Rattle.plan_definition.specs.declared.purpose.Purpose.{Purpose}
use Rattle.plan_definition.specs.declared.purpose.Purpose.TheVariants.{Value, Effect, Unless, When}
use Rattle.plan_definition.specs.Homes.{Target, InFrame, InMemory, loaded}
use Rattle.plan_definition.specs.Operators.{convert, operated, signed}
use Rattle.plan_definition.specs.Values.{Valued, Passing, aimed, argument, array_named, assigned, called, changed_by, changed_in, choice, finished, firm, first_value, for_operand, held, is_changed, is_joint, is_leaf, is_variable, kept, kept_in, known, leaf, leaf_for, made, operated_on, passing, placed, plain, put, signed_for, step_operator, stepped, stepped_behind, updated}

module _ (callee : ℕ → ℕ) (mark : ℕ) where
  abbrev pub reached : Statements → ℕ
  reached code = reach_of_all callee mark code

  pub reached-joined : (a b : Statements) → reached (joined a b) ≡ reached a + reached b
  reached-joined End b = zero_plus (reached b)
    where
      zero_plus : (n : ℕ) → n ≡ 0 + n
      zero_plus n = omega arith
  reached-joined (Then first rest) b = more (reach_of callee mark first) (reached (joined rest b)) (reached rest) (reached b) (reached-joined rest b)
    where
      more : (f x y z : ℕ) → x ≡ y + z → f + x ≡ f + y + z
      more f x y z e = omega (arith, e)

  -- code that reaches nothing behind other code
  pub then_none : (a b : Statements) → reached b ≡ 0 → reached (joined a b) ≡ reached a
  then_none a b e = none (reached (joined a b)) (reached a) (reached b) (reached-joined a b) e
    where
      none : (x y z : ℕ) → x ≡ y + z → z ≡ 0 → x ≡ y
      none x y z e f = omega (arith, e, f)

  finished_reached : (purpose : Purpose) (p : Valued) → reached (finished purpose p).code ≡ reached p.code
  finished_reached Value p = refl
  finished_reached Effect p = refl
  finished_reached (Unless depth) p = then_none p.code (alone (If p.value nothing (Leave depth))) refl
  finished_reached (When depth) p = then_none p.code (alone (If p.value (Leave depth) nothing)) refl

  held_reached : (needed : Bool) (k : ℕ) (p : Valued) (after : Statements) → reached (held needed k p after).code ≡ reached p.code + reached after
  held_reached false k p after = reached-joined p.code after
  held_reached true k p after = omega (arith, reached-joined p.code (Then (Set k p.value) after))

  kept_reached : (k : ℕ) (p : Valued) (after : Statements) → reached (kept k p after).code ≡ reached p.code + reached after
  kept_reached k p after = held_reached (not (is_empty after) && is_changed p.value after) k p after

  pub firm_reached : (k : ℕ) (p : Valued) (after : Statements) → reached (firm k p after).code ≡ reached p.code + reached after
  firm_reached k p after = held_reached (not (is_leaf p.value) || (is_changed p.value after || is_variable (k + 1) p.value)) k p after

  leaf_reached : (k : ℕ) (p : Valued) → reached (leaf k p).code ≡ reached p.code
  leaf_reached k p = omega (arith, held_reached (not (is_leaf p.value)) k p End)

  leaf_for_reached : (purpose : Purpose) (k : ℕ) (p : Valued) → reached (leaf_for purpose k p).code ≡ reached p.code
  leaf_for_reached Effect k p = refl
  leaf_for_reached Value k p = leaf_reached k p
  leaf_for_reached (Unless depth) k p = leaf_reached k p
  leaf_for_reached (When depth) k p = leaf_reached k p

  -- stores
  kept_in_reached : (array : Array) (k : ℕ) (index right : Valued) → reached (kept_in array k index right).code ≡ reached index.code + reached right.code
  kept_in_reached array k index right =
      let i = kept k index right.code in
      then_none i.code (alone (Keep array i.value right.value)) refl ∙ kept_reached k index right.code

  assigned_reached : (purpose : Purpose) (k : ℕ) (target : Target) (code : Statements) (right : Valued) → reached (assigned purpose k target code right).code ≡ reached code + reached right.code
  assigned_reached purpose k (InFrame x) code right = reached-joined code (joined right.code (alone (Set x right.value))) ∙ ap (λ n. reached code + n) (then_none right.code (alone (Set x right.value)) refl)
  assigned_reached purpose k (InMemory array index) code right =
      kept_in_reached array k (record { code = code; value = index }) (leaf_for purpose (k + 1) right) ∙ ap (λ n. reached code + n) (leaf_for_reached purpose (k + 1) right)

  changed_reached : (purpose : Purpose) (array : Array) (k : ℕ) (i : Valued) (new converted : Expr → Expr) → reached (changed_in purpose array k i new converted).code ≡ reached i.code
  changed_reached purpose array k i new converted = of purpose
    where
      value : reached (joined i.code (Then (Set (k + 1) (converted (new (Element array i.value)))) (alone (Keep array i.value (Variable (k + 1)))))) ≡ reached i.code
      value = then_none i.code (Then (Set (k + 1) (converted (new (Element array i.value)))) (alone (Keep array i.value (Variable (k + 1))))) refl

      of : (purpose : Purpose) → reached (changed_in purpose array k i new converted).code ≡ reached i.code
      of Effect = then_none i.code (alone (Keep array i.value (new (Element array i.value)))) refl
      of Value = value
      of (Unless depth) = value
      of (When depth) = value

  updated_reached : (purpose : Purpose) (operator : Operator) (kind to : CType) (k : ℕ) (target : Target) (code : Statements) (right : Valued) → reached (updated purpose operator kind to k target code right).code ≡ reached code + reached right.code
  updated_reached purpose operator kind to k (InFrame x) code right =
      let e = convert to (operated operator (is_signed kind) (convert kind (Variable x)) right.value) in
      reached-joined code (joined right.code (alone (Set x e))) ∙ ap (λ n. reached code + n) (then_none right.code (alone (Set x e)) refl)
  updated_reached purpose operator kind to k (InMemory array index) code right =
      let p : Valued = record { code = code; value = index } in
      changed_reached purpose array k (firm k p right.code) (λ old. operated operator (is_signed kind) (convert kind old) right.value) (convert to) ∙ firm_reached k p right.code

  behind_reached : (operator : Operator) (kind : CType) (k : ℕ) (target : Target) (code : Statements) → reached (stepped_behind operator kind k target code).code ≡ reached code
  behind_reached operator kind k (InFrame x) code = then_none code (Then (Set k (Variable x)) (alone (Set x (convert kind (operated operator (is_signed (promoted kind)) (Variable k) (Constant 1)))))) refl
  behind_reached operator kind k (InMemory array index) code =
      let p : Valued = record { code = code; value = index } in
      let i = firm k p End in
      then_none i.code (Then (Set (k + 1) (Element array i.value)) (alone (Keep array i.value (operated operator (is_signed (promoted kind)) (Variable (k + 1)) (Constant 1))))) refl
      ∙ (firm_reached k p End ∙ none (reached code))
    where
      none : (n : ℕ) → n + 0 ≡ n
      none n = omega arith

  by_one : (purpose : Purpose) (operator : Operator) (kind : CType) (k : ℕ) (target : Target) (code : Statements) → reached (updated purpose operator (promoted kind) kind k target code (known 1)).code ≡ reached code
  by_one purpose operator kind k target code = updated_reached purpose operator (promoted kind) kind k target code (known 1) ∙ none (reached code)
    where
      none : (n : ℕ) → n + 0 ≡ n
      none n = omega arith

  stepped_reached : (purpose : Purpose) (fix : Fix) (operator : Operator) (kind : CType) (k : ℕ) (target : Target) (code : Statements) → reached (stepped purpose fix operator kind k target code).code ≡ reached code
  stepped_reached purpose Prefix operator kind k target code = by_one purpose operator kind k target code
  stepped_reached Effect Postfix operator kind k target code = by_one Effect operator kind k target code
  stepped_reached Value Postfix operator kind k target code = behind_reached operator kind k target code
  stepped_reached (Unless depth) Postfix operator kind k target code = behind_reached operator kind k target code
  stepped_reached (When depth) Postfix operator kind k target code = behind_reached operator kind k target code

  -- calls
  put_reached : (purpose : Purpose) (k : ℕ) (p : Valued) → reached (put purpose k p).code ≡ reached p.code
  put_reached purpose k p = of purpose
    where
      value : reached (joined (leaf k p).code (alone (Put (leaf k p).value))) ≡ reached p.code
      value = then_none (leaf k p).code (alone (Put (leaf k p).value)) refl ∙ leaf_reached k p

      of : (purpose : Purpose) → reached (put purpose k p).code ≡ reached p.code
      of Effect = then_none p.code (alone (Put p.value)) refl
      of Value = value
      of (Unless depth) = value
      of (When depth) = value

  own_reached : (function : ℕ) (into : Option ℕ) (p : Passing) → reached (joined p.code (alone (Call function p.values p.arrays into))) ≡ reached p.code + callee function
  own_reached function into p = omega (arith, reached-joined p.code (alone (Call function p.values p.arrays into)))

  argument_reached : (homes : List Home) (o : Option ℕ) (k : ℕ) (p : Valued) (rest : Passing) → reached (argument homes o k p rest).code ≤ reached p.code + reached rest.code
  argument_reached homes (Some object) k p rest = omega arith
  argument_reached homes None k p rest = omega (arith, kept_reached k p rest.code)

  -- operators
  signed_reached : (operator : Sign) (purpose : Purpose) (p : Valued) → reached (signed_for operator purpose p).code ≡ reached p.code
  signed_reached Not (Unless depth) p = refl
  signed_reached Not (When depth) p = refl
  signed_reached Not Value p = refl
  signed_reached Not Effect p = refl
  signed_reached Negate purpose p = finished_reached purpose (changed_by (signed Negate) p)
  signed_reached Plus purpose p = finished_reached purpose (changed_by (signed Plus) p)
  signed_reached Complement purpose p = finished_reached purpose (changed_by (signed Complement) p)

  choice_reached : (joint : Bool) (test : Valued) (jumps first other : Statements) (t : ℕ) → reached test.code ≤ t → reached jumps ≤ t → reached (choice joint test jumps first other) ≤ t + reached first + reached other
  choice_reached false test jumps first other t h j = omega (arith, h, reached-joined test.code (alone (If test.value (Seq first) (Seq other))))
  choice_reached true test jumps first other t h j = omega (arith, j, reached-joined jumps (joined first (alone (Leave 1))), reached-joined first (alone (Leave 1)))

  module _ (calls : ℕ → ℕ) (fit : (f : ℕ) → callee f ≤ calls f) where
    called_reached : (purpose : Purpose) (to : Callee) (k : ℕ) (p : Passing) (n : ℕ) → reached p.code ≤ n → reached (called purpose to k p).code ≤ n + call_most calls to
    called_reached purpose Getchar k p n h = omega (arith, h, then_none p.code (alone (Get k)) refl)
    called_reached purpose Putchar k p n h = omega (arith, h, put_reached purpose k (record { code = p.code; value = first_value p.values }))
    called_reached Effect (Own function) k p n h = omega (arith, h, own_reached function.0 None p, fit function.0)
    called_reached Value (Own function) k p n h = omega (arith, h, own_reached function.0 (Some k) p, fit function.0)
    called_reached (Unless depth) (Own function) k p n h = omega (arith, h, own_reached function.0 (Some k) p, fit function.0)
    called_reached (When depth) (Own function) k p n h = omega (arith, h, own_reached function.0 (Some k) p, fit function.0)

    module _ (homes : List Home) where
      chosen_reached : (purpose : Purpose) (joint : Bool) (k : ℕ) (test : Valued) (jumps : Statements) (first second : Valued) (t f s : ℕ) → reached test.code ≤ t → reached jumps ≤ t → reached first.code ≤ f → reached second.code ≤ s →
          reached (finished purpose (record { code = choice joint test jumps (placed k first) (placed k second); value = Variable k })).code ≤ 1 + (t + (f + s))
      chosen_reached purpose joint k test jumps first second t f s h j g i =
          let p : Valued = record { code = choice joint test jumps (placed k first) (placed k second); value = Variable k } in
          omega (arith, g, i, finished_reached purpose p, choice_reached joint test jumps (placed k first) (placed k second) t h j, then_none first.code (alone (Set k first.value)) refl, then_none second.code (alone (Set k second.value)) refl)

      mutual
        aimed_reached : (place : c.Place) (k : ℕ) → reached (aimed homes place k).code ≤ place_most calls place
        aimed_reached (c.Scalar object at) k = omega arith
        aimed_reached (c.Element array index at) k = omega (arith, made_reached Value index k)
        aimed_reached (c.Within inner at) k = omega (arith, aimed_reached inner k)

        -- by the calls of the expression
        pub made_reached : (purpose : Purpose) (e : c.Expr) (k : ℕ) → reached (made homes purpose e k).code ≤ expr_most calls e
        made_reached purpose (c.Number constant at) k = omega (arith, finished_reached purpose (known constant.value))
        made_reached purpose (c.Character word at) k = omega (arith, finished_reached purpose (known word))
        made_reached purpose (c.Read place) k =
            let p = aimed homes place k in
            omega (arith, finished_reached purpose (record { code = p.code; value = loaded p.target }), aimed_reached place k)
        made_reached purpose (c.Array object at) k = omega (arith, finished_reached purpose (known 0))
        made_reached purpose (c.Paren inner at) k = omega (arith, made_reached purpose inner k)
        made_reached purpose (c.Call to arguments at) k =
            let p = passing homes arguments k in
            omega (arith, finished_reached purpose (called purpose to k p), called_reached purpose to k p (exprs_most calls arguments) (passing_reached arguments k))
        made_reached purpose (c.Step fix operator kind target at) k =
            let p = aimed homes target k in
            omega (arith, finished_reached purpose (stepped purpose fix (step_operator operator) kind k p.target p.code), stepped_reached purpose fix (step_operator operator) kind k p.target p.code, aimed_reached target k)
        made_reached purpose (c.Signed operator kind operand at) k = omega (arith, signed_reached operator purpose (made homes (for_operand operator purpose) operand k), made_reached (for_operand operator purpose) operand k)
        made_reached purpose (c.Cast specifiers to operand at) k = omega (arith, finished_reached purpose (changed_by (convert to) (made homes (plain purpose) operand k)), made_reached (plain purpose) operand k)
        made_reached purpose (c.Convert to operand) k = omega (arith, finished_reached purpose (changed_by (convert to) (made homes (plain purpose) operand k)), made_reached (plain purpose) operand k)
        made_reached purpose (c.Operate operator kind left right at) k =
            omega (arith, finished_reached purpose (operated_on operator kind k (made homes Value left k) (made homes Value right (k + 1))), kept_reached k (made homes Value left k) (made homes Value right (k + 1)).code, made_reached Value left k, made_reached Value right (k + 1))
        made_reached Value (c.And left right at) k =
            let x = (made homes (Unless 0) left (k + 1)).code in
            let y = (made homes (Unless 0) right (k + 1)).code in
            omega (arith, reached-joined (joined x y) (alone (Set k (Constant 1))), reached-joined x y, made_reached (Unless 0) left (k + 1), made_reached (Unless 0) right (k + 1))
        made_reached Effect (c.And left right at) k = omega (arith, reached-joined (made homes (Unless 0) left k).code (made homes Effect right k).code, made_reached (Unless 0) left k, made_reached Effect right k)
        made_reached (Unless depth) (c.And left right at) k = omega (arith, reached-joined (made homes (Unless depth) left k).code (made homes (Unless depth) right k).code, made_reached (Unless depth) left k, made_reached (Unless depth) right k)
        made_reached (When depth) (c.And left right at) k = omega (arith, reached-joined (made homes (Unless 0) left k).code (made homes (When (suc depth)) right k).code, made_reached (Unless 0) left k, made_reached (When (suc depth)) right k)
        made_reached Value (c.Or left right at) k =
            let x = (made homes (When 0) left (k + 1)).code in
            let y = (made homes (When 0) right (k + 1)).code in
            omega (arith, reached-joined (joined x y) (alone (Set k (Constant 0))), reached-joined x y, made_reached (When 0) left (k + 1), made_reached (When 0) right (k + 1))
        made_reached Effect (c.Or left right at) k = omega (arith, reached-joined (made homes (When 0) left k).code (made homes Effect right k).code, made_reached (When 0) left k, made_reached Effect right k)
        made_reached (Unless depth) (c.Or left right at) k = omega (arith, reached-joined (made homes (When 0) left k).code (made homes (Unless (suc depth)) right k).code, made_reached (When 0) left k, made_reached (Unless (suc depth)) right k)
        made_reached (When depth) (c.Or left right at) k = omega (arith, reached-joined (made homes (When depth) left k).code (made homes (When depth) right k).code, made_reached (When depth) left k, made_reached (When depth) right k)
        made_reached purpose (c.Comma left right at) k = omega (arith, reached-joined (made homes Effect left k).code (made homes purpose right k).code, made_reached Effect left k, made_reached purpose right k)
        made_reached Effect (c.Conditional test first second at) k =
            omega (arith, choice_reached (is_joint test) (made homes Value test k) (made homes (Unless 0) test k).code (made homes Effect first k).code (made homes Effect second k).code (expr_most calls test) (made_reached Value test k) (made_reached (Unless 0) test k), made_reached Effect first k, made_reached Effect second k)
        made_reached Value (c.Conditional test first second at) k =
            chosen_reached Value (is_joint test) k (made homes Value test k) (made homes (Unless 0) test k).code (made homes Value first k) (made homes Value second k) (expr_most calls test) (expr_most calls first) (expr_most calls second) (made_reached Value test k) (made_reached (Unless 0) test k) (made_reached Value first k) (made_reached Value second k)
        made_reached (Unless depth) (c.Conditional test first second at) k =
            chosen_reached (Unless depth) (is_joint test) k (made homes Value test k) (made homes (Unless 0) test k).code (made homes Value first k) (made homes Value second k) (expr_most calls test) (expr_most calls first) (expr_most calls second) (made_reached Value test k) (made_reached (Unless 0) test k) (made_reached Value first k) (made_reached Value second k)
        made_reached (When depth) (c.Conditional test first second at) k =
            chosen_reached (When depth) (is_joint test) k (made homes Value test k) (made homes (Unless 0) test k).code (made homes Value first k) (made homes Value second k) (expr_most calls test) (expr_most calls first) (expr_most calls second) (made_reached Value test k) (made_reached (Unless 0) test k) (made_reached Value first k) (made_reached Value second k)
        made_reached purpose (c.Assign target right at) k =
            let p = aimed homes target k in
            omega (arith, finished_reached purpose (assigned purpose k p.target p.code (made homes Value right (k + 1))), assigned_reached purpose k p.target p.code (made homes Value right (k + 1)), aimed_reached target k, made_reached Value right (k + 1))
        made_reached purpose (c.Update operator kind to target right at) k =
            let p = aimed homes target k in
            omega (arith, finished_reached purpose (updated purpose operator kind to k p.target p.code (made homes Value right (k + 1))), updated_reached purpose operator kind to k p.target p.code (made homes Value right (k + 1)), aimed_reached target k, made_reached Value right (k + 1))

        passing_reached : (es : c.Exprs) (k : ℕ) → reached (passing homes es k).code ≤ exprs_most calls es
        passing_reached c.NoExpr k = omega arith
        passing_reached (c.WithExpr e rest) k = omega (arith, argument_reached homes (array_named e) k (made homes Value e k) (passing homes rest (k + 1)), made_reached Value e k, passing_reached rest (k + 1))
