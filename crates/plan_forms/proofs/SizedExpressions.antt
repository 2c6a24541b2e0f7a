-- What the code of expressions costs: at most so much for each node of the source.
use Rattle.std.proofs.Common.{ℕ, suc, ◌+◌, ◌*◌, ◌≤◌, Bool, List, arith}
use Rattle.facts_definitions.specs.Most.{call_most, expr_most, exprs_most, place_most}
use Rattle.facts_definitions.specs.declared.facts.Bounds.{Bounds}
use Rattle.types_tree.specs.Tree as c
use Rattle.high_ir.specs.Tree.{Constant, Variable, Set, Seq, Block, Statements, Then}
use Rattle.high_code.specs.Code.{joined, alone}
use Rattle.plan_definition.specs.declared.home.Home.{Home}
use Rattle.plan_definition.specs.declared.purpose.Purpose.{Purpose}
use Rattle.plan_definition.specs.declared.purpose.Purpose.TheVariants.{Value, Effect, Unless, When}
use Rattle.plan_definition.specs.Homes.{home_of, loaded}
use Rattle.plan_definition.specs.Values.{Valued, aimed, array_named, assigned, both, called, choice, finished, for_operand, is_joint, known, made, operated_on, passing, placed, step_operator, stepped, updated}
use Rattle.plan_forms.specs.Levels.{slack}
use Rattle.plan_forms.specs.Conversions.{AllSingle, PlaceSingle, Single}
use Rattle.plan_forms.proofs.DeepExpressions.{slack_most}
use Rattle.plan_forms.specs.Costs.{Rates, cost_all, expr_cost}
use Rattle.plan_forms.specs.Covers.{Covers}
use Rattle.plan_forms.proofs.SizedPieces.{AimedFits, FitsFor, PassingFits, code_cost, convert_fits, cost-joined, done, finished_fits, loaded_cost, scalar_cost, wider}
use Rattle.plan_forms.proofs.SizedParts.{argument_fits, assigned_fits, called_fits, choice_cost, compound_fits, operate_fits, signed_fits, stepped_fits}

module _ (rates : Rates) (callee calls : ℕ → ℕ) (planned bounds : List Bounds) (node spare : ℕ) (covers : Covers rates callee calls planned bounds node spare) (homes : List Home) where
  -- what is allowed for an expression
  abbrev allowed : c.Expr → ℕ
  allowed e = node * expr_most calls e + slack e

  -- the code for two tests, one after the other
  jumps_cost : (left right : Statements) (a b : ℕ) → cost_all rates callee left + rates.leaf + 1 ≤ a → cost_all rates callee right + rates.leaf + 1 ≤ b → cost_all rates callee (joined left right) + 2 * rates.leaf + 2 ≤ a + b
  jumps_cost left right a b h g = omega (arith, h, g, cost-joined rates callee left right)

  noted_cost : (k x y : ℕ) (jumps : Statements) (n : ℕ) → cost_all rates callee jumps + 2 * rates.leaf + 2 ≤ n → cost_all rates callee (Then (Set k (Constant x)) (alone (Block (Seq (joined jumps (alone (Set k (Constant y)))))))) + rates.leaf + rates.leaf + 4 ≤ node + n
  noted_cost k x y jumps n h = omega (arith, h, cost-joined rates callee jumps (alone (Set k (Constant y))), covers.some)

  comma_fits : (purpose : Purpose) (left : Statements) (right : Valued) (a b n : ℕ) → cost_all rates callee left + rates.leaf + 4 ≤ a + 1 → FitsFor rates callee purpose right (b + 1) → node + a + b ≤ n → FitsFor rates callee purpose (both left right) n
  comma_fits Value left right a b n h g room = omega (arith, h, g, room, covers.some, cost-joined rates callee left right.code)
  comma_fits Effect left right a b n h g room = omega (arith, h, g, room, covers.some, cost-joined rates callee left right.code)
  comma_fits (Unless depth) left right a b n h g room = omega (arith, h, g, room, covers.some, cost-joined rates callee left right.code)
  comma_fits (When depth) left right a b n h g room = omega (arith, h, g, room, covers.some, cost-joined rates callee left right.code)

  -- a choice of values, whose test is a value or jumps
  chosen_fits : (purpose : Purpose) (joint : Bool) (k : ℕ) (test : Valued) (jumps : Statements) (first second : Valued) (t f s n : ℕ) → code_cost rates callee test + expr_cost rates.leaf test.value + rates.leaf + 3 ≤ t → cost_all rates callee jumps + rates.leaf ≤ t → code_cost rates callee first + expr_cost rates.leaf first.value + rates.leaf + 3 ≤ f →
      code_cost rates callee second + expr_cost rates.leaf second.value + rates.leaf + 3 ≤ s → node + t + f + s ≤ n →
      FitsFor rates callee purpose (finished purpose (record { code = choice joint test jumps (placed k first) (placed k second); value = Variable k })) n
  chosen_fits purpose joint k test jumps first second t f s n h j g i room =
      let p : Valued = record { code = choice joint test jumps (placed k first) (placed k second); value = Variable k } in
      let x = cost-joined rates callee first.code (alone (Set k first.value)) in
      let y = cost-joined rates callee second.code (alone (Set k second.value)) in
      let all = choice_cost rates callee calls planned bounds node spare covers joint test jumps (placed k first) (placed k second) (t + f + s + 1) (omega (arith, h, g, i, x, y)) (omega (arith, j, g, i, x, y)) in
      finished_fits rates callee purpose p n (done rates callee purpose p n (omega (arith, all, room, covers.some)))

  -- of a part, which may be a conversion
  value_of : (e : c.Expr) (p : Valued) → FitsFor rates callee Value p (allowed e) → code_cost rates callee p + expr_cost rates.leaf p.value + rates.leaf + 3 ≤ node * expr_most calls e
  value_of e p h = omega (arith, h, slack_most e)

  effect_of : (e : c.Expr) (p : Valued) → FitsFor rates callee Effect p (allowed e) → code_cost rates callee p + rates.leaf + 3 ≤ node * expr_most calls e
  effect_of e p h = omega (arith, h, slack_most e)

  jumps_of : (e : c.Expr) (p : Valued) → code_cost rates callee p + rates.leaf + 1 ≤ allowed e → code_cost rates callee p + rates.leaf ≤ node * expr_most calls e
  jumps_of e p h = omega (arith, h, slack_most e)

  mutual
    pub aimed_fits : (place : c.Place) (k : ℕ) → PlaceSingle place → AimedFits rates callee (aimed homes place k) (node * place_most calls place)
    aimed_fits (c.Scalar object at) k may = omega (arith, covers.some, scalar_cost rates.leaf (home_of homes object))
    aimed_fits (c.Element array index at) k may = omega (arith, covers.some, value_of index (made homes Value index k) (made_fits Value index k may))
    aimed_fits (c.Within inner at) k may = omega (arith, aimed_fits inner k may)

    pub made_fits : (purpose : Purpose) (e : c.Expr) (k : ℕ) → Single e → FitsFor rates callee purpose (made homes purpose e k) (allowed e)
    made_fits purpose (c.Number constant at) k may = finished_fits rates callee purpose (known constant.value) (node * 1 + 0) (done rates callee purpose (known constant.value) (node * 1 + 0) (omega (arith, covers.some)))
    made_fits purpose (c.Character word at) k may = finished_fits rates callee purpose (known word) (node * 1 + 0) (done rates callee purpose (known word) (node * 1 + 0) (omega (arith, covers.some)))
    made_fits purpose (c.Read place) k may =
        let p = aimed homes place k in
        let q : Valued = record { code = p.code; value = loaded p.target } in
        finished_fits rates callee purpose q (node * place_most calls place + 0) (done rates callee purpose q (node * place_most calls place + 0) (omega (arith, aimed_fits place k may, loaded_cost rates.leaf covers.leaf p.target)))
    made_fits purpose (c.Array object at) k may = finished_fits rates callee purpose (known 0) (node * 1 + 0) (done rates callee purpose (known 0) (node * 1 + 0) (omega (arith, covers.some)))
    made_fits purpose (c.Paren inner at) k may = wider rates callee purpose (made homes purpose inner k) (allowed inner) (node * (1 + expr_most calls inner) + 0) (omega (arith, covers.some, slack_most inner)) (made_fits purpose inner k may)
    made_fits purpose (c.Call to arguments at) k may =
        let p = passing homes arguments k in
        let n = node + node * exprs_most calls arguments + node * call_most calls to in
        wider rates callee purpose (finished purpose (called purpose to k p)) n (node * (1 + (exprs_most calls arguments + call_most calls to)) + 0) (omega arith)
        (finished_fits rates callee purpose (called purpose to k p) n (called_fits rates callee calls planned bounds node spare covers purpose to k p (node * exprs_most calls arguments) (passing_fits arguments k may)))
    made_fits purpose (c.Step fix operator kind target at) k may =
        let p = aimed homes target k in
        let n = node * (1 + place_most calls target) + 0 in
        finished_fits rates callee purpose (stepped purpose fix (step_operator operator) kind k p.target p.code) n
        (stepped_fits rates callee calls planned bounds node spare covers purpose fix (step_operator operator) kind k p.target p.code (node * place_most calls target) n (aimed_fits target k may) (omega arith))
    made_fits purpose (c.Signed operator kind operand at) k may =
        signed_fits rates callee calls planned bounds node spare covers operator purpose (made homes (for_operand operator purpose) operand k) (allowed operand) (node * (1 + expr_most calls operand) + 0) (omega (arith, covers.some, slack_most operand)) (made_fits (for_operand operator purpose) operand k may)
    made_fits Value (c.Cast specifiers to operand at) k may = convert_fits rates callee Value to (made homes Value operand k) (allowed operand) (node * (1 + expr_most calls operand) + 0) (omega (arith, covers.some, slack_most operand)) (made_fits Value operand k may)
    made_fits Effect (c.Cast specifiers to operand at) k may = convert_fits rates callee Effect to (made homes Effect operand k) (allowed operand) (node * (1 + expr_most calls operand) + 0) (omega (arith, covers.some, slack_most operand)) (made_fits Effect operand k may)
    made_fits (Unless depth) (c.Cast specifiers to operand at) k may = convert_fits rates callee (Unless depth) to (made homes Value operand k) (allowed operand) (node * (1 + expr_most calls operand) + 0) (omega (arith, covers.some, slack_most operand)) (made_fits Value operand k may)
    made_fits (When depth) (c.Cast specifiers to operand at) k may = convert_fits rates callee (When depth) to (made homes Value operand k) (allowed operand) (node * (1 + expr_most calls operand) + 0) (omega (arith, covers.some, slack_most operand)) (made_fits Value operand k may)
    made_fits Value (c.Convert to operand) k may = convert_fits rates callee Value to (made homes Value operand k) (allowed operand) (node * expr_most calls operand + 1) (omega (arith, may.0)) (made_fits Value operand k may.1)
    made_fits Effect (c.Convert to operand) k may = convert_fits rates callee Effect to (made homes Effect operand k) (allowed operand) (node * expr_most calls operand + 1) (omega (arith, may.0)) (made_fits Effect operand k may.1)
    made_fits (Unless depth) (c.Convert to operand) k may = convert_fits rates callee (Unless depth) to (made homes Value operand k) (allowed operand) (node * expr_most calls operand + 1) (omega (arith, may.0)) (made_fits Value operand k may.1)
    made_fits (When depth) (c.Convert to operand) k may = convert_fits rates callee (When depth) to (made homes Value operand k) (allowed operand) (node * expr_most calls operand + 1) (omega (arith, may.0)) (made_fits Value operand k may.1)
    made_fits purpose (c.Operate operator kind left right at) k may =
        let n = node * (1 + (expr_most calls left + expr_most calls right)) + 0 in
        finished_fits rates callee purpose (operated_on operator kind k (made homes Value left k) (made homes Value right (k + 1))) n
        (operate_fits rates callee calls planned bounds node spare covers purpose operator kind k (made homes Value left k) (made homes Value right (k + 1)) (node * expr_most calls left) (node * expr_most calls right) n (value_of left (made homes Value left k) (made_fits Value left k may.0)) (value_of right (made homes Value right (k + 1)) (made_fits Value right (k + 1) may.1)) (omega arith))
    made_fits Value (c.And left right at) k may =
        let x = (made homes (Unless 0) left (k + 1)).code in
        let y = (made homes (Unless 0) right (k + 1)).code in
        let a = node * expr_most calls left in
        let b = node * expr_most calls right in
        omega (arith, noted_cost k 0 1 (joined x y) (a + b) (jumps_cost x y a b (omega (arith, may.1, made_fits (Unless 0) left (k + 1) may.0.0)) (omega (arith, may.2, made_fits (Unless 0) right (k + 1) may.0.1))))
    made_fits Effect (c.And left right at) k may =
        omega (arith, covers.some, jumps_of left (made homes (Unless 0) left k) (made_fits (Unless 0) left k may.0.0), effect_of right (made homes Effect right k) (made_fits Effect right k may.0.1), cost-joined rates callee (made homes (Unless 0) left k).code (made homes Effect right k).code)
    made_fits (Unless depth) (c.And left right at) k may =
        omega (arith, covers.some, jumps_of left (made homes (Unless depth) left k) (made_fits (Unless depth) left k may.0.0), jumps_of right (made homes (Unless depth) right k) (made_fits (Unless depth) right k may.0.1), cost-joined rates callee (made homes (Unless depth) left k).code (made homes (Unless depth) right k).code)
    made_fits (When depth) (c.And left right at) k may =
        omega (arith, covers.some, jumps_of left (made homes (Unless 0) left k) (made_fits (Unless 0) left k may.0.0), jumps_of right (made homes (When (suc depth)) right k) (made_fits (When (suc depth)) right k may.0.1), cost-joined rates callee (made homes (Unless 0) left k).code (made homes (When (suc depth)) right k).code)
    made_fits Value (c.Or left right at) k may =
        let x = (made homes (When 0) left (k + 1)).code in
        let y = (made homes (When 0) right (k + 1)).code in
        let a = node * expr_most calls left in
        let b = node * expr_most calls right in
        omega (arith, noted_cost k 1 0 (joined x y) (a + b) (jumps_cost x y a b (omega (arith, may.1, made_fits (When 0) left (k + 1) may.0.0)) (omega (arith, may.2, made_fits (When 0) right (k + 1) may.0.1))))
    made_fits Effect (c.Or left right at) k may =
        omega (arith, covers.some, jumps_of left (made homes (When 0) left k) (made_fits (When 0) left k may.0.0), effect_of right (made homes Effect right k) (made_fits Effect right k may.0.1), cost-joined rates callee (made homes (When 0) left k).code (made homes Effect right k).code)
    made_fits (Unless depth) (c.Or left right at) k may =
        omega (arith, covers.some, jumps_of left (made homes (When 0) left k) (made_fits (When 0) left k may.0.0), jumps_of right (made homes (Unless (suc depth)) right k) (made_fits (Unless (suc depth)) right k may.0.1), cost-joined rates callee (made homes (When 0) left k).code (made homes (Unless (suc depth)) right k).code)
    made_fits (When depth) (c.Or left right at) k may =
        omega (arith, covers.some, jumps_of left (made homes (When depth) left k) (made_fits (When depth) left k may.0.0), jumps_of right (made homes (When depth) right k) (made_fits (When depth) right k may.0.1), cost-joined rates callee (made homes (When depth) left k).code (made homes (When depth) right k).code)
    made_fits purpose (c.Comma left right at) k may =
        comma_fits purpose (made homes Effect left k).code (made homes purpose right k) (node * expr_most calls left) (node * expr_most calls right) (node * (1 + (expr_most calls left + expr_most calls right)) + 0)
        (omega (arith, effect_of left (made homes Effect left k) (made_fits Effect left k may.0))) (wider rates callee purpose (made homes purpose right k) (allowed right) (node * expr_most calls right + 1) (omega (arith, slack_most right)) (made_fits purpose right k may.1)) (omega arith)
    made_fits Effect (c.Conditional test first second at) k may =
        let n = node * expr_most calls test + node * expr_most calls first + node * expr_most calls second in
        let all = choice_cost rates callee calls planned bounds node spare covers (is_joint test) (made homes Value test k) (made homes (Unless 0) test k).code (made homes Effect first k).code (made homes Effect second k).code n
        (omega (arith, value_of test (made homes Value test k) (made_fits Value test k may.0), effect_of first (made homes Effect first k) (made_fits Effect first k may.1), effect_of second (made homes Effect second k) (made_fits Effect second k may.2))) (omega (arith, jumps_of test (made homes (Unless 0) test k) (made_fits (Unless 0) test k may.0), effect_of first (made homes Effect first k) (made_fits Effect first k may.1), effect_of second (made homes Effect second k) (made_fits Effect second k may.2))) in
        omega (arith, all, covers.some)
    made_fits Value (c.Conditional test first second at) k may =
        chosen_fits Value (is_joint test) k (made homes Value test k) (made homes (Unless 0) test k).code (made homes Value first k) (made homes Value second k) (node * expr_most calls test) (node * expr_most calls first) (node * expr_most calls second) (allowed (c.Conditional test first second at))
        (value_of test (made homes Value test k) (made_fits Value test k may.0)) (jumps_of test (made homes (Unless 0) test k) (made_fits (Unless 0) test k may.0)) (value_of first (made homes Value first k) (made_fits Value first k may.1)) (value_of second (made homes Value second k) (made_fits Value second k may.2)) (omega arith)
    made_fits (Unless depth) (c.Conditional test first second at) k may =
        chosen_fits (Unless depth) (is_joint test) k (made homes Value test k) (made homes (Unless 0) test k).code (made homes Value first k) (made homes Value second k) (node * expr_most calls test) (node * expr_most calls first) (node * expr_most calls second) (allowed (c.Conditional test first second at))
        (value_of test (made homes Value test k) (made_fits Value test k may.0)) (jumps_of test (made homes (Unless 0) test k) (made_fits (Unless 0) test k may.0)) (value_of first (made homes Value first k) (made_fits Value first k may.1)) (value_of second (made homes Value second k) (made_fits Value second k may.2)) (omega arith)
    made_fits (When depth) (c.Conditional test first second at) k may =
        chosen_fits (When depth) (is_joint test) k (made homes Value test k) (made homes (Unless 0) test k).code (made homes Value first k) (made homes Value second k) (node * expr_most calls test) (node * expr_most calls first) (node * expr_most calls second) (allowed (c.Conditional test first second at))
        (value_of test (made homes Value test k) (made_fits Value test k may.0)) (jumps_of test (made homes (Unless 0) test k) (made_fits (Unless 0) test k may.0)) (value_of first (made homes Value first k) (made_fits Value first k may.1)) (value_of second (made homes Value second k) (made_fits Value second k may.2)) (omega arith)
    made_fits purpose (c.Assign target right at) k may =
        let p = aimed homes target k in
        let n = node * (1 + (place_most calls target + expr_most calls right)) + 0 in
        finished_fits rates callee purpose (assigned purpose k p.target p.code (made homes Value right (k + 1))) n
        (assigned_fits rates callee calls planned bounds node spare covers purpose k p.target p.code (made homes Value right (k + 1)) (node * place_most calls target) (node * expr_most calls right) n (aimed_fits target k may.0) (value_of right (made homes Value right (k + 1)) (made_fits Value right (k + 1) may.1)) (omega arith))
    made_fits purpose (c.Update operator kind to target right at) k may =
        let p = aimed homes target k in
        let n = node * (1 + (place_most calls target + expr_most calls right)) + 0 in
        finished_fits rates callee purpose (updated purpose operator kind to k p.target p.code (made homes Value right (k + 1))) n
        (compound_fits rates callee calls planned bounds node spare covers purpose operator kind to k p.target p.code (made homes Value right (k + 1)) (node * place_most calls target) (node * expr_most calls right) n (aimed_fits target k may.0) (value_of right (made homes Value right (k + 1)) (made_fits Value right (k + 1) may.1)) (omega arith))

    pub passing_fits : (es : c.Exprs) (k : ℕ) → AllSingle es → PassingFits rates callee (passing homes es k) (node * exprs_most calls es)
    passing_fits c.NoExpr k may = omega arith
    passing_fits (c.WithExpr e rest) k may =
        let fits = argument_fits rates callee calls planned bounds node spare covers homes (array_named e) k (made homes Value e k) (passing homes rest (k + 1)) (node * expr_most calls e) (node * exprs_most calls rest) (value_of e (made homes Value e k) (made_fits Value e k may.0)) (passing_fits rest (k + 1) may.1) in
        omega (arith, fits)

  pub value_fits : (e : c.Expr) (k : ℕ) → Single e → code_cost rates callee (made homes Value e k) + expr_cost rates.leaf (made homes Value e k).value + rates.leaf + 3 ≤ node * expr_most calls e
  value_fits e k may = value_of e (made homes Value e k) (made_fits Value e k may)

  pub effect_fits : (e : c.Expr) (k : ℕ) → Single e → code_cost rates callee (made homes Effect e k) + rates.leaf + 3 ≤ node * expr_most calls e
  effect_fits e k may = effect_of e (made homes Effect e k) (made_fits Effect e k may)

  pub unless_fits : (depth : ℕ) (e : c.Expr) (k : ℕ) → Single e → code_cost rates callee (made homes (Unless depth) e k) + rates.leaf ≤ node * expr_most calls e
  unless_fits depth e k may = jumps_of e (made homes (Unless depth) e k) (made_fits (Unless depth) e k may)
