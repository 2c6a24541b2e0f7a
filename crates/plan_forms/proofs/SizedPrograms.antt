-- The nodes, the operations and the weight of a plan.
use Rattle.std.proofs.Common.{◌≡◌, ℕ, zero, suc, ◌+◌, ◌*◌, ◌≤◌, max, List, [], ◌∷◌, length, arith}
use Rattle.std.specs.Prelude.{slice_get, slice_index_or, sum_by}
use Rattle.std.proofs.lemmas.List.Sums.{sum_by-cons}
use Rattle.facts_definitions.specs.Most.{bounds_at, function_most, items_most, list_most, most_within}
use Rattle.facts_definitions.specs.Starts.{most_starts as starts_at_most}
use Rattle.facts_definitions.specs.declared.facts.Bounds.{Bounds}
use Rattle.types_tree.specs.Tree as c
use Rattle.types_tree.specs.declared.variable.Variable.{Variable}
use Rattle.high_ir.specs.Size.{function_nodes, nodes, operations}
use Rattle.high_ir.specs.Tree.{Statement}
use Rattle.high_ir.specs.Weight.{body_weight, weight_of, weights}
use Rattle.plan_definition.specs.Layouts.{frame_scalars}
use Rattle.plan_definition.specs.Programs.{between, end_of, function_planned, functions_planned}
use Rattle.plan_definition.specs.Statements.{Plan, body_planned}
use Rattle.plan_forms.specs.Costs.{Rates, by_nodes, by_operations, by_weight, cost}
use Rattle.plan_forms.specs.Covers.{Covers}
use Rattle.plan_forms.specs.ProgramCosts.{FunctionsSingle, functions_nodes}
use Rattle.plan_forms.proofs.Measures.{nodes_cost, operations_cost, weight_cost}
use Rattle.plan_forms.proofs.SizedStatements.{body_fits}

-- where each turn of a loop counts once
once : (n : ℕ) → 1 ≤ max 1 n
once n = omega arith

by_nodes_covers : (planned : List Bounds) → Covers by_nodes (λ f. 0) (λ f. 0) planned [] 10 7
by_nodes_covers planned = record {
  leaf = omega arith;
  some = omega arith;
  call = omega arith;
  passed = omega arith;
  exit = omega arith;
  loop = omega arith;
  turn = omega arith;
  guard = omega arith;
  callees = λ f. omega arith;
  turns = λ number always. once (starts_at_most always (bounds_at [] number).max);
  fillings = λ number. omega arith;
}

by_operations_covers : (planned : List Bounds) → Covers by_operations (λ f. 0) (λ f. 0) planned [] 6 4
by_operations_covers planned = record {
  leaf = omega arith;
  some = omega arith;
  call = omega arith;
  passed = omega arith;
  exit = omega arith;
  loop = omega arith;
  turn = omega arith;
  guard = omega arith;
  callees = λ f. omega arith;
  turns = λ number always. once (starts_at_most always (bounds_at [] number).max);
  fillings = λ number. omega arith;
}

-- what is no more than a cost comes in a plan's functions to so much for each node of the source's
functions_most : (measure : Statement → ℕ) (rates : Rates) (node spare : ℕ) (plan : Plan) → ((s : Statement) → measure s ≤ cost rates (λ g. 0) s) → Covers rates (λ g. 0) (λ g. 0) plan.bounds [] node spare →
    (variables : List Variable) (ranks : List ℕ) (fs : List c.Function) (number : ℕ) → FunctionsSingle fs → sum_by (λ f. measure f.body + 1) (functions_planned plan variables ranks number fs) ≤ node * functions_nodes fs
functions_most measure rates node spare plan is covers variables ranks [] number may = omega arith
functions_most measure rates node spare plan is covers variables ranks (c.Defined specifiers name name_at params first body body_at at ∷ rest) number may =
    let f = c.Defined specifiers name name_at params first body body_at at in
    let own = frame_scalars (between variables first (end_of rest (length variables))) in
    let code = body_planned plan body own in
    let others = functions_planned plan variables ranks (number + 1) rest in
    one (sum_by (λ g. measure g.body + 1) (functions_planned plan variables ranks number (f ∷ rest))) (measure code) (cost rates (λ g. 0) code) (items_most [] (λ g. 0) body) (list_most (λ g. 0) params) (sum_by (λ g. measure g.body + 1) others) (functions_nodes rest)
    (sum_by-cons (λ g. measure g.body + 1) (function_planned plan variables (end_of rest (length variables)) (slice_index_or ranks number 0) f) others) (is code) (body_fits rates (λ g. 0) (λ g. 0) plan [] node spare covers body own may.0)
    (functions_most measure rates node spare plan is covers variables ranks rest (number + 1) may.1)
  where
    one : (all n k i l o r : ℕ) → all ≡ n + 1 + o → n ≤ k → k ≤ node * i + rates.exit + 4 → o ≤ node * r → all ≤ node * (1 + (l + (1 + i)) + r)
    one all n k i l o r e a b d = omega (arith, e, a, b, d, covers.exit, covers.some)

-- the nodes of a plan's functions are at most ten times those of the source's
pub functions_nodes_most : (plan : Plan) (variables : List Variable) (ranks : List ℕ) (fs : List c.Function) (number : ℕ) → FunctionsSingle fs → sum_by function_nodes (functions_planned plan variables ranks number fs) ≤ 10 * functions_nodes fs
functions_nodes_most plan variables ranks fs number may = functions_most nodes by_nodes 10 7 plan nodes_cost (by_nodes_covers plan.bounds) variables ranks fs number may

-- their operations are at most six times the source's nodes
pub functions_operations_most : (plan : Plan) (variables : List Variable) (ranks : List ℕ) (fs : List c.Function) (number : ℕ) → FunctionsSingle fs → sum_by (λ f. operations f.body + 1) (functions_planned plan variables ranks number fs) ≤ 6 * functions_nodes fs
functions_operations_most plan variables ranks fs number may = functions_most operations by_operations 6 4 plan operations_cost (by_operations_covers plan.bounds) variables ranks fs number may

by_weight_covers : (callee calls : ℕ → ℕ) (bounds : List Bounds) → ((f : ℕ) → callee f ≤ 16 * calls f) → Covers by_weight callee calls bounds bounds 16 10
by_weight_covers callee calls bounds fit = record {
  leaf = omega arith;
  some = omega arith;
  call = omega arith;
  passed = omega arith;
  exit = omega arith;
  loop = omega arith;
  turn = omega arith;
  guard = omega arith;
  callees = fit;
  turns = λ number always. itself (max 1 (starts_at_most always (bounds_at bounds number).max));
  fillings = λ number. filled (bounds_at bounds number).max;
}
  where
    itself : (n : ℕ) → n ≤ n
    itself n = omega arith

    filled : (m : ℕ) → 2 + 1 + 4 + max 1 m * (3 + 8 + 6 * 1) ≤ 2 * 16 + 16 * (2 * m)
    filled m = omega arith

module _ (plan : Plan) (variables : List Variable) (ranks : List ℕ) where
  -- of one function, where its calls weigh at most 16 times what they come to
  body_weight_most : (callee calls : ℕ → ℕ) → ((f : ℕ) → callee f ≤ 16 * calls f) → (fs : List c.Function) (number f : ℕ) → FunctionsSingle fs → body_weight (slice_get (functions_planned plan variables ranks number fs) f) callee ≤ 16 * function_most plan.bounds calls (slice_get fs f)
  body_weight_most callee calls fit [] number f may = omega arith
  body_weight_most callee calls fit (c.Defined specifiers name name_at params first body body_at at ∷ rest) number zero may =
      let own = frame_scalars (between variables first (end_of rest (length variables))) in
      one (weight_of callee (body_planned plan body own)) (cost by_weight callee (body_planned plan body own)) (items_most plan.bounds calls body) (list_most calls params) (weight_cost callee (body_planned plan body own))
      (body_fits by_weight callee calls plan plan.bounds 16 10 (by_weight_covers callee calls plan.bounds fit) body own may.0)
    where
      one : (w k i l : ℕ) → w ≤ k → k ≤ 16 * i + 4 + 4 → 1 + w ≤ 16 * (1 + (l + (1 + i)))
      one w k i l a b = omega (arith, a, b)
  body_weight_most callee calls fit (c.Defined specifiers name name_at params first body body_at at ∷ rest) number (suc f) may = body_weight_most callee calls fit rest (number + 1) f may.1

  -- what functions weigh, with so many calls within one another
  pub weights_most : (program : c.Program) → FunctionsSingle program.functions → (depth f : ℕ) → weights (functions_planned plan variables ranks 0 program.functions) depth f ≤ 16 * most_within program plan.bounds depth f
  weights_most program may zero f = omega arith
  weights_most program may (suc depth) f = body_weight_most (weights (functions_planned plan variables ranks 0 program.functions) depth) (most_within program plan.bounds depth) (λ g. weights_most program may depth g) program.functions 0 f may
