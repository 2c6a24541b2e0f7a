-- How often a program's plan reaches a mark.
use Rattle.std.proofs.Common.{ℕ, zero, suc, ◌+◌, ◌≤◌, Bool, true, false, List, [], ◌∷◌, length, arith}
use Rattle.std.specs.Prelude.{◌==◌, if◌then◌else◌, slice_get}
use Rattle.facts_definitions.specs.Most.{function_most, items_most, list_most, most_within}
use Rattle.types_tree.specs.Tree as c
use Rattle.types_tree.specs.declared.variable.Variable.{Variable}
use Rattle.high_ir.specs.Weight.{body_reach as function_reach, reach_of, reaches}
use Rattle.plan_definition.specs.Layouts.{frame_scalars}
use Rattle.plan_definition.specs.Programs.{between, end_of, functions_planned}
use Rattle.plan_definition.specs.Statements.{Plan, body_planned}
use Rattle.plan_formed.proofs.ReachedStatements.{body_reach}

module _ (plan : Plan) (variables : List Variable) (ranks : List ℕ) (mark : ℕ) where
  -- of one function, where its calls reach the mark as often as they come to nodes
  one_reach : (callee calls : ℕ → ℕ) → ((f : ℕ) → callee f ≤ calls f) → (fs : List c.Function) (own number f : ℕ) → function_reach mark own (slice_get (functions_planned plan variables ranks number fs) f) callee ≤ function_most plan.bounds calls (slice_get fs f)
  one_reach callee calls fit [] own number f = omega arith
  one_reach callee calls fit (c.Defined specifiers name name_at params first body body_at at ∷ rest) own number zero =
      let scalars = frame_scalars (between variables first (end_of rest (length variables))) in
      opened (own == mark) (reach_of callee mark (body_planned plan body scalars)) (list_most calls params) (items_most plan.bounds calls body) (body_reach callee calls mark fit plan body scalars)
    where
      opened : (b : Bool) (r l i : ℕ) → r ≤ i → (if b then 1 else 0) + r ≤ 1 + (l + (1 + i))
      opened true r l i h = omega (arith, h)
      opened false r l i h = omega (arith, h)
  one_reach callee calls fit (c.Defined specifiers name name_at params first body body_at at ∷ rest) own number (suc f) = one_reach callee calls fit rest own (number + 1) f

  -- of functions, with so many calls within one another
  pub reaches_most : (program : c.Program) (depth f : ℕ) → reaches (functions_planned plan variables ranks 0 program.functions) mark depth f ≤ most_within program plan.bounds depth f
  reaches_most program zero f = omega arith
  reaches_most program (suc depth) f = one_reach (reaches (functions_planned plan variables ranks 0 program.functions) mark depth) (most_within program plan.bounds depth) (λ g. reaches_most program depth g) program.functions f 0 f
