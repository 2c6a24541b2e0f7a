use Rattle.std.proofs.Common.{rules, ◌∙◌, ℤ, pos, ◌≤ℤ◌, arith, sym, subst, List, length, FitsSigned}
use Rattle.std.specs.Int.{w128}
use Rattle.std.proofs.lemmas.Int.{to_z-of_z}
use Rattle.wcc_base.specs.declared.compare.Compare.{Compare}
use Rattle.rv_core.specs.Table.{table_of}
use Rattle.simplex_laws.specs.RoundLaws.{IsInfeasible}
use Rattle.path_enum.specs.Steps.{IsAsked}
use Rattle.path_enum.proofs.NextLemmas.{ops_few, first_is, best_value, size_below, first_some, first_narrow, first_signs, first_next}
use Rattle.path_enum.proofs.stepping.after_first.Goals as goal

pub first_multipliers-requires-clause-few : goal.first_multipliers-requires-clause-few
first_multipliers-requires-clause-few c = let l = ops_few c.args.searched.system.now.claims.facts c.args.ops.now c.requires.ops c.requires.searchable.few in omega (arith, l)

pub first_multipliers-requires-clause-low : goal.first_multipliers-requires-clause-low
first_multipliers-requires-clause-low c =
    let fits : FitsSigned w128 c.first_value-value.result = search rules in
    let e = to_z-of_z w128 c.first_value-value.result fits ∙ c.first_value-value.ensures in
    let v = best_value (table_of c.args.searched.costs.now) c.args.searched.system.now c.args.searched.shapes.now c.args.searched.spans.now c.requires.searchable _ _ _ c.requires.columns.best in
    subst (λ (z : ℤ). pos 0 ≤ℤ z) (sym e) v.0

pub first_multipliers-requires-clause-high : goal.first_multipliers-requires-clause-high
first_multipliers-requires-clause-high c =
    let fits : FitsSigned w128 c.first_value-value.result = search rules in
    let e = to_z-of_z w128 c.first_value-value.result fits ∙ c.first_value-value.ensures in
    let v = best_value (table_of c.args.searched.costs.now) c.args.searched.system.now c.args.searched.shapes.now c.args.searched.spans.now c.requires.searchable _ _ _ c.requires.columns.best in
    size_below _ _ e v.0 v.1

pub ask-requires-clause-scale : goal.ask-requires-clause-scale
ask-requires-clause-scale c =
    let t = table_of c.args.searched.costs.now in
    let s = c.args.searched.system.now in
    let cs = c.args.columns.now in
    let fits : FitsSigned w128 c.first_value-value.result = search rules in
    let e = to_z-of_z w128 c.first_value-value.result fits ∙ c.first_value-value.ensures in
    let ends = subst (λ (os : List Compare). IsInfeasible cs os c.args.table.now) c.requires.ops c.requires.well in
    let k = first_is _ _ (length cs) _ _ _ _ c.args.table.now c.in-Some.multipliers c.loop_factor-times.ensures c.requires.ops e (rw c.in-Some.is at c.in_ok-multipliers.ensures.value) in
    first_some t s c.args.searched.shapes.now c.args.searched.spans.now c.requires.searchable cs c.args.table.now c.requires.columns ends c.in-Some.multipliers k.0 k.1

pub ask-requires-clause-narrow : goal.ask-requires-clause-narrow
ask-requires-clause-narrow c =
    let t = table_of c.args.searched.costs.now in
    let s = c.args.searched.system.now in
    let cs = c.args.columns.now in
    let fits : FitsSigned w128 c.first_value-value.result = search rules in
    let e = to_z-of_z w128 c.first_value-value.result fits ∙ c.first_value-value.ensures in
    let ends = subst (λ (os : List Compare). IsInfeasible cs os c.args.table.now) c.requires.ops c.requires.well in
    let k = first_is _ _ (length cs) _ _ _ _ c.args.table.now c.in-Some.multipliers c.loop_factor-times.ensures c.requires.ops e (rw c.in-Some.is at c.in_ok-multipliers.ensures.value) in
    first_narrow t s c.args.searched.shapes.now c.args.searched.spans.now c.requires.searchable cs c.args.table.now c.requires.columns ends c.in-Some.multipliers k.0 k.1

pub ask-requires-clause-signs : goal.ask-requires-clause-signs
ask-requires-clause-signs c =
    let t = table_of c.args.searched.costs.now in
    let s = c.args.searched.system.now in
    let cs = c.args.columns.now in
    let fits : FitsSigned w128 c.first_value-value.result = search rules in
    let e = to_z-of_z w128 c.first_value-value.result fits ∙ c.first_value-value.ensures in
    let ends = subst (λ (os : List Compare). IsInfeasible cs os c.args.table.now) c.requires.ops c.requires.well in
    let k = first_is _ _ (length cs) _ _ _ _ c.args.table.now c.in-Some.multipliers c.loop_factor-times.ensures c.requires.ops e (rw c.in-Some.is at c.in_ok-multipliers.ensures.value) in
    first_signs t s c.args.searched.shapes.now c.args.searched.spans.now c.requires.searchable cs c.args.table.now c.requires.columns ends c.in-Some.multipliers k.0 k.1

pub returns-in-Found : goal.returns-in-Found
returns-in-Found c =
    let t = table_of c.args.searched.costs.now in
    let s = c.args.searched.system.now in
    let cs = c.args.columns.now in
    let fits : FitsSigned w128 c.first_value-value.result = search rules in
    let e = to_z-of_z w128 c.first_value-value.result fits ∙ c.first_value-value.ensures in
    let ends = subst (λ (os : List Compare). IsInfeasible cs os c.args.table.now) c.requires.ops c.requires.well in
    let k = first_is _ _ (length cs) _ _ _ _ c.args.table.now c.in-Some.multipliers c.loop_factor-times.ensures c.requires.ops e (rw c.in-Some.is at c.in_ok-multipliers.ensures.value) in
    first_next t s c.args.searched.shapes.now c.args.searched.spans.now c.requires.searchable cs c.args.table.now c.requires.columns ends c.in-Some.multipliers k.0 k.1 c.first_answers_are_best.ensures c.in-Found.answer (subst (IsAsked t s c.args.searched.shapes.now c.args.searched.spans.now c.in-Some.multipliers) c.in-Found.is c.in_ok-cert.ensures)
