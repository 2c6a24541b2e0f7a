use Rattle.std.proofs.Common.{rules, sym, subst, ℤ, pos, ◌≤ℤ◌, List, FitsSigned}
use Rattle.std.specs.Int.{w128}
use Rattle.std.proofs.lemmas.Int.{to_z-of_z}
use Rattle.rv_core.specs.Table.{table_of}
use Rattle.code_flow_system.specs.declared.cert.Part.{Part}
use Rattle.path_fact_columns.specs.Laws.{AreBest}
use Rattle.path_fact_cases.proofs.answers.told.Goals as goal

pub column_told-requires-clause-best : goal.column_told-requires-clause-best
column_told-requires-clause-best c =
    let fits : FitsSigned w128 c.in_ok-answer.answer.worth = search rules in
    let positive = subst (λ (z : ℤ). pos 0 ≤ℤ z) (to_z-of_z w128 c.in_ok-answer.answer.worth fits) (c.is_negative.ensures c.if-is_negative.false) in
    subst (λ (us : List Part). AreBest (table_of c.args.multiplied.costs.now) c.args.multiplied.system.now c.args.multiplied.scale c.args.multiplied.facts.now us) (sym c.as_slice.ensures) (c.in_ok-answer.ensures.best.best positive)
