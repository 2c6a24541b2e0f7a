use Rattle.std.proofs.Common.{◌∙◌, ◌*ℤ◌, ◌≤ℤ◌, ◌<ℤ◌, ◌^◌, sym, ap, subst, pos, ℤ}
use Rattle.code_flow_system.specs.Counts.{amount}
use Rattle.code_flow_system.specs.Certificates.{listed}
use Rattle.path_fact_columns.proofs.CountLemmas.{paid_is}
use Rattle.path_fact_columns.proofs.columns.paid.Goals as goal

pub returns-clause-value : goal.returns-clause-value
returns-clause-value c =
    let is = paid_is c.made.result c.from.result c.move_cost.result c.made.ensures.least c.made.ensures.small c.from.ensures c.move_cost.ensures.small in
    is.value ∙ (ap (λ (z : ℤ). z *ℤ c.from.result) c.made.ensures.value ∙ ap (λ (z : ℤ). amount (listed c.args.parts.now) c.args.step.now *ℤ z) (c.from.ensures ∙ ap pos c.move_cost.ensures.value))

pub returns-clause-positive : goal.returns-clause-positive
returns-clause-positive c =
    let is = paid_is c.made.result c.from.result c.move_cost.result c.made.ensures.least c.made.ensures.small c.from.ensures c.move_cost.ensures.small in
    subst (λ (z : ℤ). pos 0 ≤ℤ z) (sym is.value) is.least

pub returns-clause-small : goal.returns-clause-small
returns-clause-small c =
    let is = paid_is c.made.result c.from.result c.move_cost.result c.made.ensures.least c.made.ensures.small c.from.ensures c.move_cost.ensures.small in
    subst (λ (z : ℤ). z <ℤ pos (2 ^ 93)) (sym is.value) is.most
