use Rattle.std.proofs.Common.{ap, ◌∙◌, sym}
use Rattle.rv_core.specs.Table.{table_of}
use Rattle.code_flow_system.specs.MoveCosts.{instruction_among, wait_ahead}
use Rattle.code_flow_lookup.specs.Lines.{line_at}
use Rattle.code_flow_lookup.proofs.LineLemmas.{cost_is}
use Rattle.code_flow_lookup.proofs.costs.move_cost.Goals as goal

pub returns-clause-value : goal.returns-clause-value
returns-clause-value c =
    let line = c.line_at-line.ensures.value ∙ ap (λ ws. line_at ws c.args.step.now.at) (c.regions.ensures.value ∙ ap (λ claims. claims.regions) c.claims.ensures) in
    let wait = c.wait_ahead-wait.ensures.value ∙ ap (λ ms. wait_ahead (table_of c.args.costs.now) c.args.step.now.instr (instruction_among ms c.behind-next.result)) c.moves.ensures.value in
    cost_is (table_of c.args.costs.now) c.args.system.now c.args.step.now c.in-Some.fetch c.line_at-line.result c.from.result c.from-2.result c.behind-next.result (sym c.region.ensures ∙ c.in-Some.is) line (c.from.ensures ∙ c.own_cost-own.ensures) c.behind-next.ensures (c.from-2.ensures ∙ wait)
