use Rattle.std.proofs.Common.{◌∙◌, ap, List}
use Rattle.code_flow_lookup.specs.Runs.{those_at}
use Rattle.code_flow_system.specs.declared.moves.Move.{Move}
use Rattle.code_flow_system.specs.Certificates.{listed}
use Rattle.path_fact_columns.proofs.CountLemmas.{count_end}
use Rattle.path_fact_columns.proofs.counting.count_at.Goals as goal

pub returns-clause-value : goal.returns-clause-value
returns-clause-value c =
    count_end (listed c.args.parts.now) c.moves_at-steps.result.now c.args.system.now.moves c.args.at c.loop-i.i _ (c.moves_at-steps.ensures ∙ ap (λ (ms : List Move). those_at (λ (m : Move). m.at) c.args.at ms) c.moves.ensures.value) c.loop-i-test.false c.loop-i.invariant.0
