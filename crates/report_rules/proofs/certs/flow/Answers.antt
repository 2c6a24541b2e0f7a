use Rattle.std.proofs.Common.{◌≡◌, map, true, rules, FitsSigned}
use Rattle.std.specs.Int.{w128}
use Rattle.report_words.specs.Shapes.{fit, are_in_range}
use Rattle.report_lines.specs.LineShapes.{flow_shapes}
use Rattle.report_rules.proofs.ValueLemmas.{flow_part}
use Rattle.report_rules.proofs.certs.flow.Goals as goal

pub returns-clause-part : goal.returns-clause-part
returns-clause-part c =
    let fits : fit flow_shapes (map (λ w. w.now) c.args.words.now) ≡ true = search rules in
    let range : are_in_range flow_shapes (map (λ w. w.now) c.args.words.now) ≡ true = search rules in
    let b : FitsSigned w128 c.flow.result.part = search rules in
    flow_part c.flow.result (map (λ w. w.now) c.args.words.now) b c.flow.ensures fits range
