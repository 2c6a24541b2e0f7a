use Rattle.std.proofs.Common.{◌≡◌, map, true, rules}
use Rattle.report_words.specs.Shapes.{fit, are_in_range}
use Rattle.report_lines.specs.LineShapes.{cycles_shapes}
use Rattle.report_rules.proofs.ValueLemmas.{cycles_range}
use Rattle.report_rules.proofs.heads.cycles.Goals as goal

pub returns-clause-range : goal.returns-clause-range
returns-clause-range c =
    let fits : fit cycles_shapes (map (λ w. w.now) c.args.words.now) ≡ true = search rules in
    let range : are_in_range cycles_shapes (map (λ w. w.now) c.args.words.now) ≡ true = search rules in
    cycles_range c.cycles.result (map (λ w. w.now) c.args.words.now) (search rules) c.cycles.ensures fits range
