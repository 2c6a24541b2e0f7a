use Rattle.std.proofs.Common.{map, rules, FitsSigned, nat_le, sym, ◌∙◌}
use Rattle.std.specs.Int.{w128}
use Rattle.report_words.specs.Shapes.{fit}
use Rattle.report_rules.specs.WordTests.{place_at}
use Rattle.report_lines.specs.LineShapes.{loop_shapes}
use Rattle.report_rules.proofs.ValueLemmas.{first_of_two, loop_small}
use Rattle.report_rules.proofs.claims.loop_claim.Goals as goal

pub returns-clause-small : goal.returns-clause-small
returns-clause-small c =
    let words = map (λ w. w.now) c.args.words.now in
    let fits = first_of_two (fit loop_shapes words) (nat_le c.args.least (place_at 4 words)) (sym c.loop_stands.ensures ∙ c.if-not-loop_stands.false) in
    let range = sym c.are_in_range.ensures ∙ c.if-not-are_in_range.false in
    let b : FitsSigned w128 c.loop_claim.result.1.0 = search rules in
    let b2 : FitsSigned w128 c.loop_claim.result.1.1 = search rules in
    loop_small c.loop_claim.result.0 c.loop_claim.result.1 words b b2 c.loop_claim.ensures fits range
