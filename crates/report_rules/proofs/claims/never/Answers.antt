use Rattle.std.proofs.Common.{map, rules, FitsSigned, nat_le, sym, ◌∙◌}
use Rattle.std.specs.Int.{w128}
use Rattle.report_words.specs.Shapes.{fit}
use Rattle.report_rules.specs.WordTests.{place_at}
use Rattle.report_lines.specs.LineShapes.{never_shapes}
use Rattle.report_rules.proofs.ValueLemmas.{first_of_two, never_small}
use Rattle.report_rules.proofs.claims.never.Goals as goal

pub returns-clause-small : goal.returns-clause-small
returns-clause-small c =
    let words = map (λ w. w.now) c.args.words.now in
    let fits = first_of_two (fit never_shapes words) (nat_le c.args.least (place_at 2 words)) (sym c.never_stands.ensures ∙ c.if-not-never_stands.false) in
    let range = sym c.are_in_range.ensures ∙ c.if-not-are_in_range.false in
    let b : FitsSigned w128 c.never.result.1 = search rules in
    never_small c.never.result.0 c.never.result.1 words b c.never.ensures fits range
