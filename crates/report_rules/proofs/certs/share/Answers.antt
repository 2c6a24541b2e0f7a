use Rattle.std.proofs.Common.{◌<◌, ◌^◌, ◌&&◌, map, nat_lt, nat_le, rules, FitsSigned, sym, ◌∙◌}
use Rattle.std.specs.Int.{w128}
use Rattle.report_words.specs.Shapes.{fit}
use Rattle.report_lines.specs.LineShapes.{share_shapes}
use Rattle.report_rules.specs.WordTests.{place_at}
use Rattle.report_rules.proofs.ValueLemmas.{first_of_two, share_form}
use Rattle.report_rules.proofs.certs.share.Goals as goal

pub returns-clause-form : goal.returns-clause-form
returns-clause-form c =
    let words = map (λ w. w.now) c.args.words.now in
    let stands = sym c.share_stands.ensures ∙ c.if-not-share_stands.false in
    let fits = first_of_two (fit share_shapes words) (nat_lt (place_at 1 words) (place_at 2 words) && nat_le c.args.least (place_at 1 words)) stands in
    let range = sym c.are_in_range.ensures ∙ c.if-not-are_in_range.false in
    let first : c.in_ok-share.field-0.first < 2 ^ 32 = search rules in
    let end : c.in_ok-share.field-0.end < 2 ^ 32 = search rules in
    let bound : FitsSigned w128 c.in_ok-share.field-0.part = search rules in
    share_form c.in_ok-share.field-0 c.args.least words first end bound c.in_ok-share.ensures.named c.in_ok-share.ensures.same fits stands range
