use Rattle.std.proofs.Common.{arith, rules, ap, ◌∙◌, ◌≡◌, pos}
use Rattle.clap.specs.declared.builder.value_parser.ValueParser.TheVariants as parser
use Rattle.command_words.proofs.Getters.{narrowed, signed_again, signed_small}
use Rattle.std.specs.Range.{range_inclusive_start, range_inclusive_end}
use Rattle.std.proofs.Common.{w64, to_z, of_z}
use Rattle.command_words.proofs.arguments.within.Goals as goal

pub returns-clause-rule : goal.returns-clause-rule
returns-clause-rule c =
    let least = c.args.numbers.least in
    let most = c.args.numbers.most in
    let given = c.value_parser-2.ensures.given in
    let low : range_inclusive_start c.new-range.result ≡ pos least = c.new-range.ensures.start ∙ (ap (λ z. to_z w64 (of_z w64 z)) c.from.ensures ∙ signed_again least (omega arith)) in
    let high : range_inclusive_end c.new-range.result ≡ pos most = c.new-range.ensures.end ∙ signed_small most c.args.numbers.fits in
    let whole = rw (low, high, c.value_parser.ensures) at c.range.ensures in
    let made : c.range.result ≡ parser.Unsigned least most = narrowed least most c.range.result (omega arith) (omega arith) whole in
    let is_q : given.0 ≡ parser.Unsigned least most = given.2 ∙ made in
    search rules
