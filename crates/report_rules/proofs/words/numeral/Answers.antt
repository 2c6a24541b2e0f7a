use Rattle.std.proofs.Common.{◌^◌, min, rules, sym, ap, ◌∙◌}
use Rattle.report_words.specs.Numbers.{number_of}
use Rattle.report_rules.proofs.WordTestLemmas.{number_there, word_here, digits_here}
use Rattle.report_rules.proofs.words.numeral.Goals as goal

pub bounds-words-index : goal.bounds-words-index
bounds-words-index c = number_there (λ w. w.now) c.args.words.now c.args.index c.requires

pub offset_bounds-words-index : goal.offset_bounds-words-index
offset_bounds-words-index c = let lt = number_there (λ w. w.now) c.args.words.now c.args.index c.requires in search (rules, lt)

pub number-requires : goal.number-requires
number-requires c = digits_here (λ w. w.now) c.args.words.now c.args.index _ c.requires

pub returns : goal.returns
returns c = c.number.ensures ∙ ap (λ w. min (number_of w) (2 ^ 120)) (sym (word_here (λ w. w.now) c.args.words.now c.args.index _ (number_there (λ w. w.now) c.args.words.now c.args.index c.requires)))
