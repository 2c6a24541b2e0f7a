use Rattle.std.proofs.Common.{◌≡◌, true, rules, sym, ap, subst, ◌∙◌}
use Rattle.report_words.specs.Numbers.{is_address, address_of}
use Rattle.report_rules.proofs.WordTestLemmas.{word_there, word_here}
use Rattle.report_rules.proofs.words.place.Goals as goal

pub bounds-words-index : goal.bounds-words-index
bounds-words-index c = word_there (λ w. w.now) c.args.words.now c.args.index c.requires

pub offset_bounds-words-index : goal.offset_bounds-words-index
offset_bounds-words-index c = let lt = word_there (λ w. w.now) c.args.words.now c.args.index c.requires in search (rules, lt)

pub address-requires : goal.address-requires
address-requires c = subst (λ w. is_address w ≡ true) (word_here (λ w. w.now) c.args.words.now c.args.index _ (word_there (λ w. w.now) c.args.words.now c.args.index c.requires)) c.requires

pub returns : goal.returns
returns c = c.address.ensures ∙ ap address_of (sym (word_here (λ w. w.now) c.args.words.now c.args.index _ (word_there (λ w. w.now) c.args.words.now c.args.index c.requires)))
