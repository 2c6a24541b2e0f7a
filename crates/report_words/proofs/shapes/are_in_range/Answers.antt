use Rattle.report_words.proofs.ShapeLemmas.{word_there, form_there}
use Rattle.report_words.proofs.shapes.are_in_range.Goals as goal

pub bounds-words-i : goal.bounds-words-i
bounds-words-i c = word_there (λ w. w.now) c.args.shapes.now c.args.words.now c.loop-i.i c.loop-i.invariant.fits c.loop-i-test.true

pub is_in_range-requires : goal.is_in_range-requires
is_in_range-requires c = form_there (λ w. w.now) c.args.shapes.now c.args.words.now c.loop-i.i _ _ c.loop-i.invariant.fits c.loop-i-test.true
