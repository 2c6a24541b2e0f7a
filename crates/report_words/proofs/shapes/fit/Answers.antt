use Rattle.report_words.proofs.ShapeLemmas.{unlike_lengths}
use Rattle.report_words.proofs.shapes.fit.Goals as goal

pub returns-then-shapes-words : goal.returns-then-shapes-words
returns-then-shapes-words c = unlike_lengths (λ w. w.now) c.args.shapes.now c.args.words.now c.if-shapes-words.true
