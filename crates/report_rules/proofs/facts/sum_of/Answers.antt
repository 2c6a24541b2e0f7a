use Rattle.std.proofs.Common.{map, sym, ap, ◌∙◌}
use Rattle.report_text.specs.Lines.{sum_words}
use Rattle.report_rules.proofs.FactLemmas.{zero_words}
use Rattle.report_rules.proofs.facts.sum_of.Goals as goal

pub returns-then-is_zero-clause-written : goal.returns-then-is_zero-clause-written
returns-then-is_zero-clause-written c = ap sum_words c.new.ensures ∙ zero_words (map (λ w. w.now) c.args.words.now) (sym c.is_zero.ensures ∙ c.if-is_zero.true)
