use Rattle.std.proofs.Common.{◌≡◌, ◌++◌, drop}
use Rattle.report_words.specs.Words.{spaced}
use Rattle.report_text.specs.Lines.{more_terms}
use Rattle.report_text.proofs.claim_lines.put_more_terms.Given as goal

abbrev pub invariant-loop-term : goal.invariant-loop-term
invariant-loop-term l = l.text.items ++ spaced (more_terms (drop l.term-index l.terms)) ≡ l.initial.text.items ++ spaced (more_terms l.terms)
