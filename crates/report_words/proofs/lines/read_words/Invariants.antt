use Rattle.std.proofs.Common.{◌≡◌, ◌++◌, map, length}
use Rattle.report_words.specs.Splitting.{words_of}
use Rattle.report_words.proofs.lines.read_words.Given as goal

abbrev pub invariant-words : goal.invariant-words
invariant-words l = map (λ w. w.now) l.words.items ++ words_of l.rest ≡ map (λ w. w.now) l.initial.words.items ++ words_of l.line

abbrev pub decreases-words : goal.decreases-words
decreases-words l = length l.rest
