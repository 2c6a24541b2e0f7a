use Rattle.std.proofs.Common.{◌++◌, map}
use Rattle.report_words.specs.Splitting.{words_of}
use Rattle.report_words.proofs.ScanLemmas.{word_added, last_word}
use Rattle.report_words.proofs.lines.read_words.Goals as goal

pub words-preserved : goal.words-preserved
words-preserved c =
    word_added (map (λ w. w.now) c.args.words.now.items ++ words_of c.args.line.now) (map (λ w. w.now) c.words.words.items) (map (λ w. w.now) c.push_word.new.words.items)
    c.words.rest.now c.in-Some.word.now c.in-Some.after.now c.in-Some.ensures c.in_ok-push_word.ensures c.words.invariant

pub returns : goal.returns
returns c =
    last_word (map (λ w. w.now) c.args.words.now.items ++ words_of c.args.line.now) (map (λ w. w.now) c.words.words.items) (map (λ w. w.now) c.push_word-2.new.words.items)
    c.words.rest.now c.in_default.ensures c.in_ok-push_word-2.ensures c.words.invariant
