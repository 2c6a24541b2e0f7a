use Rattle.std.proofs.Common.{◌++◌, ◌≤◌, ap, map, arith, subst, sym, ◌∙◌}
use Rattle.parse_begun.proofs.SameDepths.{state_same}
use Rattle.parse_begun.specs.View.{state_of}
use Rattle.parse_words.specs.Lexemes.{word_said}
use Rattle.c_parser.proofs.Words.{append_push, halted, led_push, length_push, passed_on}
use Rattle.c_parser.specs.Refused.{Stops}
use Rattle.c_parser.proofs.read.read.Goals as goal

pub returns-in_err-state-clause-err : goal.returns-in_err-state-clause-err
returns-in_err-state-clause-err c f =
    let l = c.loop-word in
    let words = l.invariant.words ∙ ap (λ rest. l.yielded ++ rest) c.in-Some.ensures.steps.0 in
    let shallow = subst (λ d. d ≤ 256) (state_same f l.state) l.invariant.shallow in
    passed_on c.from_residual.result c.in_err-state.field-0.0 (λ fault. Stops fault (map (word_said f) c.args.words.items)) c.from_residual.ensures.1 (halted f c.args.words.items l.yielded c.in-Some.word c.next.new.self.rest.items (state_of f l.state) c.in_err-state.field-0.0 l.token words l.invariant.token (l.invariant.led f) shallow (c.in_err-state.ensures.err f))

pub loop-word-preserved : goal.loop-word-preserved
loop-word-preserved c =
    let l = c.loop-word in
    let length = length_push l.yielded c.in-Some.word in
    record {
      token = omega (arith, length, l.invariant.token);
      words = l.invariant.words ∙ ap (λ rest. l.yielded ++ rest) c.in-Some.ensures.steps.0 ∙ sym (append_push l.yielded c.in-Some.word c.next.new.self.rest.items);
      led = λ f. led_push f l.yielded c.in-Some.word l.state c.in_ok-state.state (l.invariant.led f) (c.in_ok-state.ensures.ok f);
      shallow = c.in_ok-state.ensures.shallow;
    }
