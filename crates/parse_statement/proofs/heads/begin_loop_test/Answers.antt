use Rattle.std.proofs.Common.{◌∙◌, ap, subst, sym}
use Rattle.parse_begun.specs.declared.begun.StartedFor.{StartedFor}
use Rattle.parse_begun.specs.View.{Gives, frames_of, start_part_of}
use Rattle.parse_words.specs.Lexemes.{lexeme_of}
use Rattle.parse_grammar.specs.Begun.{Base, Guards}
use Rattle.parse_grammar.specs.Machine.{begin}
use Rattle.parse_statement.proofs.Others.{tests_other, not_said}
use Rattle.parse_statement.proofs.heads.begin_loop_test.Goals as goal

pub returns-in-Ok : goal.returns-in-Ok
returns-in-Ok c f =
    let word = c.args.word in
    let begun = ap (λ (head : StartedFor). begin (lexeme_of f word.lexeme) word.at (Base (Guards head.bound (start_part_of f head.start) head.at (frames_of f c.args.under.value)))) c.in-Ok.ensures.ok in
    subst (λ moved. Gives f c.begin_operand.result moved) (begun ∙ sym (tests_other _ _ _ _ _ _ (not_said _ _ (c.says.ensures f) c.if-says.false))) (c.begin_operand.ensures f)
