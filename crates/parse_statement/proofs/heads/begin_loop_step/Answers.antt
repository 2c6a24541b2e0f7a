use Rattle.std.proofs.Common.{◌∙◌, ap, subst, sym}
use Rattle.parse_begun.specs.declared.begun.TestedFor.{TestedFor}
use Rattle.parse_begun.specs.View.{Gives, frames_of, maybe_of, start_part_of}
use Rattle.parse_words.specs.Lexemes.{lexeme_of}
use Rattle.parse_grammar.specs.Begun.{Base, Repeats}
use Rattle.parse_grammar.specs.Machine.{begin}
use Rattle.parse_statement.proofs.Others.{steps_other, not_said}
use Rattle.parse_statement.proofs.heads.begin_loop_step.Goals as goal

pub returns-in-Ok : goal.returns-in-Ok
returns-in-Ok c f =
    let word = c.args.word in
    let begun = ap (λ (head : TestedFor). begin (lexeme_of f word.lexeme) word.at (Base (Repeats head.bound (start_part_of f head.start) (maybe_of f head.test) head.at (frames_of f c.args.under.value)))) c.in-Ok.ensures.ok in
    subst (λ moved. Gives f c.begin_operand.result moved) (begun ∙ sym (steps_other _ _ _ _ _ _ _ (not_said _ _ (c.says.ensures f) c.if-says.false))) (c.begin_operand.ensures f)
