use Rattle.std.proofs.Common.{◌∙◌, ap, rules, subst}
use Rattle.parse_begun.specs.View.{Gives}
use Rattle.parse_ending.proofs.Arguments.{argument_begins}
use Rattle.parse_grammar.specs.Machine.{begin}
use Rattle.parse_words.specs.Lexemes.{lexeme_of}
use Rattle.parse_ending.proofs.behind.begin_arguments.Goals as goal

pub returns-in_ok-under-in_default : goal.returns-in_ok-under-in_default
returns-in_ok-under-in_default c f =
    let word = c.args.word in
    let begun = ap (begin (lexeme_of f word.lexeme) word.at) (c.in_ok-under-in_default.ensures.ok f) in
    subst (λ moved. Gives f c.begin_operand.result moved) (begun ∙ argument_begins _ _ _ _ _ (search rules)) (c.begin_operand.ensures f)
