use Rattle.std.proofs.Common.{ap, subst}
use Rattle.c_tree.specs.Named.{named_items}
use Rattle.parse_grammar.specs.Machine.{among, specifier_of}
use Rattle.parse_words.specs.Lexemes.{lexeme_of}
use Rattle.parse_begun.specs.View.{Gives, braces_of}
use Rattle.parse_statement.proofs.settle.go_on_among_with.Goals as goal

pub returns-in-Ok : goal.returns-in-Ok
returns-in-Ok c f =
    let word = c.args.word in
    let said = lexeme_of f word.lexeme in
    subst (λ items. Gives f c.go_on_among.result (among (specifier_of said) said word.at items (braces_of f c.args.braces.value))) (ap (named_items f) c.in-Ok.ensures.ok.0) (c.go_on_among.ensures f)
