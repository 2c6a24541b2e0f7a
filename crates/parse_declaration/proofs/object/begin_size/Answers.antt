use Rattle.std.proofs.Common.{◌∙◌, ap, subst}
use Rattle.parse_begun.specs.declared.begun.Declarator.{Declarator}
use Rattle.parse_begun.specs.View.{Gives, declarator_of}
use Rattle.parse_words.specs.Lexemes.{lexeme_of}
use Rattle.parse_grammar.specs.Begun.{Base, Sizes}
use Rattle.parse_grammar.specs.Machine.{begin}
use Rattle.parse_declaration.proofs.Begins.{size_begins}
use Rattle.parse_declaration.proofs.object.begin_size.Goals as goal

pub returns : goal.returns
returns c f =
    let word = c.args.word in
    let begun = ap (λ (d : Declarator). begin (lexeme_of f word.lexeme) word.at (Base (Sizes (declarator_of f d)))) c.in_ok-declarator.ensures.ok in
    subst (λ moved. Gives f c.begin_operand.result moved) (begun ∙ size_begins _ _ _ (c.closes_size.ensures.no f c.if-closes_size.false)) (c.begin_operand.ensures f)
