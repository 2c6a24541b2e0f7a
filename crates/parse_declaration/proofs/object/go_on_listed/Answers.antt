use Rattle.std.proofs.Common.{◌∙◌, ap, rules, subst}
use Rattle.parse_begun.specs.declared.begun.Receiver.{Receiver}
use Rattle.parse_begun.specs.View.{Gives, head_of, parts_of, shape_part_of}
use Rattle.parse_words.specs.Lexemes.{lexeme_of}
use Rattle.parse_grammar.specs.Begun.{Base, Lists}
use Rattle.parse_grammar.specs.Machine.{begin}
use Rattle.parse_declaration.proofs.Begins.{next_begins}
use Rattle.parse_declaration.proofs.object.go_on_listed.Goals as goal

pub returns-in-Ok : goal.returns-in-Ok
returns-in-Ok c f =
    let word = c.args.word in
    let begun = ap (λ (o : Receiver). begin (lexeme_of f word.lexeme) word.at (Base (Lists (head_of f o.head) (f o.name.name.0) (shape_part_of f o.shape) (parts_of f c.args.front) o.name.at))) c.in-Ok.ensures.ok in
    subst (λ moved. Gives f c.begin_operand.result moved) (begun ∙ next_begins _ _ _ _ _ _ _ (search rules)) (c.begin_operand.ensures f)
