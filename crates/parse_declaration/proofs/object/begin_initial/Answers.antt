use Rattle.std.proofs.Common.{◌∙◌, ap, rules, subst}
use Rattle.parse_begun.specs.declared.begun.Receiver.{Receiver}
use Rattle.parse_begun.specs.View.{Gives, head_of, shape_part_of}
use Rattle.parse_words.specs.Lexemes.{lexeme_of}
use Rattle.parse_grammar.specs.Begun.{Base, Initialises}
use Rattle.parse_grammar.specs.Machine.{begin}
use Rattle.parse_declaration.proofs.Begins.{value_begins}
use Rattle.parse_declaration.proofs.object.begin_initial.Goals as goal

pub returns-in_ok-object-in_default : goal.returns-in_ok-object-in_default
returns-in_ok-object-in_default c f =
    let word = c.args.word in
    let begun = ap (λ (o : Receiver). begin (lexeme_of f word.lexeme) word.at (Base (Initialises (head_of f o.head) (f o.name.name.0) (shape_part_of f o.shape) o.name.at))) c.in_ok-object-in_default.ensures.ok in
    subst (λ moved. Gives f c.begin_operand.result moved) (begun ∙ value_begins _ _ _ _ _ _ (search rules)) (c.begin_operand.ensures f)
