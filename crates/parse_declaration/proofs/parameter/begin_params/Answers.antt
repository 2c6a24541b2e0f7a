use Rattle.std.proofs.Common.{rules, subst}
use Rattle.parse_begun.specs.View.{Gives, proto_of}
use Rattle.parse_words.specs.Lexemes.{lexeme_of}
use Rattle.c_tree.specs.Named.{map_row, named_param}
use Rattle.parse_grammar.specs.Machine.{param_begins, specifier_of}
use Rattle.parse_declaration.proofs.Begins.{param_opens}
use Rattle.parse_declaration.proofs.parameter.begin_params.Goals as goal

pub returns-in_default : goal.returns-in_default
returns-in_default c f =
    let word = c.args.word in
    let begun = subst (λ row. Gives f c.begin_param.result (param_begins (specifier_of (lexeme_of f word.lexeme)) word.at (proto_of f c.args.proto) (map_row (named_param f) row))) c.no_params-in_default.ensures (c.begin_param.ensures f) in
    subst (λ moved. Gives f c.begin_param.result moved) (param_opens _ _ _ (search rules)) begun
