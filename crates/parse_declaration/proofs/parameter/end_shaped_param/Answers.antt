use Rattle.std.proofs.Common.{◌≡◌, refl, subst}
use Rattle.std.specs.Prelude.{Option, Some, None}
use Rattle.c_tree.specs.declared.expression.NameId.{NameId}
use Rattle.c_tree.specs.Named.{map_option, named_param}
use Rattle.c_tree.specs.Tree.{Param, Parameter}
use Rattle.c_tree.specs.View.{id_of}
use Rattle.parse_begun.specs.View.{Gives, Names, id_named, params_of, proto_of, shape_part_of}
use Rattle.parse_grammar.specs.Begun.{Bytes}
use Rattle.parse_grammar.specs.Machine.{param_ends}
use Rattle.parse_words.specs.Lexemes.{lexeme_of}
use Rattle.parse_declaration.proofs.parameter.end_shaped_param.Goals as goal

name_same : (f : Names) (name : Option NameId) → map_option f (map_option id_of name) ≡ map_option (id_named f) name
name_same f None = refl
name_same f (Some id) = refl

pub returns : goal.returns
returns c f =
    let param = c.args.param in
    let ends = λ (p : Param Bytes). Gives f c.end_param.result (param_ends (lexeme_of f c.args.lexeme) (proto_of f param.proto) (params_of f param.front) p) in
    let made : ends (Parameter param.specifiers.items (map_option f (map_option id_of param.name)) (shape_part_of f c.args.shape) param.at) = subst (λ p. ends (named_param f p)) c.parameter-whole.ensures.tree (c.end_param.ensures f) in
    subst (λ name. ends (Parameter param.specifiers.items name (shape_part_of f c.args.shape) param.at)) (name_same f param.name) made
