use Rattle.std.proofs.Common.{rules, ◌≡◌, ap, sym, ◌∙◌}
use denote.Enum.Bare.{same_true, true_same}
use Rattle.c_tree.specs.contracts.token.TokenKind.{the_type}
use Rattle.c_tree.specs.declared.token.TokenKind.{TokenKind}
use Rattle.c_tree.specs.Said.{Plain}
use Rattle.parse_words.specs.Lexemes.{lexeme_of}
use Rattle.parse_statement.proofs.said.says.Goals as goal

plain_one : (a b : TokenKind) → Plain a ≡ Plain b → a ≡ b
plain_one a b e = cc

pub returns-in-Plain : goal.returns-in-Plain
returns-in-Plain c f =
    let is = ap (lexeme_of f) c.in-Plain.is in
    (λ same. is ∙ ap Plain (same_true the_type (search rules) _ _ (sym c.eq.ensures ∙ same)), λ said. c.eq.ensures ∙ true_same the_type _ _ (plain_one _ _ (sym is ∙ said)))
