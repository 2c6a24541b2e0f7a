use Rattle.std.proofs.Common.{◌≡◌, ap, subst, sym}
use Rattle.c_tree.specs.declared.token.TokenKind.TheVariants as kinds
use Rattle.c_tree.specs.Said.{Lexeme, Plain}
use Rattle.c_tree.specs.Named.{named_statement}
use Rattle.c_tree.specs.Tree.{If, Statement}
use Rattle.parse_grammar.specs.Begun.{Bytes, Frames, InThen}
use Rattle.parse_grammar.specs.Machine.{settle}
use Rattle.parse_words.specs.Lexemes.{lexeme_of}
use Rattle.parse_begun.specs.View.{Gives, frames_of, part_of, statement_part_of}
use Rattle.parse_statement.proofs.Others.{not_said, then_gives}
use Rattle.parse_statement.proofs.settle.+settling.Goals as goal

pub settle_nested-returns-in-Ok : goal.settle_nested-returns-in-Ok
settle_nested-returns-in-Ok t c f =
    let arm = c.in-InThen in
    let word = c.args.word in
    let said = lexeme_of f word.lexeme in
    let statement = statement_part_of f c.args.statement in
    let test = part_of f arm.test in
    let rest = frames_of f arm.rest.value in
    let Leads = λ (u : Frames) (s : Statement Bytes). Gives f c.settle_statement.result (settle u said word.at s) in
    let inner : Leads rest (statement_part_of f c.in-Ok.whole) = subst (λ u. Leads (frames_of f u) (statement_part_of f c.in-Ok.whole)) c.into_inner.ensures (c.settle_statement.ensures f) in
    let ended : Leads rest (If test statement arm.at) = subst (Leads rest) (ap (named_statement f) c.in-Ok.ensures.ok.0) inner in
    subst (λ u. Leads (frames_of f u) statement) (sym arm.is) (then_gives f c.settle_statement.result said word.at test arm.at rest statement (not_said _ _ (c.says.ensures f) c.if-says.false) ended)

pub settle_nested-returns-then-says : goal.settle_nested-returns-then-says
settle_nested-returns-then-says t c f =
    let arm = c.in-InThen in
    let word = c.args.word in
    let statement = statement_part_of f c.args.statement in
    let is : lexeme_of f word.lexeme ≡ Plain kinds.Else = (c.says.ensures f).0 c.if-says.true in
    let Leads = λ (u : Frames) (said : Lexeme). Gives f c.branch_behind.result (settle u said word.at statement) in
    let branch : Leads (InThen (part_of f arm.test) arm.at (frames_of f arm.rest.value)) (lexeme_of f word.lexeme) = subst (Leads (InThen (part_of f arm.test) arm.at (frames_of f arm.rest.value))) (sym is) (c.branch_behind.ensures f) in
    subst (λ u. Leads (frames_of f u) (lexeme_of f word.lexeme)) (sym arm.is) branch
