-- What a token does that has no step of its own.
use Rattle.std.proofs.Common.{◌≡◌, ◌↔◌, ℕ, Bool, false, IsTrue, Option, None, Result, refl, subst, sym, ◌∙◌, true≢false}
use Rattle.c_tree.specs.declared.token.TokenKind.{TokenKind}
use Rattle.c_tree.specs.declared.token.TokenKind.TheVariants as kinds
use Rattle.c_tree.specs.Said as lexemes
use Rattle.c_tree.specs.Said.{Lexeme, Plain}
use Rattle.c_tree.specs.Tree.{Expr, ForStart, If, Items, Statement}
use Rattle.c_tree.specs.declared.pragma.Pragma.{Pragma}
use Rattle.parse_grammar.specs.Begun.{Bytes, Frames, InItems, InThen, Braces, Base, Evaluates, Returns, Starts, Guards, Repeats}
use Rattle.parse_grammar.specs.Machine.{begin, begin_statement, item, settle, answers, loop_starts, loop_tests, loop_steps}
use Rattle.parse_begun.specs.declared.begun.State.{State}
use Rattle.parse_begun.specs.declared.refusal.Refusal.{Refusal}
use Rattle.parse_begun.specs.View.{Gives, Names}

pub statement_other : (kind : TokenKind) (at : ℕ) (under : Frames) → (kind ≡ kinds.Semicolon → ⊥) → (kind ≡ kinds.LeftBrace → ⊥) → (kind ≡ kinds.If → ⊥) → (kind ≡ kinds.While → ⊥) → (kind ≡ kinds.Do → ⊥) → (kind ≡ kinds.For → ⊥) → (kind ≡ kinds.Switch → ⊥) → (kind ≡ kinds.Break → ⊥) → (kind ≡ kinds.Continue → ⊥) → (kind ≡ kinds.Return → ⊥) → begin_statement (Plain kind) at under ≡ begin (Plain kind) at (Base (Evaluates under))
statement_other kinds.Semicolon at under a b c d e g h i j k = absurd (a refl)
statement_other kinds.LeftBrace at under a b c d e g h i j k = absurd (b refl)
statement_other kinds.If at under a b c d e g h i j k = absurd (c refl)
statement_other kinds.While at under a b c d e g h i j k = absurd (d refl)
statement_other kinds.Do at under a b c d e g h i j k = absurd (e refl)
statement_other kinds.For at under a b c d e g h i j k = absurd (g refl)
statement_other kinds.Switch at under a b c d e g h i j k = absurd (h refl)
statement_other kinds.Break at under a b c d e g h i j k = absurd (i refl)
statement_other kinds.Continue at under a b c d e g h i j k = absurd (j refl)
statement_other kinds.Return at under a b c d e g h i j k = absurd (k refl)
statement_other _ at under a b c d e g h i j k = refl

pub item_other : (kind : TokenKind) (at : ℕ) (front : Items Bytes) (braces : Braces) → (kind ≡ kinds.RightBrace → ⊥) → (kind ≡ kinds.Case → ⊥) → (kind ≡ kinds.Default → ⊥) → item (Plain kind) at front braces ≡ begin_statement (Plain kind) at (InItems front braces)
item_other kinds.RightBrace at front braces a b c = absurd (a refl)
item_other kinds.Case at front braces a b c = absurd (b refl)
item_other kinds.Default at front braces a b c = absurd (c refl)
item_other _ at front braces a b c = refl

pub noted_item_other : (kind : TokenKind) (bytes : Bytes) (at : ℕ) (front : Items Bytes) (braces : Braces) → (kind ≡ kinds.FlowRestriction → ⊥) → item (lexemes.Pragma kind bytes) at front braces ≡ begin_statement (lexemes.Pragma kind bytes) at (InItems front braces)
noted_item_other kinds.FlowRestriction bytes at front braces a = absurd (a refl)
noted_item_other _ bytes at front braces a = refl

pub not_said : (b : Bool) (A : Type 0) → IsTrue b ↔ A → b ≡ false → A → ⊥
not_said b A h is a = true≢false (sym (h.1 a) ∙ is)

pub answers_other : (said : Lexeme) (here at : ℕ) (under : Frames) → (said ≡ Plain kinds.Semicolon → ⊥) → answers said here at under ≡ begin said here (Base (Returns at under))
answers_other (Plain kinds.Semicolon) here at under h = absurd (h refl)
answers_other _ here at under h = refl

pub starts_other : (said : Lexeme) (here : ℕ) (bound : Option Pragma) (at : ℕ) (under : Frames) → (said ≡ Plain kinds.Semicolon → ⊥) → loop_starts None said here bound at under ≡ begin said here (Base (Starts bound at under))
starts_other (Plain kinds.Semicolon) here bound at under h = absurd (h refl)
starts_other _ here bound at under h = refl

pub tests_other : (said : Lexeme) (here : ℕ) (bound : Option Pragma) (start : ForStart Bytes) (at : ℕ) (under : Frames) → (said ≡ Plain kinds.Semicolon → ⊥) → loop_tests said here bound start at under ≡ begin said here (Base (Guards bound start at under))
tests_other (Plain kinds.Semicolon) here bound start at under h = absurd (h refl)
tests_other _ here bound start at under h = refl

pub steps_other : (said : Lexeme) (here : ℕ) (bound : Option Pragma) (start : ForStart Bytes) (test : Option (Expr Bytes)) (at : ℕ) (under : Frames) → (said ≡ Plain kinds.RightParen → ⊥) → loop_steps said here bound start test at under ≡ begin said here (Base (Repeats bound start test at under))
steps_other (Plain kinds.RightParen) here bound start test at under h = absurd (h refl)
steps_other _ here bound start test at under h = refl

pub then_other : (said : Lexeme) (here : ℕ) (test : Expr Bytes) (at : ℕ) (under : Frames) (statement : Statement Bytes) → (said ≡ Plain kinds.Else → ⊥) → settle (InThen test at under) said here statement ≡ settle under said here (If test statement at)
then_other (Plain kinds.Else) here test at under statement h = absurd (h refl)
then_other _ here test at under statement h = refl

pub then_gives : (f : Names) (r : Result State Refusal) (said : Lexeme) (here : ℕ) (test : Expr Bytes) (at : ℕ) (under : Frames) (statement : Statement Bytes) → (said ≡ Plain kinds.Else → ⊥) → Gives f r (settle under said here (If test statement at)) → Gives f r (settle (InThen test at under) said here statement)
then_gives f r said here test at under statement h g = subst (λ moved. Gives f r moved) (sym (then_other said here test at under statement h)) g
