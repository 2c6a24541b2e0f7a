-- A token that is neither keyword nor punctuator ends no operand.
use Rattle.std.proofs.Common.{◌≡◌, ℕ, ◌-◌, false, refl, ap, ◌∙◌}
use Rattle.std.specs.Prelude.{nat_le, if◌then◌else◌}
use Rattle.c_tree.specs.declared.expression.BinaryOperator.{BinaryOperator}
use Rattle.c_tree.specs.declared.expression.BinaryOperator.TheVariants as binary
use Rattle.c_tree.specs.declared.token.Constant.{Constant}
use Rattle.c_tree.specs.declared.token.TokenKind.{TokenKind}
use Rattle.c_tree.specs.Formed.{level_of, place}
use Rattle.c_tree.specs.Said as lexemes
use Rattle.c_tree.specs.Said.{Lexeme, Plain}
use Rattle.c_tree.specs.Tree.{Expr, Prefix, Cast, Binary, Conditional, Assign}
use Rattle.parse_grammar.specs.Begun.{Bytes, Purpose, Evaluates, Returns, Tests, Starts, Guards, Repeats, Sizes, Initialises, Lists, Labels, Stack, Base, InParen, InIndex, InCall, AfterPrefix, AfterCast, AfterJoin, AfterQuestion, AfterColon, AfterAssign, Head, Heading, demand, limit}
use Rattle.parse_grammar.specs.Machine.{Stuck, Other, role, enter, leave, go_on, object_ends, took}
use Rattle.c_tree.specs.Tree.{Object}
use Rattle.parse_ending.specs.Words.{IsWord}

by_word : (P : Lexeme → Type 0) → ((name : Bytes) → P (lexemes.Name name)) → ((constant : Constant) → P (lexemes.Integer constant)) → ((value : ℕ) → P (lexemes.Character value)) → ((kind : TokenKind) (bytes : Bytes) → P (lexemes.Pragma kind bytes)) → (said : Lexeme) → IsWord said → P said
by_word P n i c p (Plain kind) h = absurd h
by_word P n i c p (lexemes.Name name) h = n name
by_word P n i c p (lexemes.Integer constant) h = i constant
by_word P n i c p (lexemes.Character value) h = c value
by_word P n i c p (lexemes.Pragma kind bytes) h = p kind bytes

not_level : (o : BinaryOperator) → nat_le 16 (level_of o - 1) ≡ false
not_level binary.Multiply = refl
not_level binary.Divide = refl
not_level binary.Remainder = refl
not_level binary.Add = refl
not_level binary.Subtract = refl
not_level binary.ShiftLeft = refl
not_level binary.ShiftRight = refl
not_level binary.Less = refl
not_level binary.Greater = refl
not_level binary.LessEqual = refl
not_level binary.GreaterEqual = refl
not_level binary.Equal = refl
not_level binary.NotEqual = refl
not_level binary.BitAnd = refl
not_level binary.BitXor = refl
not_level binary.BitOr = refl
not_level binary.And = refl
not_level binary.Or = refl
not_level binary.Comma = refl

not_limit : (p : Purpose) → nat_le 16 (limit p) ≡ false
not_limit (Evaluates under) = refl
not_limit (Returns at under) = refl
not_limit (Tests test) = refl
not_limit (Starts bound at under) = refl
not_limit (Guards bound start at under) = refl
not_limit (Repeats bound start test at under) = refl
not_limit (Sizes declarator) = refl
not_limit (Initialises head name shape at) = refl
not_limit (Lists head name shape front at) = refl
not_limit (Labels front braces at) = refl

not_demand : (u : Stack) → nat_le 16 (demand u) ≡ false
not_demand (Base purpose) = not_limit purpose
not_demand (InParen at under) = refl
not_demand (InIndex array at under) = refl
not_demand (InCall function at front under) = refl
not_demand (AfterPrefix operator at under) = refl
not_demand (AfterCast all at under) = refl
not_demand (AfterJoin operator left under) = not_level operator
not_demand (AfterQuestion test under) = refl
not_demand (AfterColon test first under) = refl
not_demand (AfterAssign operator target under) = refl

object_word : (head : Head) (object : Object Bytes) (said : Lexeme) → IsWord said → object_ends said head object ≡ Stuck
object_word (Heading all objects at scope) object said h = by_word (λ said. object_ends said (Heading all objects at scope) object ≡ Stuck) (λ n. refl) (λ c. refl) (λ v. refl) (λ k b. refl) said h

took_word : (p : Purpose) (tree : Expr Bytes) (said : Lexeme) → IsWord said → took p said tree ≡ Stuck
took_word (Evaluates under) tree said h = by_word (λ said. took (Evaluates under) said tree ≡ Stuck) (λ n. refl) (λ c. refl) (λ v. refl) (λ k b. refl) said h
took_word (Returns at under) tree said h = by_word (λ said. took (Returns at under) said tree ≡ Stuck) (λ n. refl) (λ c. refl) (λ v. refl) (λ k b. refl) said h
took_word (Tests test) tree said h = by_word (λ said. took (Tests test) said tree ≡ Stuck) (λ n. refl) (λ c. refl) (λ v. refl) (λ k b. refl) said h
took_word (Starts bound at under) tree said h = by_word (λ said. took (Starts bound at under) said tree ≡ Stuck) (λ n. refl) (λ c. refl) (λ v. refl) (λ k b. refl) said h
took_word (Guards bound start at under) tree said h = by_word (λ said. took (Guards bound start at under) said tree ≡ Stuck) (λ n. refl) (λ c. refl) (λ v. refl) (λ k b. refl) said h
took_word (Repeats bound start test at under) tree said h = by_word (λ said. took (Repeats bound start test at under) said tree ≡ Stuck) (λ n. refl) (λ c. refl) (λ v. refl) (λ k b. refl) said h
took_word (Sizes declarator) tree said h = by_word (λ said. took (Sizes declarator) said tree ≡ Stuck) (λ n. refl) (λ c. refl) (λ v. refl) (λ k b. refl) said h
took_word (Initialises head name shape at) tree said h = object_word head _ said h
took_word (Lists head name shape front at) tree said h = by_word (λ said. took (Lists head name shape front at) said tree ≡ Stuck) (λ n. refl) (λ c. refl) (λ v. refl) (λ k b. refl) said h
took_word (Labels front braces at) tree said h = by_word (λ said. took (Labels front braces at) said tree ≡ Stuck) (λ n. refl) (λ c. refl) (λ v. refl) (λ k b. refl) said h

-- where it doesn't go on below, it doesn't go on
below : (u : Stack) (said : Lexeme) (tree : Expr Bytes) → leave u (Other said) said tree ≡ Stuck → go_on (Other said) said tree u ≡ Stuck
below u said tree h = ap (λ b. if b then enter (Other said) tree u else leave u (Other said) said tree) (not_demand u) ∙ h

leave_word : (u : Stack) (said : Lexeme) (tree : Expr Bytes) → IsWord said → leave u (Other said) said tree ≡ Stuck
leave_word (Base purpose) said tree h = took_word purpose tree said h
leave_word (InParen at under) said tree h = refl
leave_word (InIndex array at under) said tree h = refl
leave_word (InCall function at front under) said tree h = refl
leave_word (AfterQuestion test under) said tree h = refl
leave_word (AfterPrefix operator at under) said tree h = below under said _ (leave_word under said (Prefix operator tree at) h)
leave_word (AfterCast all at under) said tree h = below under said _ (leave_word under said (Cast all tree at) h)
leave_word (AfterJoin operator left under) said tree h = below under said _ (leave_word under said (Binary operator left tree (place left)) h)
leave_word (AfterColon test first under) said tree h = below under said _ (leave_word under said (Conditional test first tree (place test)) h)
leave_word (AfterAssign operator target under) said tree h = below under said _ (leave_word under said (Assign operator target tree (place target)) h)

role_word : (said : Lexeme) → IsWord said → role said ≡ Other said
role_word said h = by_word (λ said. role said ≡ Other said) (λ n. refl) (λ c. refl) (λ v. refl) (λ k b. refl) said h

pub word_behind : (u : Stack) (tree : Expr Bytes) (said : Lexeme) → IsWord said → go_on (role said) said tree u ≡ Stuck
word_behind u tree said h = ap (λ r. go_on r said tree u) (role_word said h) ∙ below u said tree (leave_word u said tree h)
