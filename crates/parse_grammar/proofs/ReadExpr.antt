-- The machine reads back each well-formed expression with its places.
use Rattle.std.proofs.Common.{◌≡◌, ℕ, ◌<◌, ◌≤◌, List, [], ◌∷◌, ◌++◌, map, true, refl, sym, ◌∙◌, ap, subst, append_assoc, append-nil, arith}
use Rattle.c_tree.specs.declared.token.TokenKind.TheVariants as kinds
use Rattle.c_tree.specs.declared.expression.Specifier.{Specifier}
use Rattle.c_tree.specs.declared.expression.PostfixOperator.{PostfixOperator}
use Rattle.c_tree.specs.declared.expression.PostfixOperator.TheVariants as postfix
use Rattle.c_tree.specs.declared.expression.PrefixOperator.{PrefixOperator}
use Rattle.c_tree.specs.declared.expression.PrefixOperator.TheVariants as prefix
use Rattle.c_tree.specs.declared.expression.BinaryOperator.{BinaryOperator}
use Rattle.c_tree.specs.declared.expression.BinaryOperator.TheVariants as binary
use Rattle.c_tree.specs.declared.expression.AssignOperator.{AssignOperator}
use Rattle.c_tree.specs.declared.expression.AssignOperator.TheVariants as assign
use Rattle.c_tree.specs.Said as lexemes
use Rattle.c_tree.specs.Said.{Lexeme, Plain}
use Rattle.c_tree.specs.Formed.{level, level_of, place, IsFormed, AreFormed, IsSome}
use Rattle.c_tree.specs.Spelling.{Spoken, Mark, Kept, Fits, Agree, kept, free, free_specifier, specifier_kind, postfix_kind, prefix_kind, binary_kind, assign_kind, spell, spell_all}
use Rattle.c_tree.specs.Tree.{Expr, Number, Character, Name, Paren, Index, Call, Postfix, Prefix, Cast, Binary, Conditional, Assign, Exprs, NoExpr, AndExpr}
use Rattle.parse_grammar.specs.Begun.{Bytes, Stack, InParen, InIndex, InCall, AfterPrefix, AfterCast, AfterJoin, AfterQuestion, AfterColon, AfterAssign, demand, State, Wants, Has, Opened, Typed, Called}
use Rattle.parse_grammar.specs.Machine.{Goes, Joins, Assigns, Steps, Asks, Separates, OpensParen, ClosesParen, OpensBracket, ClosesBracket, role, reach, begin, opened, typed, called, go_on, step, after_all, specifier_of}
use Rattle.parse_grammar.proofs.Levels.{tail, tail_within, tail_below, tail_of_primary, level_within}
use Rattle.parse_grammar.proofs.Leads.{said_of, Leads, go_then, go_stay, go_step, go_end, goes_on, only_if_so, kept_step, free_step, has_step, split, starts, by_start, go_start, specifier_read}

role_binary : (operator : BinaryOperator) → role (Plain (binary_kind operator)) ≡ Joins operator
role_binary binary.Comma = refl
role_binary _ = refl

role_assign : (operator : AssignOperator) → role (Plain (assign_kind operator)) ≡ Assigns operator
role_assign assign.Assign = refl
role_assign _ = refl

role_postfix : (operator : PostfixOperator) → role (Plain (postfix_kind operator)) ≡ Steps operator
role_postfix postfix.Increment = refl
role_postfix _ = refl

begin_prefix : (operator : PrefixOperator) (at : ℕ) (under : Stack) → begin (Plain (prefix_kind operator)) at under ≡ Goes (Wants (AfterPrefix operator at under))
begin_prefix prefix.Increment at under = refl
begin_prefix _ at under = refl

opened_starts : (at : ℕ) (under : Stack) (said : Lexeme) (here : ℕ) → starts said ≡ true → opened (specifier_of said) said here at under ≡ begin said here (InParen at under)
opened_starts at under said here h =
    by_start (λ said. opened (specifier_of said) said here at under ≡ begin said here (InParen at under)) (λ name. refl) (λ constant. refl) (λ value. refl) refl refl refl refl refl refl refl said h

called_starts : (function : Bytes) (at : ℕ) (under : Stack) (said : Lexeme) (here : ℕ) → starts said ≡ true → called said here function at under ≡ begin said here (InCall function at NoExpr under)
called_starts function at under said here h =
    by_start (λ said. called said here function at under ≡ begin said here (InCall function at NoExpr under)) (λ name. refl) (λ constant. refl) (λ value. refl) refl refl refl refl refl refl refl said h

-- the state behind arguments
abbrev pub behind : Exprs Bytes → Bytes → ℕ → Stack → State
behind NoExpr function at under = Called function at under
behind (AndExpr front last) function at under = Has last (InCall function at front under)

call_ends : (arguments : Exprs Bytes) (function : Bytes) (at : ℕ) (under : Stack) (token : Spoken) → Fits (free kinds.RightParen) token → step (behind arguments function at under) token ≡ Goes (Has (Call function arguments at) under)
call_ends NoExpr function at under token f = free_step (Plain kinds.RightParen) (Called function at under) _ (λ here. refl) token f
call_ends (AndExpr front last) function at under token f = has_step (Plain kinds.RightParen) ClosesParen last (InCall function at front under) _ refl (λ said. refl) token f

next_argument : (front : Exprs Bytes) (last : Expr Bytes) (function : Bytes) (at : ℕ) (under : Stack) (m : Mark) (ms : List Mark) (ts : List Spoken)
    → ((m : Mark) (ms : List Mark) (ts : List Spoken) → 15 ≤ reach (role (said_of m)) → Agree (spell_all front ++ m ∷ ms) ts → Leads ts (Called function at under) (behind front function at under) (m ∷ ms))
    → ((rest : List Spoken) → Agree (spell last ++ m ∷ ms) rest → Leads rest (Wants (InCall function at front under)) (Has last (InCall function at front under)) (m ∷ ms))
    → Agree (spell_all (AndExpr front last) ++ m ∷ ms) ts → Leads ts (Called function at under) (Has last (InCall function at front under)) (m ∷ ms)
next_argument NoExpr last function at under m ms ts before here g =
    go_then ts _ (Wants (InCall function at NoExpr under)) _ (spell last ++ m ∷ ms) (m ∷ ms)
    (go_start last (m ∷ ms) (Called function at under) (Wants (InCall function at NoExpr under)) (λ token e. called_starts function at under token.said token.at e) ts g) here
next_argument (AndExpr front middle) last function at under m ms ts before here g =
    go_then ts _ (Has middle (InCall function at front under)) _ (free kinds.Comma ∷ (spell last ++ m ∷ ms)) (m ∷ ms)
    (before (free kinds.Comma) (spell last ++ m ∷ ms) ts (omega arith) (split (spell_all (AndExpr front middle)) (free kinds.Comma ∷ spell last) (m ∷ ms) ts g))
    (λ rest g. go_then rest _ (Wants (InCall function at (AndExpr front middle) under)) _ (spell last ++ m ∷ ms) (m ∷ ms)
    (go_step (free kinds.Comma) _ _ _ (has_step (Plain kinds.Comma) (Joins binary.Comma) middle (InCall function at front under) _ refl (λ said. refl)) rest g) here)

-- the words of a cast
types : (at : ℕ) (under : Stack) (others front : List Specifier) (ms : List Mark) (ts : List Spoken) → Agree (map free_specifier others ++ ms) ts → Leads ts (Typed front at under) (Typed (front ++ others) at under) ms
types at under [] front ms ts g = record { rest = ts; agrees = g; same = ap (λ ws. after_all (Goes (Typed ws at under)) ts) (sym (append-nil front)) }
types at under (word ∷ others) front ms ts g =
    go_then ts _ (Typed (front ++ word ∷ []) at under) _ (map free_specifier others ++ ms) ms
    (go_step (free_specifier word) _ _ _ (free_step (Plain (specifier_kind word)) (Typed front at under) _ (λ here. ap (λ o. typed o (Plain (specifier_kind word)) front at under) (specifier_read word))) ts g)
    (λ rest g. subst (λ ws. Leads rest (Typed (front ++ word ∷ []) at under) (Typed ws at under) ms) (append_assoc front (word ∷ []) others) (types at under others (front ++ word ∷ []) ms rest g))

cast_types : (specifiers : List Specifier) (at : ℕ) (under : Stack) (ms : List Mark) (ts : List Spoken) → IsSome specifiers → Agree (map free_specifier specifiers ++ ms) ts → Leads ts (Opened at under) (Typed specifiers at under) ms
cast_types [] at under ms ts f g = absurd f
cast_types (first ∷ others) at under ms ts f g =
    go_then ts _ (Typed (first ∷ []) at under) _ (map free_specifier others ++ ms) ms
    (go_step (free_specifier first) _ _ _ (λ token e. free_step (Plain (specifier_kind first)) (Opened at under) _ (λ here. ap (λ o. opened o (Plain (specifier_kind first)) here at under) (specifier_read first)) token e) ts g)
    (λ rest g. types at under others (first ∷ []) ms rest g)

mutual
  pub read_back : (t : Expr Bytes) (under : Stack) (m : Mark) (ms : List Mark) (ts : List Spoken) → IsFormed t → level t ≤ demand under → tail t < reach (role (said_of m)) → Agree (spell t ++ m ∷ ms) ts → Leads ts (Wants under) (Has t under) (m ∷ ms)
  read_back (Number constant at) under m ms ts f h k g = go_step (Kept (lexemes.Integer constant) at) (m ∷ ms) _ _ (kept_step (lexemes.Integer constant) at (Wants under) _ refl) ts g
  read_back (Character value at) under m ms ts f h k g = go_step (Kept (lexemes.Character value) at) (m ∷ ms) _ _ (kept_step (lexemes.Character value) at (Wants under) _ refl) ts g
  read_back (Name name at) under m ms ts f h k g = go_step (Kept (lexemes.Name name) at) (m ∷ ms) _ _ (kept_step (lexemes.Name name) at (Wants under) _ refl) ts g
  read_back (Paren inner at) under m ms ts f h k g =
      go_then ts _ (Opened at under) _ ((spell inner ++ free kinds.RightParen ∷ []) ++ m ∷ ms) (m ∷ ms)
      (go_step (kept kinds.LeftParen at) _ _ _ (kept_step (Plain kinds.LeftParen) at (Wants under) _ refl) ts g)
      (λ rest g. go_then rest _ (Wants (InParen at under)) _ (spell inner ++ free kinds.RightParen ∷ m ∷ ms) (m ∷ ms)
      (go_start inner (free kinds.RightParen ∷ m ∷ ms) (Opened at under) (Wants (InParen at under)) (λ token e. opened_starts at under token.said token.at e) rest (split (spell inner) (free kinds.RightParen ∷ []) (m ∷ ms) rest g))
      (λ rest g. go_then rest _ (Has inner (InParen at under)) _ (free kinds.RightParen ∷ m ∷ ms) (m ∷ ms)
      (read_back inner (InParen at under) (free kinds.RightParen) (m ∷ ms) rest f (level_within inner) (omega (arith, tail_within inner, level_within inner)) g)
      (go_step (free kinds.RightParen) (m ∷ ms) _ _ (has_step (Plain kinds.RightParen) ClosesParen inner (InParen at under) _ refl (λ said. refl)))))
  read_back (Index array index at) under m ms ts f h k g =
      go_then ts _ (Has (Name array at) under) _ (free kinds.LeftBracket ∷ ((spell index ++ free kinds.RightBracket ∷ []) ++ m ∷ ms)) (m ∷ ms)
      (go_step (Kept (lexemes.Name array) at) _ _ _ (kept_step (lexemes.Name array) at (Wants under) _ refl) ts g)
      (λ rest g. go_then rest _ (Wants (InIndex array at under)) _ ((spell index ++ free kinds.RightBracket ∷ []) ++ m ∷ ms) (m ∷ ms)
      (go_step (free kinds.LeftBracket) _ _ _ (has_step (Plain kinds.LeftBracket) OpensBracket (Name array at) under _ refl (λ said. goes_on OpensBracket said (Name array at) under (omega arith))) rest g)
      (λ rest g. go_then rest _ (Has index (InIndex array at under)) _ (free kinds.RightBracket ∷ m ∷ ms) (m ∷ ms)
      (read_back index (InIndex array at under) (free kinds.RightBracket) (m ∷ ms) rest f (level_within index) (omega (arith, tail_within index, level_within index)) (split (spell index) (free kinds.RightBracket ∷ []) (m ∷ ms) rest g))
      (go_step (free kinds.RightBracket) (m ∷ ms) _ _ (has_step (Plain kinds.RightBracket) ClosesBracket index (InIndex array at under) _ refl (λ said. refl)))))
  read_back (Call function arguments at) under m ms ts f h k g =
      go_then ts _ (Has (Name function at) under) _ (free kinds.LeftParen ∷ ((spell_all arguments ++ free kinds.RightParen ∷ []) ++ m ∷ ms)) (m ∷ ms)
      (go_step (Kept (lexemes.Name function) at) _ _ _ (kept_step (lexemes.Name function) at (Wants under) _ refl) ts g)
      (λ rest g. go_then rest _ (Called function at under) _ ((spell_all arguments ++ free kinds.RightParen ∷ []) ++ m ∷ ms) (m ∷ ms)
      (go_step (free kinds.LeftParen) _ _ _ (has_step (Plain kinds.LeftParen) OpensParen (Name function at) under _ refl (λ said. goes_on OpensParen said (Name function at) under (omega arith))) rest g)
      (λ rest g. go_then rest _ (behind arguments function at under) _ (free kinds.RightParen ∷ m ∷ ms) (m ∷ ms)
      (read_all arguments function at under (free kinds.RightParen) (m ∷ ms) rest f (omega arith) (split (spell_all arguments) (free kinds.RightParen ∷ []) (m ∷ ms) rest g))
      (go_step (free kinds.RightParen) (m ∷ ms) _ _ (call_ends arguments function at under))))
  read_back (Postfix operator operand at) under m ms ts f h k g =
      subst (λ n. Leads ts (Wants under) (Has (Postfix operator operand n) under) (m ∷ ms)) (sym f.1)
      (go_then ts _ (Has operand under) _ (free (postfix_kind operator) ∷ m ∷ ms) (m ∷ ms)
      (read_back operand under (free (postfix_kind operator)) (m ∷ ms) ts f.2 (omega (arith, f.0)) (rw (role_postfix operator) (tail_of_primary operand f.0)) (split (spell operand) (free (postfix_kind operator) ∷ []) (m ∷ ms) ts g))
      (go_step (free (postfix_kind operator)) (m ∷ ms) _ _ (has_step (Plain (postfix_kind operator)) (Steps operator) operand under _ (role_postfix operator) (λ said. goes_on (Steps operator) said operand under h ∙ only_if_so (level operand) 1 _ f.0))))
  read_back (Prefix operator operand at) under m ms ts f h k g =
      go_then ts _ (Wants (AfterPrefix operator at under)) _ (spell operand ++ m ∷ ms) (m ∷ ms)
      (go_step (kept (prefix_kind operator) at) (spell operand ++ m ∷ ms) _ _ (kept_step (Plain (prefix_kind operator)) at (Wants under) _ (begin_prefix operator at under)) ts g)
      (λ rest g. go_then rest _ (Has operand (AfterPrefix operator at under)) _ (m ∷ ms) (m ∷ ms)
      (read_back operand (AfterPrefix operator at under) m ms rest f.1 f.0 (omega (arith, tail_within operand, f.0)) g)
      (go_end m ms operand (AfterPrefix operator at under) (Has (Prefix operator operand at) under) k (λ r token e. ap (λ r. go_on r token.said (Prefix operator operand at) under) (sym e))))
  read_back (Cast specifiers operand at) under m ms ts f h k g =
      go_then ts _ (Opened at under) _ ((map free_specifier specifiers ++ free kinds.RightParen ∷ spell operand) ++ m ∷ ms) (m ∷ ms)
      (go_step (kept kinds.LeftParen at) _ _ _ (kept_step (Plain kinds.LeftParen) at (Wants under) _ refl) ts g)
      (λ rest g. go_then rest _ (Typed specifiers at under) _ (free kinds.RightParen ∷ (spell operand ++ m ∷ ms)) (m ∷ ms)
      (cast_types specifiers at under (free kinds.RightParen ∷ (spell operand ++ m ∷ ms)) rest f.1 (split (map free_specifier specifiers) (free kinds.RightParen ∷ spell operand) (m ∷ ms) rest g))
      (λ rest g. go_then rest _ (Wants (AfterCast specifiers at under)) _ (spell operand ++ m ∷ ms) (m ∷ ms)
      (go_step (free kinds.RightParen) _ _ _ (free_step (Plain kinds.RightParen) (Typed specifiers at under) _ (λ here. refl)) rest g)
      (λ rest g. go_then rest _ (Has operand (AfterCast specifiers at under)) _ (m ∷ ms) (m ∷ ms)
      (read_back operand (AfterCast specifiers at under) m ms rest f.2 f.0 (omega (arith, tail_within operand, f.0)) g)
      (go_end m ms operand (AfterCast specifiers at under) (Has (Cast specifiers operand at) under) k (λ r token e. ap (λ r. go_on r token.said (Cast specifiers operand at) under) (sym e))))))
  read_back (Binary operator left right at) under m ms ts f h k g =
      subst (λ n. Leads ts (Wants under) (Has (Binary operator left right n) under) (m ∷ ms)) (sym f.2)
      (go_then ts _ (Has left under) _ (free (binary_kind operator) ∷ (spell right ++ m ∷ ms)) (m ∷ ms)
      (read_back left under (free (binary_kind operator)) (spell right ++ m ∷ ms) ts f.3 (omega (arith, f.0)) (rw (role_binary operator) (tail_below left operator f.0)) (split (spell left) (free (binary_kind operator) ∷ spell right) (m ∷ ms) ts g))
      (λ rest g. go_then rest _ (Wants (AfterJoin operator left under)) _ (spell right ++ m ∷ ms) (m ∷ ms)
      (go_step (free (binary_kind operator)) (spell right ++ m ∷ ms) _ _ (has_step (Plain (binary_kind operator)) (Joins operator) left under _ (role_binary operator) (λ said. goes_on (Joins operator) said left under h ∙ only_if_so (level left) (level_of operator) _ f.0)) rest g)
      (λ rest g. go_then rest _ (Has right (AfterJoin operator left under)) _ (m ∷ ms) (m ∷ ms)
      (read_back right (AfterJoin operator left under) m ms rest f.4 f.1 (omega (arith, tail_within right, f.1)) g)
      (go_end m ms right (AfterJoin operator left under) (Has (Binary operator left right (place left)) under) k (λ r token e. ap (λ r. go_on r token.said (Binary operator left right (place left)) under) (sym e))))))
  read_back (Conditional test first second at) under m ms ts f h k g =
      subst (λ n. Leads ts (Wants under) (Has (Conditional test first second n) under) (m ∷ ms)) (sym f.2)
      (go_then ts _ (Has test under) _ (free kinds.Question ∷ ((spell first ++ free kinds.Colon ∷ spell second) ++ m ∷ ms)) (m ∷ ms)
      (read_back test under (free kinds.Question) _ ts f.3 (omega (arith, f.0)) (omega (arith, tail_within test, f.0)) (split (spell test) (free kinds.Question ∷ (spell first ++ free kinds.Colon ∷ spell second)) (m ∷ ms) ts g))
      (λ rest g. go_then rest _ (Wants (AfterQuestion test under)) _ ((spell first ++ free kinds.Colon ∷ spell second) ++ m ∷ ms) (m ∷ ms)
      (go_step (free kinds.Question) _ _ _ (has_step (Plain kinds.Question) Asks test under _ refl (λ said. goes_on Asks said test under h ∙ only_if_so (level test) 12 _ f.0)) rest g)
      (λ rest g. go_then rest _ (Has first (AfterQuestion test under)) _ (free kinds.Colon ∷ (spell second ++ m ∷ ms)) (m ∷ ms)
      (read_back first (AfterQuestion test under) (free kinds.Colon) (spell second ++ m ∷ ms) rest f.4 (level_within first) (omega (arith, tail_within first, level_within first)) (split (spell first) (free kinds.Colon ∷ spell second) (m ∷ ms) rest g))
      (λ rest g. go_then rest _ (Wants (AfterColon test first under)) _ (spell second ++ m ∷ ms) (m ∷ ms)
      (go_step (free kinds.Colon) _ _ _ (has_step (Plain kinds.Colon) Separates first (AfterQuestion test under) _ refl (λ said. refl)) rest g)
      (λ rest g. go_then rest _ (Has second (AfterColon test first under)) _ (m ∷ ms) (m ∷ ms)
      (read_back second (AfterColon test first under) m ms rest f.5 f.1 (omega (arith, tail_within second, f.1)) g)
      (go_end m ms second (AfterColon test first under) (Has (Conditional test first second (place test)) under) k (λ r token e. ap (λ r. go_on r token.said (Conditional test first second (place test)) under) (sym e))))))))
  read_back (Assign operator target value at) under m ms ts f h k g =
      subst (λ n. Leads ts (Wants under) (Has (Assign operator target value n) under) (m ∷ ms)) (sym f.2)
      (go_then ts _ (Has target under) _ (free (assign_kind operator) ∷ (spell value ++ m ∷ ms)) (m ∷ ms)
      (read_back target under (free (assign_kind operator)) (spell value ++ m ∷ ms) ts f.3 (omega (arith, f.0)) (rw (role_assign operator) (omega (arith, tail_within target, f.0))) (split (spell target) (free (assign_kind operator) ∷ spell value) (m ∷ ms) ts g))
      (λ rest g. go_then rest _ (Wants (AfterAssign operator target under)) _ (spell value ++ m ∷ ms) (m ∷ ms)
      (go_step (free (assign_kind operator)) (spell value ++ m ∷ ms) _ _ (has_step (Plain (assign_kind operator)) (Assigns operator) target under _ (role_assign operator) (λ said. goes_on (Assigns operator) said target under h ∙ only_if_so (level target) 2 _ f.0)) rest g)
      (λ rest g. go_then rest _ (Has value (AfterAssign operator target under)) _ (m ∷ ms) (m ∷ ms)
      (read_back value (AfterAssign operator target under) m ms rest f.4 f.1 (omega (arith, tail_within value, f.1)) g)
      (go_end m ms value (AfterAssign operator target under) (Has (Assign operator target value (place target)) under) k (λ r token e. ap (λ r. go_on r token.said (Assign operator target value (place target)) under) (sym e))))))

  read_all : (arguments : Exprs Bytes) (function : Bytes) (at : ℕ) (under : Stack) (m : Mark) (ms : List Mark) (ts : List Spoken) → AreFormed arguments → 15 ≤ reach (role (said_of m)) → Agree (spell_all arguments ++ m ∷ ms) ts → Leads ts (Called function at under) (behind arguments function at under) (m ∷ ms)
  read_all NoExpr function at under m ms ts f k g = go_stay ts (Called function at under) (m ∷ ms) g
  read_all (AndExpr front last) function at under m ms ts f k g =
      next_argument front last function at under m ms ts
      (λ m ms ts k g. read_all front function at under m ms ts f.0 k g)
      (λ rest g. read_back last (InCall function at front under) m ms rest f.2 f.1 (omega (arith, tail_within last, f.1)) g) g
