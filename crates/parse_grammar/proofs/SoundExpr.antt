-- What the machine reads of an expression is well formed and spelled so.
use Rattle.std.proofs.Common.{◌≡◌, ℕ, ◌≤◌, List, [], ◌∷◌, ◌++◌, map, Bool, true, false, cond, refl, sym, ◌∙◌, ap, subst, append_assoc, arith}
use Rattle.std.specs.Prelude.{Option, Some, None, nat_le}
use Rattle.std.proofs.lemmas.Bool.{leb-true}
use Rattle.c_tree.specs.declared.token.TokenKind.TheVariants as kinds
use Rattle.c_tree.specs.declared.expression.Specifier.{Specifier}
use Rattle.c_tree.specs.declared.expression.BinaryOperator.TheVariants as binary
use Rattle.c_tree.specs.Said as lexemes
use Rattle.c_tree.specs.Said.{Lexeme, Plain}
use Rattle.c_tree.specs.Formed.{level, level_of, place, IsFormed}
use Rattle.c_tree.specs.Spelling.{Mark, Kept, Free, Agree, kept, free, free_specifier, specifier_kind, postfix_kind, binary_kind, assign_kind, spell, spell_all, spell_row}
use Rattle.c_tree.specs.Tree.{Row, Nothing, Then, Expr, Name, Prefix, Cast, Binary, Conditional, Assign, Exprs, NoExpr, AndExpr}
use Rattle.parse_grammar.specs.Begun.{Bytes, Purpose, limit, Stack, Base, InParen, InIndex, InCall, AfterPrefix, AfterCast, AfterJoin, AfterQuestion, AfterColon, AfterAssign, demand, Evaluates}
use Rattle.parse_grammar.specs.Machine.{Moved, Role, Joins, Assigns, Steps, Asks, Separates, OpensParen, ClosesParen, OpensBracket, ClosesBracket, Other, role, reach, begin, enter, leave, go_on, took, specifier_of}
use Rattle.parse_grammar.proofs.Levels.{least}
use Rattle.parse_grammar.proofs.Around.{before_row, before_all, purpose_around, stack_around, SoundPurpose, SoundStack, Implies, Keeps}

pub implies_same : (all whole : List Mark) → whole ≡ all → Implies all whole
implies_same all whole e = record { holds = λ ts g. subst (λ ms. Agree ms ts) (sym e) g }

pub keeps_cond : (b : Bool) (x y : Moved) (rest all : List Mark) → (b ≡ true → Keeps x rest all) → Keeps y rest all → Keeps (cond b x y) rest all
keeps_cond true x y rest all f g = f refl
keeps_cond false x y rest all f g = g

-- the token that has a role
abbrev pub lexeme_of : Role → Lexeme
lexeme_of (Joins operator) = Plain (binary_kind operator)
lexeme_of (Assigns operator) = Plain (assign_kind operator)
lexeme_of (Steps operator) = Plain (postfix_kind operator)
lexeme_of Asks = Plain kinds.Question
lexeme_of Separates = Plain kinds.Colon
lexeme_of OpensParen = Plain kinds.LeftParen
lexeme_of ClosesParen = Plain kinds.RightParen
lexeme_of OpensBracket = Plain kinds.LeftBracket
lexeme_of ClosesBracket = Plain kinds.RightBracket
lexeme_of (Other said) = said

lexeme_of-role : (said : Lexeme) → lexeme_of (role said) ≡ said
lexeme_of-role (Plain kinds.Star) = refl
lexeme_of-role _ = refl

limit_least : (purpose : Purpose) → 13 ≤ limit purpose
limit_least (Evaluates under) = omega arith
limit_least _ = omega arith

pub least_demand : (under : Stack) → 2 ≤ demand under
least_demand (AfterJoin operator left under) = omega (arith, least operator)
least_demand (Base purpose) = omega (arith, limit_least purpose)
least_demand _ = omega arith

pub one_demand : (under : Stack) → 1 ≤ demand under
one_demand under = omega (arith, least_demand under)

-- one more behind those before
pub row_more : {A : Type 0} (f : A → List Mark) (front : Row A) (x : A) (rest : List Mark) → spell_row f (Then front x) ++ rest ≡ before_row f front (f x ++ rest)
row_more f Nothing x rest = refl
row_more f (Then front middle) x rest = append_assoc (spell_row f (Then front middle)) (free kinds.Comma ∷ f x) rest

pub all_more : (front : Exprs Bytes) (x : Expr Bytes) (rest : List Mark) → spell_all (AndExpr front x) ++ rest ≡ before_all front (spell x ++ rest)
all_more NoExpr x rest = refl
all_more (AndExpr front middle) x rest = append_assoc (spell_all (AndExpr front middle)) (free kinds.Comma ∷ spell x) rest

keeps_enter : (r : Role) (tree : Expr Bytes) (under : Stack) (rest : List Mark) → IsFormed tree → level tree ≤ demand under → SoundStack under → reach r ≤ demand under → Keeps (enter r tree under) rest (stack_around under (spell tree ++ Free (lexeme_of r) ∷ rest))
keeps_enter (Joins operator) tree under rest f h s k = keeps_cond (nat_le (level tree) (level_of operator)) _ _ rest _ (λ e. ((leb-true _ _ e, k, f, s), implies_same _ _ refl)) tt
keeps_enter (Assigns operator) tree under rest f h s k = keeps_cond (nat_le (level tree) 2) _ _ rest _ (λ e. ((leb-true _ _ e, k, f, s), implies_same _ _ refl)) tt
keeps_enter (Steps operator) tree under rest f h s k = keeps_cond (nat_le (level tree) 1) _ _ rest _ (λ e. (((leb-true _ _ e, refl, f), k, s), implies_same _ _ (ap (stack_around under) (append_assoc (spell tree) (free (postfix_kind operator) ∷ []) rest)))) tt
keeps_enter Asks tree under rest f h s k = keeps_cond (nat_le (level tree) 12) _ _ rest _ (λ e. ((leb-true _ _ e, k, f, s), implies_same _ _ refl)) tt
keeps_enter OpensParen (Name name at) under rest f h s k = (s, implies_same _ _ refl)
keeps_enter OpensBracket (Name name at) under rest f h s k = (s, implies_same _ _ refl)
keeps_enter _ tree under rest f h s k = tt

keeps_go : (r : Role) (said : Lexeme) (tree : Expr Bytes) (under : Stack) (rest all : List Mark) → stack_around under (spell tree ++ Free (lexeme_of r) ∷ rest) ≡ all → IsFormed tree → level tree ≤ demand under → SoundStack under → Keeps (leave under r said tree) rest all → Keeps (go_on r said tree under) rest all
keeps_go r said tree under rest all e f h s g =
    keeps_cond (nat_le (reach r) (demand under)) _ _ rest all
    (λ k. subst (λ all. Keeps (enter r tree under) rest all) e (keeps_enter r tree under rest f h s (leb-true (reach r) (demand under) k)))
    g

-- what a whole expression keeps, where it ends
abbrev pub Takes : Type 0
Takes = (purpose : Purpose) (said : Lexeme) (tree : Expr Bytes) (rest : List Mark) → IsFormed tree → level tree ≤ limit purpose → SoundPurpose purpose → Keeps (took purpose said tree) rest (purpose_around purpose (spell tree ++ Free said ∷ rest))

keeps_leave : Takes → (under : Stack) (r : Role) (tree : Expr Bytes) (rest : List Mark) → IsFormed tree → level tree ≤ demand under → SoundStack under → Keeps (leave under r (lexeme_of r) tree) rest (stack_around under (spell tree ++ Free (lexeme_of r) ∷ rest))
keeps_leave t (AfterPrefix operator at under) r tree rest f h s =
    let two : 2 ≤ demand under = least_demand under in
    keeps_go r (lexeme_of r) (Prefix operator tree at) under rest _ refl (h, f) two s (keeps_leave t under r (Prefix operator tree at) rest (h, f) two s)
keeps_leave t (AfterCast all at under) r tree rest f h s =
    let two : 2 ≤ demand under = least_demand under in
    let e : stack_around under (spell (Cast all tree at) ++ Free (lexeme_of r) ∷ rest) ≡ stack_around (AfterCast all at under) (spell tree ++ Free (lexeme_of r) ∷ rest) = ap (λ ms. stack_around under (kept kinds.LeftParen at ∷ ms)) (append_assoc (map free_specifier all) (free kinds.RightParen ∷ spell tree) (Free (lexeme_of r) ∷ rest)) in
    let before = keeps_leave t under r (Cast all tree at) rest (h, s.0, f) two s.1 in
    keeps_go r (lexeme_of r) (Cast all tree at) under rest _ e (h, s.0, f) two s.1 (subst (λ marks. Keeps (leave under r (lexeme_of r) (Cast all tree at)) rest marks) e before)
keeps_leave t (AfterJoin operator left under) r tree rest f h s =
    let whole = Binary operator left tree (place left) in
    let e : stack_around under (spell whole ++ Free (lexeme_of r) ∷ rest) ≡ stack_around (AfterJoin operator left under) (spell tree ++ Free (lexeme_of r) ∷ rest) = ap (stack_around under) (append_assoc (spell left) (free (binary_kind operator) ∷ spell tree) (Free (lexeme_of r) ∷ rest)) in
    let before = keeps_leave t under r whole rest (s.0, h, refl, s.2, f) s.1 s.3 in
    keeps_go r (lexeme_of r) whole under rest _ e (s.0, h, refl, s.2, f) s.1 s.3 (subst (λ all. Keeps (leave under r (lexeme_of r) whole) rest all) e before)
keeps_leave t (AfterColon test first under) r tree rest f h s =
    let whole = Conditional test first tree (place test) in
    let e : stack_around under (spell whole ++ Free (lexeme_of r) ∷ rest) ≡ stack_around (AfterColon test first under) (spell tree ++ Free (lexeme_of r) ∷ rest) = ap (stack_around under) (append_assoc (spell test) (free kinds.Question ∷ (spell first ++ free kinds.Colon ∷ spell tree)) (Free (lexeme_of r) ∷ rest) ∙ ap (λ ms. spell test ++ free kinds.Question ∷ ms) (append_assoc (spell first) (free kinds.Colon ∷ spell tree) (Free (lexeme_of r) ∷ rest))) in
    let before = keeps_leave t under r whole rest (s.0, h, refl, s.2, s.3, f) s.1 s.4 in
    keeps_go r (lexeme_of r) whole under rest _ e (s.0, h, refl, s.2, s.3, f) s.1 s.4 (subst (λ all. Keeps (leave under r (lexeme_of r) whole) rest all) e before)
keeps_leave t (AfterAssign operator target under) r tree rest f h s =
    let whole = Assign operator target tree (place target) in
    let e : stack_around under (spell whole ++ Free (lexeme_of r) ∷ rest) ≡ stack_around (AfterAssign operator target under) (spell tree ++ Free (lexeme_of r) ∷ rest) = ap (stack_around under) (append_assoc (spell target) (free (assign_kind operator) ∷ spell tree) (Free (lexeme_of r) ∷ rest)) in
    let before = keeps_leave t under r whole rest (s.0, h, refl, s.2, f) s.1 s.3 in
    keeps_go r (lexeme_of r) whole under rest _ e (s.0, h, refl, s.2, f) s.1 s.3 (subst (λ all. Keeps (leave under r (lexeme_of r) whole) rest all) e before)
keeps_leave t (InParen at under) ClosesParen tree rest f h s = ((f, one_demand under, s), implies_same _ _ (ap (λ ms. stack_around under (kept kinds.LeftParen at ∷ ms)) (append_assoc (spell tree) (free kinds.RightParen ∷ []) rest)))
keeps_leave t (InIndex array at under) ClosesBracket tree rest f h s = ((f, one_demand under, s), implies_same _ _ (ap (λ ms. stack_around under (Kept (lexemes.Name array) at ∷ free kinds.LeftBracket ∷ ms)) (append_assoc (spell tree) (free kinds.RightBracket ∷ []) rest)))
keeps_leave t (InCall function at front under) ClosesParen tree rest f h s = (((s.0, h, f), one_demand under, s.1), implies_same _ _ (ap (λ ms. stack_around under (Kept (lexemes.Name function) at ∷ free kinds.LeftParen ∷ ms)) (append_assoc (spell_all (AndExpr front tree)) (free kinds.RightParen ∷ []) rest ∙ all_more front tree (free kinds.RightParen ∷ rest))))
keeps_leave t (InCall function at front under) (Joins binary.Comma) tree rest f h s = (((s.0, h, f), s.1), implies_same _ _ (ap (λ ms. stack_around under (Kept (lexemes.Name function) at ∷ free kinds.LeftParen ∷ ms)) (all_more front tree (free kinds.Comma ∷ rest))))
keeps_leave t (AfterQuestion test under) Separates tree rest f h s = ((s.0, s.1, s.2, f, s.3), implies_same _ _ refl)
keeps_leave t (Base purpose) r tree rest f h s = t purpose (lexeme_of r) tree rest f h s
keeps_leave t _ r tree rest f h s = tt

pub keeps_has : Takes → (said : Lexeme) (tree : Expr Bytes) (under : Stack) (rest : List Mark) → IsFormed tree → level tree ≤ demand under → SoundStack under → Keeps (go_on (role said) said tree under) rest (stack_around under (spell tree ++ Free said ∷ rest))
keeps_has t said tree under rest f h s =
    let P : Lexeme → Type 0 = λ l. Keeps (go_on (role said) l tree under) rest (stack_around under (spell tree ++ Free l ∷ rest)) in
    subst P (lexeme_of-role said) (keeps_go (role said) (lexeme_of (role said)) tree under rest _ refl f h s (keeps_leave t under (role said) tree rest f h s))

pub keeps_begin : (said : Lexeme) (at : ℕ) (under : Stack) (rest : List Mark) → SoundStack under → Keeps (begin said at under) rest (stack_around under (Kept said at ∷ rest))
keeps_begin (lexemes.Name name) at under rest s = ((tt, one_demand under, s), implies_same _ _ refl)
keeps_begin (lexemes.Integer constant) at under rest s = ((tt, one_demand under, s), implies_same _ _ refl)
keeps_begin (lexemes.Character value) at under rest s = ((tt, one_demand under, s), implies_same _ _ refl)
keeps_begin (Plain kinds.LeftParen) at under rest s = (s, implies_same _ _ refl)
keeps_begin (Plain kinds.PlusPlus) at under rest s = (s, implies_same _ _ refl)
keeps_begin (Plain kinds.MinusMinus) at under rest s = (s, implies_same _ _ refl)
keeps_begin (Plain kinds.Minus) at under rest s = (s, implies_same _ _ refl)
keeps_begin (Plain kinds.Plus) at under rest s = (s, implies_same _ _ refl)
keeps_begin (Plain kinds.Tilde) at under rest s = (s, implies_same _ _ refl)
keeps_begin (Plain kinds.Exclamation) at under rest s = (s, implies_same _ _ refl)
keeps_begin _ at under rest s = tt

-- a token that is a specifier
pub specifier_says : (said : Lexeme) (word : Specifier) → specifier_of said ≡ Some word → said ≡ Plain (specifier_kind word)
specifier_says (Plain kinds.Static) word e = cc
specifier_says (Plain kinds.Extern) word e = cc
specifier_says (Plain kinds.Inline) word e = cc
specifier_says (Plain kinds.Const) word e = cc
specifier_says (Plain kinds.Void) word e = cc
specifier_says (Plain kinds.Char) word e = cc
specifier_says (Plain kinds.Short) word e = cc
specifier_says (Plain kinds.Int) word e = cc
specifier_says (Plain kinds.Long) word e = cc
specifier_says (Plain kinds.Signed) word e = cc
specifier_says (Plain kinds.Unsigned) word e = cc
specifier_says _ word e = absurd (none_some word e)
  where
    none_some : (word : Specifier) → ◌≡◌ {A = Option Specifier} None (Some word) → ⊥
    none_some word e = cc
