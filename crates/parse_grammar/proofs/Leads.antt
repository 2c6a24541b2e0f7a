-- How tokens lead the machine from one state to another.
use Rattle.std.proofs.Common.{◌≡◌, ℕ, ◌<◌, ◌≤◌, List, [], ◌∷◌, ◌++◌, Bool, true, false, refl, sym, ◌∙◌, ap, subst, append_assoc}
use Rattle.std.specs.Prelude.{Some, nat_le}
use Rattle.std.proofs.lemmas.Bool.{le-leb, lt-leb, false≢true}
use Rattle.c_tree.specs.declared.token.Constant.{Constant}
use Rattle.c_tree.specs.declared.token.TokenKind.TheVariants as kinds
use Rattle.c_tree.specs.declared.expression.Specifier.{Specifier}
use Rattle.c_tree.specs.declared.expression.Specifier.TheVariants as specifiers
use Rattle.c_tree.specs.declared.expression.PrefixOperator.{PrefixOperator}
use Rattle.c_tree.specs.declared.expression.PrefixOperator.TheVariants as prefix
use Rattle.c_tree.specs.Said as lexemes
use Rattle.c_tree.specs.Said.{Lexeme, Plain}
use Rattle.c_tree.specs.Spelling.{Spoken, Mark, Kept, Free, Fits, Agree, kept, specifier_kind, prefix_kind, spell}
use Rattle.c_tree.specs.Tree.{Expr, Number, Character, Name, Paren, Index, Call, Postfix, Prefix, Cast, Binary, Conditional, Assign}
use Rattle.parse_grammar.specs.Begun.{Bytes, Stack, demand, State, Has}
use Rattle.parse_grammar.specs.Machine.{Goes, Role, role, reach, only_if, enter, leave, go_on, step, after_all, specifier_of}

abbrev pub said_of : Mark → Lexeme
said_of (Kept said at) = said
said_of (Free said) = said

pub said_fits : (m : Mark) (token : Spoken) → Fits m token → token.said ≡ said_of m
said_fits (Kept said at) token f = ap (λ t. t.said) f
said_fits (Free said) token f = f

-- from a, the tokens lead to b, and what is left agrees with these marks
pub record Leads (ts : List Spoken) (a b : State) (ms : List Mark) : Type 0 where
  pub rest : List Spoken
  pub agrees : Agree ms rest
  pub same : after_all (Goes a) ts ≡ after_all (Goes b) rest

pub go_then : (ts : List Spoken) (a b c : State) (ms ns : List Mark) → Leads ts a b ms → ((rest : List Spoken) → Agree ms rest → Leads rest b c ns) → Leads ts a c ns
go_then ts a b c ms ns g h = let k = h g.rest g.agrees in record { rest = k.rest; agrees = k.agrees; same = g.same ∙ k.same }

pub go_stay : (ts : List Spoken) (a : State) (ms : List Mark) → Agree ms ts → Leads ts a a ms
go_stay ts a ms g = record { rest = ts; agrees = g; same = refl }

-- one step, at a token that fits the mark
pub go_step : (m : Mark) (ms : List Mark) (a b : State) → ((token : Spoken) → Fits m token → step a token ≡ Goes b) → (ts : List Spoken) → Agree (m ∷ ms) ts → Leads ts a b ms
go_step m ms a b h [] g = absurd g
go_step m ms a b h (t ∷ ts) g = record { rest = ts; agrees = g.1; same = ap (λ o. after_all o ts) (h t g.0) }

-- two states that do the same at the next token
pub go_as : (m : Mark) (ms : List Mark) (a b : State) → ((token : Spoken) → token.said ≡ said_of m → step a token ≡ step b token) → (ts : List Spoken) → Agree (m ∷ ms) ts → Leads ts a b (m ∷ ms)
go_as m ms a b h [] g = absurd g
go_as m ms a b h (t ∷ ts) g = record { rest = t ∷ ts; agrees = g; same = ap (λ o. after_all o ts) (h t (said_fits m t g.0)) }

pub ends : (r : Role) (said : Lexeme) (tree : Expr Bytes) (under : Stack) → demand under < reach r → go_on r said tree under ≡ leave under r said tree
ends r said tree under h = rw (lt-leb (reach r) (demand under) h)

pub goes_on : (r : Role) (said : Lexeme) (tree : Expr Bytes) (under : Stack) → reach r ≤ demand under → go_on r said tree under ≡ enter r tree under
goes_on r said tree under h = rw (le-leb (reach r) (demand under) h)

pub only_if_so : (a b : ℕ) (state : State) → a ≤ b → only_if (nat_le a b) state ≡ Goes state
only_if_so a b state h = rw (le-leb a b h)

-- the last operand ends, and with it the whole
pub go_end : (m : Mark) (ms : List Mark) (tree : Expr Bytes) (u : Stack) (b : State) → demand u < reach (role (said_of m)) → ((r : Role) (token : Spoken) → role token.said ≡ r → leave u r token.said tree ≡ step b token) → (ts : List Spoken) → Agree (m ∷ ms) ts → Leads ts (Has tree u) b (m ∷ ms)
go_end m ms tree u b k h ts g =
    go_as m ms (Has tree u) b (λ token e. ends (role token.said) token.said tree u (subst (λ l. demand u < reach (role l)) (sym e) k) ∙ h (role token.said) token refl) ts g

pub kept_step : (said : Lexeme) (at : ℕ) (a b : State) → step a (record { said = said; at = at }) ≡ Goes b → (token : Spoken) → Fits (Kept said at) token → step a token ≡ Goes b
kept_step said at a b e token f = ap (step a) f ∙ e

-- a step that the place of the token does not change
pub free_step : (said : Lexeme) (a b : State) → ((at : ℕ) → step a (record { said = said; at = at }) ≡ Goes b) → (token : Spoken) → Fits (Free said) token → step a token ≡ Goes b
free_step said a b e token f = let P : Lexeme → Type 0 = λ l. step a (record { said = l; at = token.at }) ≡ Goes b in subst P (sym f) (e token.at)

-- steps behind an operand, by the role
pub has_step : (said : Lexeme) (r : Role) (tree : Expr Bytes) (under : Stack) (b : State) → role said ≡ r → ((said : Lexeme) → go_on r said tree under ≡ Goes b) → (token : Spoken) → Fits (Free said) token → step (Has tree under) token ≡ Goes b
has_step said r tree under b e h token f = ap (λ r. go_on r token.said tree under) (ap role f ∙ e) ∙ h token.said

pub split : (xs ys zs : List Mark) (ts : List Spoken) → Agree ((xs ++ ys) ++ zs) ts → Agree (xs ++ (ys ++ zs)) ts
split xs ys zs ts g = subst (λ ms. Agree ms ts) (append_assoc xs ys zs) g

-- the tokens that begin an expression
abbrev pub starts : Lexeme → Bool
starts (lexemes.Name name) = true
starts (lexemes.Integer constant) = true
starts (lexemes.Character value) = true
starts (Plain kinds.LeftParen) = true
starts (Plain kinds.PlusPlus) = true
starts (Plain kinds.MinusMinus) = true
starts (Plain kinds.Minus) = true
starts (Plain kinds.Plus) = true
starts (Plain kinds.Tilde) = true
starts (Plain kinds.Exclamation) = true
starts said = false

-- what holds of each of them
pub by_start : (P : Lexeme → Type 0) → ((name : Bytes) → P (lexemes.Name name)) → ((constant : Constant) → P (lexemes.Integer constant)) → ((value : ℕ) → P (lexemes.Character value)) → P (Plain kinds.LeftParen) → P (Plain kinds.PlusPlus) → P (Plain kinds.MinusMinus) → P (Plain kinds.Minus) → P (Plain kinds.Plus) → P (Plain kinds.Tilde) → P (Plain kinds.Exclamation) → (said : Lexeme) → starts said ≡ true → P said
by_start P a b c d e f g h i j (lexemes.Name name) k = a name
by_start P a b c d e f g h i j (lexemes.Integer constant) k = b constant
by_start P a b c d e f g h i j (lexemes.Character value) k = c value
by_start P a b c d e f g h i j (Plain kinds.LeftParen) k = d
by_start P a b c d e f g h i j (Plain kinds.PlusPlus) k = e
by_start P a b c d e f g h i j (Plain kinds.MinusMinus) k = f
by_start P a b c d e f g h i j (Plain kinds.Minus) k = g
by_start P a b c d e f g h i j (Plain kinds.Plus) k = h
by_start P a b c d e f g h i j (Plain kinds.Tilde) k = i
by_start P a b c d e f g h i j (Plain kinds.Exclamation) k = j
by_start P a b c d e f g h i j _ k = absurd (false≢true k)

-- these marks begin as an expression does
abbrev pub BeginsExpression : List Mark → Type 0
BeginsExpression ms = (x : Mark) × (xs : List Mark) × (ms ≡ x ∷ xs) × (starts (said_of x) ≡ true)

pub with_more : (ms more : List Mark) → BeginsExpression ms → BeginsExpression (ms ++ more)
with_more ms more f = (f.0, f.1 ++ more, ap (λ ws. ws ++ more) f.2, f.3)

starts_prefix : (operator : PrefixOperator) → starts (Plain (prefix_kind operator)) ≡ true
starts_prefix prefix.Increment = refl
starts_prefix _ = refl

pub first_of : (t : Expr Bytes) → BeginsExpression (spell t)
first_of (Number constant at) = (Kept (lexemes.Integer constant) at, _, refl, refl)
first_of (Character value at) = (Kept (lexemes.Character value) at, _, refl, refl)
first_of (Name name at) = (Kept (lexemes.Name name) at, _, refl, refl)
first_of (Paren inner at) = (kept kinds.LeftParen at, _, refl, refl)
first_of (Index array index at) = (Kept (lexemes.Name array) at, _, refl, refl)
first_of (Call function arguments at) = (Kept (lexemes.Name function) at, _, refl, refl)
first_of (Postfix operator operand at) = with_more (spell operand) _ (first_of operand)
first_of (Prefix operator operand at) = (kept (prefix_kind operator) at, _, refl, starts_prefix operator)
first_of (Cast specifiers operand at) = (kept kinds.LeftParen at, _, refl, refl)
first_of (Binary operator left right at) = with_more (spell left) _ (first_of left)
first_of (Conditional test first second at) = with_more (spell test) _ (first_of test)
first_of (Assign operator target value at) = with_more (spell target) _ (first_of target)

-- two states that do the same at each beginning do the same at an expression
pub go_start : (t : Expr Bytes) (ms : List Mark) (a b : State) → ((token : Spoken) → starts token.said ≡ true → step a token ≡ step b token) → (ts : List Spoken) → Agree (spell t ++ ms) ts → Leads ts a b (spell t ++ ms)
go_start t ms a b h ts g =
    let f = with_more (spell t) ms (first_of t) in
    subst (λ ns. Leads ts a b ns) (sym f.2)
    (go_as f.0 f.1 a b (λ token e. h token (ap starts e ∙ f.3)) ts (subst (λ ns. Agree ns ts) f.2 g))

pub specifier_read : (s : Specifier) → specifier_of (Plain (specifier_kind s)) ≡ Some s
specifier_read specifiers.Static = refl
specifier_read _ = refl

-- a step whose end depends on the place of the token, which the tree does not keep
pub go_free : (said : Lexeme) (ms ns : List Mark) (a c : State) (b : ℕ → State) → ((at : ℕ) → step a (record { said = said; at = at }) ≡ Goes (b at)) → ((at : ℕ) (rest : List Spoken) → Agree ms rest → Leads rest (b at) c ns) → (ts : List Spoken) → Agree (Free said ∷ ms) ts → Leads ts a c ns
go_free said ms ns a c b h k [] g = absurd g
go_free said ms ns a c b h k (t ∷ ts) g =
    let P : Lexeme → Type 0 = λ l. step a (record { said = l; at = t.at }) ≡ Goes (b t.at) in
    let stepped : step a t ≡ Goes (b t.at) = subst P (sym g.0) (h t.at) in
    let l = k t.at ts g.1 in
    record { rest = l.rest; agrees = l.agrees; same = ap (λ o. after_all o ts) stepped ∙ l.same }

pub go_kept : (said : Lexeme) (at : ℕ) (ms : List Mark) (a b : State) → step a (record { said = said; at = at }) ≡ Goes b → (ts : List Spoken) → Agree (Kept said at ∷ ms) ts → Leads ts a b ms
go_kept said at ms a b e ts g = go_step (Kept said at) ms a b (kept_step said at a b e) ts g

pub go_next : (said : Lexeme) (ms : List Mark) (a b : State) → ((at : ℕ) → step a (record { said = said; at = at }) ≡ Goes b) → (ts : List Spoken) → Agree (Free said ∷ ms) ts → Leads ts a b ms
go_next said ms a b e ts g = go_step (Free said) ms a b (free_step said a b e) ts g

-- the next token says this, and two states do the same at it
pub go_same : (m : Mark) (ms : List Mark) (a b : State) → ((at : ℕ) → step a (record { said = said_of m; at = at }) ≡ step b (record { said = said_of m; at = at })) → (ts : List Spoken) → Agree (m ∷ ms) ts → Leads ts a b (m ∷ ms)
go_same m ms a b h ts g =
    go_as m ms a b (λ token e. let P : Lexeme → Type 0 = λ l. step a (record { said = l; at = token.at }) ≡ step b (record { said = l; at = token.at }) in subst P (sym e) (h token.at)) ts g
