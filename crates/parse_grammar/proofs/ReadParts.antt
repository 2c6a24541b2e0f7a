-- The machine reads back whole expressions, shapes, initial values, parameters and declarations.
use Rattle.std.proofs.Common.{◌≡◌, ℕ, ◌<◌, ◌≤◌, List, [], ◌∷◌, ◌++◌, Bool, true, false, refl, ◌∙◌, subst, append_assoc, arith}
use Rattle.c_tree.specs.declared.token.TokenKind.{TokenKind}
use Rattle.c_tree.specs.declared.token.TokenKind.TheVariants as kinds
use Rattle.c_tree.specs.Said.{Lexeme, Plain}
use Rattle.c_tree.specs.Formed.{level, IsFormed, AreFormed, IsFormedShape, IsFormedInitial}
use Rattle.c_tree.specs.Spelling.{Spoken, Mark, Free, Agree, free, spell, spell_all, spell_shape, spell_comma, spell_initial}
use Rattle.c_tree.specs.Tree as trees
use Rattle.c_tree.specs.Tree.{Expr, Exprs, NoExpr, AndExpr, Shape, Scalar, Unsized, Sized, Absent, Value, Declared}
use Rattle.parse_grammar.specs.Begun.{Bytes, Head, Declarator, OfObject, Purpose, Sizes, Initialises, Lists, limit, Base, State, Wants, Has, Declares, Sizing, Shaped, Initial, Listed, Ended}
use Rattle.parse_grammar.specs.Machine.{Goes, role, reach, begin, step, took, shaped, declares, sizing, initial, listed}
use Rattle.parse_grammar.proofs.Levels.{tail_within}
use Rattle.parse_grammar.proofs.Leads.{said_of, Leads, go_then, go_same, go_next, go_end, ends, split, starts, by_start, go_start}
use Rattle.parse_grammar.proofs.ReadExpr.{read_back}

-- a whole expression, up to a token that does not go on with it
pub takes : (t : Expr Bytes) (purpose : Purpose) (m : Mark) (ms : List Mark) (ts : List Spoken) → IsFormed t → level t ≤ limit purpose → limit purpose < reach (role (said_of m)) → Agree (spell t ++ m ∷ ms) ts → Leads ts (Wants (Base purpose)) (Has t (Base purpose)) (m ∷ ms)
takes t purpose m ms ts f h k g = read_back t (Base purpose) m ms ts f h (omega (arith, tail_within t)) g

-- the token that ends it
pub taken : (said : Lexeme) (purpose : Purpose) (t : Expr Bytes) (ms : List Mark) (b : State) → limit purpose < reach (role said) → took purpose said t ≡ Goes b → (ts : List Spoken) → Agree (Free said ∷ ms) ts → Leads ts (Has t (Base purpose)) b ms
taken said purpose t ms b k e ts g = go_next said ms (Has t (Base purpose)) b (λ at. ends (role said) said t (Base purpose) k ∙ e) ts g

-- an expression, from a state that begins one, and the token that ends it
pub whole : (t : Expr Bytes) (purpose : Purpose) (said : Lexeme) (ms : List Mark) (a b : State) → ((token : Spoken) → starts token.said ≡ true → step a token ≡ begin token.said token.at (Base purpose)) → IsFormed t → level t ≤ limit purpose → limit purpose < reach (role said) → took purpose said t ≡ Goes b → (ts : List Spoken) → Agree (spell t ++ Free said ∷ ms) ts → Leads ts a b ms
whole t purpose said ms a b s f h k e ts g =
    go_then ts a (Wants (Base purpose)) b (spell t ++ Free said ∷ ms) ms
    (go_start t (Free said ∷ ms) a (Wants (Base purpose)) s ts g)
    (λ rest g. go_then rest (Wants (Base purpose)) (Has t (Base purpose)) b (Free said ∷ ms) ms (takes t purpose (Free said) ms rest f h k g) (taken said purpose t ms b k e))

sizing_starts : (declarator : Declarator) (said : Lexeme) (here : ℕ) → starts said ≡ true → sizing said here declarator ≡ begin said here (Base (Sizes declarator))
sizing_starts declarator said here h =
    by_start (λ said. sizing said here declarator ≡ begin said here (Base (Sizes declarator))) (λ name. refl) (λ constant. refl) (λ value. refl) refl refl refl refl refl refl refl said h

-- a shape, up to a token that does as behind a scalar
pub read_shape : (shape : Shape Bytes) (declarator : Declarator) (m : Mark) (ms : List Mark) (ts : List Spoken) → IsFormedShape shape → declares (said_of m) declarator ≡ shaped (said_of m) declarator Scalar → Agree (spell_shape shape ++ m ∷ ms) ts → Leads ts (Declares declarator) (Shaped declarator shape) (m ∷ ms)
read_shape Scalar declarator m ms ts f e g = go_same m ms (Declares declarator) (Shaped declarator Scalar) (λ at. e) ts g
read_shape Unsized declarator m ms ts f e g =
    go_then ts (Declares declarator) (Sizing declarator) (Shaped declarator Unsized) (free kinds.RightBracket ∷ m ∷ ms) (m ∷ ms)
    (go_next (Plain kinds.LeftBracket) (free kinds.RightBracket ∷ m ∷ ms) (Declares declarator) (Sizing declarator) (λ at. refl) ts g)
    (go_next (Plain kinds.RightBracket) (m ∷ ms) (Sizing declarator) (Shaped declarator Unsized) (λ at. refl))
read_shape (Sized size) declarator m ms ts f e g =
    go_then ts (Declares declarator) (Sizing declarator) (Shaped declarator (Sized size)) ((spell size ++ free kinds.RightBracket ∷ []) ++ m ∷ ms) (m ∷ ms)
    (go_next (Plain kinds.LeftBracket) _ (Declares declarator) (Sizing declarator) (λ at. refl) ts g)
    (λ rest g. whole size (Sizes declarator) (Plain kinds.RightBracket) (m ∷ ms) (Sizing declarator) (Shaped declarator (Sized size)) (λ token s. sizing_starts declarator token.said token.at s) f.1 f.0 (omega arith) refl rest (split (spell size) (free kinds.RightBracket ∷ []) (m ∷ ms) rest g))

-- what ends an object: a comma or the semicolon
abbrev pub object_end : Bool → TokenKind
object_end true = kinds.Semicolon
object_end false = kinds.Comma

abbrev pub end_mark : Bool → Mark
end_mark b = free (object_end b)

initial_starts : (head : Head) (name : Bytes) (shape : Shape Bytes) (at : ℕ) (said : Lexeme) (here : ℕ) → starts said ≡ true → initial said here head name shape at ≡ begin said here (Base (Initialises head name shape at))
initial_starts head name shape at said here h =
    by_start (λ said. initial said here head name shape at ≡ begin said here (Base (Initialises head name shape at))) (λ name. refl) (λ constant. refl) (λ value. refl) refl refl refl refl refl refl refl said h

listed_starts : (head : Head) (name : Bytes) (shape : Shape Bytes) (front : Exprs Bytes) (at : ℕ) (said : Lexeme) (here : ℕ) → starts said ≡ true → listed said here head name shape front at ≡ begin said here (Base (Lists head name shape front at))
listed_starts head name shape front at said here h =
    by_start (λ said. listed said here head name shape front at ≡ begin said here (Base (Lists head name shape front at))) (λ name. refl) (λ constant. refl) (λ value. refl) refl refl refl refl refl refl refl said h

-- the values of a list, up to a comma or the closing brace
read_values : (front : Exprs Bytes) (last : Expr Bytes) (head : Head) (name : Bytes) (shape : Shape Bytes) (at : ℕ) (m : Mark) (ms : List Mark) (ts : List Spoken) → AreFormed (AndExpr front last) → 14 < reach (role (said_of m)) → Agree (spell_all (AndExpr front last) ++ m ∷ ms) ts → Leads ts (Wants (Base (Lists head name shape NoExpr at))) (Has last (Base (Lists head name shape front at))) (m ∷ ms)
read_values NoExpr last head name shape at m ms ts f k g = takes last (Lists head name shape NoExpr at) m ms ts f.2 f.1 k g
read_values (AndExpr front middle) last head name shape at m ms ts f k g =
    let purpose = Lists head name shape (AndExpr front middle) at in
    go_then ts _ (Has middle (Base (Lists head name shape front at))) _ (free kinds.Comma ∷ (spell last ++ m ∷ ms)) (m ∷ ms)
    (read_values front middle head name shape at (free kinds.Comma) (spell last ++ m ∷ ms) ts f.0 (omega arith) (split (spell_all (AndExpr front middle)) (free kinds.Comma ∷ spell last) (m ∷ ms) ts g))
    (λ rest g. go_then rest _ (Listed head name shape (AndExpr front middle) at) _ (spell last ++ m ∷ ms) (m ∷ ms)
    (taken (Plain kinds.Comma) (Lists head name shape front at) middle (spell last ++ m ∷ ms) (Listed head name shape (AndExpr front middle) at) (omega arith) refl rest g)
    (λ rest g. go_then rest _ (Wants (Base purpose)) _ (spell last ++ m ∷ ms) (m ∷ ms)
    (go_start last (m ∷ ms) (Listed head name shape (AndExpr front middle) at) (Wants (Base purpose)) (λ token s. listed_starts head name shape (AndExpr front middle) at token.said token.at s) rest g)
    (λ rest g. takes last purpose m ms rest f.2 f.1 k g)))

-- the end of the list
list_ends : (front : Exprs Bytes) (last : Expr Bytes) (comma : Bool) (head : Head) (name : Bytes) (shape : Shape Bytes) (at : ℕ) (ms : List Mark) (ts : List Spoken) → AreFormed (AndExpr front last) → Agree (spell_all (AndExpr front last) ++ (spell_comma comma ++ free kinds.RightBrace ∷ ms)) ts → Leads ts (Wants (Base (Lists head name shape NoExpr at))) (Ended head (Declared name shape (trees.Listed (AndExpr front last) comma) at)) ms
list_ends front last true head name shape at ms ts f g =
    go_then ts _ (Has last (Base (Lists head name shape front at))) _ (free kinds.Comma ∷ free kinds.RightBrace ∷ ms) ms
    (read_values front last head name shape at (free kinds.Comma) (free kinds.RightBrace ∷ ms) ts f (omega arith) g)
    (λ rest g. go_then rest _ (Listed head name shape (AndExpr front last) at) _ (free kinds.RightBrace ∷ ms) ms
    (taken (Plain kinds.Comma) (Lists head name shape front at) last (free kinds.RightBrace ∷ ms) (Listed head name shape (AndExpr front last) at) (omega arith) refl rest g)
    (go_next (Plain kinds.RightBrace) ms (Listed head name shape (AndExpr front last) at) _ (λ at. refl)))
list_ends front last false head name shape at ms ts f g =
    go_then ts _ (Has last (Base (Lists head name shape front at))) _ (free kinds.RightBrace ∷ ms) ms
    (read_values front last head name shape at (free kinds.RightBrace) ms ts f (omega arith) g)
    (taken (Plain kinds.RightBrace) (Lists head name shape front at) last ms _ (omega arith) refl)

split_3 : (xs ys zs ws : List Mark) (ts : List Spoken) → Agree ((xs ++ (ys ++ zs)) ++ ws) ts → Agree (xs ++ (ys ++ (zs ++ ws))) ts
split_3 xs ys zs ws ts g = subst (λ ms. Agree (xs ++ ms) ts) (append_assoc ys zs ws) (split xs (ys ++ zs) ws ts g)

-- behind the shape of an object, up to the comma or semicolon that ends it
read_initial : (value : trees.Initial Bytes) (head : Head) (name : Bytes) (shape : Shape Bytes) (at : ℕ) (b : Bool) (ms : List Mark) (ts : List Spoken) → IsFormedInitial value → Agree (spell_initial value ++ end_mark b ∷ ms) ts → Leads ts (Shaped (OfObject head name at) shape) (Ended head (Declared name shape value at)) (end_mark b ∷ ms)
read_initial Absent head name shape at true ms ts f g = go_same (end_mark true) ms (Shaped (OfObject head name at) shape) _ (λ at. refl) ts g
read_initial Absent head name shape at false ms ts f g = go_same (end_mark false) ms (Shaped (OfObject head name at) shape) _ (λ at. refl) ts g
read_initial (Value value) head name shape at b ms ts f g =
    let purpose = Initialises head name shape at in
    go_then ts _ (Initial head name shape at) _ (spell value ++ end_mark b ∷ ms) (end_mark b ∷ ms)
    (go_next (Plain kinds.Equal) (spell value ++ end_mark b ∷ ms) (Shaped (OfObject head name at) shape) (Initial head name shape at) (λ at. refl) ts g)
    (λ rest g. go_then rest _ (Wants (Base purpose)) _ (spell value ++ end_mark b ∷ ms) (end_mark b ∷ ms)
    (go_start value (end_mark b ∷ ms) (Initial head name shape at) (Wants (Base purpose)) (λ token s. initial_starts head name shape at token.said token.at s) rest g)
    (λ rest g. go_then rest _ (Has value (Base purpose)) _ (end_mark b ∷ ms) (end_mark b ∷ ms)
    (takes value purpose (end_mark b) ms rest f.1 f.0 (end_reach b) g)
    (go_end (end_mark b) ms value (Base purpose) (Ended head (Declared name shape (Value value) at)) (end_reach b) (λ r token e. refl))))
  where
    end_reach : (b : Bool) → 14 < reach (role (said_of (end_mark b)))
    end_reach true = omega arith
    end_reach false = omega arith
read_initial (trees.Listed NoExpr comma) head name shape at b ms ts f g = absurd f.0
read_initial (trees.Listed (AndExpr front last) comma) head name shape at b ms ts f g =
    go_then ts _ (Initial head name shape at) _ (free kinds.LeftBrace ∷ ((spell_all (AndExpr front last) ++ (spell_comma comma ++ free kinds.RightBrace ∷ [])) ++ end_mark b ∷ ms)) (end_mark b ∷ ms)
    (go_next (Plain kinds.Equal) _ (Shaped (OfObject head name at) shape) (Initial head name shape at) (λ at. refl) ts g)
    (λ rest g. go_then rest _ (Wants (Base (Lists head name shape NoExpr at))) _ ((spell_all (AndExpr front last) ++ (spell_comma comma ++ free kinds.RightBrace ∷ [])) ++ end_mark b ∷ ms) (end_mark b ∷ ms)
    (go_next (Plain kinds.LeftBrace) _ (Initial head name shape at) (Wants (Base (Lists head name shape NoExpr at))) (λ at. refl) rest g)
    (λ rest g. list_ends front last comma head name shape at (end_mark b ∷ ms) rest f.1 (split_3 (spell_all (AndExpr front last)) (spell_comma comma) (free kinds.RightBrace ∷ []) (end_mark b ∷ ms) rest g)))

-- behind the name of an object, up to the comma or semicolon that ends it
pub read_behind : (shape : Shape Bytes) (value : trees.Initial Bytes) (head : Head) (name : Bytes) (at : ℕ) (b : Bool) (ms : List Mark) (ts : List Spoken) → IsFormedShape shape → IsFormedInitial value → Agree (spell_shape shape ++ (spell_initial value ++ end_mark b ∷ ms)) ts → Leads ts (Declares (OfObject head name at)) (Ended head (Declared name shape value at)) (end_mark b ∷ ms)
read_behind shape value head name at b ms ts f h g =
    go_then ts _ (Shaped (OfObject head name at) shape) _ (spell_initial value ++ end_mark b ∷ ms) (end_mark b ∷ ms)
    (shaped_at value b g)
    (λ rest g. read_initial value head name shape at b ms rest h g)
  where
    shaped_at : (value : trees.Initial Bytes) (b : Bool) → Agree (spell_shape shape ++ (spell_initial value ++ end_mark b ∷ ms)) ts → Leads ts (Declares (OfObject head name at)) (Shaped (OfObject head name at) shape) (spell_initial value ++ end_mark b ∷ ms)
    shaped_at Absent true g = read_shape shape (OfObject head name at) (end_mark true) ms ts f refl g
    shaped_at Absent false g = read_shape shape (OfObject head name at) (end_mark false) ms ts f refl g
    shaped_at (Value value) b g = read_shape shape (OfObject head name at) (free kinds.Equal) (spell value ++ end_mark b ∷ ms) ts f refl g
    shaped_at (trees.Listed values comma) b g = read_shape shape (OfObject head name at) (free kinds.Equal) (free kinds.LeftBrace ∷ ((spell_all values ++ (spell_comma comma ++ free kinds.RightBrace ∷ [])) ++ end_mark b ∷ ms)) ts f refl g
