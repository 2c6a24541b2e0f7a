-- What the tokens of a source say are words.
use Rattle.std.proofs.Common.{◌≡◌, ℕ, ◌^◌, ◌<◌, ◌≤◌, Bool, true, false, List, [], ◌∷◌, length, map, refl, sym, subst, arith}
use Rattle.std.specs.Prelude.{◌-◌, ◌||◌, if◌then◌else◌, nat_le}
use Rattle.c_lexer.specs.Cut.{HasTokens, IsCut, tokens_of, with_token}
use Rattle.c_lexer.specs.declared.pieces.Kind.{Kind}
use Rattle.c_lexer.specs.declared.pieces.Kind.TheVariants as pieces
use Rattle.c_lexer.specs.declared.pieces.Piece.{Piece}
use Rattle.c_lexer.proofs.Tokens.{stands_token}
use Rattle.c_tree.specs.Constants.{base_of, character, has_u, integer_value, most}
use Rattle.c_tree.specs.Said.{AreTokens, IsToken, TokenList, lexeme, said}
use Rattle.c_tree.specs.Spelling.{Agree, Fits, Free, Kept, Mark, Spoken, mark_said, spoken}
use Rattle.c_tree.specs.declared.token.Token.{Token}
use Rattle.c_tree.specs.declared.token.TokenKind.{TokenKind}
use Rattle.c_tree.specs.declared.token.TokenKind.TheVariants as kinds
use Rattle.compile_high_law.specs.Spelled.{LexemeWords, MarksWords}

-- the pieces that count as tokens are tokens
cut_tokens : (all : List Piece) (fresh : Bool) (source : List ℕ) (from to : ℕ) → IsCut all fresh source from to → AreTokens source (tokens_of all from)
cut_tokens [] fresh source from to h = tt
cut_tokens (piece ∷ rest) fresh source from to h = of piece.kind refl (cut_tokens rest piece.fresh source piece.end to h.2)
  where
    of : (kind : Kind) → piece.kind ≡ kind → AreTokens source (tokens_of rest piece.end) → AreTokens source (with_token kind from piece.end (tokens_of rest piece.end))
    of (pieces.Token kind) e r = (stands_token piece fresh source from kind h.0 e, r)
    of kind e r = r

pub are_tokens : (source : List ℕ) (tokens : List Token) → HasTokens source tokens → AreTokens source tokens
are_tokens source tokens h = subst (AreTokens source) (sym h.2) (cut_tokens h.0 true source 0 (length source) h.1)

-- a constant has a value of 32 bits
most_small : (u : Bool) (base : ℕ) → most u base < 2 ^ 32
most_small u base = of (u || nat_le base 8 || nat_le 16 base)
  where
    of : (b : Bool) → (if b then 4294967295 else 2147483647) < 2 ^ 32
    of true = omega arith
    of false = omega arith

at_most : (x y : ℕ) → x ≤ y → y < 2 ^ 32 → x < 2 ^ 32
at_most x y le lt = omega (arith, le, lt)

byte_small : (x : ℕ) → x < 256 → x < 2 ^ 32
byte_small x lt = omega (arith, lt)

lexeme_words : (kind : TokenKind) (source : List ℕ) (at end : ℕ) → IsToken kind source at end → LexemeWords (lexeme kind source at end)
lexeme_words kinds.Number source at end h = at_most (integer_value source at end) (most (has_u source end) (base_of source at end)) h.form.typed (most_small (has_u source end) (base_of source at end))
lexeme_words kinds.Character source at end h = byte_small (character source at (end - 1)) h.form.value
lexeme_words kind source at end h = tt

-- what tokens say
abbrev SpokenWords : List Spoken → Type 0
SpokenWords [] = Unit {0}
SpokenWords (token ∷ tokens) = LexemeWords token.said × SpokenWords tokens

said_words : (source : List ℕ) (list : List Token) → AreTokens source list → SpokenWords (map (λ token. record { said = said source token; at = token.at }) list)
said_words source [] h = tt
said_words source (token ∷ rest) h = (lexeme_words token.kind source token.at token.end h.0, said_words source rest h.1)

fits_words : (m : Mark) (token : Spoken) → Fits m token → LexemeWords token.said → LexemeWords (mark_said m)
fits_words (Kept said at) token e h = subst (λ t. LexemeWords t.said) e h
fits_words (Free said) token e h = subst LexemeWords e h

agree_words : (ms : List Mark) (ts : List Spoken) → Agree ms ts → SpokenWords ts → MarksWords ms
agree_words [] ts e h = tt
agree_words (m ∷ ms) [] e h = absurd e
agree_words (m ∷ ms) (t ∷ ts) e h = (fits_words m t e.0 h.0, agree_words ms ts e.1 h.1)

-- a spelling of tokens
pub spelling_words : (ms : List Mark) (tokens : TokenList) → AreTokens tokens.source tokens.list → Agree ms (spoken tokens) → MarksWords ms
spelling_words ms tokens are e = agree_words ms (spoken tokens) e (said_words tokens.source tokens.list are)
