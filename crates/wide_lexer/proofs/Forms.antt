-- Tokens that have the forms of their kinds.
use Rattle.std.proofs.Common.{◌≡◌, ℕ, ◌+◌, ◌<◌, ◌≤◌, Bool, Option, Some, None, List, [], ◌∷◌, ◌++◌, length, length-append, arith, refl, subst, sym}
use Rattle.std.specs.Prelude.{slice_range}
use Rattle.c_lexer.specs.Cut.{StandsAt}
use Rattle.c_lexer.specs.Forms.{IsPiece}
use Rattle.c_lexer.specs.declared.pieces.Form.{Form}
use Rattle.c_lexer.specs.declared.pieces.Form.TheVariants as forms
use Rattle.c_lexer.specs.declared.pieces.Kind as pieces
use Rattle.c_lexer.specs.declared.pieces.Kind.TheVariants as piece_kinds
use Rattle.c_lexer.specs.declared.pieces.Piece.{Piece}
use Rattle.c_lexer.proofs.Tokens.{stands_token}
use Rattle.wide_tree.specs.declared.word.Word.{Word}
use Rattle.wide_tree.specs.Words.{find_word, spellings}
use Rattle.wide_lexer.specs.declared.roles.Role.TheVariants as roles
use Rattle.wide_lexer.specs.declared.token.Kind.{Kind}
use Rattle.wide_lexer.specs.declared.token.Token.{Token}
use Rattle.wide_lexer.specs.Cut.{keyword_role, outside_role, role_of}
use Rattle.wide_lexer.specs.Said.{AreTokens, HasForm, TokenList}

forms_push : (source : List ℕ) (tokens : List Token) (token : Token) → AreTokens source tokens → HasForm token.kind source token.at token.end → AreTokens source (tokens ++ token ∷ [])
forms_push source [] token are has = (has, tt)
forms_push source (first ∷ tokens) token are has = (are.0, forms_push source tokens token are.1 has)

-- one token more
pub tokens_push : (tokens whole : TokenList) (token : Token) → tokens ≡ whole → AreTokens tokens.source tokens.list → HasForm token.kind whole.source token.at token.end → length whole.list < 1048576 → (length (tokens.list ++ token ∷ []) ≤ 1048576) × AreTokens tokens.source (tokens.list ++ token ∷ [])
tokens_push tokens whole token same are has room =
    let HasHere : TokenList → Type 0 = λ t. HasForm token.kind t.source token.at token.end in
    let HasRoom : TokenList → Type 0 = λ t. length t.list < 1048576 in
    let here = subst HasHere (sym same) has in
    let left : length tokens.list < 1048576 = subst HasRoom (sym same) room in
    (omega (arith, left, length-append tokens.list (token ∷ [])), forms_push tokens.source tokens.list token are here)

kind_same : {kind other : Kind} → roles.Token kind ≡ roles.Token other → kind ≡ other
kind_same h = cc

-- a piece that counts as a token has the form of its kind
pub stands_formed : (piece : Piece) (fresh : Bool) (source : List ℕ) (at : ℕ) (kind : Kind) → StandsAt piece fresh source at → role_of piece.kind piece.form source at piece.end ≡ roles.Token kind → HasForm kind source at piece.end
stands_formed piece fresh source at kind s e = by_kind piece.kind refl e
  where
    by_word : (found : Option Word) → keyword_role found ≡ roles.Token kind → at < piece.end → piece.end ≤ length source → HasForm kind source at piece.end
    by_word None h some within = absurd (cc)
    by_word (Some word) h some within = subst (λ k. HasForm k source at piece.end) (kind_same h) (some, within)

    by_form : (form : Form) → IsPiece form fresh source at piece.end → outside_role form source at piece.end ≡ roles.Token kind → HasForm kind source at piece.end
    by_form forms.Word p h = by_word (find_word (slice_range source at piece.end) spellings) h p.some p.within
    by_form forms.String p h = subst (λ k. HasForm k source at piece.end) (kind_same h) (omega (arith, p.has.ends), p.within)
    by_form forms.Blank p h = absurd (cc)
    by_form forms.Comment p h = absurd (cc)
    by_form forms.Directive p h = absurd (cc)
    by_form forms.Operator p h = absurd (cc)
    by_form forms.Number p h = absurd (cc)
    by_form forms.Character p h = absurd (cc)
    by_form forms.PrefixedQuote p h = absurd (cc)
    by_form forms.Punctuator p h = absurd (cc)

    by_kind : (other : pieces.Kind) → piece.kind ≡ other → role_of other piece.form source at piece.end ≡ roles.Token kind → HasForm kind source at piece.end
    by_kind (piece_kinds.Token of) same h = subst (λ k. HasForm k source at piece.end) (kind_same h) (stands_token piece fresh source at of s same)
    by_kind piece_kinds.Outside same h = by_form piece.form s.longest.piece h
    by_kind piece_kinds.Blank same h = absurd (cc)
    by_kind piece_kinds.Comment same h = absurd (cc)
    by_kind piece_kinds.Dropped same h = absurd (cc)
