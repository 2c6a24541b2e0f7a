-- The tokens of a cut have the forms of their kinds.
use Rattle.std.proofs.Common.{◌≡◌, ℕ, Bool, true, List, [], ◌∷◌, length, refl, subst, sym}
use Rattle.c_tree.specs.declared.token.Token.{Token}
use Rattle.c_tree.specs.Said.{AreTokens}
use Rattle.c_lexer.specs.declared.pieces.Kind.{Kind}
use Rattle.c_lexer.specs.declared.pieces.Kind.TheVariants as kinds
use Rattle.c_lexer.specs.declared.pieces.Piece.{Piece}
use Rattle.c_lexer.specs.Cut.{HasTokens, IsCut, tokens_of, with_token}
use Rattle.c_lexer.proofs.Tokens.{stands_token}

cut_tokens : (pieces : List Piece) (fresh : Bool) (source : List ℕ) (from to : ℕ) → IsCut pieces fresh source from to → AreTokens source (tokens_of pieces from)
cut_tokens [] fresh source from to cut = tt
cut_tokens (piece ∷ pieces) fresh source from to cut = by piece.kind refl (cut_tokens pieces piece.fresh source piece.end to cut.2)
  where
    by : (kind : Kind) → piece.kind ≡ kind → AreTokens source (tokens_of pieces piece.end) → AreTokens source (with_token kind from piece.end (tokens_of pieces piece.end))
    by (kinds.Token kind) is rest = (stands_token piece fresh source from kind cut.0 is, rest)
    by kinds.Blank is rest = rest
    by kinds.Comment is rest = rest
    by kinds.Dropped is rest = rest
    by kinds.Outside is rest = rest

pub list_tokens : (source : List ℕ) (list : List Token) → HasTokens source list → AreTokens source list
list_tokens source list has = subst (AreTokens source) (sym has.2) (cut_tokens has.0 true source 0 (length source) has.1)
