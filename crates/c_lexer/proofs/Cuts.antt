-- A cut with one piece more.
use Rattle.std.proofs.Common.{◌≡◌, ◌≢◌, ℕ, ◌<◌, ◌≤◌, Bool, true, List, [], ◌∷◌, ◌++◌, length, refl, sym, ap, subst, ◌∙◌, arith}
use Rattle.c_tree.specs.declared.token.Token.{Token}
use Rattle.c_lexer.specs.declared.pieces.Kind.{Kind}
use Rattle.c_lexer.specs.declared.pieces.Kind.TheVariants as kinds
use Rattle.c_lexer.specs.declared.pieces.Piece.{Piece}
use Rattle.c_lexer.specs.declared.LexFault.TheVariants as faults
use Rattle.c_lexer.specs.Forms.{NoPiece}
use Rattle.c_lexer.specs.Cut.{StandsAt, IsCut, HasTokens, StopsAt, fresh_after, with_token, tokens_of}

-- the source is cut up to a place, with these tokens
pub record CutTo (source : List ℕ) (tokens : List Token) (at : ℕ) (fresh : Bool) : Type 0 where
  pub pieces : List Piece
  pub cut : IsCut pieces true source 0 at
  pub line : fresh_after pieces true ≡ fresh
  pub tokens_are : tokens ≡ tokens_of pieces 0

cut_push : (pieces : List Piece) (piece : Piece) (fresh : Bool) (source : List ℕ) (from at : ℕ) → IsCut pieces fresh source from at → StandsAt piece (fresh_after pieces fresh) source at → piece.kind ≢ kinds.Outside → IsCut (pieces ++ piece ∷ []) fresh source from piece.end
cut_push [] piece fresh source from at c s k = (subst (λ n. StandsAt piece fresh source n) (sym c) s, k, refl)
cut_push (p ∷ pieces) piece fresh source from at c s k = (c.0, c.1, cut_push pieces piece p.fresh source p.end at c.2 s k)

fresh_push : (pieces : List Piece) (piece : Piece) (fresh : Bool) → fresh_after (pieces ++ piece ∷ []) fresh ≡ piece.fresh
fresh_push [] piece fresh = refl
fresh_push (p ∷ pieces) piece fresh = fresh_push pieces piece p.fresh

tokens_push : (pieces : List Piece) (piece : Piece) (fresh : Bool) (source : List ℕ) (from at : ℕ) → IsCut pieces fresh source from at → tokens_of (pieces ++ piece ∷ []) from ≡ tokens_of pieces from ++ with_token piece.kind at piece.end []
tokens_push [] piece fresh source from at c = ap (λ n. with_token piece.kind n piece.end []) c
tokens_push (p ∷ pieces) piece fresh source from at c = ap (with_token p.kind from p.end) (tokens_push pieces piece p.fresh source p.end at c.2) ∙ sym (with_append p.kind from p.end (tokens_of pieces p.end) (with_token piece.kind at piece.end []))
  where
    with_append : (kind : Kind) (at end : ℕ) (xs ys : List Token) → with_token kind at end xs ++ ys ≡ with_token kind at end (xs ++ ys)
    with_append kinds.Blank at end xs ys = refl
    with_append kinds.Comment at end xs ys = refl
    with_append kinds.Dropped at end xs ys = refl
    with_append kinds.Outside at end xs ys = refl
    with_append (kinds.Token kind) at end xs ys = refl

pub cut_more : (source : List ℕ) (tokens : List Token) (at : ℕ) (fresh : Bool) (piece : Piece) → CutTo source tokens at fresh → StandsAt piece fresh source at → piece.kind ≢ kinds.Outside → CutTo source (tokens ++ with_token piece.kind at piece.end []) piece.end piece.fresh
cut_more source tokens at fresh piece c s k = record {
  pieces = c.pieces ++ piece ∷ [];
  cut = cut_push c.pieces piece true source 0 at c.cut (subst (λ f. StandsAt piece f source at) (sym c.line) s) k;
  line = fresh_push c.pieces piece true;
  tokens_are = ap (λ ts. ts ++ with_token piece.kind at piece.end []) c.tokens_are ∙ sym (tokens_push c.pieces piece true source 0 at c.cut);
}

-- a piece is one token at most
pub with_token_short : (kind : Kind) (at end : ℕ) → length (with_token kind at end []) ≤ 1
with_token_short (kinds.Token kind) at end = omega arith
with_token_short _ at end = omega arith

-- the cut is whole, or stops
pub whole : (source : List ℕ) (tokens : List Token) (at : ℕ) (fresh : Bool) → CutTo source tokens at fresh → at ≡ length source → HasTokens source tokens
whole source tokens at fresh c e = (c.pieces, subst (λ n. IsCut c.pieces true source 0 n) e c.cut, c.tokens_are)

pub bad_stop : (source : List ℕ) (tokens : List Token) (at : ℕ) (fresh : Bool) → CutTo source tokens at fresh → at < length source → NoPiece fresh source at → StopsAt (faults.Bad at) source
bad_stop source tokens at fresh c lt none = (c.pieces, c.cut, lt, subst (λ f. NoPiece f source at) (sym c.line) none)

pub outside_stop : (source : List ℕ) (tokens : List Token) (at : ℕ) (fresh : Bool) (piece : Piece) → CutTo source tokens at fresh → StandsAt piece fresh source at → piece.kind ≡ kinds.Outside → StopsAt (faults.Outside at) source
outside_stop source tokens at fresh piece c s e = (c.pieces, c.cut, piece, subst (λ f. StandsAt piece f source at) (sym c.line) s, e)
