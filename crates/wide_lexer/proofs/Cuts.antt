-- A cut with one piece more.
use Rattle.std.proofs.Common.{◌≡◌, ◌≢◌, ℕ, ◌<◌, ◌≤◌, Bool, true, List, [], ◌∷◌, ◌++◌, length, refl, sym, ap, subst, ◌∙◌, arith}
use Rattle.c_lexer.specs.Cut.{StandsAt, fresh_after}
use Rattle.c_lexer.specs.Forms.{NoPiece}
use Rattle.c_lexer.specs.declared.LexFault.TheVariants as faults
use Rattle.c_lexer.specs.declared.pieces.Piece.{Piece}
use Rattle.wide_lexer.specs.declared.roles.Role.{Role}
use Rattle.wide_lexer.specs.declared.roles.Role.TheVariants as roles
use Rattle.wide_lexer.specs.declared.token.Token.{Token}
use Rattle.wide_lexer.specs.Cut.{HasTokens, IsCut, StopsAt, role_of, tokens_of, with_token}

abbrev pub role_at : Piece → List ℕ → ℕ → Role
role_at piece source at = role_of piece.kind piece.form source at piece.end

-- the source is cut up to a place, with these tokens
pub record CutTo (source : List ℕ) (tokens : List Token) (at : ℕ) (fresh : Bool) : Type 0 where
  pub pieces : List Piece
  pub cut : IsCut pieces true source 0 at
  pub line : fresh_after pieces true ≡ fresh
  pub tokens_are : tokens ≡ tokens_of pieces source 0

cut_push : (pieces : List Piece) (piece : Piece) (fresh : Bool) (source : List ℕ) (from at : ℕ) → IsCut pieces fresh source from at → StandsAt piece (fresh_after pieces fresh) source at → role_at piece source at ≢ roles.Refused → IsCut (pieces ++ piece ∷ []) fresh source from piece.end
cut_push [] piece fresh source from at c s k =
    (subst (λ n. StandsAt piece fresh source n) (sym c) s, subst (λ n. role_at piece source n ≢ roles.Refused) (sym c) k, refl)
cut_push (p ∷ pieces) piece fresh source from at c s k = (c.0, c.1, cut_push pieces piece p.fresh source p.end at c.2 s k)

fresh_push : (pieces : List Piece) (piece : Piece) (fresh : Bool) → fresh_after (pieces ++ piece ∷ []) fresh ≡ piece.fresh
fresh_push [] piece fresh = refl
fresh_push (p ∷ pieces) piece fresh = fresh_push pieces piece p.fresh

with_append : (role : Role) (at end : ℕ) (xs ys : List Token) → with_token role at end xs ++ ys ≡ with_token role at end (xs ++ ys)
with_append (roles.Token kind) at end xs ys = refl
with_append roles.Dropped at end xs ys = refl
with_append roles.Refused at end xs ys = refl

tokens_push : (pieces : List Piece) (piece : Piece) (fresh : Bool) (source : List ℕ) (from at : ℕ) → IsCut pieces fresh source from at → tokens_of (pieces ++ piece ∷ []) source from ≡ tokens_of pieces source from ++ with_token (role_at piece source at) at piece.end []
tokens_push [] piece fresh source from at c = ap (λ n. with_token (role_at piece source n) n piece.end []) c
tokens_push (p ∷ pieces) piece fresh source from at c =
    ap (with_token (role_at p source from) from p.end) (tokens_push pieces piece p.fresh source p.end at c.2)
    ∙ sym (with_append (role_at p source from) from p.end (tokens_of pieces source p.end) (with_token (role_at piece source at) at piece.end []))

pub cut_more : (source : List ℕ) (tokens : List Token) (at : ℕ) (fresh : Bool) (piece : Piece) → CutTo source tokens at fresh → StandsAt piece fresh source at → role_at piece source at ≢ roles.Refused → CutTo source (tokens ++ with_token (role_at piece source at) at piece.end []) piece.end piece.fresh
cut_more source tokens at fresh piece c s k = record {
  pieces = c.pieces ++ piece ∷ [];
  cut = cut_push c.pieces piece true source 0 at c.cut (subst (λ f. StandsAt piece f source at) (sym c.line) s) k;
  line = fresh_push c.pieces piece true;
  tokens_are = ap (λ ts. ts ++ with_token (role_at piece source at) at piece.end []) c.tokens_are ∙ sym (tokens_push c.pieces piece true source 0 at c.cut);
}

-- a piece is one token at most
pub with_token_short : (role : Role) (at end : ℕ) → length (with_token role at end []) ≤ 1
with_token_short (roles.Token kind) at end = omega arith
with_token_short roles.Dropped at end = omega arith
with_token_short roles.Refused at end = omega arith

-- the cut is whole, or stops
pub whole : (source : List ℕ) (tokens : List Token) (at : ℕ) (fresh : Bool) → CutTo source tokens at fresh → at ≡ length source → HasTokens source tokens
whole source tokens at fresh c e = (c.pieces, subst (λ n. IsCut c.pieces true source 0 n) e c.cut, c.tokens_are)

pub bad_stop : (source : List ℕ) (tokens : List Token) (at : ℕ) (fresh : Bool) → CutTo source tokens at fresh → at < length source → NoPiece fresh source at → StopsAt (faults.Bad at) source
bad_stop source tokens at fresh c lt none = (c.pieces, c.cut, lt, subst (λ f. NoPiece f source at) (sym c.line) none)

pub outside_stop : (source : List ℕ) (tokens : List Token) (at : ℕ) (fresh : Bool) (piece : Piece) → CutTo source tokens at fresh → StandsAt piece fresh source at → role_at piece source at ≡ roles.Refused → StopsAt (faults.Outside at) source
outside_stop source tokens at fresh piece c s e = (c.pieces, c.cut, piece, subst (λ f. StandsAt piece f source at) (sym c.line) s, e)
