-- The cut of a source into its longest pieces, and its tokens (C11 6.4, paragraph 4).
use Rattle.std.specs.Prelude.{◌≡◌, ◌≢◌, Bool, true, false, ℕ, ◌<◌, ◌⊎◌, List, [], ◌∷◌, length}
use Rattle.c_tree.specs.Bytes.{Each}
use Rattle.c_tree.specs.declared.token.Token.{Token}
use Rattle.c_lexer.specs.declared.pieces.Form.{Form}
use Rattle.c_lexer.specs.declared.pieces.Form.TheVariants as forms
use Rattle.c_lexer.specs.declared.pieces.Kind.{Kind}
use Rattle.c_lexer.specs.declared.pieces.Piece.{Piece}
use Rattle.c_lexer.specs.declared.pieces.Kind.TheVariants as kinds
use Rattle.c_lexer.specs.declared.LexFault.{LexFault}
use Rattle.c_lexer.specs.declared.LexFault.TheVariants as faults
use Rattle.c_lexer.specs.Bytes.{IsOnLine}
use Rattle.c_lexer.specs.Forms.{IsLongest, NoPiece}
use Rattle.c_lexer.specs.Kinds.{IsKind}

-- a line begins within blanks that hold a line feed; a comment is as one blank, and leaves this as it is
abbrev pub IsFresh : Form → (before after : Bool) → List ℕ → (at end : ℕ) → Type 0
IsFresh forms.Blank before after source at end = (Each IsOnLine source at end × (after ≡ before)) ⊎ ((Each IsOnLine source at end → ⊥) × (after ≡ true))
IsFresh forms.Comment before after source at end = after ≡ before
IsFresh form before after source at end = after ≡ false

-- the longest piece at its place, of its kind
pub record StandsAt (piece : Piece) (fresh : Bool) (source : List ℕ) (at : ℕ) : Type 0 where
  pub longest : IsLongest piece.form fresh source at piece.end
  pub kind : IsKind piece.form piece.kind source at piece.end
  pub line : IsFresh piece.form fresh piece.fresh source at piece.end

-- adjacent longest pieces of the language
abbrev pub IsCut : List Piece → (fresh : Bool) → List ℕ → (from to : ℕ) → Type 0
IsCut [] fresh source from to = from ≡ to
IsCut (piece ∷ pieces) fresh source from to = StandsAt piece fresh source from × (piece.kind ≢ kinds.Outside) × IsCut pieces piece.fresh source piece.end to

-- whether a line begins behind pieces
abbrev pub fresh_after : List Piece → Bool → Bool
fresh_after [] fresh = fresh
fresh_after (piece ∷ pieces) fresh = fresh_after pieces piece.fresh

-- in front of the tokens, that of a piece, if it is one
abbrev pub with_token : Kind → (at end : ℕ) → List Token → List Token
with_token (kinds.Token kind) at end tokens = record { kind = kind; at = at; end = end } ∷ tokens
with_token _ at end tokens = tokens

-- the tokens among pieces
abbrev pub tokens_of : List Piece → ℕ → List Token
tokens_of [] at = []
tokens_of (piece ∷ pieces) at = with_token piece.kind at piece.end (tokens_of pieces piece.end)

-- the whole source is cut, and these are its tokens
abbrev pub HasTokens : List ℕ → List Token → Type 0
HasTokens source tokens = (pieces : List Piece) × IsCut pieces true source 0 (length source) × (tokens ≡ tokens_of pieces 0)

-- the cut stops there, since no piece begins or one of a token outside the language
abbrev pub StopsAt : LexFault → List ℕ → Type 0
StopsAt (faults.Bad at) source = (pieces : List Piece) × IsCut pieces true source 0 at × (at < length source) × NoPiece (fresh_after pieces true) source at
StopsAt (faults.Outside at) source = (pieces : List Piece) × IsCut pieces true source 0 at × (piece : Piece) × StandsAt piece (fresh_after pieces true) source at × (piece.kind ≡ kinds.Outside)
StopsAt faults.Memory source = Unit {0}
