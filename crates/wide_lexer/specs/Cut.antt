-- The tokens of a source of wide C: it is cut as every source is, and some of the pieces that the profile leaves outside are tokens (C11 6.4).
use Rattle.std.specs.Prelude.{◌≡◌, ◌≢◌, ℕ, ◌<◌, Bool, true, List, [], ◌∷◌, length, Option, Some, None, slice_range}
use Rattle.c_lexer.specs.Cut.{StandsAt, fresh_after}
use Rattle.c_lexer.specs.Forms.{NoPiece}
use Rattle.c_lexer.specs.declared.LexFault.{LexFault}
use Rattle.c_lexer.specs.declared.LexFault.TheVariants as faults
use Rattle.c_lexer.specs.declared.pieces.Form.{Form}
use Rattle.c_lexer.specs.declared.pieces.Form.TheVariants as forms
use Rattle.c_lexer.specs.declared.pieces.Kind.{Kind}
use Rattle.c_lexer.specs.declared.pieces.Kind.TheVariants as piece_kinds
use Rattle.c_lexer.specs.declared.pieces.Piece.{Piece}
use Rattle.wide_tree.specs.declared.word.Word.{Word}
use Rattle.wide_tree.specs.Words.{spellings, find_word}
use Rattle.wide_lexer.specs.declared.token.Kind.TheVariants as kinds
use Rattle.wide_lexer.specs.declared.token.Token.{Token}
use Rattle.wide_lexer.specs.declared.roles.Role.{Role}
use Rattle.wide_lexer.specs.declared.roles.Role.TheVariants as roles

abbrev pub keyword_role : Option Word → Role
keyword_role None = roles.Refused
keyword_role (Some word) = roles.Token (kinds.Keyword word)

-- what a word counts as that is no word of the profile
abbrev pub word_role : List ℕ → Role
word_role bytes = keyword_role (find_word bytes spellings)

-- what a piece counts as that the profile leaves outside
abbrev pub outside_role : Form → List ℕ → (at end : ℕ) → Role
outside_role forms.Word source at end = word_role (slice_range source at end)
outside_role forms.String source at end = roles.Token kinds.Text
outside_role form source at end = roles.Refused

-- what a piece counts as
abbrev pub role_of : Kind → Form → List ℕ → (at end : ℕ) → Role
role_of (piece_kinds.Token kind) form source at end = roles.Token (kinds.Profile kind)
role_of piece_kinds.Outside form source at end = outside_role form source at end
role_of kind form source at end = roles.Dropped

-- adjacent longest pieces of wide C
abbrev pub IsCut : List Piece → (fresh : Bool) → List ℕ → (from to : ℕ) → Type 0
IsCut [] fresh source from to = from ≡ to
IsCut (piece ∷ pieces) fresh source from to =
    StandsAt piece fresh source from × (role_of piece.kind piece.form source from piece.end ≢ roles.Refused) × IsCut pieces piece.fresh source piece.end to

-- in front of the tokens, that of a piece, if it counts as one
abbrev pub with_token : Role → (at end : ℕ) → List Token → List Token
with_token (roles.Token kind) at end tokens = record { kind = kind; at = at; end = end } ∷ tokens
with_token role at end tokens = tokens

-- the tokens among pieces
abbrev pub tokens_of : List Piece → List ℕ → ℕ → List Token
tokens_of [] source at = []
tokens_of (piece ∷ pieces) source at = with_token (role_of piece.kind piece.form source at piece.end) at piece.end (tokens_of pieces source piece.end)

-- the whole source is cut, and these are its tokens
abbrev pub HasTokens : List ℕ → List Token → Type 0
HasTokens source tokens = (pieces : List Piece) × IsCut pieces true source 0 (length source) × (tokens ≡ tokens_of pieces source 0)

-- the cut stops there, since no piece begins or one that is outside wide C
abbrev pub StopsAt : LexFault → List ℕ → Type 0
StopsAt (faults.Bad at) source = (pieces : List Piece) × IsCut pieces true source 0 at × (at < length source) × NoPiece (fresh_after pieces true) source at
StopsAt (faults.Outside at) source =
    (pieces : List Piece) × IsCut pieces true source 0 at
    × (piece : Piece) × StandsAt piece (fresh_after pieces true) source at × (role_of piece.kind piece.form source at piece.end ≡ roles.Refused)
StopsAt faults.Memory source = Unit {0}
