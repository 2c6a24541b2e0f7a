-- The pieces of a numbered source by what they say, their bytes, and when each may stand before what follows it.
use Rattle.std.proofs.Common.{ℕ, ◌+◌, ◌<◌, ◌≤◌, Bool, true, false, ◌&&◌, not, nat_eq, nat_le, nat_lt, List, [], ◌∷◌, ◌++◌, length, codes, Option, Some, None}
use Rattle.std.specs.Prelude.{slice_index}
use Rattle.std.specs.Fmt.{decimal}
use Rattle.c_tree.specs.Bytes.{is_letter}
use Rattle.c_tree.specs.Said.{Lexeme, Plain, Name, Integer, Pragma}
use Rattle.c_tree.specs.Spelling.{Spoken}
use Rattle.c_tree.specs.Words.{text}
use Rattle.c_tree.specs.declared.token.TokenKind.{TokenKind}
use Rattle.c_tree.specs.declared.token.TokenKind.TheVariants as tokens
use Rattle.c_lexer.specs.declared.pieces.Form.{Form}
use Rattle.c_lexer.specs.declared.pieces.Form.TheVariants as forms
use Rattle.c_lexer.specs.declared.pieces.Kind.{Kind}
use Rattle.c_lexer.specs.declared.pieces.Kind.TheVariants as kinds
use Rattle.c_lexer.specs.declared.pieces.Piece.{Piece}
use Rattle.c_lexer.specs.Forms.{first_size, punctuators}
use Rattle.c_lexer.specs.Kinds.{word_kind}
use Rattle.c_lexer.proofs.FirstBytes.{are_names, class}
use Rattle.command_numbered.proofs.Blanks.{are_blanks, fresh_behind}
use Rattle.command_numbered.proofs.Numerals.{spelled}
use Rattle.command_numbered.proofs.Pragmas.{pragma, tens}
use Rattle.command_numbered.proofs.PieceWords.{ends_word}
use Rattle.command_numbered.proofs.Names.{name}
use Rattle.command_numbered.proofs.Trees.{int}

-- white space, a keyword, a punctuator, a name, a number that doesn't begin with 0, the number 0, the name of a
-- function, its number, and the bound of its loop
pub data Bit : Type 0 where
  Gap : (bytes : List ℕ) → Bit
  Key : (kind : TokenKind) → Bit
  Sign : (kind : TokenKind) → Bit
  Word : (bytes : List ℕ) → Bit
  Numeral : (bytes : List ℕ) (value : ℕ) → Bit
  Nought : Bit
  Own : (i : ℕ) → Bit
  Index : (i : ℕ) → Bit
  Bound : Bit

abbrev pub bytes_of : Bit → List ℕ
bytes_of (Gap bytes) = bytes
bytes_of (Key kind) = text kind
bytes_of (Sign kind) = text kind
bytes_of (Word bytes) = bytes
bytes_of (Numeral bytes value) = bytes
bytes_of Nought = codes "0"
bytes_of (Own i) = name i
bytes_of (Index i) = decimal i
bytes_of Bound = pragma

abbrev pub form_of : Bit → Form
form_of (Gap bytes) = forms.Blank
form_of (Key kind) = forms.Word
form_of (Sign kind) = forms.Punctuator
form_of (Word bytes) = forms.Word
form_of (Numeral bytes value) = forms.Number
form_of Nought = forms.Number
form_of (Own i) = forms.Word
form_of (Index i) = forms.Number
form_of Bound = forms.Operator

abbrev pub token_of : Bit → TokenKind
token_of (Gap bytes) = tokens.Name
token_of (Key kind) = kind
token_of (Sign kind) = kind
token_of (Word bytes) = tokens.Name
token_of (Numeral bytes value) = tokens.Number
token_of Nought = tokens.Number
token_of (Own i) = tokens.Name
token_of (Index i) = tokens.Number
token_of Bound = tokens.LoopBound

abbrev pub kind_of : Bit → Kind
kind_of (Gap bytes) = kinds.Blank
kind_of b = kinds.Token (token_of b)

abbrev pub lexeme_of : Bit → Lexeme
lexeme_of (Gap bytes) = Name bytes
lexeme_of (Key kind) = Plain kind
lexeme_of (Sign kind) = Plain kind
lexeme_of (Word bytes) = Name bytes
lexeme_of (Numeral bytes value) = Integer (int value)
lexeme_of Nought = Integer (int 0)
lexeme_of (Own i) = Name (name i)
lexeme_of (Index i) = Integer (int i)
lexeme_of Bound = Pragma tokens.LoopBound tens

abbrev pub fresh_of : Bit → Bool → Bool
fresh_of (Gap bytes) fresh = fresh_behind bytes fresh
fresh_of b fresh = false

abbrev pub piece_of : Bit → (fresh : Bool) → (at : ℕ) → Piece
piece_of b fresh at = record { form = form_of b; kind = kind_of b; end = at + length (bytes_of b); fresh = fresh_of b fresh }

-- all bytes, all pieces, and what the tokens say

abbrev pub written : List Bit → List ℕ
written [] = []
written (b ∷ bits) = bytes_of b ++ written bits

abbrev pub pieces_of : List Bit → (fresh : Bool) → (at : ℕ) → List Piece
pieces_of [] fresh at = []
pieces_of (b ∷ bits) fresh at = piece_of b fresh at ∷ pieces_of bits (fresh_of b fresh) (at + length (bytes_of b))

abbrev pub with_spoken : Bit → (at : ℕ) → List Spoken → List Spoken
with_spoken (Gap bytes) at rest = rest
with_spoken b at rest = record { said = lexeme_of b; at = at } ∷ rest

abbrev pub spoken_of : List Bit → (at : ℕ) → List Spoken
spoken_of [] at = []
spoken_of (b ∷ bits) at = with_spoken b at (spoken_of bits (at + length (bytes_of b)))

-- tests

abbrev pub is_word_text : List ℕ → Bool
is_word_text [] = false
is_word_text (b ∷ bytes) = is_letter b && (not (nat_eq b 95) && are_names (b ∷ bytes))

abbrev pub is_sign_text : List ℕ → Bool
is_sign_text [] = false
is_sign_text (b ∷ bytes) = not (nat_eq b 47) && (not (nat_eq b 46) && not (nat_eq b 35))

abbrev pub are_digits : List ℕ → Bool
are_digits [] = true
are_digits (b ∷ bytes) = (nat_le 48 b && nat_le b 57) && are_digits bytes

abbrev pub is_numeral_text : List ℕ → ℕ → Bool
is_numeral_text [] value = false
is_numeral_text (b ∷ bytes) value = not (nat_eq b 48) && (are_digits (b ∷ bytes) && (nat_eq (spelled 10 0 (b ∷ bytes)) value && nat_le value 2147483647))

abbrev pub is_key : TokenKind → Bool
is_key tokens.For = true
is_key tokens.Int = true
is_key tokens.Return = true
is_key tokens.Void = true
is_key _ = false

abbrev pub is_sign : TokenKind → Bool
is_sign tokens.LeftParen = true
is_sign tokens.RightParen = true
is_sign tokens.LeftBrace = true
is_sign tokens.RightBrace = true
is_sign tokens.PlusPlus = true
is_sign tokens.Star = true
is_sign tokens.Plus = true
is_sign tokens.Percent = true
is_sign tokens.LessThan = true
is_sign tokens.Semicolon = true
is_sign tokens.Equal = true
is_sign _ = false

abbrev pub is_name_token : TokenKind → Bool
is_name_token tokens.Name = true
is_name_token _ = false

abbrev pub is_name_kind : Kind → Bool
is_name_kind (kinds.Token kind) = is_name_token kind
is_name_kind _ = false

abbrev pub has_size : Option ℕ → ℕ → Bool
has_size None n = false
has_size (Some m) n = nat_eq m n

-- nothing that a number goes on with
abbrev pub ends_number : (b : ℕ) → Bool
ends_number b = not (nat_eq b 46) && (not (nat_eq b 43) && not (nat_eq b 45))

-- a piece before these bytes, the first of which has this class
abbrev pub fine : Bit → (class : ℕ) → (behind : List ℕ) → Bool
fine (Gap bytes) c behind = nat_lt 0 (length bytes) && (are_blanks bytes && not (nat_eq c 0))
fine (Key kind) c behind = is_key kind && (is_word_text (text kind) && ends_word c)
fine (Sign kind) c behind = is_sign kind && (is_sign_text (text kind) && has_size (first_size (text kind ++ behind) punctuators) (length (text kind)))
fine (Word bytes) c behind = is_word_text bytes && (is_name_kind (word_kind bytes) && ends_word c)
fine (Numeral bytes value) c behind = is_numeral_text bytes value && (ends_word c && ends_number (slice_index behind 0))
fine Nought c behind = ends_word c && ends_number (slice_index behind 0)
fine (Own i) c behind = ends_word c
fine (Index i) c behind = ends_word c && ends_number (slice_index behind 0)
fine Bound c behind = true

-- the class of the first byte of pieces, or of what follows them
abbrev pub class_behind : List Bit → (class : ℕ) → (rest : List ℕ) → ℕ
class_behind [] c rest = c
class_behind (Index i ∷ bits) c rest = 2
class_behind (b ∷ bits) c rest = class (slice_index (bytes_of b ++ (written bits ++ rest)) 0)

abbrev pub all_fine : List Bit → (class : ℕ) → (rest : List ℕ) → Bool
all_fine [] c rest = true
all_fine (b ∷ bits) c rest = fine b (class_behind bits c rest) (written bits ++ rest) && all_fine bits c rest

-- the numbers of functions are from 1 to 100
abbrev pub IsLow : Bit → Type 0
IsLow (Own i) = (0 < i) × (i ≤ 100)
IsLow (Index i) = (0 < i) × (i ≤ 100)
IsLow b = Unit {0}

abbrev pub AreLow : List Bit → Type 0
AreLow [] = Unit {0}
AreLow (Own i ∷ bits) = ((0 < i) × (i ≤ 100)) × AreLow bits
AreLow (Index i ∷ bits) = ((0 < i) × (i ≤ 100)) × AreLow bits
AreLow (b ∷ bits) = AreLow bits
