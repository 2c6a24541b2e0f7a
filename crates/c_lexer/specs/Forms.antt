-- The forms of the pieces of a source: white space, comments, directives and preprocessing tokens (C11 6.4, 6.10).
use Rattle.std.specs.Prelude.{◌≡◌, ◌≢◌, ◌==◌, ◌&&◌, not, Bool, true, false, ℕ, zero, suc, ◌+◌, ◌-◌, ◌<◌, ◌≤◌, ◌⊎◌, List, [], ◌∷◌, length, take, codes, slice_index, Option, Some, None, if◌then◌else◌}
use Rattle.std.specs.Str.{bytes_eq}
use Rattle.c_tree.specs.Bytes.{IsDigit, IsLetter, IsNameByte, IsBlankByte, Each, Stands, Spans, SpansOne}
use Rattle.c_tree.specs.Pragmas.{IsOperator}
use Rattle.c_lexer.specs.declared.pieces.Form.{Form}
use Rattle.c_lexer.specs.declared.pieces.Form.TheVariants as forms
use Rattle.c_lexer.specs.Bytes.{IsSign, IsExponent, IsOnLine, EndsBefore}
use Rattle.c_lexer.specs.Comments.{IsComment}

-- a whole word (C11 6.4.2.1), which isn't the pragma operator
pub record IsWord (source : List ℕ) (at end : ℕ) : Type 0 where
  pub first : IsLetter (slice_index source at)
  pub word : Each IsNameByte source at end
  pub whole : EndsBefore IsNameByte source end
  pub other : Spans source at end (codes "_Pragma") → ⊥

-- what a number may go on with: a letter, a digit, a point, or a sign behind the letter of an exponent
abbrev pub GoesOn : List ℕ → ℕ → Type 0
GoesOn source i = IsNameByte (slice_index source i) ⊎ ((slice_index source i ≡ 46) ⊎ (IsSign (slice_index source i) × IsExponent (slice_index source (i - 1))))

-- a preprocessing number begins with a digit, or with a point and a digit
abbrev pub BeginsNumber : List ℕ → (at end : ℕ) → Type 0
BeginsNumber source at end = IsDigit (slice_index source at) ⊎ ((slice_index source at ≡ 46) × IsDigit (slice_index source (at + 1)) × (at + 1 < end))

-- a preprocessing number (C11 6.4.8)
pub record IsNumber (source : List ℕ) (at end : ℕ) : Type 0 where
  pub first : BeginsNumber source at end
  pub goes_on : (i : ℕ) → at < i → i < end → GoesOn source i

-- whether the byte that stands so far behind a place is taken by a backslash before it that isn't taken itself
abbrev pub is_taken : List ℕ → (from : ℕ) → (behind : ℕ) → Bool
is_taken source from zero = false
is_taken source from (suc n) = (slice_index source (from + n) == 92) && not (is_taken source from n)

-- from a quote through the next one that no backslash takes, on one line (C11 6.4.4.4, 6.4.5); `size` bytes stand between them
pub record IsQuoted (quote : ℕ) (source : List ℕ) (at end : ℕ) : Type 0 where
  pub opens : slice_index source at ≡ quote
  pub size : ℕ
  pub ends : end ≡ at + 1 + size + 1
  pub closes : slice_index source (at + 1 + size) ≡ quote
  pub free : is_taken source (at + 1) size ≡ false
  pub first : (n : ℕ) → n < size → slice_index source (at + 1 + n) ≡ quote → is_taken source (at + 1) n ≡ true
  pub line : (n : ℕ) → n < size → IsOnLine (slice_index source (at + 1 + n))

-- what makes the quote right behind it that of a wide or Unicode constant or string
abbrev pub prefixes : List (List ℕ)
prefixes = codes "L" ∷ codes "u" ∷ codes "U" ∷ codes "u8" ∷ []

-- such a prefix and the quote right behind it, wherever that ends (C11 6.4.4.4, 6.4.5)
pub record IsPrefixed (source : List ℕ) (at end : ℕ) : Type 0 where
  pub quote_at : ℕ
  pub prefix : SpansOne source at quote_at prefixes
  pub quote : (slice_index source quote_at ≡ 39) ⊎ (slice_index source quote_at ≡ 34)
  pub ends : end ≡ quote_at + 1

-- the punctuators of C, the longer ones first
abbrev pub punctuators : List (List ℕ)
punctuators =
    codes "%:%:" ∷ codes "..." ∷ codes "<<=" ∷ codes ">>=" ∷ codes "->" ∷ codes "++" ∷ codes "--" ∷ codes "<<" ∷ codes ">>"
    ∷ codes "<=" ∷ codes ">=" ∷ codes "==" ∷ codes "!=" ∷ codes "&&" ∷ codes "||" ∷ codes "*=" ∷ codes "/=" ∷ codes "%="
    ∷ codes "+=" ∷ codes "-=" ∷ codes "&=" ∷ codes "^=" ∷ codes "|=" ∷ codes "##" ∷ codes "<:" ∷ codes ":>" ∷ codes "<%"
    ∷ codes "%>" ∷ codes "%:" ∷ codes "[" ∷ codes "]" ∷ codes "(" ∷ codes ")" ∷ codes "{" ∷ codes "}" ∷ codes "." ∷ codes "&"
    ∷ codes "*" ∷ codes "+" ∷ codes "-" ∷ codes "~" ∷ codes "!" ∷ codes "/" ∷ codes "%" ∷ codes "<" ∷ codes ">" ∷ codes "^"
    ∷ codes "|" ∷ codes "?" ∷ codes ":" ∷ codes ";" ∷ codes "=" ∷ codes "," ∷ codes "#" ∷ []

-- how long the first of these texts is with which the bytes begin
abbrev pub first_size : List ℕ → List (List ℕ) → Option ℕ
first_size bytes [] = None
first_size bytes (text ∷ texts) = if bytes_eq text (take (length text) bytes) then Some (length text) else first_size bytes texts

-- a punctuator (C11 6.4.6); where a comment begins there is none, nor where a directive begins
pub record IsPunctuator (fresh : Bool) (source : List ℕ) (at end : ℕ) : Type 0 where
  pub text : SpansOne source at end punctuators
  pub no_comment : Stands source at (codes "/*") → ⊥
  pub no_directive : fresh ≡ true → slice_index source at ≢ 35

-- the rest of a line from a number sign on that is the first on it (C11 6.10)
pub record IsLine (fresh : Bool) (source : List ℕ) (at end : ℕ) : Type 0 where
  pub begins_line : fresh ≡ true
  pub hash : slice_index source at ≡ 35
  pub line : Each IsOnLine source at end
  pub whole : EndsBefore IsOnLine source end

-- the bytes of a piece have its form; `fresh` where nothing but blanks and comments stands before them on their line
abbrev pub HasForm : Form → (fresh : Bool) → List ℕ → (at end : ℕ) → Type 0
HasForm forms.Blank fresh source at end = Each IsBlankByte source at end
HasForm forms.Comment fresh source at end = IsComment source at end
HasForm forms.Directive fresh source at end = IsLine fresh source at end
HasForm forms.Operator fresh source at end = IsOperator source at end
HasForm forms.Word fresh source at end = IsWord source at end
HasForm forms.Number fresh source at end = IsNumber source at end
HasForm forms.Character fresh source at end = IsQuoted 39 source at end × (at + 2 < end)
HasForm forms.String fresh source at end = IsQuoted 34 source at end
HasForm forms.PrefixedQuote fresh source at end = IsPrefixed source at end
HasForm forms.Punctuator fresh source at end = IsPunctuator fresh source at end

pub record IsPiece (form : Form) (fresh : Bool) (source : List ℕ) (at end : ℕ) : Type 0 where
  pub some : at < end
  pub within : end ≤ length source
  pub has : HasForm form fresh source at end

-- a piece, and none that begins there is longer
pub record IsLongest (form : Form) (fresh : Bool) (source : List ℕ) (at end : ℕ) : Type 0 where
  pub piece : IsPiece form fresh source at end
  pub longest : (other : Form) (further : ℕ) → end < further → IsPiece other fresh source at further → ⊥

-- no piece begins there
abbrev pub NoPiece : (fresh : Bool) → List ℕ → ℕ → Type 0
NoPiece fresh source at = (form : Form) (end : ℕ) → IsPiece form fresh source at end → ⊥
