-- What a piece counts as: white space, a comment, a dropped line or pragma, a token, or a token outside the language (C11 6.4, 6.10.4, 6.10.6).
use Rattle.std.specs.Prelude.{◌≡◌, ℕ, ◌-◌, ◌⊎◌, Bool, true, false, if◌then◌else◌, Option, Some, None, List, [], ◌∷◌, map, drop, codes, slice_index, slice_range}
use Rattle.std.specs.Str.{bytes_eq}
use Rattle.c_tree.specs.declared.token.TokenKind.{TokenKind}
use Rattle.c_tree.specs.declared.token.TokenKind.TheVariants as tokens
use Rattle.c_tree.specs.Bytes.{IsDigit, Stands}
use Rattle.c_tree.specs.Words.{text, keywords, outside_words}
use Rattle.c_tree.specs.Constants.{IsInteger, IsCharacter}
use Rattle.c_tree.specs.Pragmas.{behind_hash, first_word, string_text, without_return, IsPragmaWord}
use Rattle.c_lexer.specs.declared.pieces.Form.{Form}
use Rattle.c_lexer.specs.declared.pieces.Form.TheVariants as forms
use Rattle.c_lexer.specs.declared.pieces.Kind.{Kind}
use Rattle.c_lexer.specs.declared.pieces.Kind.TheVariants as kinds

-- texts and the kinds that they spell
abbrev pub Spellings : Type 0
Spellings = List (List ℕ × TokenKind)

abbrev pub spellings : List TokenKind → Spellings
spellings = map (λ kind. (text kind, kind))

-- the kind that is spelled so
abbrev pub find_kind : List ℕ → Spellings → Option TokenKind
find_kind bytes [] = None
find_kind bytes (row ∷ rows) = if bytes_eq bytes row.0 then Some row.1 else find_kind bytes rows

-- whether this is one of these texts
abbrev pub is_one : List ℕ → List (List ℕ) → Bool
is_one bytes [] = false
is_one bytes (other ∷ rest) = if bytes_eq bytes other then true else is_one bytes rest

-- the punctuators of the language
abbrev pub signs : List TokenKind
signs =
    tokens.LeftBracket ∷ tokens.RightBracket ∷ tokens.LeftParen ∷ tokens.RightParen ∷ tokens.LeftBrace ∷ tokens.RightBrace
    ∷ tokens.PlusPlus ∷ tokens.MinusMinus ∷ tokens.Ampersand ∷ tokens.Star ∷ tokens.Plus ∷ tokens.Minus ∷ tokens.Tilde
    ∷ tokens.Exclamation ∷ tokens.Slash ∷ tokens.Percent ∷ tokens.LessLess ∷ tokens.GreaterGreater ∷ tokens.LessThan
    ∷ tokens.GreaterThan ∷ tokens.LessEqual ∷ tokens.GreaterEqual ∷ tokens.EqualEqual ∷ tokens.ExclamationEqual
    ∷ tokens.Caret ∷ tokens.Bar ∷ tokens.AmpersandAmpersand ∷ tokens.BarBar ∷ tokens.Question ∷ tokens.Colon
    ∷ tokens.Semicolon ∷ tokens.Equal ∷ tokens.StarEqual ∷ tokens.SlashEqual ∷ tokens.PercentEqual ∷ tokens.PlusEqual
    ∷ tokens.MinusEqual ∷ tokens.LessLessEqual ∷ tokens.GreaterGreaterEqual ∷ tokens.AmpersandEqual ∷ tokens.CaretEqual
    ∷ tokens.BarEqual ∷ tokens.Comma ∷ []

abbrev pub token_or : Option TokenKind → Kind → Kind
token_or (Some kind) otherwise = kinds.Token kind
token_or None otherwise = otherwise

-- a keyword (C11 6.4.1), a name, or one of C's other keywords
abbrev pub word_kind : List ℕ → Kind
word_kind bytes = token_or (find_kind bytes (spellings keywords)) (if is_one bytes outside_words then kinds.Outside else kinds.Token tokens.Name)

abbrev pub sign_kind : List ℕ → Kind
sign_kind bytes = token_or (find_kind bytes (spellings signs)) kinds.Outside

-- what a pragma with this text is: those of other tools are dropped
abbrev pub pragma_kind : List ℕ → Kind
pragma_kind bytes =
    let word = first_word bytes in
    if bytes_eq word (codes "loopbound") then kinds.Token tokens.LoopBound
    else (if bytes_eq word (codes "marker") then kinds.Token tokens.Marker
    else (if bytes_eq word (codes "flowrestriction") then kinds.Token tokens.FlowRestriction else kinds.Dropped))

-- an empty directive or a line marker: nothing stands behind its number sign and blanks, or a digit or `line`
abbrev pub IsMarker : List ℕ → Type 0
IsMarker line = (line ≡ []) ⊎ (IsDigit (slice_index line 0) ⊎ Stands line 0 (codes "line"))

-- what a directive is by the line behind its number sign and blanks
abbrev pub IsLineKind : Kind → List ℕ → Type 0
IsLineKind kind line =
    (IsPragmaWord line × (kind ≡ pragma_kind (without_return (drop 6 line))))
    ⊎ ((IsMarker line × (kind ≡ kinds.Dropped))
    ⊎ ((IsPragmaWord line → ⊥) × (IsMarker line → ⊥) × (kind ≡ kinds.Outside)))

-- the kind of a piece of this form
abbrev pub IsKind : Form → Kind → List ℕ → (at end : ℕ) → Type 0
IsKind forms.Blank kind source at end = kind ≡ kinds.Blank
IsKind forms.Comment kind source at end = kind ≡ kinds.Comment
IsKind forms.Directive kind source at end = IsLineKind kind (behind_hash source at end)
IsKind forms.Operator kind source at end = kind ≡ pragma_kind (string_text source at)
IsKind forms.Word kind source at end = kind ≡ word_kind (slice_range source at end)
IsKind forms.Number kind source at end = (IsInteger source at end × (kind ≡ kinds.Token tokens.Number)) ⊎ ((IsInteger source at end → ⊥) × (kind ≡ kinds.Outside))
IsKind forms.Character kind source at end = (IsCharacter source at (end - 1) × (kind ≡ kinds.Token tokens.Character)) ⊎ ((IsCharacter source at (end - 1) → ⊥) × (kind ≡ kinds.Outside))
IsKind forms.String kind source at end = kind ≡ kinds.Outside
IsKind forms.PrefixedQuote kind source at end = kind ≡ kinds.Outside
IsKind forms.Punctuator kind source at end = kind ≡ sign_kind (slice_range source at end)
