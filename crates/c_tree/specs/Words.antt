-- Words and punctuators (C11 6.4.1, 6.4.6).
use Rattle.std.specs.Prelude.{ℕ, List, [], ◌∷◌, ◌++◌, map, codes}
use Rattle.c_tree.specs.declared.token.TokenKind.{TokenKind}
use Rattle.c_tree.specs.declared.token.TokenKind.TheVariants as kinds

-- how a keyword or punctuator is written
abbrev pub text : TokenKind → List ℕ
text kinds.Break = codes "break"
text kinds.Case = codes "case"
text kinds.Char = codes "char"
text kinds.Const = codes "const"
text kinds.Continue = codes "continue"
text kinds.Default = codes "default"
text kinds.Do = codes "do"
text kinds.Else = codes "else"
text kinds.Extern = codes "extern"
text kinds.For = codes "for"
text kinds.If = codes "if"
text kinds.Inline = codes "inline"
text kinds.Int = codes "int"
text kinds.Long = codes "long"
text kinds.Return = codes "return"
text kinds.Short = codes "short"
text kinds.Signed = codes "signed"
text kinds.Static = codes "static"
text kinds.Switch = codes "switch"
text kinds.Unsigned = codes "unsigned"
text kinds.Void = codes "void"
text kinds.While = codes "while"
text kinds.LeftBracket = codes "["
text kinds.RightBracket = codes "]"
text kinds.LeftParen = codes "("
text kinds.RightParen = codes ")"
text kinds.LeftBrace = codes "{"
text kinds.RightBrace = codes "}"
text kinds.PlusPlus = codes "++"
text kinds.MinusMinus = codes "--"
text kinds.Ampersand = codes "&"
text kinds.Star = codes "*"
text kinds.Plus = codes "+"
text kinds.Minus = codes "-"
text kinds.Tilde = codes "~"
text kinds.Exclamation = codes "!"
text kinds.Slash = codes "/"
text kinds.Percent = codes "%"
text kinds.LessLess = codes "<<"
text kinds.GreaterGreater = codes ">>"
text kinds.LessThan = codes "<"
text kinds.GreaterThan = codes ">"
text kinds.LessEqual = codes "<="
text kinds.GreaterEqual = codes ">="
text kinds.EqualEqual = codes "=="
text kinds.ExclamationEqual = codes "!="
text kinds.Caret = codes "^"
text kinds.Bar = codes "|"
text kinds.AmpersandAmpersand = codes "&&"
text kinds.BarBar = codes "||"
text kinds.Question = codes "?"
text kinds.Colon = codes ":"
text kinds.Semicolon = codes ";"
text kinds.Equal = codes "="
text kinds.StarEqual = codes "*="
text kinds.SlashEqual = codes "/="
text kinds.PercentEqual = codes "%="
text kinds.PlusEqual = codes "+="
text kinds.MinusEqual = codes "-="
text kinds.LessLessEqual = codes "<<="
text kinds.GreaterGreaterEqual = codes ">>="
text kinds.AmpersandEqual = codes "&="
text kinds.CaretEqual = codes "^="
text kinds.BarEqual = codes "|="
text kinds.Comma = codes ","
text _ = []

-- the keywords that are tokens
abbrev pub keywords : List TokenKind
keywords =
    kinds.Break ∷ kinds.Case ∷ kinds.Char ∷ kinds.Const ∷ kinds.Continue ∷ kinds.Default ∷ kinds.Do ∷ kinds.Else
    ∷ kinds.Extern ∷ kinds.For ∷ kinds.If ∷ kinds.Inline ∷ kinds.Int ∷ kinds.Long ∷ kinds.Return ∷ kinds.Short
    ∷ kinds.Signed ∷ kinds.Static ∷ kinds.Switch ∷ kinds.Unsigned ∷ kinds.Void ∷ kinds.While ∷ []

-- the other keywords of C
abbrev pub outside_words : List (List ℕ)
outside_words =
    codes "auto" ∷ codes "double" ∷ codes "enum" ∷ codes "float" ∷ codes "goto" ∷ codes "register" ∷ codes "restrict"
    ∷ codes "sizeof" ∷ codes "struct" ∷ codes "typedef" ∷ codes "union" ∷ codes "volatile" ∷ codes "_Alignas"
    ∷ codes "_Alignof" ∷ codes "_Atomic" ∷ codes "_Bool" ∷ codes "_Complex" ∷ codes "_Generic" ∷ codes "_Imaginary"
    ∷ codes "_Noreturn" ∷ codes "_Static_assert" ∷ codes "_Thread_local" ∷ []

-- the words that are no names
abbrev pub reserved_words : List (List ℕ)
reserved_words = map text keywords ++ (outside_words ++ codes "_Pragma" ∷ [])
