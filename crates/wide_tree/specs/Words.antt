-- How the keywords are written that wide C has beside those of the profile (C11 6.4.1).
use Rattle.std.specs.Prelude.{ℕ, List, [], ◌∷◌, map, Option, Some, None, if◌then◌else◌, codes}
use Rattle.std.specs.Str.{bytes_eq}
use Rattle.wide_tree.specs.declared.word.Word.{Word}
use Rattle.wide_tree.specs.declared.word.Word.TheVariants.{Alignof, Auto, Enum, Noreturn, Register, Sizeof, StaticAssert, Typedef, Volatile}

-- how a keyword is written
abbrev pub word_text : Word → List ℕ
word_text Alignof = codes "_Alignof"
word_text Auto = codes "auto"
word_text Enum = codes "enum"
word_text Noreturn = codes "_Noreturn"
word_text Register = codes "register"
word_text Sizeof = codes "sizeof"
word_text StaticAssert = codes "_Static_assert"
word_text Typedef = codes "typedef"
word_text Volatile = codes "volatile"

abbrev pub words : List Word
words = Alignof ∷ Auto ∷ Enum ∷ Noreturn ∷ Register ∷ Sizeof ∷ StaticAssert ∷ Typedef ∷ Volatile ∷ []

abbrev pub Spellings : Type 0
Spellings = List (List ℕ × Word)

-- the keywords with their texts
abbrev pub spellings : Spellings
spellings = map (λ word. (word_text word, word)) words

-- the keyword that is spelled so
abbrev pub find_word : List ℕ → Spellings → Option Word
find_word bytes [] = None
find_word bytes (row ∷ rows) = if bytes_eq bytes row.0 then Some row.1 else find_word bytes rows
