-- Spellings whose constants are words.
use Rattle.std.specs.Prelude.{◌<◌, ◌^◌, List, [], ◌∷◌}
use Rattle.c_tree.specs.Said.{Lexeme, Plain, Name, Integer, Character, Pragma}
use Rattle.c_tree.specs.Spelling.{Mark, mark_said}

-- what a token says, where it is a constant, is a word
abbrev pub LexemeWords : Lexeme → Type 0
LexemeWords (Plain kind) = Unit {0}
LexemeWords (Name bytes) = Unit {0}
LexemeWords (Integer constant) = constant.value < 2 ^ 32
LexemeWords (Character value) = value < 2 ^ 32
LexemeWords (Pragma kind bytes) = Unit {0}

abbrev pub MarksWords : List Mark → Type 0
MarksWords [] = Unit {0}
MarksWords (mark ∷ marks) = LexemeWords (mark_said mark) × MarksWords marks
