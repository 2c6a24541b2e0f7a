-- The lines of a text, and the words of a line: what stands up to the first 0A, and what stands between blanks.
use Rattle.std.specs.Prelude.{◌≡◌, ℕ, ◌==◌, ◌&&◌, not, List, [], ◌∷◌, ◌++◌, Bool, true, if◌then◌else◌}
use Rattle.report_words.specs.Words.{Word, Line}

-- the byte stands nowhere in it
abbrev pub lacks : ℕ → List ℕ → Bool
lacks s [] = true
lacks s (b ∷ bs) = not (b == s) && lacks s bs

-- the text is the front, the byte, and the rest, and the front lacks the byte
pub record SplitsAt (s : ℕ) (text front rest : List ℕ) : Type 0 where
  pub split : text ≡ front ++ s ∷ rest
  pub lacking : lacks s front ≡ true

-- a byte in front of the first word
abbrev pub lengthened : ℕ → List Word → List Word
lengthened b [] = (b ∷ []) ∷ []
lengthened b (w ∷ ws) = (b ∷ w) ∷ ws

-- the words of a line without its end, that stand between blanks
abbrev pub words_of : List ℕ → Line
words_of [] = [] ∷ []
words_of (b ∷ bs) = if b == 32 then [] ∷ words_of bs else lengthened b (words_of bs)
