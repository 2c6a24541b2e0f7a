-- The lines of a text: what stands up to each 0A, and behind the last of them, each cut into its words.
use Rattle.std.specs.Prelude.{ℕ, ◌==◌, List, [], ◌∷◌, Bool, true, false, map, if◌then◌else◌}
use Rattle.report_words.specs.Words.{Line}
use Rattle.report_words.specs.Splitting.{lengthened, words_of}

-- the pieces between the line ends; the last one has none
abbrev pub pieces : List ℕ → List (List ℕ)
pieces [] = [] ∷ []
pieces (b ∷ bs) = if b == 10 then [] ∷ pieces bs else lengthened b (pieces bs)

abbrev pub lines_of : List ℕ → List Line
lines_of text = map words_of (pieces text)

-- a line without a byte
abbrev pub is_blank : Line → Bool
is_blank [] = true
is_blank ([] ∷ []) = true
is_blank ((b ∷ bs) ∷ ws) = false
is_blank ([] ∷ w ∷ ws) = false

-- nothing stands behind the last line end
abbrev pub is_finished : List Line → Bool
is_finished [] = true
is_finished (l ∷ []) = is_blank l
is_finished (l ∷ m ∷ ls) = false
