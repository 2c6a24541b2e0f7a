-- Tests of words that several rules share.
use Rattle.std.specs.Prelude.{◌≡◌, ℕ, zero, suc, ◌==◌, ◌&&◌, List, [], ◌∷◌, Bool, true, false, nat_le}
use Rattle.report_words.specs.Words.{Word}
use Rattle.report_words.specs.Numbers.{address_of}
use Rattle.report_lines.specs.LineLists.{are_addresses}

-- the word at a place from 0 on, and an empty one where there is none
abbrev pub word_at : ℕ → List Word → Word
word_at n [] = []
word_at zero (w ∷ ws) = w
word_at (suc n) (w ∷ ws) = word_at n ws

abbrev pub same_word : Word → Word → Bool
same_word [] [] = true
same_word [] (y ∷ ys) = false
same_word (x ∷ xs) [] = false
same_word (x ∷ xs) (y ∷ ys) = (x == y) && same_word xs ys

-- the address that the word at a place says
abbrev pub place_at : ℕ → List Word → ℕ
place_at n ws = address_of (word_at n ws)

-- no words
abbrev pub are_none : List Word → Bool
are_none [] = true
are_none (w ∷ ws) = false

-- the addresses ascend strictly from that one on
abbrev pub places_ascend : ℕ → List Word → Bool
places_ascend least [] = true
places_ascend least (w ∷ ws) = nat_le least (address_of w) && places_ascend (suc (address_of w)) ws

-- the words that are left are addresses, and ascend where all do
pub record IsTestingPlaces (least : ℕ) (left all : List Word) : Type 0 where
  pub form : are_addresses left ≡ true
  pub same : places_ascend least left ≡ places_ascend 0 all
