-- The words of a sum: `0`, or terms with ascending addresses and a plus between them.
use Rattle.std.specs.Prelude.{◌≡◌, ℕ, ◌<◌, ◌≤◌, ◌^◌, ◌==◌, ◌&&◌, ℤ, pos, List, [], ◌∷◌, ◌++◌, length, Bool, true, false, nat_le, nat_lt, ◌||◌, if◌then◌else◌, All}
use Rattle.frac128.specs.Terms.{Terms}
use Rattle.frac128.specs.Sum.{address_at}
use Rattle.report_words.specs.Words.{Word}
use Rattle.report_words.specs.Numbers.{is_empty, number_of, address_of, is_term, term_number, term_address}
use Rattle.report_text.specs.Lines.{sum_words}
use Rattle.report_text.specs.Forms.{IsTerm}

abbrev pub is_byte : ℕ → Word → Bool
is_byte b [] = false
is_byte b (x ∷ xs) = (x == b) && is_empty xs

-- `<=`, `>=` or `=`
abbrev pub is_compare : Word → Bool
is_compare [] = false
is_compare (b ∷ bs) = if b == 61 then is_empty bs else (is_byte 61 bs && ((b == 60) || (b == 62)))

-- the address of a term, and the term that a word says
abbrev pub address_in : Word → ℕ
address_in w = address_of (term_address w)

abbrev pub term_in : Word → ℕ × ℤ
term_in w = (address_in w, pos (number_of (term_number w)))

-- a term whose number is from 1 to 2^32 - 1
abbrev pub is_term_in_range : Word → Bool
is_term_in_range w = nat_le 1 (number_of (term_number w)) && nat_lt (number_of (term_number w)) (2 ^ 32)

-- behind a term of that address: a plus and a term of a greater one, and so on
abbrev pub are_more_terms : ℕ → List Word → Bool
are_more_terms a [] = true
are_more_terms a (p ∷ []) = false
are_more_terms a (p ∷ w ∷ ws) = is_byte 43 p && (is_term w && (nat_lt a (address_in w) && are_more_terms (address_in w) ws))

abbrev pub are_more_in_range : List Word → Bool
are_more_in_range [] = true
are_more_in_range (p ∷ []) = true
are_more_in_range (p ∷ w ∷ ws) = is_term_in_range w && are_more_in_range ws

-- terms with a plus between them
abbrev pub are_terms : List Word → Bool
are_terms [] = false
are_terms (w ∷ ws) = is_term w && are_more_terms (address_in w) ws

abbrev pub are_terms_in_range : List Word → Bool
are_terms_in_range [] = true
are_terms_in_range (w ∷ ws) = is_term_in_range w && are_more_in_range ws

-- each address of the sum is at most that one, and there is a term
pub record EndsBy (ts : Terms) (a : ℕ) : Type 0 where
  pub some : 0 < length ts
  pub below : (i : ℕ) → i < length ts → address_at ts i ≤ a

-- the sum so far, and the words that are left behind a term of that address
pub record IsReadingSum (ts : Terms) (left all : List Word) : Type 0 where
  pub last : ℕ
  pub ends : EndsBy ts last
  pub form : are_more_terms last left ≡ true
  pub in_range : are_more_in_range left ≡ true
  pub terms : All IsTerm ts
  pub same : sum_words ts ++ left ≡ all

-- the words that are left are terms, and are in range where all are
pub record IsTestingSum (left all : List Word) : Type 0 where
  pub last : ℕ
  pub form : are_more_terms last left ≡ true
  pub same : are_more_in_range left ≡ are_more_in_range all
