-- A line of plain words is read as these words, and the words that are written are plain.
use Rattle.std.proofs.Common.{◌≡◌, ℕ, suc, ◌+◌, ◌^◌, ◌<◌, ◌==◌, ◌&&◌, ◌||◌, not, ℤ, pos, negsuc, unsigned_abs, List, [], ◌∷◌, ◌++◌, length, map, Bool, true, false, refl, sym, ap, ◌∙◌, arith, nat_le, ◌⊎◌, inl, inr, ⊎_elim}
use Rattle.std.proofs.lemmas.Bool.{false≢true}
use Rattle.std.proofs.lemmas.List.{append_assoc, append-nil}
use Rattle.std.specs.Fmt.{decimal, signed_decimal}
use Rattle.std.specs.Str.{all_ascii_digits}
use Rattle.std.specs.Char.{is_ascii_digit}
use borrow.Author.Tests.{ne_eqb, leb-true, eqb-true}
use Rattle.report_words.specs.Words.{Word, address_word, term_word, is_letter, is_name_byte, are_name_bytes, is_name, spaced, line_text}
use Rattle.report_words.specs.Splitting.{lacks, words_of}
use Rattle.report_words.specs.Numbers.{is_hex_digit, are_hex_digits}
use Rattle.report_words.proofs.NumberLemmas.{digits-decimal}
use Rattle.report_words.proofs.WordLemmas.{is_address-address_word}
use Rattle.report_words.proofs.ScanLemmas.{words_of-one, words_of-more}
use Rattle.report_reading.specs.Texts.{lines_of}
use Rattle.report_reading.specs.Plain.{IsPlain, ArePlain}
use Rattle.report_reading.proofs.TextLemmas.{pieces-more}

and_first : (a b : Bool) → (a && b) ≡ true → a ≡ true
and_first true b e = refl
and_first false b e = e

and_second : (a b : Bool) → (a && b) ≡ true → b ≡ true
and_second true b e = e
and_second false b e = absurd (false≢true e)

-- a line is read as its words

joined : Word → List Word → List ℕ
joined w ws = w ++ spaced ws

lacks-append : (s : ℕ) (xs ys : List ℕ) → lacks s xs ≡ true → lacks s ys ≡ true → lacks s (xs ++ ys) ≡ true
lacks-append s [] ys e f = f
lacks-append s (x ∷ xs) ys e f = rw (and_first (not (x == s)) (lacks s xs) e) (lacks-append s xs ys (and_second (not (x == s)) (lacks s xs) e) f)

spaced_unended : (ws : List Word) → ArePlain ws → lacks 10 (spaced ws) ≡ true
spaced_unended [] p = refl
spaced_unended (w ∷ ws) p = lacks-append 10 w (spaced ws) p.0.unended (spaced_unended ws p.1)

words_joined : (w : Word) (ws : List Word) → IsPlain w → ArePlain ws → words_of (w ++ spaced ws) ≡ w ∷ ws
words_joined w [] p q = ap words_of (append-nil w) ∙ words_of-one w p.unspaced
words_joined w (v ∷ vs) p q = words_of-more w (v ++ spaced vs) p.unspaced ∙ ap (λ l. w ∷ l) (words_joined v vs q.0 q.1)

pub line_read_back : (w : Word) (ws : List Word) (rest : List ℕ) → IsPlain w → ArePlain ws → lines_of (line_text (w ∷ ws) ++ rest) ≡ (w ∷ ws) ∷ lines_of rest
line_read_back w ws rest p q =
    ap lines_of (append_assoc w (spaced ws ++ 10 ∷ []) rest ∙ ap (λ t. w ++ t) (append_assoc (spaced ws) (10 ∷ []) rest) ∙ sym (append_assoc w (spaced ws) (10 ∷ rest)))
    ∙ ap (map words_of) (pieces-more (w ++ spaced ws) rest (lacks-append 10 w (spaced ws) p.unended (spaced_unended ws q)))
    ∙ ap (λ l. l ∷ lines_of rest) (words_joined w ws p q)

-- the bytes of the words that are written are above those of blanks and line ends

or_cases : (x y : Bool) → (x || y) ≡ true → (x ≡ true) ⊎ (y ≡ true)
or_cases true y e = inl refl
or_cases false y e = inr e

above_first : (s b low high : ℕ) → s < low → (nat_le low b && nat_le b high) ≡ true → s < b
above_first s b low high small e = let le = leb-true low b (and_first (nat_le low b) (nat_le b high) e) in omega (arith, small, le)

hex_above : (s b : ℕ) → s < 48 → is_hex_digit b ≡ true → s < b
hex_above s b small e = ⊎_elim (above_first s b 48 57 small) (above_first s b 97 102 (omega (arith, small))) (or_cases (is_ascii_digit b) (nat_le 97 b && nat_le b 102) e)

letter_above : (s b : ℕ) → s < 48 → is_letter b ≡ true → s < b
letter_above s b small e =
    ⊎_elim (above_first s b 97 122 (omega (arith, small)))
    (λ f. ⊎_elim (above_first s b 65 90 (omega (arith, small))) (λ g. let is = eqb-true b 95 g in omega (arith, small, is)) (or_cases (nat_le 65 b && nat_le b 90) (b == 95) f))
    (or_cases (nat_le 97 b && nat_le b 122) ((nat_le 65 b && nat_le b 90) || (b == 95)) e)

name_above : (s b : ℕ) → s < 48 → is_name_byte b ≡ true → s < b
name_above s b small e = ⊎_elim (letter_above s b small) (above_first s b 48 57 small) (or_cases (is_letter b) (nat_le 48 b && nat_le b 57) e)

-- the words that are written are plain

other : (b s : ℕ) → s < b → not (b == s) ≡ true
other b s lt = ap not (ne_eqb b s (λ e. omega (arith, lt, e)))

digits_lack : (s : ℕ) (ds : List ℕ) → s < 48 → all_ascii_digits ds ≡ true → lacks s ds ≡ true
digits_lack s [] small e = refl
digits_lack s (d ∷ ds) small e = rw (other d s (above_first s d 48 57 small (and_first (is_ascii_digit d) (all_ascii_digits ds) e))) (digits_lack s ds small (and_second (is_ascii_digit d) (all_ascii_digits ds) e))

pub decimal_plain : (n : ℕ) → n < 10 ^ 64 → IsPlain (decimal n)
decimal_plain n small = record { unspaced = digits_lack 32 (decimal n) (omega arith) (digits-decimal n small); unended = digits_lack 10 (decimal n) (omega arith) (digits-decimal n small) }

pub signed_plain : (z : ℤ) → unsigned_abs z < 10 ^ 64 → IsPlain (signed_decimal z)
signed_plain (pos n) small = decimal_plain n small
signed_plain (negsuc n) small = let p = decimal_plain (suc n) small in record { unspaced = p.unspaced; unended = p.unended }

hex_lack : (s : ℕ) (ds : List ℕ) → s < 48 → are_hex_digits ds ≡ true → lacks s ds ≡ true
hex_lack s [] small e = refl
hex_lack s (d ∷ ds) small e = rw (other d s (digit_above d (and_first (is_hex_digit d) (are_hex_digits ds) e))) (hex_lack s ds small (and_second (is_hex_digit d) (are_hex_digits ds) e))
  where
    digit_above : (b : ℕ) → is_hex_digit b ≡ true → s < b
    digit_above b e = hex_above s b small e

pub address_plain : (a : ℕ) → IsPlain (address_word a)
address_plain a = let e = and_second (length (address_word a) == 8) (are_hex_digits (address_word a)) (is_address-address_word a) in record { unspaced = hex_lack 32 (address_word a) (omega arith) e; unended = hex_lack 10 (address_word a) (omega arith) e }

names_lack : (s : ℕ) (bs : List ℕ) → s < 48 → are_name_bytes bs ≡ true → lacks s bs ≡ true
names_lack s [] small e = refl
names_lack s (b ∷ bs) small e = rw (other b s (above b (and_first (is_name_byte b) (are_name_bytes bs) e))) (names_lack s bs small (and_second (is_name_byte b) (are_name_bytes bs) e))
  where
    above : (c : ℕ) → is_name_byte c ≡ true → s < c
    above c e = name_above s c small e

name_bytes : (w : Word) → is_name w ≡ true → are_name_bytes w ≡ true
name_bytes [] e = refl
name_bytes (b ∷ bs) e = rw (letter_byte (is_letter b) (nat_le 48 b && nat_le b 57) (and_first (is_letter b) (are_name_bytes bs) e)) (and_second (is_letter b) (are_name_bytes bs) e)
  where
    letter_byte : (x y : Bool) → x ≡ true → (x || y) ≡ true
    letter_byte true y e = refl
    letter_byte false y e = absurd (false≢true e)

pub name_plain : (w : Word) → is_name w ≡ true → IsPlain w
name_plain w e = record { unspaced = names_lack 32 w (omega arith) (name_bytes w e); unended = names_lack 10 w (omega arith) (name_bytes w e) }

pub term_plain : (t : ℕ × ℤ) → unsigned_abs t.1 < 10 ^ 64 → IsPlain (term_word t)
term_plain t small = let p = signed_plain t.1 small in let q = address_plain t.0 in record {
  unspaced = lacks-append 32 (signed_decimal t.1) (42 ∷ address_word t.0) p.unspaced q.unspaced;
  unended = lacks-append 10 (signed_decimal t.1) (42 ∷ address_word t.0) p.unended q.unended;
}
