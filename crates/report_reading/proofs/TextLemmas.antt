-- A text is cut at its first line end, and a line is the text of its words.
use Rattle.std.proofs.Common.{◌≡◌, ℕ, ◌+◌, ◌^◌, ◌<◌, ◌==◌, ◌&&◌, not, List, [], ◌∷◌, ◌++◌, length, map, Bool, true, false, refl, sym, ap, ◌∙◌, arith, if◌then◌else◌}
use Rattle.std.proofs.lemmas.Bool.{false≢true}
use borrow.Author.Tests.{eqb-true}
use Rattle.std.proofs.lemmas.List.{append_assoc, length-append}
use Rattle.report_words.specs.Words.{Word, Line, spaced, line_text, lines_text}
use Rattle.report_words.specs.Splitting.{lacks, SplitsAt, lengthened, words_of}
use Rattle.report_rules.proofs.WordTestLemmas.{same_is}
use Rattle.report_reading.specs.Texts.{pieces, lines_of, is_blank, is_finished}
use Rattle.report_reading.specs.Sections.{has_tag, later_words, starts}
use Rattle.report_reading.specs.Reading.{at_of, IsNext}

and_first : (a b : Bool) → (a && b) ≡ true → a ≡ true
and_first true b e = refl
and_first false b e = e

and_second : (a b : Bool) → (a && b) ≡ true → b ≡ true
and_second true b e = e
and_second false b e = absurd (false≢true e)

pub pieces-more : (xs rest : List ℕ) → lacks 10 xs ≡ true → pieces (xs ++ 10 ∷ rest) ≡ xs ∷ pieces rest
pieces-more [] rest e = refl
pieces-more (b ∷ bs) rest e = by (b == 10) (and_first (not (b == 10)) (lacks 10 bs) e) (pieces-more bs rest (and_second (not (b == 10)) (lacks 10 bs) e))
  where
    by : (t : Bool) → not t ≡ true → pieces (bs ++ 10 ∷ rest) ≡ bs ∷ pieces rest → (if t then [] ∷ pieces (bs ++ 10 ∷ rest) else lengthened b (pieces (bs ++ 10 ∷ rest))) ≡ (b ∷ bs) ∷ pieces rest
    by true n is = absurd (false≢true n)
    by false n is = ap (lengthened b) is

pub pieces-one : (xs : List ℕ) → lacks 10 xs ≡ true → pieces xs ≡ xs ∷ []
pieces-one [] e = refl
pieces-one (b ∷ bs) e = by (b == 10) (and_first (not (b == 10)) (lacks 10 bs) e) (pieces-one bs (and_second (not (b == 10)) (lacks 10 bs) e))
  where
    by : (t : Bool) → not t ≡ true → pieces bs ≡ bs ∷ [] → (if t then [] ∷ pieces bs else lengthened b (pieces bs)) ≡ (b ∷ bs) ∷ []
    by true n is = absurd (false≢true n)
    by false n is = ap (lengthened b) is

-- the first line, and those of what stands behind it
pub lines_split : (text front rest : List ℕ) → SplitsAt 10 text front rest → lines_of text ≡ words_of front ∷ lines_of rest
lines_split text front rest s = ap lines_of s.split ∙ ap (map words_of) (pieces-more front rest s.lacking)

pub lines_one : (text : List ℕ) → lacks 10 text ≡ true → lines_of text ≡ words_of text ∷ []
lines_one text e = ap (map words_of) (pieces-one text e)

-- there is a piece and a word, even of an empty text

lengthened_some : (b : ℕ) (ws : List Word) → 0 < length (lengthened b ws)
lengthened_some b [] = omega arith
lengthened_some b (w ∷ ws) = omega arith

words_some : (bs : List ℕ) → 0 < length (words_of bs)
words_some [] = omega arith
words_some (b ∷ bs) = by (b == 32)
  where
    by : (t : Bool) → 0 < length (if t then [] ∷ words_of bs else lengthened b (words_of bs))
    by true = omega arith
    by false = lengthened_some b (words_of bs)

pieces_some : (bs : List ℕ) → 0 < length (pieces bs)
pieces_some [] = omega arith
pieces_some (b ∷ bs) = by (b == 10)
  where
    by : (t : Bool) → 0 < length (if t then [] ∷ pieces bs else lengthened b (pieces bs))
    by true = omega arith
    by false = lengthened_some b (pieces bs)

mapped_some : (xs : List (List ℕ)) → 0 < length xs → 0 < length (map words_of xs)
mapped_some [] lt = lt
mapped_some (x ∷ xs) lt = omega arith

pub lines_some : (text : List ℕ) → 0 < length (lines_of text)
lines_some text = mapped_some (pieces text) (pieces_some text)

-- the text of the words of a line

longer_line : (b : ℕ) (ws : List Word) → line_text (lengthened b ws) ≡ b ∷ line_text ws
longer_line b [] = refl
longer_line b (w ∷ ws) = refl

blank_line : (ws : List Word) → 0 < length ws → line_text ([] ∷ ws) ≡ 32 ∷ line_text ws
blank_line [] lt = absurd (omega arith)
blank_line (w ∷ ws) lt = ap (λ t. 32 ∷ t) (append_assoc w (spaced ws) (10 ∷ []))

pub words_text : (bs : List ℕ) → line_text (words_of bs) ≡ bs ++ 10 ∷ []
words_text [] = refl
words_text (b ∷ bs) = by (b == 32) refl (words_text bs)
  where
    by : (t : Bool) → (b == 32) ≡ t → line_text (words_of bs) ≡ bs ++ 10 ∷ [] → line_text (if t then [] ∷ words_of bs else lengthened b (words_of bs)) ≡ b ∷ (bs ++ 10 ∷ [])
    by true e rest = blank_line (words_of bs) (words_some bs) ∙ ap (λ t. 32 ∷ t) rest ∙ ap (λ c. c ∷ (bs ++ 10 ∷ [])) (sym (eqb-true b 32 e))
    by false e rest = longer_line b (words_of bs) ∙ ap (λ t. b ∷ t) rest

pub line_split : (text front rest : List ℕ) → SplitsAt 10 text front rest → text ≡ line_text (words_of front) ++ rest
line_split text front rest s = s.split ∙ sym (append_assoc front (10 ∷ []) rest) ∙ ap (λ t. t ++ rest) (sym (words_text front))

pub lines_text-snoc : (ls : List Line) (l : Line) (rest : List ℕ) → lines_text (ls ++ l ∷ []) ++ rest ≡ lines_text ls ++ (line_text l ++ rest)
lines_text-snoc [] l rest = append_assoc (line_text l) [] rest
lines_text-snoc (k ∷ ks) l rest =
    append_assoc (line_text k) (lines_text (ks ++ l ∷ [])) rest
    ∙ ap (λ t. line_text k ++ t) (lines_text-snoc ks l rest)
    ∙ sym (append_assoc (line_text k) (lines_text ks) (line_text l ++ rest))

pub lines_text-append : (ks ls : List Line) (rest : List ℕ) → lines_text (ks ++ ls) ++ rest ≡ lines_text ks ++ (lines_text ls ++ rest)
lines_text-append [] ls rest = refl
lines_text-append (k ∷ ks) ls rest =
    append_assoc (line_text k) (lines_text (ks ++ ls)) rest
    ∙ ap (λ t. line_text k ++ t) (lines_text-append ks ls rest)
    ∙ sym (append_assoc (line_text k) (lines_text ks) (lines_text ls ++ rest))

-- a line has its end at least
pub line_some : (l : Line) → 0 < length (line_text l)
line_some [] = omega arith
line_some (w ∷ ws) = omega (arith, length-append w (spaced ws ++ 10 ∷ []), length-append (spaced ws) (10 ∷ []))

-- the line at a place

pub unended : (tag : Word) (text : List ℕ) → lacks 10 text ≡ true → starts tag (lines_of text) ≡ false
unended tag text e = ap (starts tag) (lines_one text e)

starts_more : (tag : Word) (l : Line) (ls : List Line) → 0 < length ls → starts tag (l ∷ ls) ≡ has_tag tag l
starts_more tag l [] some = absurd (omega arith)
starts_more tag l (m ∷ ms) some = refl

pub other_line : (tag : Word) (text front rest : List ℕ) (words : List Word) → SplitsAt 10 text front rest → words ≡ words_of front → has_tag tag words ≡ false → starts tag (lines_of text) ≡ false
other_line tag text front rest words s is e =
    ap (starts tag) (lines_split text front rest s) ∙ starts_more tag (words_of front) (lines_of rest) (lines_some rest) ∙ ap (has_tag tag) (sym is) ∙ e

with_tag : (tag : Word) (ws : Line) → has_tag tag ws ≡ true → ws ≡ tag ∷ later_words ws
with_tag tag [] e = absurd (false≢true e)
with_tag tag (w ∷ ws) e = ap (λ v. v ∷ ws) (same_is w tag e)

pub next_is : (tag : Word) (n m : ℕ) (text front rest : List ℕ) (words : List Word) → SplitsAt 10 text front rest → words ≡ words_of front → has_tag tag words ≡ true → n + length text < 2 ^ 32 → m ≡ n + 1
    → IsNext tag (at_of n text) (later_words words) (at_of m rest)
next_is tag n m text front rest words s is e few next =
    let same = sym is ∙ with_tag tag words e in record {
      lines = lines_split text front rest s ∙ ap (λ l. l ∷ lines_of rest) same;
      text = line_split text front rest s ∙ ap (λ l. line_text l ++ rest) same;
      number = omega (arith, next);
      numbered = omega (arith, few, next, ap length s.split, length-append front (10 ∷ rest));
    }

-- a text with a byte isn't finished

blank_more : (ws : List Word) → 0 < length ws → is_blank ([] ∷ ws) ≡ false
blank_more [] lt = absurd (omega arith)
blank_more (w ∷ ws) lt = refl

longer_blank : (b : ℕ) (ws : List Word) → is_blank (lengthened b ws) ≡ false
longer_blank b [] = refl
longer_blank b (w ∷ ws) = refl

not_blank : (b : ℕ) (w : List ℕ) → is_blank (words_of (b ∷ w)) ≡ false
not_blank b w = by (b == 32)
  where
    by : (t : Bool) → is_blank (if t then [] ∷ words_of w else lengthened b (words_of w)) ≡ false
    by true = blank_more (words_of w) (words_some w)
    by false = longer_blank b (words_of w)

more_left : (l : Line) (ls : List Line) → 0 < length ls → is_finished (l ∷ ls) ≡ false
more_left l [] lt = absurd (omega arith)
more_left l (m ∷ ms) lt = refl

longer_left : (b : ℕ) (ps : List (List ℕ)) → is_finished (map words_of (lengthened b ps)) ≡ false
longer_left b [] = not_blank b []
longer_left b (p ∷ []) = not_blank b p
longer_left b (p ∷ q ∷ qs) = refl

byte_left : (b : ℕ) (bs : List ℕ) → is_finished (lines_of (b ∷ bs)) ≡ false
byte_left b bs = by (b == 10)
  where
    by : (t : Bool) → is_finished (map words_of (if t then [] ∷ pieces bs else lengthened b (pieces bs))) ≡ false
    by true = more_left (words_of []) (lines_of bs) (lines_some bs)
    by false = longer_left b (pieces bs)

pub unfinished : (text : List ℕ) → (text ≡ [] → ⊥) → is_finished (lines_of text) ≡ false
unfinished [] some = absurd (some refl)
unfinished (b ∷ bs) some = byte_left b bs
