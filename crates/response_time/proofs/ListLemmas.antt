-- A list is read line by line: the text is the lines of the tasks so far, and what is left.
use Rattle.std.proofs.Common.{◌≡◌, ℕ, suc, ◌+◌, ◌<◌, ◌≤◌, ◌⊎◌, arith, refl, sym, ap, ◌∙◌, subst, inl, inr, List, [], ◌∷◌, ◌++◌, length, map, get_or, take, append_assoc, append-nil, Bool, true, false}
use Rattle.std.specs.Prelude.{◌==◌, if◌then◌else◌}
use Rattle.std.proofs.lemmas.Bool.{cases_eq, eqb-true}
use Rattle.std.proofs.lemmas.List.{get_or_append_left, get_or_push, length_push, take-append-le, take_at, map_push, length-map, nil_from_length}
use Rattle.std.proofs.lemmas.List.Elements.{All-nil, All-push}
use Rattle.report_words.specs.Words.{Word, Line, spaced, line_text, lines_text}
use Rattle.report_words.specs.Splitting.{lacks, SplitsAt, lengthened, words_of}
use Rattle.response_time.specs.declared.entry.Entry.{Entry}
use Rattle.response_time.specs.declared.fault.ListFault.{ListFault}
use Rattle.response_time.specs.declared.fault.ListFault.TheVariants as faults
use Rattle.response_time.specs.Entries.{task_line, IsEntry, names_of, is_among, AreDistinct, AreEntries}
use Rattle.response_time.specs.Forms.{Says, IsLineFault}
use Rattle.response_time.specs.Lists.{IsList, FailsAt, IsFault}
use Rattle.response_time.specs.Listing.{IsListing}

-- ---- texts

lengthened_some : (b : ℕ) (ws : List Word) → 0 < length (lengthened b ws)
lengthened_some b [] = omega arith
lengthened_some b (w ∷ ws) = omega arith

words_some : (bs : List ℕ) → 0 < length (words_of bs)
words_some [] = omega arith
words_some (b ∷ bs) = by (b == 32)
  where
    by : (t : Bool) → 0 < length (if t then [] ∷ words_of bs else lengthened b (words_of bs))
    by true = omega arith
    by false = lengthened_some b (words_of bs)

longer_line : (b : ℕ) (ws : List Word) → line_text (lengthened b ws) ≡ b ∷ line_text ws
longer_line b [] = refl
longer_line b (w ∷ ws) = refl

blank_line : (ws : List Word) → 0 < length ws → line_text ([] ∷ ws) ≡ 32 ∷ line_text ws
blank_line [] lt = absurd (omega arith)
blank_line (w ∷ ws) lt = ap (λ t. 32 ∷ t) (append_assoc w (spaced ws) (10 ∷ []))

-- the text of a line's words is the line with its end
words_text : (bs : List ℕ) → line_text (words_of bs) ≡ bs ++ 10 ∷ []
words_text [] = refl
words_text (b ∷ bs) = by (b == 32) refl (words_text bs)
  where
    by : (t : Bool) → (b == 32) ≡ t → line_text (words_of bs) ≡ bs ++ 10 ∷ [] → line_text (if t then [] ∷ words_of bs else lengthened b (words_of bs)) ≡ b ∷ (bs ++ 10 ∷ [])
    by true e rest = blank_line (words_of bs) (words_some bs) ∙ ap (λ t. 32 ∷ t) rest ∙ ap (λ c. c ∷ (bs ++ 10 ∷ [])) (sym (eqb-true b 32 e))
    by false e rest = longer_line b (words_of bs) ∙ ap (λ t. b ∷ t) rest

lines_push : (ls : List Line) (l : Line) → lines_text (ls ++ l ∷ []) ≡ lines_text ls ++ line_text l
lines_push [] l = append-nil (line_text l)
lines_push (m ∷ ls) l = ap (λ t. line_text m ++ t) (lines_push ls l) ∙ sym (append_assoc (line_text m) (lines_text ls) (line_text l))

-- what is left, as a line and what stands behind it
line_split : (rest line behind : List ℕ) (e : Entry) → SplitsAt 10 rest line behind → task_line e ≡ words_of line → rest ≡ line_text (task_line e) ++ behind
line_split rest line behind e splits is =
    splits.split
    ∙ sym (append_assoc line (10 ∷ []) behind)
    ∙ ap (λ t. t ++ behind) (sym (ap line_text is ∙ words_text line))

-- ---- names

distinct_push : (names : List Word) (name : Word) → AreDistinct names → is_among names name ≡ false → AreDistinct (names ++ name ∷ [])
distinct_push names name distinct other = λ k less. elim (cases_eq k (length names)) [
  | inl last ↦
      at k (take_at names (name ∷ []) k (sym last)) (get_or_push names name [] k (sym last))
  | inr before ↦
      let lower : k < length names = omega (arith, less, before, length_push names name) in
      earlier k lower (take-append-le k names (name ∷ []) (omega (arith, lower))) (get_or_append_left names (name ∷ []) [] k lower)
]
  where
    at : (k : ℕ) → take k (names ++ name ∷ []) ≡ names → get_or (names ++ name ∷ []) k [] ≡ name → is_among (take k (names ++ name ∷ [])) (get_or (names ++ name ∷ []) k []) ≡ false
    at k front here = ap (λ ns. is_among ns (get_or (names ++ name ∷ []) k [])) front ∙ ap (is_among names) here ∙ other

    earlier : (k : ℕ) → k < length names → take k (names ++ name ∷ []) ≡ take k names → get_or (names ++ name ∷ []) k [] ≡ get_or names k [] → is_among (take k (names ++ name ∷ [])) (get_or (names ++ name ∷ []) k []) ≡ false
    earlier k lower front here = ap (λ ns. is_among ns (get_or (names ++ name ∷ []) k [])) front ∙ ap (is_among (take k names)) here ∙ distinct k lower

names_push : (es : List Entry) (e : Entry) → names_of (es ++ e ∷ []) ≡ names_of es ++ e.name ∷ []
names_push es e = map_push (λ (e : Entry). e.name) es e

pub names_long : (es : List Entry) → length (names_of es) ≡ length es
names_long es = length-map es (λ (e : Entry). e.name)

entries_push : (es : List Entry) (e : Entry) → AreEntries es → IsEntry e → is_among (names_of es) e.name ≡ false → AreEntries (es ++ e ∷ [])
entries_push es e are entry other = record {
  each = All-push IsEntry es e are.each entry;
  distinct = subst AreDistinct (sym (names_push es e)) (distinct_push (names_of es) e.name are.distinct other);
}

-- ---- steps

pub listing_begins : (text : List ℕ) → IsListing text [] text
listing_begins text = record {
  lines = refl;
  entries = record { each = All-nil IsEntry; distinct = λ k less. absurd (omega (arith, less)) };
  few = omega arith;
}

pub listing_more : (text : List ℕ) (es : List Entry) (rest line behind : List ℕ) (e : Entry) → IsListing text es rest → SplitsAt 10 rest line behind → length es < 64 → Says (names_of es) (words_of line) e → IsListing text (es ++ e ∷ []) behind
listing_more text es rest line behind e l splits few says = record {
  lines =
      l.lines
      ∙ ap (λ t. lines_text (map task_line es) ++ t) (line_split rest line behind e splits says.line_is)
      ∙ sym (append_assoc (lines_text (map task_line es)) (line_text (task_line e)) behind)
      ∙ ap (λ t. t ++ behind) (sym (lines_push (map task_line es) (task_line e)))
      ∙ ap (λ ls. lines_text ls ++ behind) (sym (map_push task_line es e));
  entries = entries_push es e l.entries says.entry says.other;
  few = omega (arith, few, length_push es e);
}

pub list_ends : (text : List ℕ) (es : List Entry) (rest : List ℕ) → IsListing text es rest → length rest ≡ 0 → 0 < length es → IsList text es
list_ends text es rest l nothing some = record {
  lines = l.lines ∙ ap (λ t. lines_text (map task_line es) ++ t) (nil_from_length rest nothing) ∙ append-nil (lines_text (map task_line es));
  entries = l.entries;
  some = some;
  few = l.few;
}

-- ---- faults

number_is : (es : List Entry) (n : ℕ) → n ≡ length es + 1 → n ≡ suc (length (names_of es))
number_is es n e = let long = names_long es in omega (arith, e, long)

unended : (text : List ℕ) (es : List Entry) (rest : List ℕ) → IsListing text es rest → lacks 10 rest ≡ true → (0 < length rest) ⊎ (length es ≡ 0) → FailsAt text (faults.Line (length es + 1))
unended text es rest l lacking how = record {
  entries = es;
  rest = rest;
  lines = l.lines;
  are = l.entries;
  stops = (number_is es (length es + 1) refl, inl (record { lacking = lacking; left = left how }));
}
  where
    left : (0 < length rest) ⊎ (length es ≡ 0) → (0 < length rest) ⊎ (length (names_of es) ≡ 0)
    left (inl some) = inl some
    left (inr none) = let long = names_long es in inr (omega (arith, none, long))

pub fails_unended : (text : List ℕ) (es : List Entry) (rest : List ℕ) (fault : ListFault) → IsListing text es rest → lacks 10 rest ≡ true → (0 < length rest) ⊎ (length es ≡ 0) → fault ≡ faults.Line (length es + 1) → IsFault text fault
fails_unended text es rest fault l lacking how e = subst (λ f. IsFault text f) (sym e) (unended text es rest l lacking how)

over : (text : List ℕ) (es : List Entry) (rest line behind : List ℕ) → IsListing text es rest → SplitsAt 10 rest line behind → 64 ≤ length es → FailsAt text (faults.Line (length es + 1))
over text es rest line behind l splits many = record {
  entries = es;
  rest = rest;
  lines = l.lines;
  are = l.entries;
  stops = (number_is es (length es + 1) refl, inr (record { line = line; behind = behind; splits = splits; wrong = inl (let long = names_long es in omega (arith, many, long)) }));
}

pub fails_over : (text : List ℕ) (es : List Entry) (rest line behind : List ℕ) (fault : ListFault) → IsListing text es rest → SplitsAt 10 rest line behind → 64 ≤ length es → fault ≡ faults.Line (length es + 1) → IsFault text fault
fails_over text es rest line behind fault l splits many e = subst (λ f. IsFault text f) (sym e) (over text es rest line behind l splits many)

pub fails_line : (text : List ℕ) (es : List Entry) (rest line behind : List ℕ) (fault : ListFault) → IsListing text es rest → SplitsAt 10 rest line behind → length es < 64 → IsLineFault (names_of es) (words_of line) fault → IsFault text fault
fails_line text es rest line behind (faults.Line n) l splits few is = record {
  entries = es;
  rest = rest;
  lines = l.lines;
  are = l.entries;
  stops = (is.0, inr (record { line = line; behind = behind; splits = splits; wrong = inr is.1 }));
}
fails_line text es rest line behind (faults.Number n) l splits few is = record {
  entries = es;
  rest = rest;
  lines = l.lines;
  are = l.entries;
  stops = (is.0, record { line = line; behind = behind; splits = splits; few = (let long = names_long es in omega (arith, few, long)); form = is.1; out = is.2 });
}
fails_line text es rest line behind faults.Memory l splits few is = tt
