-- One text is one list of tasks, of which no line fails.
use Rattle.std.proofs.Common.{◌≡◌, ◌⊎◌, ℕ, ◌+◌, ◌<◌, ◌≤◌, ◌^◌, arith, refl, sym, ap, ◌∙◌, subst, ⊎_elim, List, [], ◌∷◌, ◌++◌, length, map, get_or, take, drop, All, length-append, append_assoc, append-nil, Bool, true, false}
use Rattle.std.specs.Prelude.{◌==◌, ◌&&◌, not, nat_le, codes}
use Rattle.std.specs.Fmt.{decimal}
use Rattle.std.specs.Str.{all_ascii_digits}
use Rattle.std.specs.Char.{is_ascii_digit}
use Rattle.std.proofs.lemmas.Bool.{and_parts, leb-true, false≢true}
use Rattle.std.proofs.Math.Seq.{take-append_seam, get_or-append_seam}
use Rattle.std.proofs.lemmas.List.Elements.{All-head, All-tail}
use Rattle.report_words.specs.Words.{Word, Line, is_letter, is_name_byte, are_name_bytes, is_name, line_text, lines_text}
use Rattle.report_words.specs.Splitting.{lacks, SplitsAt, words_of}
use Rattle.report_words.specs.Numbers.{number_of}
use Rattle.report_words.proofs.NumberLemmas.{digits-decimal, number_of-decimal, is_number-decimal}
use Rattle.report_words.proofs.ScanLemmas.{words_of-one, words_of-more}
use Rattle.response_time.specs.declared.entry.Entry.{Entry}
use Rattle.response_time.specs.declared.fault.ListFault.{ListFault}
use Rattle.response_time.specs.declared.fault.ListFault.TheVariants as faults
use Rattle.response_time.specs.Entries.{are_visible, is_file, task_line, IsEntry, names_of, is_among, AreEntries}
use Rattle.response_time.specs.Forms.{has_form, is_in_range}
use Rattle.response_time.specs.Lists.{IsList, IsUnended, IsMisformed, Stops, FailsAt}
use Rattle.response_time.proofs.ListLemmas.{names_long}

-- ---- bytes

unlike : (s b : ℕ) (rest : Bool) → s ≡ b → (not (b == s) && rest) ≡ true → ⊥
unlike s b rest e p = (let q = and_parts (not (b == s)) rest p in absurd (both (b == s) (same s b e) q.0))
  where
    same : (s b : ℕ) → s ≡ b → (b == s) ≡ true
    same s b e = grind (arith, e)

    both : (t : Bool) → t ≡ true → not t ≡ true → ⊥
    both true e f = cc
    both false e f = cc

-- what stands before the first of a byte is known
cut : (s : ℕ) (a b x y : List ℕ) → lacks s a ≡ true → lacks s b ≡ true → a ++ s ∷ x ≡ b ++ s ∷ y → (a ≡ b) × (x ≡ y)
cut s [] [] x y p q e = (refl, ap (drop 1) e)
cut s [] (c ∷ cs) x y p q e = absurd (unlike s c (lacks s cs) (ap (λ l. get_or l 0 0) e) q)
cut s (c ∷ cs) [] x y p q e = absurd (unlike s c (lacks s cs) (sym (ap (λ l. get_or l 0 0) e)) p)
cut s (c ∷ cs) (d ∷ ds) x y p q e =
    let head : c ≡ d = ap (λ l. get_or l 0 0) e in
    let rest = cut s cs ds x y (and_parts (not (c == s)) (lacks s cs) p).1 (and_parts (not (d == s)) (lacks s ds) q).1 (ap (drop 1) e) in
    (ap (λ b. b ∷ cs) head ∙ ap (λ bs. d ∷ bs) rest.0, rest.1)

lacks_both : (s : ℕ) (a b : List ℕ) → lacks s a ≡ true → lacks s b ≡ true → lacks s (a ++ b) ≡ true
lacks_both s [] b p q = q
lacks_both s (c ∷ cs) b p q =
    let parts = and_parts (not (c == s)) (lacks s cs) p in
    rw (parts.0, lacks_both s cs b parts.1 q) refl

-- a byte above those that end words and lines
above : (s b : ℕ) → s ≤ 32 → 33 ≤ b → not (b == s) ≡ true
above s b low high = grind (arith, low, high)

visible_lacks : (s : ℕ) (bs : List ℕ) → s ≤ 32 → are_visible bs ≡ true → lacks s bs ≡ true
visible_lacks s [] low e = refl
visible_lacks s (b ∷ bs) low e =
    let p = and_parts (nat_le 33 b && nat_le b 126) (are_visible bs) e in
    let q = and_parts (nat_le 33 b) (nat_le b 126) p.0 in
    rw (above s b low (leb-true 33 b q.0), visible_lacks s bs low p.1) refl

file_lacks : (s : ℕ) (w : Word) → s ≤ 32 → is_file w ≡ true → lacks s w ≡ true
file_lacks s [] low e = absurd cc
file_lacks s (b ∷ bs) low e = visible_lacks s (b ∷ bs) low e

letter_high : (b : ℕ) → is_letter b ≡ true → 33 ≤ b
letter_high b e = grind (arith, e)

name_byte_high : (b : ℕ) → is_name_byte b ≡ true → 33 ≤ b
name_byte_high b e = grind (arith, e)

name_bytes_lack : (s : ℕ) (bs : List ℕ) → s ≤ 32 → are_name_bytes bs ≡ true → lacks s bs ≡ true
name_bytes_lack s [] low e = refl
name_bytes_lack s (b ∷ bs) low e =
    let p = and_parts (is_name_byte b) (are_name_bytes bs) e in
    rw (above s b low (name_byte_high b p.0), name_bytes_lack s bs low p.1) refl

name_lacks : (s : ℕ) (w : Word) → s ≤ 32 → is_name w ≡ true → lacks s w ≡ true
name_lacks s [] low e = absurd cc
name_lacks s (b ∷ bs) low e =
    let p = and_parts (is_letter b) (are_name_bytes bs) e in
    rw (above s b low (letter_high b p.0), name_bytes_lack s bs low p.1) refl

digit_high : (b : ℕ) → is_ascii_digit b ≡ true → 33 ≤ b
digit_high b e = grind (arith, e)

digits_lack : (s : ℕ) (bs : List ℕ) → s ≤ 32 → all_ascii_digits bs ≡ true → lacks s bs ≡ true
digits_lack s [] low e = refl
digits_lack s (b ∷ bs) low e =
    let p = and_parts (is_ascii_digit b) (all_ascii_digits bs) e in
    rw (above s b low (digit_high b p.0), digits_lack s bs low p.1) refl

-- ---- the line of a task

short_period : (n : ℕ) → n ≤ 10 ^ 12 → n < 10 ^ 64
short_period n h = omega (arith, h)

period_lacks : (s n : ℕ) → s ≤ 32 → n ≤ 10 ^ 12 → lacks s (decimal n) ≡ true
period_lacks s n low h = digits_lack s (decimal n) low (digits-decimal n (short_period n h))

-- its bytes, without the end
abbrev joined : Entry → List ℕ
joined e = codes "task" ++ 32 ∷ (e.name ++ 32 ∷ (decimal e.period ++ 32 ∷ (e.image ++ 32 ∷ e.report)))

joined_text : (a b c d g rest : List ℕ) → (a ++ 32 ∷ (b ++ 32 ∷ (c ++ 32 ∷ (d ++ 32 ∷ g)))) ++ 10 ∷ rest ≡ (a ++ (32 ∷ (b ++ 32 ∷ (c ++ 32 ∷ (d ++ 32 ∷ (g ++ [])))) ++ 10 ∷ [])) ++ rest
joined_text a b c d g rest =
    append_assoc a (32 ∷ (b ++ 32 ∷ (c ++ 32 ∷ (d ++ 32 ∷ g)))) (10 ∷ rest)
    ∙ ap (λ x. a ++ 32 ∷ ((b ++ 32 ∷ (c ++ 32 ∷ (d ++ 32 ∷ x))) ++ 10 ∷ rest)) (sym (append-nil g))
    ∙ ap (λ t. a ++ t) (sym (append_assoc (32 ∷ (b ++ 32 ∷ (c ++ 32 ∷ (d ++ 32 ∷ (g ++ []))))) (10 ∷ []) rest))
    ∙ sym (append_assoc a ((32 ∷ (b ++ 32 ∷ (c ++ 32 ∷ (d ++ 32 ∷ (g ++ []))))) ++ 10 ∷ []) rest)

line_is : (e : Entry) (rest : List ℕ) → joined e ++ 10 ∷ rest ≡ line_text (task_line e) ++ rest
line_is e rest = joined_text (codes "task") e.name (decimal e.period) e.image e.report rest

joined_lacks : (e : Entry) → IsEntry e → lacks 10 (joined e) ≡ true
joined_lacks e is =
    let image = blank (e.image) e.report (file_lacks 10 e.image (omega arith) is.image_named) (file_lacks 10 e.report (omega arith) is.report_named) in
    let period = blank (decimal e.period) (e.image ++ 32 ∷ e.report) (period_lacks 10 e.period (omega arith) is.short) image in
    let name = blank e.name (decimal e.period ++ 32 ∷ (e.image ++ 32 ∷ e.report)) (name_lacks 10 e.name (omega arith) is.named) period in
    blank (codes "task") (e.name ++ 32 ∷ (decimal e.period ++ 32 ∷ (e.image ++ 32 ∷ e.report))) refl name
  where
    blank : (a b : List ℕ) → lacks 10 a ≡ true → lacks 10 b ≡ true → lacks 10 (a ++ 32 ∷ b) ≡ true
    blank a b p q = lacks_both 10 a (32 ∷ b) p q

joined_words : (e : Entry) → IsEntry e → words_of (joined e) ≡ task_line e
joined_words e is =
    words_of-more (codes "task") (e.name ++ 32 ∷ (decimal e.period ++ 32 ∷ (e.image ++ 32 ∷ e.report))) refl
    ∙ ap (λ ws. codes "task" ∷ ws) (words_of-more e.name (decimal e.period ++ 32 ∷ (e.image ++ 32 ∷ e.report)) (name_lacks 32 e.name (omega arith) is.named)
    ∙ ap (λ ws. e.name ∷ ws) (words_of-more (decimal e.period) (e.image ++ 32 ∷ e.report) (period_lacks 32 e.period (omega arith) is.short)
    ∙ ap (λ ws. decimal e.period ∷ ws) (words_of-more e.image e.report (file_lacks 32 e.image (omega arith) is.image_named)
    ∙ ap (λ ws. e.image ∷ ws) (words_of-one e.report (file_lacks 32 e.report (omega arith) is.report_named)))))

-- a line in front of a text is known
front : (e : Entry) (rest line behind : List ℕ) → IsEntry e → SplitsAt 10 (line_text (task_line e) ++ rest) line behind → (joined e ≡ line) × (rest ≡ behind)
front e rest line behind is splits = cut 10 (joined e) line rest behind (joined_lacks e is) splits.lacking (line_is e rest ∙ splits.split)

abbrev word_at : ℕ → Line → Word
word_at i line = get_or line i []

abbrev entry_of : Word → ℕ → Word → Word → Entry
entry_of name period image report = record { name = name; period = period; image = image; report = report }

same_entry : (e f : Entry) → IsEntry e → IsEntry f → task_line e ≡ task_line f → e ≡ f
same_entry e f is are same =
    let name : e.name ≡ f.name = ap (word_at 1) same in
    let written : decimal e.period ≡ decimal f.period = ap (word_at 2) same in
    let period : e.period ≡ f.period = sym (number_of-decimal e.period (short_period e.period is.short)) ∙ ap number_of written ∙ number_of-decimal f.period (short_period f.period are.short) in
    let image : e.image ≡ f.image = ap (word_at 3) same in
    let report : e.report ≡ f.report = ap (word_at 4) same in
    ap (λ x. entry_of x e.period e.image e.report) name
    ∙ ap (λ x. entry_of f.name x e.image e.report) period
    ∙ ap (λ x. entry_of f.name f.period x e.report) image
    ∙ ap (λ x. entry_of f.name f.period f.image x) report

-- ---- lists

-- the lines of some tasks stand in front of a list: they are its first tasks
pub record Begins (es fs : List Entry) (rest : List ℕ) : Type 0 where
  pub more : List Entry
  pub all : es ≡ fs ++ more
  pub left : rest ≡ lines_text (map task_line more)

pub begins : (es fs : List Entry) (rest : List ℕ) → All IsEntry es → All IsEntry fs → lines_text (map task_line es) ≡ lines_text (map task_line fs) ++ rest → Begins es fs rest
begins es [] rest are is e = record { more = es; all = refl; left = sym e }
begins [] (f ∷ fs) rest are is e =
    let some : [] ≡ joined f ++ 10 ∷ (lines_text (map task_line fs) ++ rest) = e ∙ append_assoc (line_text (task_line f)) (lines_text (map task_line fs)) rest ∙ sym (line_is f (lines_text (map task_line fs) ++ rest)) in
    absurd (nothing (joined f) (lines_text (map task_line fs) ++ rest) (ap length some))
  where
    nothing : (a b : List ℕ) → 0 ≡ length (a ++ 10 ∷ b) → ⊥
    nothing a b h = let long = length-append a (10 ∷ b) in absurd (omega (arith, h, long))
begins (e ∷ es) (f ∷ fs) rest are is same =
    let lines = lines_text (map task_line fs) ++ rest in
    let here : line_text (task_line e) ++ lines_text (map task_line es) ≡ line_text (task_line f) ++ lines = same ∙ append_assoc (line_text (task_line f)) (lines_text (map task_line fs)) rest in
    let entry = All-head IsEntry e es are in
    let other = All-head IsEntry f fs is in
    let parts = cut 10 (joined e) (joined f) (lines_text (map task_line es)) lines (joined_lacks e entry) (joined_lacks f other) (line_is e (lines_text (map task_line es)) ∙ here ∙ sym (line_is f lines)) in
    let one : e ≡ f = same_entry e f entry other (sym (joined_words e entry) ∙ ap words_of parts.0 ∙ joined_words f other) in
    let b = begins es fs rest (All-tail IsEntry e es are) (All-tail IsEntry f fs is) parts.1 in
    record { more = b.more; all = ap (λ x. x ∷ es) one ∙ ap (λ xs. f ∷ xs) b.all; left = b.left }

no_lines : (es : List Entry) → [] ≡ lines_text (map task_line es) → es ≡ []
no_lines [] e = refl
no_lines (f ∷ fs) e =
    let some : [] ≡ joined f ++ 10 ∷ lines_text (map task_line fs) = e ∙ sym (line_is f (lines_text (map task_line fs))) in
    absurd (nothing (joined f) (lines_text (map task_line fs)) (ap length some))
  where
    nothing : (a b : List ℕ) → 0 ≡ length (a ++ 10 ∷ b) → ⊥
    nothing a b h = let long = length-append a (10 ∷ b) in absurd (omega (arith, h, long))

pub one_list : (text : List ℕ) (es fs : List Entry) → IsList text es → IsList text fs → es ≡ fs
one_list text es fs p q =
    let b = begins es fs [] p.entries.each q.entries.each (sym p.lines ∙ q.lines ∙ sym (append-nil (lines_text (map task_line fs)))) in
    b.all ∙ ap (λ xs. fs ++ xs) (no_lines b.more b.left) ∙ append-nil fs

-- ---- no line of a list fails

ten : (a b : List ℕ) → lacks 10 (a ++ 10 ∷ b) ≡ true → ⊥
ten [] b e = unlike 10 10 (lacks 10 b) refl e
ten (c ∷ cs) b e = ten cs b (and_parts (not (c == 10)) (lacks 10 (cs ++ 10 ∷ b)) e).1

formed : (names : List Word) (e : Entry) → IsEntry e → is_among names e.name ≡ false → has_form names (task_line e) ≡ true
formed names e is other =
    let number = is_number-decimal e.period (short_period e.period is.short) in
    rw (is.named, other, number, is.image_named, is.report_named) refl

ranged : (e : Entry) → IsEntry e → is_in_range (task_line e) ≡ true
ranged e is =
    let value = number_of-decimal e.period (short_period e.period is.short) in
    let positive = is.positive in
    let short = is.short in
    rw value (grind (arith, positive, short))

-- the next task has another name than those before it
next_name : (fs : List Entry) (e : Entry) (more : List Entry) → AreEntries (fs ++ e ∷ more) → is_among (names_of fs) e.name ≡ false
next_name fs e more are = at (names_of fs) (names_of more) (names_split fs) (are.distinct)
  where
    names_split : (fs : List Entry) → names_of (fs ++ e ∷ more) ≡ names_of fs ++ e.name ∷ names_of more
    names_split [] = refl
    names_split (f ∷ fs) = ap (λ ns. f.name ∷ ns) (names_split fs)

    at : (before behind : List Word) → names_of (fs ++ e ∷ more) ≡ before ++ e.name ∷ behind → ((k : ℕ) → k < length (names_of (fs ++ e ∷ more)) → is_among (take k (names_of (fs ++ e ∷ more))) (get_or (names_of (fs ++ e ∷ more)) k []) ≡ false) → is_among before e.name ≡ false
    at before behind split distinct =
        let all : (k : ℕ) → k < length (before ++ e.name ∷ behind) → is_among (take k (before ++ e.name ∷ behind)) (get_or (before ++ e.name ∷ behind) k []) ≡ false = subst (λ ns. (k : ℕ) → k < length ns → is_among (take k ns) (get_or ns k []) ≡ false) split distinct in
        let long = length-append before (e.name ∷ behind) in
        sym (rw (take-append_seam before (e.name ∷ behind), get_or-append_seam before e.name behind []) refl) ∙ all (length before) (omega (arith, long))

next_entry : (fs : List Entry) (e : Entry) (more : List Entry) → All IsEntry (fs ++ e ∷ more) → IsEntry e
next_entry [] e more h = All-head IsEntry e more h
next_entry (f ∷ fs) e more h = next_entry fs e more (All-tail IsEntry f (fs ++ e ∷ more) h)

-- behind the first tasks of a list nothing stops
never_stops : (text : List ℕ) (es fs more : List Entry) (rest : List ℕ) (fault : ListFault) → IsList text es → es ≡ fs ++ more → rest ≡ lines_text (map task_line more) → Stops (names_of fs) rest fault → ⊥
never_stops text es fs [] rest fault is all left stops = none fault stops
  where
    long : length es ≡ length fs
    long = ap length (all ∙ append-nil fs)

    nothing : length rest ≡ 0
    nothing = ap length left

    splits_not : (line behind : List ℕ) → SplitsAt 10 rest line behind → ⊥
    splits_not line behind s = let h = length-append line (10 ∷ behind) in let e = ap length s.split in absurd (omega (arith, h, e, nothing))

    unended : IsUnended (names_of fs) rest → ⊥
    unended u = ⊎_elim (λ some. absurd (omega (arith, some, nothing))) (λ empty. (let some = is.some in let names = names_long fs in absurd (omega (arith, some, empty, names, long)))) u.left

    none : (fault : ListFault) → Stops (names_of fs) rest fault → ⊥
    none (faults.Line n) s = ⊎_elim (λ u. unended u) (λ m. splits_not m.line m.behind m.splits) s.1
    none (faults.Number n) s = splits_not s.1.line s.1.behind s.1.splits
    none faults.Memory s = s
never_stops text es fs (e ∷ more) rest fault is all left stops = none fault stops
  where
    are : AreEntries (fs ++ e ∷ more)
    are = subst AreEntries all is.entries

    entry : IsEntry e
    entry = next_entry fs e more are.each

    words : (line behind : List ℕ) → SplitsAt 10 rest line behind → words_of line ≡ task_line e
    words line behind s =
        let k = front e (lines_text (map task_line more)) line behind entry (subst (λ t. SplitsAt 10 t line behind) left s) in
        ap words_of (sym k.0) ∙ joined_words e entry

    form : (line behind : List ℕ) → SplitsAt 10 rest line behind → has_form (names_of fs) (words_of line) ≡ true
    form line behind s = ap (has_form (names_of fs)) (words line behind s) ∙ formed (names_of fs) e entry (next_name fs e more are)

    few : length (names_of fs) < 64
    few = let n = names_long fs in let long = ap length all ∙ length-append fs (e ∷ more) in let most = is.few in omega (arith, n, long, most)

    unended : IsUnended (names_of fs) rest → ⊥
    unended u = ten (joined e) (lines_text (map task_line more)) (subst (λ t. lacks 10 t ≡ true) (left ∙ sym (line_is e (lines_text (map task_line more)))) u.lacking)

    misformed : IsMisformed (names_of fs) rest → ⊥
    misformed m = ⊎_elim (λ many. absurd (omega (arith, many, few))) (λ no. false≢true (sym no ∙ form m.line m.behind m.splits)) m.wrong

    none : (fault : ListFault) → Stops (names_of fs) rest fault → ⊥
    none (faults.Line n) s = ⊎_elim (λ u. unended u) (λ m. misformed m) s.1
    none (faults.Number n) s = false≢true (sym s.1.out ∙ ap is_in_range (words s.1.line s.1.behind s.1.splits) ∙ ranged e entry)
    none faults.Memory s = s

pub never_fails : (text : List ℕ) (es : List Entry) (fault : ListFault) → IsList text es → FailsAt text fault → ⊥
never_fails text es fault is f =
    let b = begins es f.entries f.rest is.entries.each f.are.each (sym is.lines ∙ f.lines) in
    never_stops text es f.entries b.more f.rest fault is b.all b.left f.stops
