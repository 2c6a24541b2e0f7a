-- What stands in a segment of code is fetched there.
use Rattle.std.proofs.Common.{◌≡◌, ⊎_elim, ℕ, zero, suc, ◌+◌, ◌-◌, ◌*◌, ◌/◌, ◌%◌, ◌^◌, ◌≤◌, ◌<◌, Bool, true, false, List, [], ◌∷◌, ◌++◌, length, map, replicate, Contains, Option, Some, None, refl, sym, ap, ◌∙◌, subst, arith}
use Rattle.std.specs.Prelude.{◌==◌, ◌&&◌, not, nat_le, if◌then◌else◌, slice_get, slice_index}
use Rattle.std.proofs.lemmas.Bool.{and_parts}
use Rattle.std.proofs.lemmas.Bool.Decides.{nat_tests}
use Rattle.rv_core.specs.declared.image.Segment.{Segment}
use Rattle.rv_core.specs.declared.fields.Fields.{Fields}
use Rattle.rv_core.specs.declared.row.Width.TheVariants.{Word}
use Rattle.rv_core.specs.Bytes.{le_words}
use Rattle.rv_core.specs.Rows.{row_of}
use Rattle.rv_core.specs.Instructions.{Instruction, in_row}
use Rattle.rv_core.specs.Words.{AreFields, pack, fields_of, word_of, decode_of}
use Rattle.rv_core.specs.Images.{Image, IsSegment, AreSegments, Apart, ApartFrom, AreApart, AreLoadable}
use Rattle.rv_core.specs.Memory.{block_of, loaded, holds_span, number_at, read_from}
use Rattle.rv_core.specs.Machine.{fetched}
use Rattle.rv_core.specs.Runs.{sets_upper}
use Rattle.rv_core.specs.Code.{decoded}
use Rattle.rv_core.proofs.Encoding.{row-small, fields-small, decode_of-word_of}
use Rattle.rv_core.proofs.Framing.{block_of-length}
use Rattle.asm_items.specs.Items.{in_rows}
use Rattle.asm_items.specs.Standing.{IsCodeOf, StandsIn, links_none, LinksNone}

pack_small : (w : Fields) → AreFields w → pack w < 2 ^ 32
unfolding pack
pack_small w a = let op = a.opcode in let rd = a.rd in let f3 = a.funct3 in let r1 = a.rs1 in let r2 = a.rs2 in let f7 = a.funct7 in omega arith

word_small : (i : Instruction) → in_row i ≡ true → word_of i < 2 ^ 32
word_small i h = pack_small (fields_of i) (fields-small (row_of i.op).format (row_of i.op) i _ (row-small i.op) h)

-- the words of code, each below 2^32
abbrev AreSmall : List ℕ → Type 0
AreSmall [] = Unit {0}
AreSmall (w ∷ ws) = (w < 2 ^ 32) × AreSmall ws

words_small : (is : List Instruction) → in_rows is ≡ true → AreSmall (map word_of is)
words_small [] h = tt
words_small (i ∷ is) h = let b = and_parts (in_row i) (in_rows is) h in (word_small i b.0, words_small is b.1)

first_number : (w : ℕ) (ws zs : List ℕ) → w < 2 ^ 32 → number_at Word (le_words (w ∷ ws) ++ zs) 0 ≡ w
unfolding number_at
first_number w ws zs fits = omega arith

later_number : (w : ℕ) (ws zs : List ℕ) (n : ℕ) → number_at Word (le_words (w ∷ ws) ++ zs) (suc (suc (suc (suc n)))) ≡ number_at Word (le_words ws ++ zs) n
unfolding number_at
later_number w ws zs n =
    let xs = le_words (w ∷ ws) ++ zs in
    let ys = le_words ws ++ zs in
    let s = suc (suc (suc (suc n))) in
    let e1 : s + 1 ≡ suc (suc (suc (suc (n + 1)))) = omega arith in
    let e2 : s + 2 ≡ suc (suc (suc (suc (n + 2)))) = omega arith in
    let e3 : s + 3 ≡ suc (suc (suc (suc (n + 3)))) = omega arith in
    let h1 : slice_index xs (s + 1) ≡ slice_index ys (n + 1) = ap (slice_index xs) e1 in
    let h2 : slice_index xs (s + 2) ≡ slice_index ys (n + 2) = ap (slice_index xs) e2 in
    let h3 : slice_index xs (s + 3) ≡ slice_index ys (n + 3) = ap (slice_index xs) e3 in
    ap (λ a. slice_index ys n + 2 ^ 8 * a + 2 ^ 16 * slice_index xs (s + 2) + 2 ^ 24 * slice_index xs (s + 3)) h1
    ∙ ap (λ a. slice_index ys n + 2 ^ 8 * slice_index ys (n + 1) + 2 ^ 16 * a + 2 ^ 24 * slice_index xs (s + 3)) h2
    ∙ ap (λ a. slice_index ys n + 2 ^ 8 * slice_index ys (n + 1) + 2 ^ 16 * slice_index ys (n + 2) + 2 ^ 24 * a) h3

-- the word of a number is where it was put
number_of : (ws zs : List ℕ) (k w : ℕ) → AreSmall ws → slice_get ws k ≡ Some w → number_at Word (le_words ws ++ zs) (4 * k) ≡ w
number_of [] zs k w small e = cc
number_of (v ∷ ws) zs zero w small e = let same : v ≡ w = cc in first_number v ws zs small.0 ∙ same
number_of (v ∷ ws) zs (suc k) w small e =
    let four : 4 * suc k ≡ suc (suc (suc (suc (4 * k)))) = omega arith in
    ap (number_at Word (le_words (v ∷ ws) ++ zs)) four ∙ later_number v ws zs (4 * k) ∙ number_of ws zs k w small.1 e

bytes_count : (ws : List ℕ) → length (le_words ws) ≡ 4 * length ws
bytes_count [] = refl
bytes_count (w ∷ ws) = let h = bytes_count ws in omega arith

count_map : (is : List Instruction) → length (map word_of is) ≡ length is
count_map [] = refl
count_map (i ∷ is) = ap suc (count_map is)

get_map : (is : List Instruction) (k : ℕ) (i : Instruction) → slice_get is k ≡ Some i → slice_get (map word_of is) k ≡ Some (word_of i)
get_map [] k i e = cc
get_map (j ∷ is) zero i e = let same : j ≡ i = cc in ap (λ x. Some (word_of x)) same
get_map (j ∷ is) (suc k) i e = get_map is k i e

get_row : (is : List Instruction) (k : ℕ) (i : Instruction) → in_rows is ≡ true → slice_get is k ≡ Some i → in_row i ≡ true
get_row [] k i h e = cc
get_row (j ∷ is) zero i h e = let same : j ≡ i = cc in let b = and_parts (in_row j) (in_rows is) h in ap in_row (sym same) ∙ b.0
get_row (j ∷ is) (suc k) i h e = let b = and_parts (in_row j) (in_rows is) h in get_row is k i b.1 e

get_below : (is : List Instruction) (k : ℕ) (i : Instruction) → slice_get is k ≡ Some i → k < length is
get_below [] k i e = cc
get_below (j ∷ is) zero i e = omega arith
get_below (j ∷ is) (suc k) i e = let h = get_below is k i e in omega arith

segment_of : (s : Segment) (ss : List Segment) → AreSegments ss → Contains ss s → IsSegment s
segment_of s [] h (n, lt, e) = absurd (omega arith)
segment_of s (t ∷ ss) h (zero, lt, e) = subst IsSegment e h.0
segment_of s (t ∷ ss) h (suc n, lt, e) = segment_of s ss h.1 (n, omega arith, e)

apart_of : (t s : Segment) (ss : List Segment) → ApartFrom t ss → Contains ss s → Apart t s
apart_of t s [] h (n, lt, e) = absurd (omega arith)
apart_of t s (u ∷ ss) h (zero, lt, e) = subst (Apart t) e h.0
apart_of t s (u ∷ ss) h (suc n, lt, e) = apart_of t s ss h.1 (n, omega arith, e)

-- a word that one segment holds is in no segment apart from it
held : (s : Segment) (a : ℕ) → holds_span (block_of s) a 4 ≡ true → (s.at ≤ a) × (a + 4 ≤ s.at + length (block_of s).bytes)
held s a h = let b = and_parts _ _ h in (below _ _ b.0, below _ _ b.1)
  where
    below : (m n : ℕ) → nat_le m n ≡ true → m ≤ n
    below m n h = grind (arith, nat_tests)

not_held : (t s : Segment) (a : ℕ) → IsSegment t → IsSegment s → Apart t s → holds_span (block_of s) a 4 ≡ true → holds_span (block_of t) a 4 ≡ true → ⊥
not_held t s a p q apart h k =
    let x = held s a h in
    let y = held t a k in
    let m = block_of-length t p.filled in
    let n = block_of-length s q.filled in
    let x0 = x.0 in let x1 = x.1 in let y0 = y.0 in let y1 = y.1 in
    ⊎_elim (λ e. omega (arith, e)) (λ r. ⊎_elim (λ e. omega (arith, e)) (λ z. ⊎_elim (λ e. omega (arith, e)) (λ e. omega (arith, e)) z) r) apart

passes_by : (x h : Bool) (o p : Option ℕ) → (h ≡ true → ⊥) → (if x && h then o else p) ≡ p
passes_by true true o p not = absurd (not refl)
passes_by true false o p not = refl
passes_by false h o p not = refl

-- code is read in the segment that holds it
read_in : (ss : List Segment) (s : Segment) (a : ℕ) → AreSegments ss → AreApart ss → Contains ss s → s.exec ≡ true → holds_span (block_of s) a 4 ≡ true → read_from (λ b. b.exec) Word (loaded ss) a ≡ Some (number_at Word (block_of s).bytes (a - s.at))
read_in [] s a h apart (n, lt, e) exec holds = absurd (omega arith)
read_in (t ∷ ss) s a h apart (zero, lt, e) exec holds =
    let rest = read_from (λ b. b.exec) Word (loaded ss) a in
    ap (λ (x : Segment). if x.exec && holds_span (block_of x) a 4 then Some (number_at Word (block_of x).bytes (a - x.at)) else rest) e
    ∙ ap (λ x. if x && holds_span (block_of s) a 4 then Some (number_at Word (block_of s).bytes (a - s.at)) else rest) exec
    ∙ ap (λ x. if x then Some (number_at Word (block_of s).bytes (a - s.at)) else rest) holds
read_in (t ∷ ss) s a h apart (suc n, lt, e) exec holds =
    let there : Contains ss s = (n, omega arith, e) in
    passes_by t.exec (holds_span (block_of t) a 4) _ _ (not_held t s a h.0 (segment_of s ss h.1 there) (apart_of t s ss apart.0 there) holds)
    ∙ read_in ss s a h.1 apart.1 there exec holds

pub stands : (image : Image) → AreLoadable image.segments → StandsIn image
unfolding fetched
stands image ok s at is k i there code e =
    let below = get_below is k i e in
    let segment = segment_of s image.segments ok.each there in
    let filled = segment.filled in
    let start = code.begins in
    let aligned = code.aligned.aligned in
    let long : length s.bytes ≡ 4 * length is = ap length code.bytes ∙ bytes_count (map word_of is) ∙ ap (λ n. 4 * n) (count_map is) in
    let size = block_of-length s filled in
    let low : nat_le s.at (at + 4 * k) ≡ true = grind (arith, nat_tests) in
    let high : nat_le (at + 4 * k + 4) (s.at + length (block_of s).bytes) ≡ true = grind (arith, nat_tests) in
    let holds : holds_span (block_of s) (at + 4 * k) 4 ≡ true = ap (λ b. b && nat_le (at + 4 * k + 4) (s.at + length (block_of s).bytes)) low ∙ high in
    let four : ((at + 4 * k) % 4 == 0) ≡ true = grind (arith, nat_tests) in
    let place : at + 4 * k - s.at ≡ 4 * k = omega arith in
    let zs = replicate (s.size - length s.bytes) 0 in
    let number : number_at Word (block_of s).bytes (at + 4 * k - s.at) ≡ word_of i =
    ap (number_at Word (s.bytes ++ zs)) place ∙ ap (λ bs. number_at Word (bs ++ zs) (4 * k)) code.bytes ∙ number_of (map word_of is) zs k (word_of i) (words_small is code.rows) (get_map is k i e) in
    ap (λ b. decoded (if b then read_from (λ x. x.exec) Word (loaded image.segments) (at + 4 * k) else None)) four
    ∙ ap decoded (read_in image.segments s (at + 4 * k) ok.each ok.apart there code.exec holds ∙ ap Some number)
    ∙ decode_of-word_of i (get_row is k i code.rows e)

some_at : (is : List Instruction) (k : ℕ) → k < length is → (i : Instruction) × (slice_get is k ≡ Some i)
some_at [] k h = absurd (omega arith)
some_at (i ∷ is) zero h = (i, refl)
some_at (i ∷ is) (suc k) h = some_at is k (omega arith)

no_link_at : (is : List Instruction) (k : ℕ) (i : Instruction) → links_none is ≡ true → slice_get is k ≡ Some i → sets_upper (Some i) 1 ≡ false
no_link_at [] k i h e = cc
no_link_at (j ∷ is) zero i h e =
    let b = and_parts (not (sets_upper (Some j) 1)) (links_none is) h in
    let same : j ≡ i = cc in
    ap (λ x. sets_upper (Some x) 1) (sym same) ∙ was_not (sets_upper (Some j) 1) b.0
  where
    was_not : (b : Bool) → not b ≡ true → b ≡ false
    was_not true h = cc
    was_not false h = refl
no_link_at (j ∷ is) (suc k) i h e = let b = and_parts (not (sets_upper (Some j) 1)) (links_none is) h in no_link_at is k i b.1 e

-- a word that a segment of code holds is one of its instructions
unlinked_in : (s : Segment) (is : List Instruction) (a : ℕ) → IsSegment s → IsCodeOf s s.at is → length s.bytes ≡ s.size → links_none is ≡ true → a % 4 ≡ 0 → holds_span (block_of s) a 4 ≡ true
    → sets_upper (decoded (Some (number_at Word (block_of s).bytes (a - s.at)))) 1 ≡ false
unlinked_in s is a ok code full none aligned holds =
    let x = held s a holds in
    let from = x.0 in
    let to = x.1 in
    let start = code.aligned.aligned in
    let long : length s.bytes ≡ 4 * length is = ap length code.bytes ∙ bytes_count (map word_of is) ∙ ap (λ n. 4 * n) (count_map is) in
    let size = block_of-length s ok.filled in
    let k = (a - s.at) / 4 in
    let place : a - s.at ≡ 4 * k = omega arith in
    let found = some_at is k (omega arith) in
    let zs = replicate (s.size - length s.bytes) 0 in
    let number : number_at Word (block_of s).bytes (a - s.at) ≡ word_of found.0 =
    ap (number_at Word (s.bytes ++ zs)) place ∙ ap (λ bs. number_at Word (bs ++ zs) (4 * k)) code.bytes ∙ number_of (map word_of is) zs k (word_of found.0) (words_small is code.rows) (get_map is k found.0 found.1) in
    ap (λ w. sets_upper (decode_of w) 1) number ∙ ap (λ o. sets_upper o 1) (decode_of-word_of found.0 (get_row is k found.0 code.rows found.1)) ∙ no_link_at is k found.0 none found.1

module _ (code : ℕ → List Instruction) (a : ℕ) (aligned : a % 4 ≡ 0) where
  -- what is said of each segment that can be executed
  record IsFull (s : Segment) : Type 0 where
    is : IsCodeOf s s.at (code s.at)
    full : length s.bytes ≡ s.size
    none : links_none (code s.at) ≡ true

  unlinked_among : (ss : List Segment) → AreSegments ss → ((s : Segment) → Contains ss s → s.exec ≡ true → IsFull s) → sets_upper (decoded (read_from (λ b. b.exec) Word (loaded ss) a)) 1 ≡ false
  unlinked_among [] ok each = refl
  unlinked_among (s ∷ ss) ok each = by_test (s.exec && holds_span (block_of s) a 4) refl (unlinked_among ss ok.1 (λ t there exec. each t (suc there.0, omega (arith, there.1), there.2) exec))
    where
      by_test : (b : Bool) → (s.exec && holds_span (block_of s) a 4) ≡ b → sets_upper (decoded (read_from (λ b. b.exec) Word (loaded ss) a)) 1 ≡ false
          → sets_upper (decoded (if b then Some (number_at Word (block_of s).bytes (a - s.at)) else read_from (λ b. b.exec) Word (loaded ss) a)) 1 ≡ false
      by_test false e rest = rest
      by_test true e rest =
          let b = and_parts s.exec (holds_span (block_of s) a 4) e in
          let f = each s (0, omega arith, refl) b.0 in
          unlinked_in s (code s.at) a ok.0 f.is f.full f.none aligned b.1

pub links_nothing : (image : Image) → AreLoadable image.segments → LinksNone image
unfolding fetched
links_nothing image ok code all a = by_place (a % 4 == 0) refl
  where
    aligned_by : (a % 4 == 0) ≡ true → a % 4 ≡ 0
    aligned_by e = grind (arith, nat_tests)

    by_place : (b : Bool) → (a % 4 == 0) ≡ b → sets_upper (decoded (if b then read_from (λ x. x.exec) Word (loaded image.segments) a else None)) 1 ≡ false
    by_place false e = refl
    by_place true e =
        unlinked_among code a (aligned_by e) image.segments ok.each
        (λ s there exec. record { is = all.is s there exec; full = all.full s there exec; none = all.unlinked s there exec })
