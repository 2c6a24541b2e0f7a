-- Texts that stand at a place.
use Rattle.std.proofs.Common.{◌≡◌, ◌==◌, ℕ, ◌+◌, ◌-◌, ◌<◌, ◌≤◌, ◌⊎◌, inl, inr, Bool, true, false, ◌&&◌, not, if◌then◌else◌, List, [], ◌∷◌, length, take, drop, refl, sym, ap, ◌∙◌, arith, add-one, drop-cons, length-drop, length-take, nat_le, Some, None}
use Rattle.std.specs.Str.{bytes_eq}
use Rattle.std.proofs.lemmas.Bool.{true≢false, eq-eqb, leb-true}
use Rattle.std.proofs.lemmas.List.{get_or_past, take_all}
use Rattle.std.proofs.lemmas.Slice.Eq.{bytes_eq-Decides}
use Rattle.std.specs.Prelude.{slice_index, slice_range}
use Rattle.c_tree.specs.Bytes.{Stands, Spans, SpansOne}
use Rattle.c_lexer.specs.Forms.{first_size, punctuators}
use Rattle.c_lexer.specs.Bytes.{are_set}
use Rattle.c_lexer.specs.Kinds.{is_one}

pub and_parts : (x y : Bool) → (x && y) ≡ true → (x ≡ true) × (y ≡ true)
and_parts true y h = (refl, h)
and_parts false y h = absurd (true≢false (sym h))

abbrev pub all_pass : (List ℕ → Bool) → List (List ℕ) → Bool
all_pass test [] = true
all_pass test (text ∷ texts) = if test text then all_pass test texts else false

pub record Picked (test : List ℕ → Bool) (source : List ℕ) (at end : ℕ) : Type 0 where
  pub text : List ℕ
  pub spans : Spans source at end text
  pub passes : test text ≡ true

-- one of the texts stands there, and passes what they all pass
pub picked : (test : List ℕ → Bool) (texts : List (List ℕ)) (source : List ℕ) (at end : ℕ) → all_pass test texts ≡ true → SpansOne source at end texts → Picked test source at end
picked test [] source at end all h = absurd h
picked test (text ∷ texts) source at end all (inl h) = let p = both (test text) _ all in record { text = text; spans = h; passes = p.0 }
  where
    both : (a b : Bool) → (if a then b else false) ≡ true → (a ≡ true) × (b ≡ true)
    both true b e = (refl, e)
    both false b e = absurd (cc)
picked test (text ∷ texts) source at end all (inr h) = picked test texts source at end (rest (test text) _ all) h
  where
    rest : (a b : Bool) → (if a then b else false) ≡ true → b ≡ true
    rest true b e = e
    rest false b e = absurd (cc)

-- a text that stands at a place, within the source
pub text_taken : (text source : List ℕ) (at : ℕ) → at ≤ length source → take (length text) (drop at source) ≡ text → Stands source at text × (at + length text ≤ length source)
text_taken [] source at within e = (tt, omega (arith, within))
text_taken (b ∷ text) source at within e = elim (split at) [
  | inl lt ↦
      let cons : drop at source ≡ slice_index source at ∷ drop (at + 1) source = rw add-one (drop-cons source at 0 lt) in
      let f : slice_index source at ∷ take (length text) (drop (at + 1) source) ≡ b ∷ text = rw cons at e in
      let rest = text_taken text source (at + 1) (omega arith) (cc) in
      ((cc, rest.0), omega (arith, rest.1))
  | inr le ↦ absurd (none (drop at source) (simp length-drop (omega arith)) e)
]
  where
    split : (n : ℕ) → (n < length source) ⊎ (length source ≤ n)
    split n = grind arith

    none : (xs : List ℕ) → length xs ≡ 0 → take (length (b ∷ text)) xs ≡ b ∷ text → ⊥
    none [] h k = cc
    none (x ∷ xs) h k = omega (arith, h)

pub taken_text : (text source : List ℕ) (at : ℕ) → Stands source at text → at + length text ≤ length source → take (length text) (drop at source) ≡ text
taken_text [] source at stands within = refl
taken_text (b ∷ text) source at stands within =
    let lt : at < length source = omega (arith, within) in
    let cons : drop at source ≡ slice_index source at ∷ drop (at + 1) source = rw add-one (drop-cons source at 0 lt) in
    let rest = taken_text text source (at + 1) stands.1 (omega (arith, within)) in
    rw cons (cc (stands.0, rest))

-- a text without zero bytes stands within the source
pub set_within : (text source : List ℕ) (at : ℕ) → are_set text ≡ true → at ≤ length source → Stands source at text → at + length text ≤ length source
set_within [] source at set within stands = omega (arith, within)
set_within (b ∷ text) source at set within stands = elim (split at) [
  | inl lt ↦ omega (arith, set_within text source (at + 1) (and_parts _ _ set).1 (omega arith) stands.1)
  | inr le ↦ absurd (zero b (sym stands.0 ∙ get_or_past source at 0 le) (and_parts _ _ set).0)
]
  where
    split : (n : ℕ) → (n < length source) ⊎ (length source ≤ n)
    split n = grind arith

    zero : (n : ℕ) → n ≡ 0 → not (n == 0) ≡ true → ⊥
    zero n e h = true≢false (sym h ∙ ap not (eq-eqb n 0 e))

-- what a comparison with the front of the rest of a source says
pub stands_or_not : (text source : List ℕ) (at : ℕ) (r : Bool) → at ≤ length source → are_set text ≡ true → r ≡ bytes_eq text (take (length text) (take (length source - at) (drop at source))) → (r ≡ true → Stands source at text) × (Stands source at text → r ≡ true)
stands_or_not text source at r within set e =
    let whole : take (length source - at) (drop at source) ≡ drop at source = take_all (length source - at) (drop at source) (omega (arith, length-drop at source)) in
    let f : r ≡ bytes_eq text (take (length text) (drop at source)) = e ∙ ap (λ xs. bytes_eq text (take (length text) xs)) whole in
    let decides = bytes_eq-Decides text (take (length text) (drop at source)) in (
      λ h. (text_taken text source at within (sym (decides.0 (sym f ∙ h)))).0,
      λ h. f ∙ decides.1 (sym (taken_text text source at h (set_within text source at set within h))),
    )

pub spans_text : (text source : List ℕ) (at end : ℕ) → at ≤ end → end ≤ length source → slice_range source at end ≡ text → Spans source at end text
spans_text text source at end ordered within e =
    let size : length text ≡ end - at = ap length (sym e) ∙ simp (length-take, length-drop) (omega arith) in
    ((text_taken text source at (omega arith) (ap (λ n. take n (drop at source)) size ∙ e)).0, omega (arith, size))

pub text_spans : (text source : List ℕ) (at end : ℕ) → end ≤ length source → Spans source at end text → slice_range source at end ≡ text
text_spans text source at end within spans =
    let size : end - at ≡ length text = omega (arith, spans.1) in
    ap (λ n. take n (drop at source)) size ∙ taken_text text source at spans.0 (omega (arith, spans.1, within))

-- whether one of the texts is a span
pub one_spans : (texts : List (List ℕ)) (source : List ℕ) (at end : ℕ) → at ≤ end → end ≤ length source → is_one (slice_range source at end) texts ≡ true → SpansOne source at end texts
one_spans [] source at end ordered within e = absurd (true≢false (sym e))
one_spans (text ∷ texts) source at end ordered within e = elim (cases (bytes_eq (slice_range source at end) text) _ e) [
  | inl h ↦ inl (spans_text text source at end ordered within ((bytes_eq-Decides (slice_range source at end) text).0 h))
  | inr h ↦ inr (one_spans texts source at end ordered within h)
]
  where
    cases : (x y : Bool) → (if x then true else y) ≡ true → (x ≡ true) ⊎ (y ≡ true)
    cases true y h = inl refl
    cases false y h = inr h

pub spans_one : (texts : List (List ℕ)) (source : List ℕ) (at end : ℕ) → end ≤ length source → SpansOne source at end texts → is_one (slice_range source at end) texts ≡ true
spans_one [] source at end within h = absurd h
spans_one (text ∷ texts) source at end within (inl h) = rw ((bytes_eq-Decides (slice_range source at end) text).1 (text_spans text source at end within h)) refl
spans_one (text ∷ texts) source at end within (inr h) = later (bytes_eq (slice_range source at end) text) _ (spans_one texts source at end within h)
  where
    later : (x y : Bool) → y ≡ true → (if x then true else y) ≡ true
    later true y e = refl
    later false y e = e

-- the first text that begins the rest of a source spans it
pub size_spans : (texts : List (List ℕ)) (source : List ℕ) (at size : ℕ) → at ≤ length source → first_size (drop at source) texts ≡ Some size → SpansOne source at (at + size) texts × (at + size ≤ length source)
size_spans [] source at size within e = absurd (cc)
size_spans (text ∷ texts) source at size within e = elim (cases (bytes_eq text (take (length text) (drop at source))) e) [
  | inl h ↦
      let t = text_taken text source at within (sym ((bytes_eq-Decides text (take (length text) (drop at source))).0 h.0)) in
      (inl (t.0, omega (arith, h.1)), omega (arith, t.1, h.1))
  | inr h ↦ let rest = size_spans texts source at size within h in (inr rest.0, rest.1)
]
  where
    cases : (x : Bool) → (if x then Some (length text) else first_size (drop at source) texts) ≡ Some size → ((x ≡ true) × (length text ≡ size)) ⊎ (first_size (drop at source) texts ≡ Some size)
    cases true h = inl (refl, cc)
    cases false h = inr h

pub size_none : (texts : List (List ℕ)) (source : List ℕ) (at end : ℕ) → first_size (drop at source) texts ≡ None → end ≤ length source → SpansOne source at end texts → ⊥
size_none [] source at end e within h = h
size_none (text ∷ texts) source at end e within (inl h) =
    first ((bytes_eq-Decides text (take (length text) (drop at source))).1 (sym (taken_text text source at h.0 (omega (arith, within, h.1))))) e
  where
    first : bytes_eq text (take (length text) (drop at source)) ≡ true → (if bytes_eq text (take (length text) (drop at source)) then Some (length text) else first_size (drop at source) texts) ≡ None → ⊥
    first t k = let some : Some (length text) ≡ None = rw t at k in cc
size_none (text ∷ texts) source at end e within (inr h) = size_none texts source at end (rest (bytes_eq text (take (length text) (drop at source))) e) within h
  where
    rest : (x : Bool) → (if x then Some (length text) else first_size (drop at source) texts) ≡ None → first_size (drop at source) texts ≡ None
    rest true k = absurd (cc)
    rest false k = k

abbrev pub no_longer_than : ℕ → List (List ℕ) → Bool
no_longer_than n [] = true
no_longer_than n (text ∷ texts) = nat_le (length text) n && no_longer_than n texts

abbrev pub longest_first : List (List ℕ) → Bool
longest_first [] = true
longest_first (text ∷ texts) = no_longer_than (length text) texts && longest_first texts

bounded : (n : ℕ) (texts : List (List ℕ)) (source : List ℕ) (at end : ℕ) → no_longer_than n texts ≡ true → SpansOne source at end texts → end ≤ at + n
bounded n [] source at end e h = absurd h
bounded n (text ∷ texts) source at end e (inl h) = let short : length text ≤ n = leb-true _ _ (and_parts (nat_le (length text) n) (no_longer_than n texts) e).0 in omega (arith, h.1)
bounded n (text ∷ texts) source at end e (inr h) = bounded n texts source at end (and_parts (nat_le (length text) n) (no_longer_than n texts) e).1 h

pub size_longest : (texts : List (List ℕ)) (source : List ℕ) (at size end : ℕ) → longest_first texts ≡ true → first_size (drop at source) texts ≡ Some size → end ≤ length source → SpansOne source at end texts → end ≤ at + size
size_longest [] source at size end sorted e within h = absurd h
size_longest (text ∷ texts) source at size end sorted e within (inl h) = omega (arith, h.1, first ((bytes_eq-Decides text (take (length text) (drop at source))).1 (sym (taken_text text source at h.0 (omega (arith, within, h.1))))) e)
  where
    first : bytes_eq text (take (length text) (drop at source)) ≡ true → (if bytes_eq text (take (length text) (drop at source)) then Some (length text) else first_size (drop at source) texts) ≡ Some size → length text ≡ size
    first t k = let some : Some (length text) ≡ Some size = rw t at k in cc
size_longest (text ∷ texts) source at size end sorted e within (inr h) = elim (cases (bytes_eq text (take (length text) (drop at source))) e) [
  | inl k ↦ omega (arith, k, bounded (length text) texts source at end (and_parts (no_longer_than (length text) texts) (longest_first texts) sorted).0 h)
  | inr k ↦ size_longest texts source at size end (and_parts (no_longer_than (length text) texts) (longest_first texts) sorted).1 k within h
]
  where
    cases : (x : Bool) → (if x then Some (length text) else first_size (drop at source) texts) ≡ Some size → (length text ≡ size) ⊎ (first_size (drop at source) texts ≡ Some size)
    cases true k = inl (cc)
    cases false k = inr k

-- a punctuator by what stands in the rest of a source
module _ (source : List ℕ) (at size : ℕ) (within : at ≤ length source) (found : first_size (take (length source - at) (drop at source)) punctuators ≡ Some size) where
  rest_size : first_size (drop at source) punctuators ≡ Some size
  rest_size = ap (λ xs. first_size xs punctuators) (sym (take_all (length source - at) (drop at source) (omega (arith, length-drop at source)))) ∙ found

  pub punctuator_spans : SpansOne source at (at + size) punctuators × (at + size ≤ length source)
  punctuator_spans = size_spans punctuators source at size within rest_size

  pub punctuator_some : at < at + size
  punctuator_some =
      let t = picked (λ text. nat_le 1 (length text)) punctuators source at (at + size) refl punctuator_spans.0 in
      let some : 1 ≤ length t.text = leb-true _ _ t.passes in
      omega (arith, t.spans.1)

  pub punctuator_longest : (further : ℕ) → further ≤ length source → SpansOne source at further punctuators → further ≤ at + size
  punctuator_longest further inside h = size_longest punctuators source at size further refl rest_size inside h

pub punctuator_none : (source : List ℕ) (at : ℕ) → first_size (take (length source - at) (drop at source)) punctuators ≡ None → (end : ℕ) → end ≤ length source → SpansOne source at end punctuators → ⊥
punctuator_none source at none end within h = size_none punctuators source at end (ap (λ xs. first_size xs punctuators) (sym (take_all (length source - at) (drop at source) (omega (arith, length-drop at source)))) ∙ none) within h
