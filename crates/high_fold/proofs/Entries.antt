-- Entries of copies, one behind the other.
use Rattle.std.proofs.Common.{◌≡◌, ℕ, ◌+◌, ◌<◌, ◌≤◌, Bool, true, false, List, [], ◌∷◌, ◌++◌, length, get_or, drop, drop-cons, map, refl, sym, ap, ◌∙◌, subst, arith}
use Rattle.std.specs.Prelude.{◌==◌, if◌then◌else◌}
use Rattle.std.specs.List.{range_with_len}
use Rattle.std.proofs.lemmas.Bool.{false≢true}
use Rattle.std.proofs.lemmas.List.{append-nil, append_assoc, drop-drop, drop_all, drop_more, map-append}
use Rattle.std.proofs.lemmas.List.FromFn.{get_or-range_with_len, length-range_with_len}
use Rattle.high_ir.specs.declared.copies.LoopCopies.{LoopCopies}
use Rattle.high_ir.specs.declared.copies.NeverMark.{NeverMark}
use Rattle.high_ir.specs.Tree.{Program}
use Rattle.high_pass.specs.Listing.{Listing, LoopEntry, MarkEntry, loop_entry}
use Rattle.high_folded.specs.Folded.{kept_in}
use Rattle.high_folded.specs.Listed.{folded_listing, gone, is_next, loop_entries, stays}
use Rattle.high_parts.specs.Same.{same_marks}

-- which loop is the next one, by its place
pub next_is : (old : ℕ) (kept : List ℕ) (i d : ℕ) → i < length kept → (get_or kept i d == old) ≡ is_next old (drop i kept)
next_is old kept i d lt = ap (is_next old) (sym (drop-cons kept i d lt))

pub next_none : (old : ℕ) (kept : List ℕ) (i : ℕ) → length kept ≤ i → is_next old (drop i kept) ≡ false
next_none old kept i le = ap (is_next old) (drop_all i kept le)

-- one loop more has its entry, where those before have theirs
step_entries : (b : Bool) (next old : ℕ) (olds kept : List ℕ) → is_next old kept ≡ b → loop_entries next (old ∷ olds) kept ≡ (if b then stays old next ∷ loop_entries (next + 1) olds (drop 1 kept) else gone old ∷ loop_entries next olds kept)
step_entries true next old olds [] is = absurd (false≢true is)
step_entries false next old olds [] is = refl
step_entries b next old olds (k ∷ kept) is = ap (λ t. if t then stays old next ∷ loop_entries (next + 1) olds kept else gone old ∷ loop_entries next olds (k ∷ kept)) is

-- what is left of a row of numbers
row_step : (old count : ℕ) → old < count → drop old (range_with_len 0 count) ≡ old ∷ drop (old + 1) (range_with_len 0 count)
row_step old count lt =
    drop_more (range_with_len 0 count) old old (subst (λ n. old < n) (sym (length-range_with_len 0 count)) lt)
    ∙ ap (λ x. x ∷ drop (old + 1) (range_with_len 0 count)) (get_or-range_with_len 0 count old old lt ∙ same old)
  where
    same : (n : ℕ) → 0 + n ≡ n
    same n = omega arith

row_end : (old count : ℕ) → count ≤ old → drop old (range_with_len 0 count) ≡ []
row_end old count le = drop_all old (range_with_len 0 count) (subst (λ n. n ≤ old) (sym (length-range_with_len 0 count)) le)

-- an entry before those that are left
pushed : (copies copies' : List LoopCopies) (c : LoopCopies) (e : LoopEntry) (left : List LoopEntry) → copies' ≡ copies ++ c ∷ [] → loop_entry c ≡ e → map loop_entry copies' ++ left ≡ map loop_entry copies ++ e ∷ left
pushed copies copies' c e left more is =
    ap (λ l. l ++ left) (ap (map loop_entry) more ∙ map-append loop_entry copies (c ∷ []) ∙ ap (λ x. map loop_entry copies ++ x ∷ []) is)
    ∙ append_assoc (map loop_entry copies) (e ∷ []) left

module _ (copies copies' : List LoopCopies) (c : LoopCopies) (kept : List ℕ) (next old loops : ℕ) (lt : old < loops) (more : copies' ≡ copies ++ c ∷ []) where
  abbrev olds : List ℕ
  olds = range_with_len 0 loops

  abbrev behind : List ℕ
  behind = drop (old + 1) olds

  one_step : (b : Bool) → is_next old (drop next kept) ≡ b → loop_entries next (drop old olds) (drop next kept) ≡
      (if b then stays old next ∷ loop_entries (next + 1) behind (drop 1 (drop next kept)) else gone old ∷ loop_entries next behind (drop next kept))
  one_step b is = ap (λ l. loop_entries next l (drop next kept)) (row_step old loops lt) ∙ step_entries b next old behind (drop next kept) is

  -- a loop that stays or is left out
  one_more : (b : Bool) (next' : ℕ) → is_next old (drop next kept) ≡ b → loop_entry c ≡ (if b then stays old next else gone old) → next' ≡ (if b then next + 1 else next) →
      map loop_entry copies' ++ loop_entries next' behind (drop next' kept) ≡ map loop_entry copies ++ loop_entries next (drop old olds) (drop next kept)
  one_more true next' is made after =
      ap (λ k. map loop_entry copies' ++ loop_entries k behind (drop k kept)) after
      ∙ ap (λ l. map loop_entry copies' ++ loop_entries (next + 1) behind l) (sym (drop-drop 1 next kept))
      ∙ pushed copies copies' c (stays old next) (loop_entries (next + 1) behind (drop 1 (drop next kept))) more made
      ∙ ap (λ l. map loop_entry copies ++ l) (sym (one_step true is))
  one_more false next' is made after =
      ap (λ k. map loop_entry copies' ++ loop_entries k behind (drop k kept)) after
      ∙ pushed copies copies' c (gone old) (loop_entries next behind (drop next kept)) more made
      ∙ ap (λ l. map loop_entry copies ++ l) (sym (one_step false is))

  pub one_entry : (b : Bool) (next' : ℕ) → b ≡ is_next old (drop next kept) → loop_entry c ≡ (if b then stays old next else gone old) → next' ≡ (if b then next + 1 else next) →
      map loop_entry copies' ++ loop_entries next' (drop (old + 1) (range_with_len 0 loops)) (drop next' kept) ≡ map loop_entry copies ++ loop_entries next (drop old (range_with_len 0 loops)) (drop next kept)
  one_entry b next' is made after = one_more b next' (sym is) made after

pub next_within : (b : Bool) (next next' old : ℕ) → next' ≡ (if b then next + 1 else next) → next ≤ old → next' ≤ old + 1
next_within true next next' old after le = omega (arith, after, le)
next_within false next next' old after le = omega (arith, after, le)

pub none_left : (copies : List LoopCopies) (kept : List ℕ) (next old loops : ℕ) → loops ≤ old → map loop_entry copies ≡ map loop_entry copies ++ loop_entries next (drop old (range_with_len 0 loops)) kept
none_left copies kept next old loops le =
    sym (append-nil (map loop_entry copies)) ∙ ap (λ l. map loop_entry copies ++ loop_entries next l kept) (sym (row_end old loops le))

-- a listing from its parts
pub listed : (p : Program) (kept : List ℕ) (marks : List MarkEntry) (loops : List LoopEntry) (nevers : List NeverMark) →
    marks ≡ same_marks p.marks → loops ≡ loop_entries 0 (range_with_len 0 p.loops) kept → nevers ≡ [] → kept ≡ kept_in p.functions → record { marks = marks; loops = loops; nevers = nevers } ≡ folded_listing p
listed p kept marks loops nevers m l n k =
    let whole : List MarkEntry → List LoopEntry → List NeverMark → Listing = λ ms ls ns. record { marks = ms; loops = ls; nevers = ns } in
    ap (λ x. whole x loops nevers) m
    ∙ ap (λ x. whole (same_marks p.marks) x nevers) (l ∙ ap (loop_entries 0 (range_with_len 0 p.loops)) k)
    ∙ ap (λ x. whole (same_marks p.marks) (folded_listing p).loops x) n
