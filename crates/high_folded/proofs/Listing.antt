-- The copies of loops: which are listed, and with which bounds.
use Rattle.std.proofs.Common.{◌≡◌, ⊎_elim, ℕ, suc, ◌+◌, ◌≤◌, Bool, true, false, List, [], ◌∷◌, length, map, Some, refl, sym, ap, ◌∙◌, subst, arith, All}
use Rattle.std.specs.Prelude.{◌==◌, if◌then◌else◌}
use Rattle.std.specs.List.{flat_map, range_with_len}
use Rattle.std.proofs.lemmas.Bool.{eq-eqb, eqb-true, false≢true}
use Rattle.std.proofs.lemmas.List.Elements.{All-cons, All-head, All-nil, All-tail}
use Rattle.high_ir.specs.Standing.{Bounded}
use Rattle.high_pass.specs.Carries.{AreBy, bounds_of}
use Rattle.high_pass.specs.Listing.{LoopEntry}
use Rattle.high_parts.proofs.Numbers.{number_of}
use Rattle.high_folded.specs.Listed.{gone, loop_entries, stays}
use Rattle.high_folded.proofs.Holds.{Holds, holds_none, holds_rest}
use Rattle.high_folded.proofs.Standing.{numbered}

abbrev pub old_number : LoopEntry → ℕ
old_number e = e.old

abbrev pub new_numbers : LoopEntry → List ℕ
new_numbers e = map (λ l. l.id) e.new

-- each loop has its entry
old_first : (b : Bool) (next old : ℕ) (olds : List ℕ) (es fs : List LoopEntry) → map old_number es ≡ olds → map old_number fs ≡ olds → map old_number (if b then stays old next ∷ es else gone old ∷ fs) ≡ old ∷ olds
old_first true next old olds es fs h k = ap (λ l. old ∷ l) h
old_first false next old olds es fs h k = ap (λ l. old ∷ l) k

pub olds_listed : (olds kept : List ℕ) (next : ℕ) → map old_number (loop_entries next olds kept) ≡ olds
olds_listed [] kept next = refl
olds_listed (old ∷ olds) [] next = ap (λ l. old ∷ l) (olds_listed olds [] next)
olds_listed (old ∷ olds) (k ∷ kept) next =
    old_first (k == old) next old olds (loop_entries (next + 1) olds kept) (loop_entries next olds (k ∷ kept)) (olds_listed olds kept (next + 1)) (olds_listed olds (k ∷ kept) next)

-- those that stay are listed with the numbers from one on
news_first : (b : Bool) (next old n : ℕ) (es fs : List LoopEntry) → (b ≡ true → flat_map new_numbers es ≡ range_with_len (next + 1) n) → (b ≡ false → flat_map new_numbers fs ≡ range_with_len next (suc n)) →
    flat_map new_numbers (if b then stays old next ∷ es else gone old ∷ fs) ≡ range_with_len next (suc n)
news_first true next old n es fs h k = ap (λ l. next ∷ l) (h refl)
news_first false next old n es fs h k = k refl

-- where another loop is the next, those behind hold all that stay
holds_later : (olds : List ℕ) (old k : ℕ) (kept : List ℕ) → (k == old) ≡ false → Holds (old ∷ olds) (k ∷ kept) → Holds olds (k ∷ kept)
holds_later olds old k kept other h = ⊎_elim
    (λ (here : (k ≡ old) × Holds olds kept). absurd (false≢true (sym other ∙ eq-eqb k old here.0)))
    (λ (later : Holds olds (k ∷ kept)). later)
    h

pub news_listed : (olds kept : List ℕ) (next : ℕ) → Holds olds kept → flat_map new_numbers (loop_entries next olds kept) ≡ range_with_len next (length kept)
news_listed [] [] next h = refl
news_listed [] (k ∷ kept) next h = absurd h
news_listed (old ∷ olds) [] next h = news_listed olds [] next (holds_none olds)
news_listed (old ∷ olds) (k ∷ kept) next h =
    news_first (k == old) next old (length kept) (loop_entries (next + 1) olds kept) (loop_entries next olds (k ∷ kept))
    (λ same. news_listed olds kept (next + 1) (holds_rest old olds k kept h))
    (λ other. news_listed olds (k ∷ kept) next (holds_later olds old k kept other h))

-- what holds of an entry that comes first, whether its loop stays or not
first_entry : (P : LoopEntry → Type 0) (b : Bool) (next old : ℕ) (es fs : List LoopEntry) → (b ≡ true → P (stays old next)) → P (gone old) → All P es → All P fs → All P (if b then stays old next ∷ es else gone old ∷ fs)
first_entry P true next old es fs s g h k = All-cons P (stays old next) es (s refl) h
first_entry P false next old es fs s g h k = All-cons P (gone old) fs g k

pub each_entry : (P : LoopEntry → Type 0) → ((old : ℕ) → P (gone old)) → ((old next : ℕ) → P (stays old next)) → (olds kept : List ℕ) (next : ℕ) → All P (loop_entries next olds kept)
each_entry P g s [] kept next = All-nil P
each_entry P g s (old ∷ olds) [] next = All-cons P (gone old) (loop_entries next olds []) (g old) (each_entry P g s olds [] next)
each_entry P g s (old ∷ olds) (k ∷ kept) next =
    first_entry P (k == old) next old (loop_entries (next + 1) olds kept) (loop_entries next olds (k ∷ kept)) (λ same. s old next) (g old) (each_entry P g s olds kept (next + 1)) (each_entry P g s olds (k ∷ kept) next)

-- a loop that stays has the bounds that it had
module _ (olds_all news_all : List Bounded) where
  abbrev pub KeepsBounds : LoopEntry → Type 0
  KeepsBounds e = All (λ l. (1 ≤ l.factor) × AreBy (bounds_of olds_all e.old) l.factor (bounds_of news_all l.id)) e.new

  gone_keeps : (old : ℕ) → KeepsBounds (gone old)
  gone_keeps old = All-nil (λ l. (1 ≤ l.factor) × AreBy (bounds_of olds_all old) l.factor (bounds_of news_all l.id))

  stays_keeps : (old next : ℕ) (l : Bounded) → l.id ≡ old → bounds_of olds_all l.id ≡ Some l.bounds → bounds_of news_all next ≡ Some l.bounds → KeepsBounds (stays old next)
  stays_keeps old next l same before behind =
      All-cons (λ x. (1 ≤ x.factor) × AreBy (bounds_of olds_all old) x.factor (bounds_of news_all x.id)) (record { id = next; factor = 1 }) []
      (omega arith, subst (λ o. AreBy o 1 (bounds_of news_all next)) (sym (ap (bounds_of olds_all) (sym same) ∙ before)) behind)
      (All-nil (λ x. (1 ≤ x.factor) × AreBy (bounds_of olds_all old) x.factor (bounds_of news_all x.id)))

  pub all_keep : (olds : List ℕ) (ls : List Bounded) (next : ℕ) → All (λ l. bounds_of olds_all l.id ≡ Some l.bounds) ls → All (λ l. bounds_of news_all l.id ≡ Some l.bounds) (numbered next ls) → All KeepsBounds (loop_entries next olds (map number_of ls))
  all_keep [] ls next before behind = All-nil KeepsBounds
  all_keep (old ∷ olds) [] next before behind = All-cons KeepsBounds (gone old) (loop_entries next olds []) (gone_keeps old) (all_keep olds [] next before behind)
  all_keep (old ∷ olds) (l ∷ ls) next before behind =
      let first : Bounded = record { id = next; bounds = l.bounds } in
      let before_rest = All-tail (λ l. bounds_of olds_all l.id ≡ Some l.bounds) l ls before in
      let behind_rest = All-tail (λ l. bounds_of news_all l.id ≡ Some l.bounds) first (numbered (next + 1) ls) behind in
      first_entry KeepsBounds (l.id == old) next old (loop_entries (next + 1) olds (map number_of ls)) (loop_entries next olds (map number_of (l ∷ ls)))
      (λ same. stays_keeps old next l (eqb-true l.id old same) (All-head (λ l. bounds_of olds_all l.id ≡ Some l.bounds) l ls before) (All-head (λ l. bounds_of news_all l.id ≡ Some l.bounds) first (numbered (next + 1) ls) behind))
      (gone_keeps old)
      (all_keep olds ls (next + 1) before_rest behind_rest)
      (all_keep olds (l ∷ ls) next before behind)
