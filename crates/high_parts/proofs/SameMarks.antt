-- Marks that are their own copies: which are listed, and what runs show of them.
use Rattle.std.proofs.Common.{◌≡◌, ℕ, ◌+◌, ◌<◌, ◌≤◌, List, [], ◌∷◌, get_or, map, Option, Some, None, refl, sym, ap, ◌∙◌, subst, arith, All}
use Rattle.std.specs.Prelude.{Contains, sum_by}
use Rattle.std.specs.List.{flat_map, range_with_len}
use Rattle.std.proofs.lemmas.List.{append-nil}
use Rattle.std.proofs.lemmas.List.Elements.{All-map, All-nil, Contains-get_or}
use Rattle.std.proofs.lemmas.List.FromFn.{get_or-map-range_with_len}
use Rattle.std.proofs.lemmas.List.Sums.{sum_by-cons}
use Rattle.high_ir.specs.Runs.{Run, count_of}
use Rattle.high_ir.specs.Tree.{Program}
use Rattle.high_ir.specs.Weight.{reach}
use Rattle.high_pass.specs.Carries.{RunsAlike, shown}
use Rattle.high_pass.specs.Listing.{HasEachBelow, Listing, LoopEntry, MarkEntry, listed_marks, mark_copies}
use Rattle.high_parts.specs.Same.{same_mark, same_marks}
use Rattle.high_parts.proofs.Numbers.{range_has_each}

abbrev old_mark : MarkEntry → ℕ
old_mark e = e.old

abbrev new_marks : MarkEntry → List ℕ
new_marks e = e.new

-- a listing in which the marks stay
abbrev pub with_loops : ℕ → List LoopEntry → Listing
with_loops marks loops = record { marks = same_marks marks; loops = loops; nevers = [] }

olds : (xs : List ℕ) → map old_mark (map same_mark xs) ≡ xs
olds [] = refl
olds (x ∷ xs) = ap (λ l. x ∷ l) (olds xs)

news : (xs : List ℕ) → flat_map new_marks (map same_mark xs) ≡ xs
news [] = refl
news (x ∷ xs) = ap (λ l. x ∷ l) (news xs)

-- each old mark has an entry, in order
pub old_marks : (marks : ℕ) → map (λ (e : MarkEntry). e.old) (same_marks marks) ≡ range_with_len 0 marks
old_marks marks = olds (range_with_len 0 marks)

-- those that are listed are all marks, each once
pub marks_listed : (marks : ℕ) (loops : List LoopEntry) → HasEachBelow marks (listed_marks (with_loops marks loops))
marks_listed marks loops k = ap (count_of k) (append-nil (flat_map new_marks (same_marks marks)) ∙ news (range_with_len 0 marks)) ∙ range_has_each marks k

alone : (f : ℕ → ℕ) (m : ℕ) → sum_by f (m ∷ []) ≡ f m
alone f m = sum_by-cons f m [] ∙ none (f m)
  where
    none : (a : ℕ) → a + 0 ≡ a
    none a = omega arith

-- the same run shows the same
pub shows_same : (marks : ℕ) (loops : List LoopEntry) (o : Option Run) → RunsAlike (with_loops marks loops) (shown o) o
shows_same marks loops None = tt
shows_same marks loops (Some r) = record {
  value = refl;
  output = refl;
  counts = All-map (λ e. count_of e.old r.trace ≡ sum_by (λ k. count_of k r.trace) e.new) same_mark (range_with_len 0 marks)
      (λ i d lt. sym (alone (λ k. count_of k r.trace) (get_or (range_with_len 0 marks) i d)));
  nevers = All-nil (λ v. count_of v.mark r.trace ≡ 0);
}

-- the opening mark of a function stays
pub opening_stays : (marks f : ℕ) → f < marks → Contains (mark_copies (same_marks marks) f) f
opening_stays marks f lt = subst (λ e. Contains (new_marks e) f) (sym (get_or-map-range_with_len same_mark 0 marks f f (record { old = f; new = [] }) lt (omega arith))) (here f)
  where
    here : (f : ℕ) → Contains (f ∷ []) f
    here f = Contains-get_or (f ∷ []) 0 f (omega arith)

-- a mark is reached no more often, where a program reaches each no more often than another
pub reach_stays : (old new : Program) → ((m : ℕ) → reach new m ≤ reach old m) → (marks : ℕ) → All (λ (e : MarkEntry). sum_by (reach new) e.new ≤ reach old e.old) (same_marks marks)
reach_stays old new less marks = All-map (λ (e : MarkEntry). sum_by (reach new) e.new ≤ reach old e.old) same_mark (range_with_len 0 marks) (λ i d lt. at_mark (get_or (range_with_len 0 marks) i d))
  where
    at_mark : (m : ℕ) → sum_by (reach new) (m ∷ []) ≤ reach old m
    at_mark m = subst (λ s. s ≤ reach old m) (sym (alone (reach new) m)) (less m)
