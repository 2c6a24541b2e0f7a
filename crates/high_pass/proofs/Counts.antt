-- Counts through two programs, one after the other.
use Rattle.std.proofs.Common.{◌≡◌, ℕ, ◌<◌, List, [], ◌∷◌, length, get_or, map, Option, Some, None, refl, sym, ap, ◌∙◌, subst, arith, All}
use Rattle.std.specs.Prelude.{sum_by}
use Rattle.std.specs.List.{flat_map, range_with_len}
use Rattle.std.proofs.lemmas.List.Elements.{All-append, All-cons, All-map, All-nil}
use Rattle.std.proofs.lemmas.List.Sums.{sum_by-cons}
use Rattle.high_ir.specs.Runs.{Run, count_of}
use Rattle.high_pass.specs.Carries.{Shown, ShowsAlike, RunsAlike, shown}
use Rattle.high_pass.specs.Composing.{at_mark, composed, marks_through, nevers_through, taken_back}
use Rattle.high_pass.specs.Listing.{MarkEntry, Listing, mark_copies}
use Rattle.high_pass.proofs.Counting.{sum_by-flat_map, sum_by-pointwise}
use Rattle.high_pass.proofs.Elements.{All-flat_map}
use Rattle.high_pass.proofs.Entries.{length_of_entries, number_at}

zero_parts : (f : ℕ → ℕ) (xs : List ℕ) → sum_by f xs ≡ 0 → All (λ x. f x ≡ 0) xs
zero_parts f [] e = All-nil (λ x. f x ≡ 0)
zero_parts f (x ∷ xs) e =
    let sum = sym (sum_by-cons f x xs) ∙ e in
    let a : f x ≡ 0 = omega (arith, sum) in
    let b : sum_by f xs ≡ 0 = omega (arith, sum) in
    All-cons (λ x. f x ≡ 0) x xs a (zero_parts f xs b)

module _ (step : Listing) (n : ℕ) (entries : map (λ e. e.old) step.marks ≡ range_with_len 0 n) (r : Run) (s : Run) where
  abbrev counts_old : ℕ → ℕ
  counts_old j = count_of j r.trace

  abbrev counts_new : ℕ → ℕ
  counts_new j = count_of j s.trace

  -- the count of a mark is that of its copies
  count_at : All (λ e. counts_old e.old ≡ sum_by counts_new e.new) step.marks → (j : ℕ) → j < n → counts_old j ≡ sum_by counts_new (mark_copies step.marks j)
  count_at alike j lt =
      let d : MarkEntry = record { old = j; new = [] } in
      let within : j < length step.marks = subst (λ m. j < m) (sym (length_of_entries (λ e. e.old) step.marks n entries)) lt in
      ap counts_old (sym (number_at (λ e. e.old) step.marks n j d entries refl)) ∙ alike j d within

  count_through : All (λ e. counts_old e.old ≡ sum_by counts_new e.new) step.marks → (ks : List ℕ) → All (λ k. k < n) ks → sum_by counts_old ks ≡ sum_by counts_new (flat_map (mark_copies step.marks) ks)
  count_through alike ks below =
      sum_by-pointwise counts_old (λ j. sum_by counts_new (mark_copies step.marks j)) ks (λ k d lt. count_at alike (get_or ks k d) (below k d lt))
      ∙ sym (sum_by-flat_map counts_new (mark_copies step.marks) ks)

  pub shows_through : (whole : Listing) (o : Shown) → All (λ e. All (λ k. k < n) e.new) whole.marks → All (λ v. v.mark < n) whole.nevers → ShowsAlike whole o r → ShowsAlike step (record { value = r.value; output = r.output; counts = λ m. count_of m r.trace }) s → ShowsAlike (composed whole step) o s
  shows_through whole o marks nevers h k = record {
    value = k.value ∙ h.value;
    output = k.output ∙ h.output;
    counts = All-map (λ e. o.counts e.old ≡ sum_by counts_new e.new) (marks_through step.marks) whole.marks
        (λ i d lt. h.counts i d lt ∙ count_through k.counts (get_or whole.marks i d).new (marks i d lt));
    nevers = All-append (λ v. count_of v.mark s.trace ≡ 0) (flat_map (nevers_through step.marks) whole.nevers) (map (taken_back whole.loops) step.nevers)
        (All-flat_map (λ v. count_of v.mark s.trace ≡ 0) (nevers_through step.marks) whole.nevers
        (λ i d lt. All-map (λ v. count_of v.mark s.trace ≡ 0) (at_mark (get_or whole.nevers i d)) (mark_copies step.marks (get_or whole.nevers i d).mark)
        (zero_parts counts_new (mark_copies step.marks (get_or whole.nevers i d).mark) (sym (count_at k.counts (get_or whole.nevers i d).mark (nevers i d lt)) ∙ h.nevers i d lt))))
        (All-map (λ v. count_of v.mark s.trace ≡ 0) (taken_back whole.loops) step.nevers k.nevers);
  }

pub runs_through : (whole step : Listing) (n : ℕ) → map (λ e. e.old) step.marks ≡ range_with_len 0 n → All (λ e. All (λ k. k < n) e.new) whole.marks → All (λ v. v.mark < n) whole.nevers →
    (o : Option Shown) (r s : Option Run) → RunsAlike whole o r → RunsAlike step (shown r) s → RunsAlike (composed whole step) o s
runs_through whole step n entries marks nevers None r s h k = tt
runs_through whole step n entries marks nevers (Some o) None s h k = absurd h
runs_through whole step n entries marks nevers (Some o) (Some r) None h k = absurd k
runs_through whole step n entries marks nevers (Some o) (Some r) (Some s) h k = shows_through step n entries r s whole o marks nevers h k
