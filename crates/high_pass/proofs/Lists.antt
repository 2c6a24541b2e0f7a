-- Which marks and loops the copies of copies list.
use Rattle.std.proofs.Common.{◌≡◌, ℕ, ◌+◌, [], length, get_or, map, sym, ap, ◌∙◌, arith}
use Rattle.std.specs.Prelude.{sum_by}
use Rattle.std.specs.List.{flat_map}
use Rattle.std.proofs.lemmas.List.Sums.{sum_by-append}
use Rattle.high_pass.specs.Composing.{at_mark, composed, copies_by, loops_through, marks_through, nevers_through, taken_back, times}
use Rattle.high_pass.specs.Listing.{LoopEntry, Listing, HasEachBelow, listed_marks, listed_loops, mark_copies, loop_copies}
use Rattle.high_ir.proofs.Sizes.{sum_by-map}
use Rattle.high_pass.proofs.Counting.{sum_by-flat_map, sum_by-HasEachBelow, sum_by-places, sum_by-pointwise}

-- how much each element adds to the sum over marks
module _ (f : ℕ → ℕ) (whole step : Listing) where
  abbrev of_mark : ℕ → ℕ
  of_mark j = sum_by f (mark_copies step.marks j)

  through_marks : sum_by f (flat_map (λ e. e.new) (map (marks_through step.marks) whole.marks)) ≡ sum_by of_mark (flat_map (λ e. e.new) whole.marks)
  through_marks =
      sum_by-flat_map f (λ e. e.new) (map (marks_through step.marks) whole.marks)
      ∙ sum_by-map (λ e. sum_by f e.new) (marks_through step.marks) whole.marks
      ∙ sum_by-pointwise (λ e. sum_by f (flat_map (mark_copies step.marks) e.new)) (λ e. sum_by of_mark e.new) whole.marks (λ k d lt. sum_by-flat_map f (mark_copies step.marks) (get_or whole.marks k d).new)
      ∙ sym (sum_by-flat_map of_mark (λ e. e.new) whole.marks)

  through_nevers : sum_by (λ v. f v.mark) (flat_map (nevers_through step.marks) whole.nevers) ≡ sum_by of_mark (map (λ v. v.mark) whole.nevers)
  through_nevers =
      sum_by-flat_map (λ v. f v.mark) (nevers_through step.marks) whole.nevers
      ∙ sum_by-pointwise (λ v. sum_by (λ u. f u.mark) (map (at_mark v) (mark_copies step.marks v.mark))) (λ v. of_mark v.mark) whole.nevers (λ k d lt. sum_by-map (λ u. f u.mark) (at_mark (get_or whole.nevers k d)) (mark_copies step.marks (get_or whole.nevers k d).mark))
      ∙ sym (sum_by-map of_mark (λ v. v.mark) whole.nevers)

  new_nevers : sum_by (λ v. f v.mark) (map (taken_back whole.loops) step.nevers) ≡ sum_by f (map (λ v. v.mark) step.nevers)
  new_nevers = sum_by-map (λ v. f v.mark) (taken_back whole.loops) step.nevers ∙ sym (sum_by-map f (λ v. v.mark) step.nevers)

  pub sum_by-listed_marks : (n : ℕ) → HasEachBelow n (listed_marks whole) → length step.marks ≡ n → sum_by f (listed_marks (composed whole step)) ≡ sum_by f (listed_marks step)
  sum_by-listed_marks n each entries =
      let front = flat_map (λ e. e.new) whole.marks in
      let back = map (λ v. v.mark) whole.nevers in
      let news = map (λ v. v.mark) step.nevers in
      sum_by-append f (flat_map (λ e. e.new) (map (marks_through step.marks) whole.marks)) (map (λ v. v.mark) (composed whole step).nevers)
      ∙ ap (λ s. s + sum_by f (map (λ v. v.mark) (composed whole step).nevers)) through_marks
      ∙ ap (λ s. sum_by of_mark front + s) (sum_by-map f (λ v. v.mark) (composed whole step).nevers ∙ sum_by-append (λ v. f v.mark) (flat_map (nevers_through step.marks) whole.nevers) (map (taken_back whole.loops) step.nevers) ∙ ap (λ s. s + sum_by (λ v. f v.mark) (map (taken_back whole.loops) step.nevers)) through_nevers ∙ ap (λ s. sum_by of_mark back + s) new_nevers)
      ∙ regroup (sum_by of_mark front) (sum_by of_mark back) (sum_by f news)
      ∙ ap (λ s. s + sum_by f news) (sym (sum_by-append of_mark front back) ∙ sum_by-HasEachBelow of_mark n (listed_marks whole) each ∙ sym (sum_by-places (λ e. sum_by f e.new) step.marks n (λ k. record { old = k; new = [] }) entries) ∙ sym (sum_by-flat_map f (λ e. e.new) step.marks))
      ∙ sym (sum_by-append f (flat_map (λ e. e.new) step.marks) news)
    where
      regroup : (a b c : ℕ) → a + (b + c) ≡ (a + b) + c
      regroup a b c = omega arith

  abbrev of_loop : ℕ → ℕ
  of_loop j = sum_by (λ l. f l.id) (loop_copies step.loops j)

  one_loop : (e : LoopEntry) → sum_by f (map (λ l. l.id) (flat_map (copies_by step.loops) e.new)) ≡ sum_by of_loop (map (λ l. l.id) e.new)
  one_loop e =
      sum_by-map f (λ l. l.id) (flat_map (copies_by step.loops) e.new)
      ∙ sum_by-flat_map (λ l. f l.id) (copies_by step.loops) e.new
      ∙ sum_by-pointwise (λ l. sum_by (λ m. f m.id) (map (times l.factor) (loop_copies step.loops l.id))) (λ l. of_loop l.id) e.new (λ k d lt. sum_by-map (λ m. f m.id) (times (get_or e.new k d).factor) (loop_copies step.loops (get_or e.new k d).id))
      ∙ sym (sum_by-map of_loop (λ l. l.id) e.new)

  pub sum_by-listed_loops : (n : ℕ) → HasEachBelow n (listed_loops whole) → length step.loops ≡ n → sum_by f (listed_loops (composed whole step)) ≡ sum_by f (listed_loops step)
  sum_by-listed_loops n each entries =
      sum_by-flat_map f (λ e. map (λ l. l.id) e.new) (map (loops_through step.loops) whole.loops)
      ∙ sum_by-map (λ e. sum_by f (map (λ l. l.id) e.new)) (loops_through step.loops) whole.loops
      ∙ sum_by-pointwise (λ e. sum_by f (map (λ l. l.id) (flat_map (copies_by step.loops) e.new))) (λ e. sum_by of_loop (map (λ l. l.id) e.new)) whole.loops (λ k d lt. one_loop (get_or whole.loops k d))
      ∙ sym (sum_by-flat_map of_loop (λ e. map (λ l. l.id) e.new) whole.loops)
      ∙ sum_by-HasEachBelow of_loop n (listed_loops whole) each
      ∙ sym (sum_by-places (λ e. sum_by (λ l. f l.id) e.new) step.loops n (λ k. record { old = k; new = [] }) entries)
      ∙ sum_by-pointwise (λ e. sum_by (λ l. f l.id) e.new) (λ e. sum_by f (map (λ l. l.id) e.new)) step.loops (λ k d lt. sym (sum_by-map f (λ l. l.id) (get_or step.loops k d).new))
      ∙ sym (sum_by-flat_map f (λ e. map (λ l. l.id) e.new) step.loops)
