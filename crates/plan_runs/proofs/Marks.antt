-- A marker is counted on both sides.
use Rattle.std.proofs.Common.{◌≡◌, ◌⊎◌, ⊎_elim, ℕ, ◌+◌, ◌<◌, cond, List, [], ◌∷◌, ◌++◌, length, refl, sym, ap, ◌∙◌, subst, arith}
use Rattle.std.specs.Prelude.{◌==◌, slice_index_or, slice_set}
use Rattle.std.proofs.lemmas.Bool.{cases_eq, cond-true, cond-false, eq-eqb, ne_eqb}
use Rattle.std.proofs.lemmas.List.{get_or-set_same, get_or-set_other, length-set}
use Rattle.std.proofs.lemmas.List.Sums.{sum_by-append, sum_by-cons}
use Rattle.meaning_semantics.specs.State as source
use Rattle.high_ir.specs.Meaning.{World, State}
use Rattle.high_ir.specs.Runs.{count_of}
use Rattle.high_ir.specs.Tree.{Mark}
use Rattle.high_code.specs.Code.{alone}
use Rattle.plan_runs.specs.Claims.{Setting, IsSetting, MeetsIn, Went}
use Rattle.plan_runs.specs.Meets.{Layout, MeetsWorld}
use Rattle.plan_runs.proofs.Holding.{untouched_same}

count_of-then : (m x : ℕ) (trace : List ℕ) → count_of m (trace ++ x ∷ []) ≡ count_of m trace + cond (x == m) 1 0
count_of-then m x trace = sum_by-append (λ y. cond (y == m) 1 0) trace (x ∷ []) ∙ ap (λ c. count_of m trace + c) (sum_by-cons (λ y. cond (y == m) 1 0) x [] ∙ none (cond (x == m) 1 0))
  where
    none : (c : ℕ) → c + 0 ≡ c
    none c = omega arith

-- one more of one, and of the others as many
pub counted_world : (layout : Layout) (n : ℕ) (st : source.State) (w : World) (trace : List ℕ) → MeetsWorld layout st w trace → MeetsWorld layout (source.counted n st) w (trace ++ n ∷ [])
counted_world layout n st w trace m = record {
  input = m.input;
  output = m.output;
  counts = λ j lt. of j (subst (λ k. j < k) (length-set st.counts n (slice_index_or st.counts n 0 + 1)) lt) (cases_eq j n);
  marks_are = length-set st.counts n (slice_index_or st.counts n 0 + 1) ∙ m.marks_are;
  memory = m.memory;
  sizes_are = m.sizes_are;
  ranged = m.ranged;
}
  where
    none : (b : ℕ) → b ≡ b + 0
    none b = omega arith

    of : (j : ℕ) → j < length st.counts → ((j ≡ n) ⊎ (j ≡ n → ⊥)) → slice_index_or (slice_set st.counts n (slice_index_or st.counts n 0 + 1)) j 0 ≡ count_of j (trace ++ n ∷ [])
    of j lt = ⊎_elim
        (λ (e : j ≡ n).
        let here : n < length st.counts = subst (λ k. k < length st.counts) e lt in
        ap (λ k. slice_index_or (slice_set st.counts n (slice_index_or st.counts n 0 + 1)) k 0) e
        ∙ get_or-set_same st.counts n (slice_index_or st.counts n 0 + 1) 0 here
        ∙ ap (λ c. c + 1) (m.counts n here)
        ∙ sym (ap (λ c. count_of n trace + c) (cond-true (n == n) 1 0 (eq-eqb n n refl)))
        ∙ sym (count_of-then n n trace)
        ∙ ap (λ k. count_of k (trace ++ n ∷ [])) (sym e))
        (λ (other : j ≡ n → ⊥).
        get_or-set_other st.counts n j (slice_index_or st.counts n 0 + 1) 0 other
        ∙ m.counts j lt
        ∙ none (count_of j trace)
        ∙ sym (ap (λ c. count_of j trace + c) (cond-false (n == j) 1 0 (ne_eqb n j (λ e. other (sym e)))))
        ∙ sym (count_of-then j n trace))

module _ (s : Setting) (ok : IsSetting s) where
  pub marked : (n k : ℕ) (st : source.State) (h : State) → MeetsIn s st h → Went s (alone (Mark n)) k st h (source.counted n st) (λ h1. Unit {0})
  marked n k st h m = record {
    behind = record { variables = h.variables; world = h.world; trace = h.trace ++ n ∷ [] };
    runs = refl;
    reached = record {
      meets = record { world = counted_world s.layout n st h.world h.trace m.world; frame = m.frame; room_is = m.room_is };
      keeps = λ j from below. refl;
      untouched = untouched_same s.layout (s.layout.rank s.function.number) st.objects;
    };
    has = tt;
  }
