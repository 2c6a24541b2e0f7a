-- Counts of marks, one behind the other.
use Rattle.std.proofs.Common.{◌≡◌, ℕ, ◌+◌, ◌<◌, ◌≤◌, inl, inr, List, length, Some, None, sym, subst, arith}
use Rattle.std.specs.Prelude.{slice_get}
use Rattle.std.proofs.lemmas.Bool.{cases_lt}
use Rattle.std.proofs.lemmas.Option.{slice_get_cases, slice_get_past}
use Rattle.high_ir.specs.declared.copies.MarkCopies.{MarkCopies}
use Rattle.try_sources.specs.Verdicts.{CountsAlike, IsCounted, passed}

module _ (trace : List ℕ) (marks : List MarkCopies) (counts : List ℕ) where
  -- a mark whose copies add up
  pub alike_at : (n count : ℕ) (mark : MarkCopies) → slice_get marks n ≡ Some mark → slice_get counts n ≡ Some count → passed trace mark.new.items ≡ count → CountsAlike trace marks counts n
  alike_at n count mark is says same = subst (λ o. IsCounted trace o (slice_get counts n)) (sym is) (subst (IsCounted trace (Some mark)) (sym says) same)

  -- one number more
  pub one_more : (n : ℕ) → ((k : ℕ) → k < n → CountsAlike trace marks counts k) → CountsAlike trace marks counts n → (k : ℕ) → k < n + 1 → CountsAlike trace marks counts k
  one_more n before here k within = elim (cases_lt k n) [
    | inl below ↦ before k below
    | inr above ↦ let same : n ≡ k = omega (arith, above, within) in subst (CountsAlike trace marks counts) same here
  ]

  -- a mark that the source doesn't count
  pub one_too_many : length counts < length marks → CountsAlike trace marks counts (length counts) → ⊥
  one_too_many more h = elim (slice_get_cases marks (length counts)).1 [
    | inl there ↦ subst (λ o. IsCounted trace o None) there.2 (subst (IsCounted trace (slice_get marks (length counts))) (slice_get_past counts (length counts) (omega arith)) h)
    | inr past ↦ absurd (omega (arith, more, past.0))
  ]

  -- all are counted alike
  pub all_alike : length marks ≤ length counts → ((k : ℕ) → k < length counts → CountsAlike trace marks counts k) → (k : ℕ) → CountsAlike trace marks counts k
  all_alike fewer below k = elim (cases_lt k (length counts)) [
    | inl within ↦ below k within
    | inr past ↦ subst (λ o. IsCounted trace o (slice_get counts k)) (sym (slice_get_past marks k (omega (arith, fewer, past)))) (subst (IsCounted trace None) (sym (slice_get_past counts k past)) tt)
  ]
