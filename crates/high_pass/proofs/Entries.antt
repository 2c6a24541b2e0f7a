-- The entries of copies, which stand at their places.
use Rattle.std.proofs.Common.{◌≡◌, ℕ, ◌+◌, ◌<◌, ◌≤◌, List, length, get_or, map, sym, ap, ◌∙◌, subst, ⊎_elim, arith, All}
use Rattle.std.specs.List.{range_with_len}
use Rattle.std.proofs.lemmas.Bool.{cases_lt}
use Rattle.std.proofs.lemmas.List.{get_or-map, get_or_past, length-map}
use Rattle.std.proofs.lemmas.List.FromFn.{get_or-range_with_len, length-range_with_len}
use Rattle.high_pass.proofs.Elements.{at_or}

pub length_of_entries : {E : Type 0} (number : E → ℕ) (es : List E) (n : ℕ) → map number es ≡ range_with_len 0 n → length es ≡ n
length_of_entries number es n same = sym (length-map es number) ∙ ap length same ∙ length-range_with_len 0 n

-- an entry has the number of its place, and so has what stands for those past the end
pub number_at : {E : Type 0} (number : E → ℕ) (es : List E) (n k : ℕ) (d : E) → map number es ≡ range_with_len 0 n → number d ≡ k → number (get_or es k d) ≡ k
number_at number es n k d same past = ⊎_elim
    (λ (lt : k < length es).
    let within : k < n = subst (λ m. k < m) (length_of_entries number es n same) lt in
    sym (get_or-map number es k d k lt) ∙ ap (λ l. get_or l k k) same ∙ get_or-range_with_len 0 n k k within ∙ plain k)
    (λ (le : length es ≤ k). ap number (get_or_past es k d le) ∙ past)
    (cases_lt k (length es))
  where
    plain : (k : ℕ) → 0 + k ≡ k
    plain k = omega arith

-- what holds of each entry and its number holds at each place
pub entry_at : {E : Type 0} (P : ℕ → E → Type 0) (number : E → ℕ) (es : List E) (n k : ℕ) (d : E) → map number es ≡ range_with_len 0 n → number d ≡ k → All (λ e. P (number e) e) es → P k d → P k (get_or es k d)
entry_at P number es n k d same past all stands =
    subst (λ m. P m (get_or es k d)) (number_at number es n k d same past)
    (at_or (λ e. P (number e) e) es k d all (subst (λ m. P m d) (sym past) stands))
