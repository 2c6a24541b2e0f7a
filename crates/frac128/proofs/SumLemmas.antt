-- Lemmas on sums: what a search finds, and what writing, removing and inserting a term does.
use Rattle.std.proofs.Common.{◌≡◌, ◌≢◌, ℕ, zero, suc, ◌+◌, ◌-◌, ◌≤◌, ◌<◌, ℤ, pos, ◌+ℤ◌, ◌*ℤ◌, arith, refl, sym, ap, ◌∙◌, subst, [], ◌∷◌, length, get_or, set, Result, Ok, Err, IfOk, IfErr, inl, inr}
use Rattle.std.specs.List.{insert, remove}
use Rattle.std.specs.List.Sorted.{IsSearchInRange, IsBinarySearchResult, IsNonDecreasingBy}
use Rattle.std.specs.Ordering.{nat_cmp, ordering_index}
use Rattle.std.proofs.lemmas.Cmp.{ranked}
use Rattle.std.proofs.lemmas.Int.{ints}
use Rattle.std.proofs.lemmas.Bool.Decides.{nat_tests, eqb_tells}
use Rattle.std.proofs.lemmas.Bool.{cases_lt}
use Rattle.std.proofs.lemmas.Grind.{common_steps}
use Rattle.std.proofs.lemmas.List.{get_or_default}
use Rattle.std.proofs.lemmas.List.Sorted.{IsNonDecreasingBy-from_default, IsPermutation-insert, IsPermutation-remove, All-permutation}
use Rattle.std.proofs.lemmas.List.Elements.{All-set, All-cons, All-tail}
use Rattle.std.proofs.lemmas.List.Edits.{length-insert, get_or-insert_below, get_or-insert_at, get_or-insert_above, length-remove, get_or-remove_below, get_or-remove_above}
use Rattle.frac128.specs.Terms.{Terms, coefficient, applied, when_same}
use Rattle.frac128.specs.Sum.{IsSum, AddsTerm, SetsCoefficient, IsAt, IsGapFor, address_at}
use Rattle.frac128.proofs.TermsLemmas.{applied-from_coefficients, when_same-here, when_same-elsewhere, int_sum_by-set, int_sum_by-remove, int_sum_by-insert}

-- a search

module _ (ts : Terms) (sum : IsSum ts) (a : ℕ) where
  comparisons_rise : IsNonDecreasingBy (λ t. ordering_index (nat_cmp t.0 a)) ts
  comparisons_rise = IsNonDecreasingBy-from_default (λ t. ordering_index (nat_cmp t.0 a)) ts (0, pos 0) (λ i j le in_range.
      let rise : address_at ts i ≤ address_at ts j = grind (arith, sum.ascending i j, λ (same : i ≡ j). ap (address_at ts) same) in
      grind (arith, nat_tests))

  pub searched : (r : Result ℕ ℕ) → IsSearchInRange r (length ts) → IsBinarySearchResult (λ t. nat_cmp t.0 a) ts r → record { found : IfOk r (IsAt ts a); absent : IfErr r (IsGapFor ts a) }
  searched (Ok i) in_range equal = record { found = record { in_range = in_range; has_address = ranked _ a _ (sym (equal (0, pos 0))) }; absent = tt }
  searched (Err i) in_range parted = record {
    found = tt;
    absent = record {
      in_range = in_range;
      smaller_before = λ j lt. ranked _ a _ (sym ((parted comparisons_rise).0 j (0, pos 0) (omega arith) lt));
      greater_after = λ j le lt. ranked _ a _ (sym ((parted comparisons_rise).1 j (0, pos 0) le lt));
    };
  }

-- coefficients

-- no term before place i has the address
abbrev NoneBefore : Terms → ℕ → ℕ → Type 0
NoneBefore ts a i = (j : ℕ) → j < i → address_at ts j ≢ a

coefficient_absent : (ts : Terms) (a : ℕ) → NoneBefore ts a (length ts) → coefficient ts a ≡ pos 0
coefficient_absent [] a none = refl
coefficient_absent (t ∷ ts) a none =
    let r = coefficient_absent ts a (λ j lt. none (suc j) (omega arith)) in
    let e : when_same t.0 a t.1 ≡ pos 0 = grind (arith, nat_tests, none 0 (omega arith)) in omega (arith, ints)

pub coefficient_in_gap : (ts : Terms) (a i : ℕ) → IsGapFor ts a i → coefficient ts a ≡ pos 0
coefficient_in_gap ts a i gap = coefficient_absent ts a (λ j lt same. elim (cases_lt j i) [ inl h ↦ omega (arith, gap.smaller_before j h) | inr h ↦ omega (arith, gap.greater_after j h lt) ])

-- what adding a term means

-- the new coefficients are those of the old terms and the added one
pub coefficient-AddsTerm : (old new : Terms) (a : ℕ) (n : ℤ) → AddsTerm old new a n → (q : ℕ) → coefficient new q ≡ coefficient ((a, n) ∷ old) q
coefficient-AddsTerm old new a n adds q = elim (eqb_tells q a) [
  | inl h ↦ subst (λ z. coefficient new z ≡ coefficient ((a, n) ∷ old) z) (sym h.1) (omega (arith, ints, adds.here, when_same-here a n))
  | inr h ↦ omega (arith, ints, adds.others q h.1, when_same-elsewhere a q n h.1)
]

pub applied-AddsTerm : (old new : Terms) (a : ℕ) (n : ℤ) → AddsTerm old new a n → (f : ℕ → ℤ) → applied new f ≡ (n *ℤ f a) +ℤ applied old f
applied-AddsTerm old new a n adds f = applied-from_coefficients new ((a, n) ∷ old) f (coefficient-AddsTerm old new a n adds)

-- edits at the place of an address

module _ (ts : Terms) (sum : IsSum ts) (a i : ℕ) (place : IsAt ts a i) where
  length_remove : length (remove ts i) + 1 ≡ length ts
  length_remove = let e = length-remove ts i place.in_range in omega (arith, place.in_range)

  address_below : (j : ℕ) → j < i → address_at (remove ts i) j ≡ address_at ts j
  address_below j lt = ap (λ (t : ℕ × ℤ). t.0) (get_or-remove_below ts i (0, pos 0) j lt place.in_range)

  address_above : (j : ℕ) → i ≤ j → address_at (remove ts i) j ≡ address_at ts (j + 1)
  address_above j le = ap (λ (t : ℕ × ℤ). t.0) (get_or-remove_above ts i (0, pos 0) j le place.in_range)

  none_removed : NoneBefore (remove ts i) a (length (remove ts i))
  none_removed j lt same = elim (cases_lt j i) [
    | inl h ↦ omega (arith, sum.ascending j i h place.in_range, address_below j h, place.has_address)
    | inr h ↦ omega (arith, length_remove, sum.ascending i (j + 1) (omega arith) (omega (arith, length_remove)), address_above j h, place.has_address)
  ]

  here_before : when_same (address_at ts i) a (get_or ts i (0, pos 0)).1 ≡ (get_or ts i (0, pos 0)).1
  here_before = rw place.has_address (when_same-here a _)

  elsewhere_before : (q : ℕ) → q ≢ a → when_same (address_at ts i) q (get_or ts i (0, pos 0)).1 ≡ pos 0
  elsewhere_before q differs = rw place.has_address (when_same-elsewhere a q _ differs)

  pub coefficient_at : coefficient ts a ≡ (get_or ts i (0, pos 0)).1
  coefficient_at =
      let e = int_sum_by-remove (λ t. when_same t.0 a t.1) ts i (0, pos 0) place.in_range in
      let none = coefficient_absent (remove ts i) a none_removed in omega (arith, ints, here_before)

  pub SetsCoefficient-remove : SetsCoefficient ts (remove ts i) a (pos 0)
  SetsCoefficient-remove = record {
    here = coefficient_absent (remove ts i) a none_removed;
    others = λ q differs. let e = int_sum_by-remove (λ t. when_same t.0 q t.1) ts i (0, pos 0) place.in_range in omega (arith, ints, elsewhere_before q differs);
  }

  pub SetsCoefficient-set : (n : ℤ) → SetsCoefficient ts (set ts i (a, n)) a n
  SetsCoefficient-set n = record {
    here = let e = int_sum_by-set (λ t. when_same t.0 a t.1) ts i (a, n) (0, pos 0) place.in_range in omega (arith, ints, here_before, when_same-here a n, coefficient_at);
    others = λ q differs. let e = int_sum_by-set (λ t. when_same t.0 q t.1) ts i (a, n) (0, pos 0) place.in_range in omega (arith, ints, elsewhere_before q differs, when_same-elsewhere a q n differs);
  }

  pub IsSum-remove : IsSum (remove ts i)
  IsSum-remove = record {
    ascending = λ j k lt in_range. grind (arith, length_remove, address_below j, address_below k, address_above j, address_above k, sum.ascending j k, sum.ascending j (k + 1), sum.ascending (j + 1) (k + 1));
    no_zero =
        let t = get_or ts i (0, pos 0) in
        let permutes = IsPermutation-remove ts i t place.in_range (get_or_default ts i (0, pos 0) t place.in_range) in
        All-tail (λ t. t.1 ≢ pos 0) t (remove ts i) (All-permutation (λ t. t.1 ≢ pos 0) ts (t ∷ remove ts i) permutes sum.no_zero);
  }

  pub IsSum-set : (n : ℤ) → n ≢ pos 0 → IsSum (set ts i (a, n))
  IsSum-set n differs = record {
    ascending = λ j k lt in_range. grind (arith, common_steps, sum.ascending j k, sum.ascending j i, sum.ascending i k, place.in_range, place.has_address);
    no_zero = All-set (λ t. t.1 ≢ pos 0) ts i (a, n) differs sum.no_zero;
  }

-- an edit at the gap for an address

module _ (ts : Terms) (a i : ℕ) (gap : IsGapFor ts a i) (n : ℤ) where
  pub SetsCoefficient-insert : SetsCoefficient ts (insert ts i (a, n)) a n
  SetsCoefficient-insert = record {
    here = let e = int_sum_by-insert (λ t. when_same t.0 a t.1) ts i (a, n) in omega (arith, ints, when_same-here a n, coefficient_in_gap ts a i gap);
    others = λ q differs. let e = int_sum_by-insert (λ t. when_same t.0 q t.1) ts i (a, n) in omega (arith, ints, when_same-elsewhere a q n differs);
  }

  pub IsSum-insert : IsSum ts → n ≢ pos 0 → IsSum (insert ts i (a, n))
  IsSum-insert sum differs = record {
    ascending = λ j k lt in_range.
        let key = λ (t : ℕ × ℤ). t.0 in
        let long = length-insert ts i (a, n) gap.in_range in
        let below : (j : ℕ) → j < i → address_at (insert ts i (a, n)) j ≡ address_at ts j = λ j l. ap key (get_or-insert_below ts i (a, n) (0, pos 0) j l gap.in_range) in
        let here : (j : ℕ) → j ≡ i → address_at (insert ts i (a, n)) j ≡ a = λ j l. rw l (ap key (get_or-insert_at ts i (a, n) (0, pos 0) gap.in_range)) in
        let above : (j : ℕ) → i < j → address_at (insert ts i (a, n)) j ≡ address_at ts (j - 1) = λ j l. subst (λ q. address_at (insert ts i (a, n)) q ≡ address_at ts (j - 1)) {x = j - 1 + 1} (omega arith) (ap key (get_or-insert_above ts i (a, n) (0, pos 0) (j - 1) (omega arith) gap.in_range)) in
        grind (arith, below j, here j, above j, below k, here k, above k, sum.ascending j k, sum.ascending j (k - 1), sum.ascending (j - 1) (k - 1), gap.smaller_before j, gap.greater_after (k - 1));
    no_zero = All-permutation (λ t. t.1 ≢ pos 0) ((a, n) ∷ ts) (insert ts i (a, n)) (IsPermutation-insert ts i (a, n)) (All-cons (λ t. t.1 ≢ pos 0) (a, n) ts differs sum.no_zero);
  }

-- a sum is determined by its coefficients

coefficient_first : (t : ℕ × ℤ) (ts : Terms) → IsSum (t ∷ ts) → coefficient (t ∷ ts) t.0 ≡ t.1
coefficient_first t ts sum = coefficient_at (t ∷ ts) sum t.0 0 (record { in_range = omega arith; has_address = refl })

IsSum-tail : (t : ℕ × ℤ) (ts : Terms) → IsSum (t ∷ ts) → IsSum ts
IsSum-tail t ts sum = record {
  ascending = λ i j lt in_range. sum.ascending (suc i) (suc j) (omega arith) (omega arith);
  no_zero = All-tail (λ t. t.1 ≢ pos 0) t ts sum.no_zero;
}

first_not_zero : (t : ℕ × ℤ) (ts : Terms) → IsSum (t ∷ ts) → coefficient (t ∷ ts) t.0 ≢ pos 0
first_not_zero t ts sum e = sum.no_zero 0 t (omega arith) (sym (coefficient_first t ts sum) ∙ e)

coefficient_below : (t : ℕ × ℤ) (ts : Terms) (a : ℕ) → IsSum (t ∷ ts) → a < t.0 → coefficient (t ∷ ts) a ≡ pos 0
coefficient_below t ts a sum below = coefficient_absent (t ∷ ts) a differs
  where
    differs : NoneBefore (t ∷ ts) a (length (t ∷ ts))
    differs zero lt same = omega (arith, below)
    differs (suc j) lt same = omega (arith, below, sum.ascending 0 (suc j) (omega arith) lt)

same_term : (s t : ℕ × ℤ) → s.0 ≡ t.0 → s.1 ≡ t.1 → s ≡ t
same_term (a, n) (b, k) e f = cc

same_first : (s t : ℕ × ℤ) (ss ts : Terms) → IsSum (s ∷ ss) → IsSum (t ∷ ts) → ((a : ℕ) → coefficient (s ∷ ss) a ≡ coefficient (t ∷ ts) a) → s ≡ t
same_first s t ss ts s_sum t_sum same = elim (cases_lt s.0 t.0) [
  | inl lt ↦ absurd (first_not_zero s ss s_sum (same s.0 ∙ coefficient_below t ts s.0 t_sum lt))
  | inr le ↦ elim (cases_lt t.0 s.0) [
    | inl lt ↦ absurd (first_not_zero t ts t_sum (sym (same t.0) ∙ coefficient_below s ss t.0 s_sum lt))
    | inr ge ↦
        let address : s.0 ≡ t.0 = omega (arith, le, ge) in
        same_term s t address (sym (coefficient_first s ss s_sum) ∙ (same s.0 ∙ subst (λ a. coefficient (t ∷ ts) a ≡ t.1) (sym address) (coefficient_first t ts t_sum)))
  ]
]

pub IsSum-same : (ss ts : Terms) → IsSum ss → IsSum ts → ((a : ℕ) → coefficient ss a ≡ coefficient ts a) → ss ≡ ts
IsSum-same [] [] s_sum t_sum same = refl
IsSum-same (s ∷ ss) [] s_sum t_sum same = absurd (first_not_zero s ss s_sum (same s.0))
IsSum-same [] (t ∷ ts) s_sum t_sum same = absurd (first_not_zero t ts t_sum (sym (same t.0)))
IsSum-same (s ∷ ss) (t ∷ ts) s_sum t_sum same =
    let first = same_first s t ss ts s_sum t_sum same in
    let tails : (a : ℕ) → coefficient ss a ≡ coefficient ts a = λ a.
    let e = same a in
    let f : when_same s.0 a s.1 ≡ when_same t.0 a t.1 = ap (λ (x : ℕ × ℤ). when_same x.0 a x.1) first in omega (arith, ints) in
    cc (first, IsSum-same ss ts (IsSum-tail s ss s_sum) (IsSum-tail t ts t_sum) tails)
