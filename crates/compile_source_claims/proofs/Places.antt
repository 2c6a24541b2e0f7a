-- Addresses of which none stands twice ascend when they are sorted.
use Rattle.std.proofs.Common.{◌≡◌, ℕ, zero, suc, ◌+◌, ◌%◌, ◌<◌, ◌≤◌, Bool, true, false, List, [], ◌∷◌, ◌++◌, length, get_or, map, refl, sym, ap, ◌∙◌, subst, All, arith, inl, inr, ⊎_elim}
use Rattle.std.specs.Prelude.{◌==◌, if◌then◌else◌, nat_lt, sum_by, IsPermutation}
use Rattle.std.specs.List.{flat_map}
use Rattle.std.specs.List.Sorted.{IsNonDecreasing, IsSorted}
use Rattle.std.specs.Ordering.{nat_cmp}
use Rattle.std.proofs.lemmas.Bool.{cases_lt}
use Rattle.std.proofs.lemmas.Bool.Decides.{eqb_tells, nat_tests}
use Rattle.std.proofs.lemmas.List.Concat.{flat_map-cons}
use Rattle.std.proofs.lemmas.List.Elements.{All-cons, All-head, All-nil, All-tail, All-weaker}
use Rattle.std.proofs.lemmas.List.Sorted.{IsNonDecreasingBy-from_sort, sum_by-IsPermutation}
use Rattle.std.proofs.lemmas.List.Sums.{sum_by-append, sum_by-cons}
use Rattle.high_ir.specs.Runs.{count_of}
use Rattle.high_ir.specs.declared.copies.NeverMark.{NeverMark}
use Rattle.high_pass.specs.Listing.{HasEachBelow, Listing, MarkEntry, listed_marks}
use Rattle.claims_definition.specs.ClaimLaws.{Rise}
use Rattle.report_text.specs.Forms.{Ascend}

-- addresses that rise ascend

rise_above : (a : ℕ) (xs : List ℕ) → Rise a xs → All (λ x. a ≤ x) xs
rise_above a [] h = All-nil (λ x. a ≤ x)
rise_above a (x ∷ xs) h =
    let le = h.0 in
    All-cons (λ x. a ≤ x) x xs le (All-weaker (λ y. x + 4 ≤ y) (λ y. a ≤ y) (λ y k. omega (arith, le, k)) xs (rise_above (x + 4) xs h.1.1))

pub rise_ascends : (a : ℕ) (xs : List ℕ) → Rise a xs → Ascend xs
rise_ascends a [] h = tt
rise_ascends a (x ∷ xs) h = (All-weaker (λ y. x + 4 ≤ y) (λ y. x < y) (λ y k. omega (arith, k)) xs (rise_above (x + 4) xs h.1.1), rise_ascends (x + 4) xs h.1.1)

pub rise_aligned : (a : ℕ) (xs : List ℕ) → Rise a xs → All (λ x. x % 4 ≡ 0) xs
rise_aligned a [] h = All-nil (λ x. x % 4 ≡ 0)
rise_aligned a (x ∷ xs) h = All-cons (λ y. y % 4 ≡ 0) x xs h.1.0 (rise_aligned (x + 4) xs h.1.1)

-- how often a number stands in a list

abbrev once : ℕ → ℕ → ℕ
once a x = if x == a then 1 else 0

once_same : (a x : ℕ) → x ≡ a → once a x ≡ 1
once_same a x e = grind (arith, nat_tests)

once_other : (a x : ℕ) → a < x → once a x ≡ 0
once_other a x lt = grind (arith, nat_tests)

once_few : (a x : ℕ) → once a x ≤ 1
once_few a x = grind (arith, nat_tests)

pub times : ℕ → List ℕ → ℕ
times a xs = sum_by (once a) xs

times-cons : (a x : ℕ) (xs : List ℕ) → times a (x ∷ xs) ≡ once a x + times a xs
unfolding times
times-cons a x xs = sum_by-cons (once a) x xs

times-nil : (a : ℕ) → times a [] ≡ 0
unfolding times
times-nil a = refl

times-append : (a : ℕ) (xs ys : List ℕ) → times a (xs ++ ys) ≡ times a xs + times a ys
unfolding times
times-append a xs ys = sum_by-append (once a) xs ys

times-counted : (a : ℕ) (xs : List ℕ) → times a xs ≡ count_of a xs
unfolding times
times-counted a xs = refl

pub times-permuted : (a : ℕ) (xs ys : List ℕ) → IsPermutation xs ys → times a ys ≡ times a xs
unfolding times
times-permuted a xs ys h = sum_by-IsPermutation (once a) xs ys h

none_below : (a : ℕ) (xs : List ℕ) → All (λ b. a < b) xs → times a xs ≡ 0
none_below a [] h = times-nil a
none_below a (x ∷ xs) h =
    let here = once_other a x (All-head (λ b. a < b) x xs h) in
    let rest = none_below a xs (All-tail (λ b. a < b) x xs h) in
    times-cons a x xs ∙ omega (arith, here, rest)

at_most_once : (a : ℕ) (xs : List ℕ) → Ascend xs → times a xs ≤ 1
at_most_once a [] h = let none = times-nil a in omega (arith, none)
at_most_once a (x ∷ xs) h =
    let rest = at_most_once a xs h.1 in
    let all = times-cons a x xs in
    elim (eqb_tells x a) [
      | inl e ↦
          let here = once_few a x in
          let none = none_below a xs (subst (λ z. All (λ b. z < b) xs) e.1 h.0) in
          omega (arith, here, none, all)
      | inr e ↦
          let here : once a x ≡ 0 = ap (λ (b : Bool). if b then 1 else 0) e.0 in
          omega (arith, here, rest, all)
    ]

there : (a : ℕ) (xs : List ℕ) (k d : ℕ) → k < length xs → get_or xs k d ≡ a → 1 ≤ times a xs
there a [] k d lt e = absurd (omega (arith, lt))
there a (x ∷ xs) zero d lt e = let here = once_same a x e in let all = times-cons a x xs in omega (arith, here, all)
there a (x ∷ xs) (suc k) d lt e = let rest = there a xs k d (omega (arith, lt)) e in let all = times-cons a x xs in omega (arith, rest, all)

-- a list in which no number stands twice, none below one before it

less : (a b : ℕ) → a ≤ b → (b ≡ a → ⊥) → a < b
less a b le other = grind arith

pub strictly : (xs : List ℕ) → ((a : ℕ) → times a xs ≤ 1) → IsNonDecreasing xs → Ascend xs
strictly [] few up = tt
strictly (x ∷ xs) few up = (above, strictly xs fewer (λ i j d le lt. up (suc i) (suc j) d (omega (arith, le)) (omega (arith, lt))))
  where
    apart : (k d : ℕ) → k < length xs → get_or xs k d ≡ x → ⊥
    apart k d lt e =
        let more = there x xs k d lt e in
        let all = times-cons x x xs in
        let here = once_same x x refl in
        let most = few x in
        omega (arith, more, all, here, most)

    above : All (λ b. x < b) xs
    above k d lt = less x (get_or xs k d) (up zero (suc k) d (omega arith) (omega (arith, lt))) (apart k d lt)

    fewer : (a : ℕ) → times a xs ≤ 1
    fewer a = let all = times-cons a x xs in let most = few a in omega (arith, all, most)

pub sorted_ascends : (xs ys : List ℕ) → ((a : ℕ) → times a xs ≤ 1) → IsPermutation xs ys → IsSorted nat_cmp ys → Ascend ys
sorted_ascends xs ys once_each same sorted =
    strictly ys (λ a. let few = once_each a in let is = times-permuted a xs ys same in omega (arith, few, is)) (IsNonDecreasingBy-from_sort (λ x. x) ys sorted)

-- the lists of several numbers, where each list ascends and no two have an element in common

module _ (P : ℕ → ℕ → Type 0) (apart : (m n a : ℕ) → P m a → P n a → m ≡ n) (lists : ℕ → List ℕ) (each : (m : ℕ) → All (P m) (lists m)) (up : (m : ℕ) → Ascend (lists m)) (a : ℕ) where
  held : (m : ℕ) (xs : List ℕ) → All (P m) xs → 1 ≤ times a xs → P m a
  held m [] all some = let none = times-nil a in absurd (omega (arith, none, some))
  held m (x ∷ xs) all some =
      let sum = times-cons a x xs in
      let rest : 1 ≤ times a xs → P m a = held m xs (All-tail (P m) x xs all) in
      elim (eqb_tells x a) [
        | inl e ↦ subst (P m) e.1 (All-head (P m) x xs all)
        | inr e ↦
            let here : once a x ≡ 0 = ap (λ (b : Bool). if b then 1 else 0) e.0 in
            rest (omega (arith, here, sum, some))
      ]

  lists-cons : (m : ℕ) (ms : List ℕ) → times a (flat_map lists (m ∷ ms)) ≡ times a (lists m) + times a (flat_map lists ms)
  lists-cons m ms = ap (times a) (flat_map-cons lists m ms) ∙ times-append a (lists m) (flat_map lists ms)

  -- one of the numbers, in whose list the element stands
  record Holder (ms : List ℕ) : Type 0 where
    number : ℕ
    among : 1 ≤ times number ms
    holds : P number a

  holder : (ms : List ℕ) → 1 ≤ times a (flat_map lists ms) → Holder ms
  holder [] some = let none = times-nil a in absurd (omega (arith, none, some))
  holder (m ∷ ms) some =
      let sum = lists-cons m ms in
      ⊎_elim
      (λ (none : times a (lists m) < 1).
      let rest = holder ms (omega (arith, sum, some, none)) in
      let more = times-cons rest.number m ms in
      let inside = rest.among in
      record { number = rest.number; among = omega (arith, more, inside); holds = rest.holds })
      (λ (here : 1 ≤ times a (lists m)).
      let first = times-cons m m ms in
      let own = once_same m m refl in
      record { number = m; among = omega (arith, first, own); holds = held m (lists m) (each m) here })
      (cases_lt (times a (lists m)) 1)

  pub together_once : (ms : List ℕ) → ((m : ℕ) → times m ms ≤ 1) → times a (flat_map lists ms) ≤ 1
  together_once [] once_each = let none = times-nil a in omega (arith, none)
  together_once (m ∷ ms) once_each =
      let sum = lists-cons m ms in
      let first = at_most_once a (lists m) (up m) in
      let rest = together_once ms (λ n. let all = times-cons n m ms in let most = once_each n in omega (arith, all, most)) in
      ⊎_elim
      (λ (none : times a (lists m) < 1). omega (arith, sum, rest, none))
      (λ (here : 1 ≤ times a (lists m)). ⊎_elim
      (λ (none : times a (flat_map lists ms) < 1). omega (arith, sum, first, none))
      (λ (more : 1 ≤ times a (flat_map lists ms)).
      let other = holder ms more in
      let same : m ≡ other.number = apart m other.number a (held m (lists m) (each m) here) other.holds in
      let again : 1 ≤ times m ms = subst (λ n. 1 ≤ times n ms) (sym same) other.among in
      let all = times-cons m m ms in
      let own = once_same m m refl in
      let most = once_each m in
      absurd (omega (arith, all, own, again, most)))
      (cases_lt (times a (flat_map lists ms)) 1))
      (cases_lt (times a (lists m)) 1)

-- no mark is listed twice, so none is a copy of one mark twice

entries_once : (k n : ℕ) (es : List MarkEntry) → times k (flat_map (λ (e : MarkEntry). e.new) es) ≤ n → All (λ (e : MarkEntry). times k e.new ≤ n) es
entries_once k n [] few = All-nil (λ (e : MarkEntry). times k e.new ≤ n)
entries_once k n (e ∷ es) few =
    let sum = ap (times k) (flat_map-cons (λ (x : MarkEntry). x.new) e es) ∙ times-append k e.new (flat_map (λ (x : MarkEntry). x.new) es) in
    All-cons (λ (x : MarkEntry). times k x.new ≤ n) e es (omega (arith, sum, few)) (entries_once k n es (omega (arith, sum, few)))

one_or_none : (b : Bool) → (if b then 1 else 0) ≤ 1
one_or_none true = omega arith
one_or_none false = omega arith

pub copies_once : (c : Listing) (n : ℕ) → HasEachBelow n (listed_marks c) → All (λ (e : MarkEntry). (k : ℕ) → times k e.new ≤ 1) c.marks
copies_once c n each = λ i d lt k.
    let marks = flat_map (λ (e : MarkEntry). e.new) c.marks in
    let nevers = map (λ (v : NeverMark). v.mark) c.nevers in
    let sum = times-append k marks nevers in
    let count = times-counted k (marks ++ nevers) ∙ each k in
    let most = one_or_none (nat_lt k n) in
    entries_once k 1 c.marks (omega (arith, sum, count, most)) i d lt

-- nor is one a never mark twice
pub nevers_once : (c : Listing) (n : ℕ) → HasEachBelow n (listed_marks c) → (k : ℕ) → times k (map (λ (v : NeverMark). v.mark) c.nevers) ≤ 1
nevers_once c n each k =
    let marks = flat_map (λ (e : MarkEntry). e.new) c.marks in
    let nevers = map (λ (v : NeverMark). v.mark) c.nevers in
    let sum = times-append k marks nevers in
    let count = times-counted k (marks ++ nevers) ∙ each k in
    let most = one_or_none (nat_lt k n) in
    omega (arith, sum, count, most)
