-- The labels of marks: an old mark is its own, a new one has that of the mark that it is a copy of.
use Rattle.std.proofs.Common.{◌≡◌, ⊎_elim, ℕ, suc, ◌+◌, ◌<◌, ◌≤◌, cond, nat_lt, List, [], ◌∷◌, length, map, Option, Some, None, refl, sym, ap, ◌∙◌, subst, arith, All}
use Rattle.std.specs.Prelude.{◌==◌, if◌then◌else◌, get_or, sum_by}
use Rattle.std.specs.List.{flat_map, range_with_len}
use Rattle.std.proofs.lemmas.Bool.{cases_eq, cases_lt, cond-false, cond-true, eq-eqb, le-ltb, lt-ltb, ne_eqb}
use Rattle.std.proofs.lemmas.List.Elements.{All-cons, All-head, All-map, All-nil, All-tail}
use Rattle.std.proofs.lemmas.List.FromFn.{get_or-range_with_len, length-range_with_len}
use Rattle.std.proofs.lemmas.List.Sums.{sum_by-append, sum_by-cons}
use Rattle.high_ir.specs.Meaning.{Labels}
use Rattle.high_ir.specs.Runs.{count_of}
use Rattle.high_ir.proofs.Sizes.{sum_by-map}
use Rattle.high_pass.specs.Listing.{HasEachBelow, Listing, listed_marks}
use Rattle.high_pass.proofs.Counting.{sum_by-flat_map, sum_by-pointwise}
use Rattle.high_unrolled.specs.Serving.{ServesLabel}
use Rattle.high_unrolled.specs.Standing.{Grouped, IsGroup, hits}
use Rattle.high_unrolled.proofs.ServingCounting.{count-cons, hit, hit-turned}
use Rattle.high_unrolled.specs.declared.made.Made.{Made}
use Rattle.high_unrolled.specs.declared.made.Made.TheVariants.{CopyOf, Behind}
use Rattle.high_unrolled.specs.Programs.{copies_from, copies_of, nevers_from}
use Rattle.high_unrolled.proofs.Numbered.{Numbered, numbered_weaker}
use Rattle.high_unrolled.proofs.Rising.{count-other, count-same, range_within}
use Rattle.high_unrolled.proofs.Runs.{IsLabelled, made_label}

abbrev pub label_from : ℕ → List Made → Labels
label_from n [] k = None
label_from n (x ∷ xs) k = if n == k then made_label x else label_from (n + 1) xs k

-- where the new marks have the numbers from n on
abbrev pub label_of : ℕ → List Made → Labels
label_of n made k = if nat_lt k n then Some k else label_from n made k

pub label-old : (n : ℕ) (made : List Made) (k : ℕ) → k < n → label_of n made k ≡ Some k
label-old n made k lt = cond-true (nat_lt k n) (Some k) (label_from n made k) (lt-ltb k n lt)

label-new : (n : ℕ) (made : List Made) (k : ℕ) → n ≤ k → label_of n made k ≡ label_from n made k
label-new n made k le = cond-false (nat_lt k n) (Some k) (label_from n made k) (le-ltb k n le)

label-here : (n : ℕ) (x : Made) (xs : List Made) → label_from n (x ∷ xs) n ≡ made_label x
label-here n x xs = cond-true (n == n) (made_label x) (label_from (n + 1) xs n) (eq-eqb n n refl)

label-later : (n : ℕ) (x : Made) (xs : List Made) (k : ℕ) → (n ≡ k → ⊥) → label_from n (x ∷ xs) k ≡ label_from (n + 1) xs k
label-later n x xs k other = cond-false (n == k) (made_label x) (label_from (n + 1) xs k) (ne_eqb n k other)

label_serves : (a b : Option ℕ) → b ≡ a → ServesLabel a b
label_serves None b e = tt
label_serves (Some x) b e = e

-- each new mark has its label
abbrev pub IsNamed : Labels → Made → ℕ → Type 0
IsNamed m x k = m k ≡ made_label x

numbered_from : (m : Labels) (n : ℕ) (xs : List Made) → ((k : ℕ) → n ≤ k → m k ≡ label_from n xs k) → Numbered (IsNamed m) n xs
numbered_from m n [] h = tt
numbered_from m n (x ∷ xs) h =
    (h n (omega arith) ∙ label-here n x xs, numbered_from m (n + 1) xs (λ k le. h k (omega (arith, le)) ∙ label-later n x xs k (λ e. absurd (omega (arith, le, e)))))

pub numbered_names : (n : ℕ) (made : List Made) → Numbered (IsNamed (label_of n made)) n made
numbered_names n made = numbered_from (label_of n made) n made (label-new n made)

pub numbered_labels : (n : ℕ) (made : List Made) → Numbered (IsLabelled (label_of n made)) n made
numbered_labels n made = numbered_weaker (IsNamed (label_of n made)) (IsLabelled (label_of n made)) (λ x k e. label_serves (made_label x) (label_of n made k) e) n made (numbered_names n made)

-- the copies of a mark

-- below the numbers of all new marks stands none
copies_later : (n : ℕ) (made : List Made) (mark k : ℕ) → k < n → count_of k (copies_from n made mark) ≡ 0
copies_later n [] mark k lt = refl
copies_later n (CopyOf y ∷ xs) mark k lt = ⊎_elim
    (λ (same : y ≡ mark).
    ap (count_of k) (cond-true (y == mark) (n ∷ copies_from (n + 1) xs mark) (copies_from (n + 1) xs mark) (eq-eqb y mark same))
    ∙ count-other k n (copies_from (n + 1) xs mark) (λ e. absurd (omega (arith, lt, e)))
    ∙ copies_later (n + 1) xs mark k (omega (arith, lt)))
    (λ (other : y ≡ mark → ⊥).
    ap (count_of k) (cond-false (y == mark) (n ∷ copies_from (n + 1) xs mark) (copies_from (n + 1) xs mark) (ne_eqb y mark other))
    ∙ copies_later (n + 1) xs mark k (omega (arith, lt)))
    (cases_eq y mark)
copies_later n (Behind l ∷ xs) mark k lt = copies_later (n + 1) xs mark k (omega (arith, lt))

above : (n k : ℕ) → n ≤ k → (n ≡ k → ⊥) → n + 1 ≤ k
above n k le other = ⊎_elim (λ (lt : n < k). omega (arith, lt)) (λ (ge : k ≤ n). absurd (other (omega (arith, le, ge)))) (cases_lt n k)

hits_same : (y mark : ℕ) → y ≡ mark → hits (Some y) mark ≡ 1
hits_same y mark e = cond-true {A = ℕ} (y == mark) 1 0 (eq-eqb y mark e)

hits_other : (y mark : ℕ) → (y ≡ mark → ⊥) → hits (Some y) mark ≡ 0
hits_other y mark e = cond-false {A = ℕ} (y == mark) 1 0 (ne_eqb y mark e)

copies_count : (n : ℕ) (made : List Made) (mark k : ℕ) → n ≤ k → count_of k (copies_from n made mark) ≡ hits (label_from n made k) mark
copies_count n [] mark k le = refl
copies_count n (CopyOf y ∷ xs) mark k le = ⊎_elim
    (λ (same : y ≡ mark).
    ap (count_of k) (cond-true (y == mark) (n ∷ copies_from (n + 1) xs mark) (copies_from (n + 1) xs mark) (eq-eqb y mark same))
    ∙ ⊎_elim
    (λ (here : n ≡ k).
    ap (λ j. count_of k (j ∷ copies_from (n + 1) xs mark)) here
    ∙ count-same k (copies_from (n + 1) xs mark)
    ∙ ap (λ c. 1 + c) (copies_later (n + 1) xs mark k (omega (arith, here)))
    ∙ sym (hits_same y mark same)
    ∙ ap (λ o. hits o mark) (sym (label-here n (CopyOf y) xs) ∙ ap (label_from n (CopyOf y ∷ xs)) here))
    (λ (later : n ≡ k → ⊥).
    count-other k n (copies_from (n + 1) xs mark) later
    ∙ copies_count (n + 1) xs mark k (above n k le later)
    ∙ ap (λ o. hits o mark) (sym (label-later n (CopyOf y) xs k later)))
    (cases_eq n k))
    (λ (other : y ≡ mark → ⊥).
    ap (count_of k) (cond-false (y == mark) (n ∷ copies_from (n + 1) xs mark) (copies_from (n + 1) xs mark) (ne_eqb y mark other))
    ∙ ⊎_elim
    (λ (here : n ≡ k).
    copies_later (n + 1) xs mark k (omega (arith, here))
    ∙ sym (hits_other y mark other)
    ∙ ap (λ o. hits o mark) (sym (label-here n (CopyOf y) xs) ∙ ap (label_from n (CopyOf y ∷ xs)) here))
    (λ (later : n ≡ k → ⊥).
    copies_count (n + 1) xs mark k (above n k le later)
    ∙ ap (λ o. hits o mark) (sym (label-later n (CopyOf y) xs k later)))
    (cases_eq n k))
    (cases_eq y mark)
copies_count n (Behind l ∷ xs) mark k le = ⊎_elim
    (λ (here : n ≡ k).
    copies_later (n + 1) xs mark k (omega (arith, here))
    ∙ ap (λ o. hits o mark) (sym (label-here n (Behind l) xs) ∙ ap (label_from n (Behind l ∷ xs)) here))
    (λ (later : n ≡ k → ⊥).
    copies_count (n + 1) xs mark k (above n k le later)
    ∙ ap (λ o. hits o mark) (sym (label-later n (Behind l) xs k later)))
    (cases_eq n k)

-- the copies of an old mark are the marks with its label
pub is_group : (n : ℕ) (made : List Made) (mark : ℕ) → mark < n → IsGroup (label_of n made) (copies_of n made mark)
is_group n made mark lt k =
    count-cons k mark (copies_from n made mark)
    ∙ ⊎_elim
    (λ (old : k < n).
    let a = copies_later n made mark k old in
    let b = hit-turned mark k in
    let c : hits (label_of n made k) mark ≡ hit k mark = ap (λ o. hits o mark) (label-old n made k old) in
    omega (arith, a, b, c))
    (λ (new : n ≤ k).
    let a = copies_count n made mark k new in
    let b : hit mark k ≡ 0 = cond-false {A = ℕ} (mark == k) 1 0 (ne_eqb mark k (λ e. absurd (omega (arith, e, lt, new)))) in
    let c : hits (label_of n made k) mark ≡ hits (label_from n made k) mark = ap (λ o. hits o mark) (label-new n made k new) in
    omega (arith, a, b, c))
    (cases_lt k n)

-- the never marks have no label
nevers_unlabelled : (m : Labels) (factor n : ℕ) (made : List Made) → ((k : ℕ) → n ≤ k → m k ≡ label_from n made k) → All (λ v. m v.mark ≡ None) (nevers_from factor n made)
nevers_unlabelled m factor n [] h = All-nil (λ v. m v.mark ≡ None)
nevers_unlabelled m factor n (CopyOf y ∷ xs) h = nevers_unlabelled m factor (n + 1) xs (λ k le. h k (omega (arith, le)) ∙ label-later n (CopyOf y) xs k (λ e. absurd (omega (arith, le, e))))
nevers_unlabelled m factor n (Behind l ∷ xs) h =
    All-cons (λ v. m v.mark ≡ None) (record { mark = n; old = l; factor = factor }) (nevers_from factor (n + 1) xs)
    (h n (omega arith) ∙ label-here n (Behind l) xs)
    (nevers_unlabelled m factor (n + 1) xs (λ k le. h k (omega (arith, le)) ∙ label-later n (Behind l) xs k (λ e. absurd (omega (arith, le, e)))))

module _ (n : ℕ) (made : List Made) where
  below_all : (i d : ℕ) → i < length (range_with_len 0 n) → get_or (range_with_len 0 n) i d < n
  below_all i d lt =
      let within : i < n = subst (λ j. i < j) (length-range_with_len 0 n) lt in
      omega (arith, within, get_or-range_with_len 0 n i d within)

  pub grouped : (factor : ℕ) (c : Listing) → c.marks ≡ map (copies_of n made) (range_with_len 0 n) → c.nevers ≡ nevers_from factor n made → Grouped (label_of n made) c
  grouped factor c marks nevers = record {
    marks = subst (All (IsGroup (label_of n made))) (sym marks)
        (All-map (IsGroup (label_of n made)) (copies_of n made) (range_with_len 0 n) (λ i d lt. is_group n made (get_or (range_with_len 0 n) i d) (below_all i d lt)));
    nevers = subst (All (λ v. label_of n made v.mark ≡ None)) (sym nevers) (nevers_unlabelled (label_of n made) factor n made (label-new n made));
  }

-- 1 for a mark that has a label
abbrev labelled : Option ℕ → ℕ
labelled None = 0
labelled (Some y) = 1

nevers_later : (factor n : ℕ) (made : List Made) (k : ℕ) → k < n → count_of k (map (λ v. v.mark) (nevers_from factor n made)) ≡ 0
nevers_later factor n [] k lt = refl
nevers_later factor n (CopyOf y ∷ xs) k lt = nevers_later factor (n + 1) xs k (omega (arith, lt))
nevers_later factor n (Behind l ∷ xs) k lt =
    count-other k n (map (λ v. v.mark) (nevers_from factor (n + 1) xs)) (λ e. absurd (omega (arith, lt, e)))
    ∙ nevers_later factor (n + 1) xs k (omega (arith, lt))

-- a new mark has a label, or is a never mark
each_new : (factor n : ℕ) (made : List Made) (k : ℕ) → n ≤ k → labelled (label_from n made k) + count_of k (map (λ v. v.mark) (nevers_from factor n made)) ≡ cond (nat_lt k (n + length made)) 1 0
each_new factor n [] k le = sym (cond-false {A = ℕ} (nat_lt k (n + 0)) 1 0 (le-ltb k (n + 0) (omega (arith, le))))
each_new factor n (x ∷ xs) k le = ⊎_elim
    (λ (here : n ≡ k). by_kind x here ∙ sym (cond-true {A = ℕ} (nat_lt k (n + suc (length xs))) 1 0 (lt-ltb k (n + suc (length xs)) (omega (arith, here)))))
    (λ (later : n ≡ k → ⊥).
    ap (λ o. labelled o + count_of k (map (λ v. v.mark) (nevers_from factor n (x ∷ xs)))) (label-later n x xs k later)
    ∙ ap (λ c. labelled (label_from (n + 1) xs k) + c) (passed x later)
    ∙ each_new factor (n + 1) xs k (above n k le later)
    ∙ ap (λ j. cond (nat_lt k j) 1 0) (moved (length xs)))
    (cases_eq n k)
  where
    moved : (j : ℕ) → n + 1 + j ≡ n + suc j
    moved j = omega arith

    passed : (y : Made) → (n ≡ k → ⊥) → count_of k (map (λ v. v.mark) (nevers_from factor n (y ∷ xs))) ≡ count_of k (map (λ v. v.mark) (nevers_from factor (n + 1) xs))
    passed (CopyOf y) later = refl
    passed (Behind l) later = count-other k n (map (λ v. v.mark) (nevers_from factor (n + 1) xs)) later

    none : (e : n ≡ k) → count_of k (map (λ v. v.mark) (nevers_from factor (n + 1) xs)) ≡ 0
    none e = nevers_later factor (n + 1) xs k (omega (arith, e))

    by_kind : (y : Made) → n ≡ k → labelled (label_from n (y ∷ xs) k) + count_of k (map (λ v. v.mark) (nevers_from factor n (y ∷ xs))) ≡ 1
    by_kind (CopyOf y) e =
        ap (λ o. labelled o + count_of k (map (λ v. v.mark) (nevers_from factor (n + 1) xs))) (ap (label_from n (CopyOf y ∷ xs)) (sym e) ∙ label-here n (CopyOf y) xs)
        ∙ ap (λ c. 1 + c) (none e)
    by_kind (Behind l) e =
        ap (λ o. labelled o + count_of k (n ∷ map (λ v. v.mark) (nevers_from factor (n + 1) xs))) (ap (label_from n (Behind l ∷ xs)) (sym e) ∙ label-here n (Behind l) xs)
        ∙ ap (λ j. 0 + count_of k (j ∷ map (λ v. v.mark) (nevers_from factor (n + 1) xs))) e
        ∙ ap (λ c. 0 + c) (count-same k (map (λ v. v.mark) (nevers_from factor (n + 1) xs)))
        ∙ ap (λ c. 0 + (1 + c)) (none e)

-- each label is that of an old mark
abbrev pub IsOld : ℕ → Made → Type 0
IsOld n (CopyOf y) = y < n
IsOld n (Behind l) = Unit {0}

abbrev LabelBelow : ℕ → Option ℕ → Type 0
LabelBelow n None = Unit {0}
LabelBelow n (Some y) = y < n

label_below : (n a : ℕ) (made : List Made) → All (IsOld n) made → (k : ℕ) → LabelBelow n (label_from a made k)
label_below n a [] all k = tt
label_below n a (x ∷ xs) all k = ⊎_elim
    (λ (here : a ≡ k). subst (LabelBelow n) (sym (ap (label_from a (x ∷ xs)) (sym here) ∙ label-here a x xs)) (of_kind x (All-head (IsOld n) x xs all)))
    (λ (later : a ≡ k → ⊥). subst (LabelBelow n) (sym (label-later a x xs k later)) (label_below n (a + 1) xs (All-tail (IsOld n) x xs all) k))
    (cases_eq a k)
  where
    of_kind : (y : Made) → IsOld n y → LabelBelow n (made_label y)
    of_kind (CopyOf y) h = h
    of_kind (Behind l) h = tt

-- a label is that of one mark below n
hits_once : (n : ℕ) (o : Option ℕ) → LabelBelow n o → sum_by (λ mark. hits o mark) (range_with_len 0 n) ≡ labelled o
hits_once n None below = nothing (range_with_len 0 n)
  where
    nothing : (xs : List ℕ) → sum_by (λ mark. hits None mark) xs ≡ 0
    nothing [] = refl
    nothing (x ∷ xs) = let a = sum_by-cons (λ mark. hits None mark) x xs in let b = nothing xs in omega (arith, a, b)
hits_once n (Some y) below =
    sum_by-pointwise (λ mark. hits (Some y) mark) (λ mark. hit mark y) (range_with_len 0 n) (λ i d lt. hit-turned y (get_or (range_with_len 0 n) i d))
    ∙ range_within y 0 n (omega arith) (omega (arith, below))

-- each mark of the new program is listed once
pub each_listed : (factor n : ℕ) (made : List Made) (c : Listing) → All (IsOld n) made → c.marks ≡ map (copies_of n made) (range_with_len 0 n) → c.nevers ≡ nevers_from factor n made → HasEachBelow (n + length made) (listed_marks c)
each_listed factor n made c old marks nevers k =
    sum_by-append (λ x. cond (x == k) 1 0) (flat_map (λ e. e.new) c.marks) (map (λ v. v.mark) c.nevers)
    ∙ ap (λ s. s + count_of k (map (λ v. v.mark) c.nevers)) front
    ∙ ap (λ vs. labelled (label_of n made k) + count_of k (map (λ v. v.mark) vs)) nevers
    ∙ ⊎_elim
    (λ (here : k < n).
    ap (λ o. labelled o + count_of k (map (λ v. v.mark) (nevers_from factor n made))) (label-old n made k here)
    ∙ ap (λ c. 1 + c) (nevers_later factor n made k here)
    ∙ sym (cond-true {A = ℕ} (nat_lt k (n + length made)) 1 0 (lt-ltb k (n + length made) (omega (arith, here)))))
    (λ (new : n ≤ k).
    ap (λ o. labelled o + count_of k (map (λ v. v.mark) (nevers_from factor n made))) (label-new n made k new)
    ∙ each_new factor n made k new)
    (cases_lt k n)
  where
    label_is_old : LabelBelow n (label_of n made k)
    label_is_old = ⊎_elim
        (λ (here : k < n). subst (LabelBelow n) (sym (label-old n made k here)) here)
        (λ (new : n ≤ k). subst (LabelBelow n) (sym (label-new n made k new)) (label_below n n made old k))
        (cases_lt k n)

    front : count_of k (flat_map (λ e. e.new) c.marks) ≡ labelled (label_of n made k)
    front =
        ap (λ es. count_of k (flat_map (λ e. e.new) es)) marks
        ∙ sum_by-flat_map (λ x. cond (x == k) 1 0) (λ e. e.new) (map (copies_of n made) (range_with_len 0 n))
        ∙ sum_by-map (λ e. count_of k e.new) (copies_of n made) (range_with_len 0 n)
        ∙ sum_by-pointwise (λ mark. count_of k (copies_of n made mark).new) (λ mark. hits (label_of n made k) mark) (range_with_len 0 n) (λ i d lt. is_group n made (get_or (range_with_len 0 n) i d) (below_all n made i d lt) k)
        ∙ hits_once n (label_of n made k) label_is_old
