-- Lists that are made item by item, and products within the limit.
use Rattle.std.proofs.Common.{◌≡◌, ℕ, zero, suc, ◌+◌, ◌-◌, ◌*◌, ◌/◌, ◌≤◌, ◌<◌, ◌^◌, ℤ, pos, ◌*ℤ◌, ◌≤ℤ◌, All, arith, refl, sym, ap, ◌∙◌, subst, List, [], ◌∷◌, ◌++◌, length, take, drop, Bool, true, false, cond, unsigned_abs, append_assoc, get_or}
use Rattle.std.proofs.lemmas.Int.{ints, unsigned_abs-mul}
use Rattle.std.proofs.lemmas.List.Elements.{All-get_or, All-drop}
use Rattle.std.proofs.Math.Nat.{mul-le-mul_left, mul-le-mul_right}
use Rattle.wcc_base.specs.declared.compare.Compare.{Compare}
use Rattle.wcc_base.specs.declared.compare.Compare.TheVariants.{AtMost, AtLeast, Equal}
use Rattle.simplex_tables.specs.Rows.{Row}
use Rattle.simplex_tables.specs.Choices.{right}
use Rattle.simplex_rounds.specs.declared.weighing.Weight.{Weight}
use Rattle.simplex_rounds.specs.Limits.{is_narrow, all_narrow}
use Rattle.simplex_rounds.specs.Multiplied.{sides_in, side_count, one_dual, duals, times_all}
use Rattle.simplex_rounds.specs.Weighted.{lowest, holds_weight, weights_of, multiple, denominator}
use Rattle.simplex_rounds.proofs.NarrowLemmas.{wide_inside, narrow_says}
use Rattle.simplex_rounds.proofs.Multiples.{wide_before, wide_next}

one_more : (k : ℕ) → suc k + 1 ≡ suc (k + 1)
one_more k = omega arith

-- where what is left begins with the item that is pushed
pub next_item : {X : Type 0} (old new left rest whole : List X) (x y : X) → new ≡ old ++ x ∷ [] → x ≡ y → left ≡ y ∷ rest → old ++ left ≡ whole → new ++ rest ≡ whole
next_item old new left rest whole x y e f g h =
    ap (λ zs. zs ++ rest) e ∙ (append_assoc old (x ∷ []) rest ∙ (ap (λ z. old ++ z ∷ rest) f ∙ (ap (λ zs. old ++ zs) (sym g) ∙ h)))

-- ---- dual values

pub duals_next : (place k : ℕ) (os : List Compare) (row : Row) (d : Compare) → k < length os → duals place (drop k os) row ≡ one_dual (get_or os k d) place row ∷ duals (place + sides_in (get_or os k d)) (drop (k + 1) os) row
duals_next place k [] row d h = absurd (omega (arith, h))
duals_next place zero (o ∷ os) row d h = refl
duals_next place (suc k) (o ∷ os) row d h = duals_next place k os row d (omega (arith, h)) ∙ ap (λ j. one_dual (get_or os k d) place row ∷ duals (place + sides_in (get_or os k d)) (drop j (o ∷ os)) row) (sym (one_more k))

pub sides_next : (k : ℕ) (os : List Compare) (d : Compare) → k < length os → side_count (drop k os) ≡ sides_in (get_or os k d) + side_count (drop (k + 1) os)
sides_next k [] d h = absurd (omega (arith, h))
sides_next zero (o ∷ os) d h = refl
sides_next (suc k) (o ∷ os) d h = sides_next k os d (omega (arith, h)) ∙ ap (λ j. sides_in (get_or os k d) + side_count (drop j (o ∷ os))) (sym (one_more k))

sides_some : (o : Compare) → 1 ≤ sides_in o
sides_some AtMost = omega arith
sides_some AtLeast = omega arith
sides_some Equal = omega arith

-- a fact's first slack is one of the slacks
pub place_inside : (place from i : ℕ) (os : List Compare) → i < length os → place + side_count (drop i os) ≡ from + side_count os → place < from + side_count os
place_inside place from i os h e = let n = sides_next i os AtMost h in let o = sides_some (get_or os i AtMost) in omega (arith, n, o, e)

pub dual_within : (place from i n : ℕ) (os : List Compare) → i < length os → place + side_count (drop i os) ≡ from + side_count os → from + side_count os < n → place + 1 < n
dual_within place from i n os h e lt = let k = place_inside place from i os h e in omega (arith, k, lt)

pub sides_step : (place r from i : ℕ) (os : List Compare) (d : Compare) → i < length os → r ≡ sides_in (get_or os i d) → place + side_count (drop i os) ≡ from + side_count os → place + r + side_count (drop (i + 1) os) ≡ from + side_count os
sides_step place r from i os d h is e = let n = sides_next i os d h in omega (arith, n, is, e)

pub duals_step : (old new whole : Row) (x : ℤ) (place r i : ℕ) (os : List Compare) (row : Row) (d : Compare) → i < length os → new ≡ old ++ x ∷ [] → x ≡ one_dual (get_or os i d) place row → r ≡ sides_in (get_or os i d) → old ++ duals place (drop i os) row ≡ whole → new ++ duals (place + r) (drop (i + 1) os) row ≡ whole
duals_step old new whole x place r i os row d h items item is e =
    next_item old new (duals place (drop i os) row) (duals (place + r) (drop (i + 1) os) row) whole x (one_dual (get_or os i d) place row) items item
    (duals_next place i os row d h ∙ ap (λ k. one_dual (get_or os i d) place row ∷ duals (place + k) (drop (i + 1) os) row) (sym is)) e

pub duals-long : (i : ℕ) (os : List Compare) (r : Row) → length (duals i os r) ≡ length os
duals-long i [] r = refl
duals-long i (o ∷ os) r = ap suc (duals-long (i + sides_in o) os r)

taken_long : (xs : Row) (k : ℕ) → length xs ≤ k → length (take k xs) ≡ length xs
taken_long [] zero h = refl
taken_long [] (suc k) h = refl
taken_long (x ∷ xs) zero h = absurd (omega (arith, h))
taken_long (x ∷ xs) (suc k) h = ap suc (taken_long xs k (omega (arith, h)))

-- what is behind the head
pub tail_long : (r s : Row) (k : ℕ) → r ≡ s → length s ≡ 1 + k → length (take (length r - 1) (drop 1 r)) ≡ k
tail_long r [] k e h = absurd (omega (arith, h))
tail_long r (a ∷ as') k e h = ap (λ xs. length (take (length xs - 1) (drop 1 xs))) e ∙ (taken_long as' (length (a ∷ as') - 1) (omega arith) ∙ omega (arith, h))

-- ---- products

nil_right : (xs : Row) → xs ++ [] ≡ xs
nil_right [] = refl
nil_right (x ∷ xs) = ap (λ ys. x ∷ ys) (nil_right xs)

drop_past : (k : ℕ) (r : Row) → length r ≤ k → drop k r ≡ []
drop_past zero [] h = refl
drop_past (suc k) [] h = refl
drop_past zero (a ∷ as') h = absurd (omega (arith, h))
drop_past (suc k) (a ∷ as') h = drop_past k as' (omega (arith, h))

-- all of them are there
pub products_done : (f g : ℤ) (all r : Row) (k : ℕ) → f ≡ g → length r ≤ k → all ++ times_all f (drop k r) ≡ times_all f r → all ≡ times_all g r
products_done f g all r k e h inv = sym (ap (λ xs. all ++ times_all f xs) (drop_past k r h) ∙ nil_right all) ∙ (inv ∙ ap (λ (z : ℤ). times_all z r) e)

pub times_next : (f : ℤ) (k : ℕ) (r : Row) → k < length r → times_all f (drop k r) ≡ (f *ℤ get_or r k (pos 0)) ∷ times_all f (drop (k + 1) r)
times_next f k [] h = absurd (omega (arith, h))
times_next f zero (a ∷ as') h = refl
times_next f (suc k) (a ∷ as') h = times_next f k as' (omega (arith, h)) ∙ ap (λ j. (f *ℤ get_or as' k (pos 0)) ∷ times_all f (drop j (a ∷ as'))) (sym (one_more k))

pub products_wide : (n : ℕ) (f : ℤ) (all r : Row) (k : ℕ) → k < length r → all ++ times_all f (drop k r) ≡ times_all f r → is_narrow n (unsigned_abs (f *ℤ get_or r k (pos 0))) ≡ false → all_narrow n (times_all f r) ≡ false
products_wide n f all r k h e w =
    subst (λ xs. all_narrow n xs ≡ false) (ap (λ xs. all ++ xs) (sym (times_next f k r h)) ∙ e) (wide_inside n all (f *ℤ get_or r k (pos 0)) (times_all f (drop (k + 1) r)) w)

pub product_fits : (a b : ℤ) → unsigned_abs a ≤ 2 ^ 60 → unsigned_abs b ≤ 2 ^ 44 → unsigned_abs (a *ℤ b) ≤ 2 ^ 104
product_fits a b h k =
    let e = unsigned_abs-mul a b in
    let f : unsigned_abs a * unsigned_abs b ≤ unsigned_abs a * 2 ^ 44 = mul-le-mul_left (unsigned_abs a) k in
    let g : unsigned_abs a * 2 ^ 44 ≤ 2 ^ 60 * 2 ^ 44 = mul-le-mul_right (2 ^ 44) h in omega (arith, e, f, g)

-- a factor of at least 1 doesn't make a number less
no_less : (a b : ℕ) → 1 ≤ a → b ≤ a * b
no_less zero b h = absurd (omega (arith, h))
no_less (suc a) b h = let e : suc a * b ≡ a * b + b = omega arith in omega (arith, e)

large_size : (f : ℤ) → pos 1 ≤ℤ f → 1 ≤ unsigned_abs f
large_size f h = omega (arith, ints)

pub large_wide : (n : ℕ) (f z : ℤ) → 0 < n → pos 1 ≤ℤ f → 2 ^ 44 < unsigned_abs z → is_narrow n (unsigned_abs (f *ℤ z)) ≡ false
large_wide n f z some h lt = by_test (is_narrow n (unsigned_abs (f *ℤ z))) refl
  where
    by_test : (t : Bool) → is_narrow n (unsigned_abs (f *ℤ z)) ≡ t → t ≡ false
    by_test false e = refl
    by_test true e =
        let s = narrow_says n (unsigned_abs (f *ℤ z)) e in
        let p = unsigned_abs-mul f z in
        let l = no_less (unsigned_abs f) (unsigned_abs z) (large_size f h) in
        let m = many (unsigned_abs (f *ℤ z)) n some in absurd (omega (arith, s, p, l, m, lt))
      where
        many : (a n : ℕ) → 0 < n → a ≤ a * n
        many a zero k = absurd (omega (arith, k))
        many a (suc n) k = let e : a * suc n ≡ a * n + a = omega arith in omega (arith, e)

-- ---- weights

weights_cons : (k o : ℕ) (r : Row) (os : List ℕ) (rs : List Row) → weights_of k (o ∷ os) (r ∷ rs) ≡ weights_of k (o ∷ []) (r ∷ []) ++ weights_of k os rs
weights_cons k o r os rs = by_test (holds_weight k o r)
  where
    by_test : (t : Bool) → cond t (lowest (o - 1) (unsigned_abs (right r)) (unsigned_abs (get_or r o (pos 0))) ∷ weights_of k os rs) (weights_of k os rs) ≡ cond t (lowest (o - 1) (unsigned_abs (right r)) (unsigned_abs (get_or r o (pos 0))) ∷ []) [] ++ weights_of k os rs
    by_test true = refl
    by_test false = refl

pub weights_next : (k i : ℕ) (os : List ℕ) (rs : List Row) (c : ℕ) (d : Row) → i < length os → i < length rs → weights_of k (drop i os) (drop i rs) ≡ weights_of k (get_or os i c ∷ []) (get_or rs i d ∷ []) ++ weights_of k (drop (i + 1) os) (drop (i + 1) rs)
weights_next k i [] rs c d h g = absurd (omega (arith, h))
weights_next k i (o ∷ os) [] c d h g = absurd (omega (arith, g))
weights_next k zero (o ∷ os) (r ∷ rs) c d h g = weights_cons k o r os rs
weights_next k (suc i) (o ∷ os) (r ∷ rs) c d h g =
    weights_next k i os rs c d (omega (arith, h)) (omega (arith, g))
    ∙ ap (λ j. weights_of k (get_or os i c ∷ []) (get_or rs i d ∷ []) ++ weights_of k (drop j (o ∷ os)) (drop j (r ∷ rs))) (sym (one_more i))

-- where what is left begins with the items that are added
pub next_items : {X : Type 0} (old new left some rest whole : List X) → new ≡ old ++ some → left ≡ some ++ rest → old ++ left ≡ whole → new ++ rest ≡ whole
next_items old new left some rest whole e f h = ap (λ zs. zs ++ rest) e ∙ (append_assoc old some rest ∙ (ap (λ zs. old ++ zs) (sym f) ∙ h))

-- ---- the common denominator

pub denominator_next : (m i : ℕ) (ws : List Weight) (d : Weight) → i < length ws → denominator m (drop i ws) ≡ denominator (multiple m (get_or ws i d).bottom) (drop (i + 1) ws)
denominator_next m i [] d h = absurd (omega (arith, h))
denominator_next m zero (w ∷ ws) d h = refl
denominator_next m (suc i) (w ∷ ws) d h = denominator_next m i ws d (omega (arith, h)) ∙ ap (λ j. denominator (multiple m (get_or ws i d).bottom) (drop j (w ∷ ws))) (sym (one_more i))

pub denominator_wide : (n m i whole : ℕ) (ws : List Weight) (d : Weight) → i < length ws → 0 < m → All (λ w. 0 < w.bottom) ws → denominator m (drop i ws) ≡ whole → is_narrow n (get_or ws i d).bottom ≡ false → is_narrow n whole ≡ false
denominator_wide n m i whole ws d lt some h e w =
    subst (λ k. is_narrow n k ≡ false) (sym (denominator_next m i ws d lt) ∙ e)
    (wide_next n m (get_or ws i d) (drop (i + 1) ws) some (All-get_or (λ (w : Weight). 0 < w.bottom) ws i d lt h) (All-drop (λ (w : Weight). 0 < w.bottom) (i + 1) ws h) w)

pub multiple_wide : (n m i whole k : ℕ) (ws : List Weight) (d : Weight) → i < length ws → All (λ w. 0 < w.bottom) ws → denominator m (drop i ws) ≡ whole → k ≡ multiple m (get_or ws i d).bottom → 0 < k → is_narrow n k ≡ false → is_narrow n whole ≡ false
multiple_wide n m i whole k ws d lt h e is some w =
    subst (λ j. is_narrow n j ≡ false) (ap (λ j. denominator j (drop (i + 1) ws)) is ∙ (sym (denominator_next m i ws d lt) ∙ e))
    (wide_before n k (drop (i + 1) ws) some (All-drop (λ (w : Weight). 0 < w.bottom) (i + 1) ws h) w)

-- ---- a numerator

pub quotient_product : (a b c : ℕ) → a ≤ 2 ^ 44 → b ≤ 2 ^ 44 → a * (b / c) ≤ 2 ^ 88
quotient_product a b c h k =
    let q : b / c ≤ b = grind arith in
    let f : a * (b / c) ≤ a * 2 ^ 44 = mul-le-mul_left a (omega (arith, q, k)) in
    let g : a * 2 ^ 44 ≤ 2 ^ 44 * 2 ^ 44 = mul-le-mul_right (2 ^ 44) h in omega (arith, f, g)
