-- Fractions compare as their whole parts do, and where these are equal as what is left does.
use Rattle.std.proofs.Common.{◌≡◌, ◌≢◌, ℕ, ◌+◌, ◌*◌, ◌<◌, ◌≤◌, ◌/◌, ◌%◌, ℤ, pos, ◌+ℤ◌, ◌*ℤ◌, ◌<ℤ◌, ◌≤ℤ◌, arith, sym, ap, ◌∙◌, subst}
use lib.IntN.{negsuc, *ℤ_comm}
use Rattle.std.specs.Int.{int_div_euclid, int_rem_euclid}
use Rattle.std.specs.Ordering.{nat_cmp, int_cmp, MatchOrdering}
use Rattle.std.specs.declared.cmp.Ordering.{Ordering}
use Rattle.std.specs.declared.cmp.Ordering.TheVariants.{Less, Equal, Greater}
use Rattle.std.specs.Cmp.{nat_cmp_is, int_cmp_is, ranks, int_ranks}
use Rattle.std.proofs.lemmas.Int.{ints}
use Rattle.std.proofs.Math.Nat.{div-add-mod, mod-lt, mul-le-mul_left, mul-lt-mul_of_pos_left}
use Rattle.frac128.proofs.SignedLemmas.{add-mul, mul_assoc, mul-lt, mul-le-mul_right, div_euclid-mul-le, lt-div_euclid-mul}

-- numbers compare as others do, where each of the three cases follows

nat_same : (x y u v : ℕ) → (x < y → u < v) → (x ≡ y → u ≡ v) → (y < x → v < u) → nat_cmp x y ≡ nat_cmp u v
nat_same x y u v less equal greater = nat_cmp_is u v (nat_cmp x y) (of (nat_cmp x y) (ranks x y))
  where
    of : (o : Ordering) → MatchOrdering o (x < y) (x ≡ y) (y < x) → MatchOrdering o (u < v) (u ≡ v) (v < u)
    of Less h = less h
    of Equal h = equal h
    of Greater h = greater h

-- turned over, with equal whole parts: what is left compares in the same way
turned : (a b c d q r s : ℕ) → a * q + r ≡ b → c * q + s ≡ d → nat_cmp (s * a) (r * c) ≡ nat_cmp (a * d) (c * b)
turned a b c d q r s e f = nat_same (s * a) (r * c) (a * d) (c * b) (λ h. omega (arith, h, k, l, m)) (λ h. omega (arith, h, k, l, m)) (λ h. omega (arith, h, k, l, m))
  where
    k : a * d ≡ a * (c * q) + s * a
    k = rw (← f) (omega arith)

    l : c * b ≡ c * (a * q) + r * c
    l = rw (← e) (omega arith)

    m : a * (c * q) ≡ c * (a * q)
    m = omega arith

pub turned_over : (a b c d : ℕ) → d / c ≡ b / a → nat_cmp ((d % c) * a) ((b % a) * c) ≡ nat_cmp (a * d) (c * b)
turned_over a b c d e = turned a b c d (b / a) (b % a) (d % c) (div-add-mod b a) (ap (λ n. c * n + d % c) (sym e) ∙ div-add-mod d c)

-- a smaller whole part of d/c than of b/a
below : (a b c d p q r s : ℕ) → 0 < a → s < c → q < p → a * p + r ≡ b → c * q + s ≡ d → a * d < c * b
below a b c d p q r s ha hs lt e f =
    let x : a * s < a * c = mul-lt-mul_of_pos_left hs ha in
    let y : (a * c) * (q + 1) ≤ (a * c) * p = mul-le-mul_left (a * c) (omega (arith, lt)) in
    rw (← e, ← f) (omega (arith, x, y))

pub whole_below : (a b c d : ℕ) → 0 < a → 0 < c → d / c < b / a → a * d < c * b
whole_below a b c d ha hc lt = below a b c d (b / a) (d / c) (b % a) (d % c) ha (mod-lt d hc) lt (div-add-mod b a) (div-add-mod d c)

-- where wholes differ, they decide
pub wholes_decide : (a b c d : ℕ) (o : Ordering) → 0 < a → 0 < c → o ≡ nat_cmp (d / c) (b / a) → o ≢ Equal → o ≡ nat_cmp (a * d) (c * b)
wholes_decide a b c d o ha hc e n = e ∙ nat_same (d / c) (b / a) (a * d) (c * b) (whole_below a b c d ha hc) (λ same. absurd (n (e ∙ is_equal same))) (whole_below c d a b hc ha)
  where
    is_equal : d / c ≡ b / a → nat_cmp (d / c) (b / a) ≡ Equal
    is_equal same = sym (nat_cmp_is (d / c) (b / a) Equal same)

-- where nothing is left of one, what is left decides

some_product : (n m : ℕ) → 0 < n → 0 < m → 0 < n * m
some_product n m h k = let e = mul-lt-mul_of_pos_left k h in omega (arith, e)

pub none_left : (a b c d : ℕ) → a < b → c < d → a ≡ 0 → nat_cmp a c ≡ nat_cmp (a * d) (c * b)
none_left a b c d la lc e =
    nat_same a c (a * d) (c * b)
    (λ h. let p = some_product c b (omega (arith, e, h)) (omega (arith, la)) in rw e (omega (arith, p)))
    (λ h. rw (e, sym h ∙ e) (omega arith))
    (λ h. absurd (omega (arith, e, h)))

pub none_right : (a b c d : ℕ) → a < b → c < d → c ≡ 0 → nat_cmp a c ≡ nat_cmp (a * d) (c * b)
none_right a b c d la lc e =
    nat_same a c (a * d) (c * b)
    (λ h. absurd (omega (arith, e, h)))
    (λ h. rw (h ∙ e, e) (omega arith))
    (λ h. let p = some_product a d (omega (arith, e, h)) (omega (arith, lc)) in rw e (omega (arith, p)))

-- whole numbers: the quotient whose remainder is not negative

pub div_euclid-rem_euclid : (a b : ℤ) → pos 0 <ℤ b → (int_div_euclid a b *ℤ b) +ℤ int_rem_euclid a b ≡ a
div_euclid-rem_euclid (pos a) (pos b) h = omega (arith, ints)
div_euclid-rem_euclid (negsuc a) (pos b) h = omega (arith, ints)
div_euclid-rem_euclid a (negsuc b) h = absurd (omega (arith, ints))

pub rem_euclid-bounds : (a b : ℤ) → pos 0 <ℤ b → (pos 0 ≤ℤ int_rem_euclid a b) × (int_rem_euclid a b <ℤ b)
rem_euclid-bounds a b h =
    let e = div_euclid-rem_euclid a b h in
    let f = div_euclid-mul-le a b h in
    let g = lt-div_euclid-mul a b h in (omega (arith, ints, e, f), omega (arith, ints, e, g))

int_same : (x y u v : ℤ) → (x <ℤ y → u <ℤ v) → (x ≡ y → u ≡ v) → (y <ℤ x → v <ℤ u) → int_cmp x y ≡ int_cmp u v
int_same x y u v less equal greater = int_cmp_is u v (int_cmp x y) (of (int_cmp x y) (int_ranks x y))
  where
    of : (o : Ordering) → MatchOrdering o (x <ℤ y) (x ≡ y) (y <ℤ x) → MatchOrdering o (u <ℤ v) (u ≡ v) (v <ℤ u)
    of Less h = less h
    of Equal h = equal h
    of Greater h = greater h

-- a smaller whole part of a/b than of c/d
int_below : (a b c d : ℤ) → pos 0 <ℤ b → pos 0 <ℤ d → int_div_euclid a b <ℤ int_div_euclid c d → (a *ℤ d) <ℤ (c *ℤ b)
int_below a b c d hb hd lt =
    let x = lt-div_euclid-mul a b hb in
    let y = div_euclid-mul-le c d hd in
    let e = add-mul (int_div_euclid a b) (pos 1) b in
    let f = mul-le-mul_right (int_div_euclid a b +ℤ pos 1) (int_div_euclid c d) b (omega (arith, ints, hb)) (omega (arith, ints, lt)) in
    let g = mul-lt a (int_div_euclid c d *ℤ b) d hd (omega (arith, ints, x, e, f)) in
    let h = mul-le-mul_right (int_div_euclid c d *ℤ d) c b (omega (arith, ints, hb)) y in
    let k = mul_assoc (int_div_euclid c d) b d in
    let l = mul_assoc (int_div_euclid c d) d b in
    let m = ap (λ (z : ℤ). int_div_euclid c d *ℤ z) (*ℤ_comm b d) in omega (arith, ints, g, h, k, l, m)

pub int_wholes_decide : (a b c d : ℤ) (o : Ordering) → pos 0 <ℤ b → pos 0 <ℤ d → o ≡ int_cmp (int_div_euclid a b) (int_div_euclid c d) → o ≢ Equal → o ≡ int_cmp (a *ℤ d) (c *ℤ b)
int_wholes_decide a b c d o hb hd e n =
    e ∙ int_same (int_div_euclid a b) (int_div_euclid c d) (a *ℤ d) (c *ℤ b) (int_below a b c d hb hd) (λ same. absurd (n (e ∙ is_equal same))) (int_below c d a b hd hb)
  where
    is_equal : int_div_euclid a b ≡ int_div_euclid c d → int_cmp (int_div_euclid a b) (int_div_euclid c d) ≡ Equal
    is_equal same = sym (int_cmp_is (int_div_euclid a b) (int_div_euclid c d) Equal same)

-- with equal whole parts, what is left decides
pub int_rest_decides : (a b c d : ℤ) (r m s n : ℕ) → pos m ≡ b → pos n ≡ d → pos 0 <ℤ b → pos 0 <ℤ d → pos r ≡ int_rem_euclid a b → pos s ≡ int_rem_euclid c d → int_div_euclid a b ≡ int_div_euclid c d →
    nat_cmp (r * n) (s * m) ≡ int_cmp (a *ℤ d) (c *ℤ b)
int_rest_decides a b c d r m s n eb ed hb hd er es same =
    int_cmp_is (a *ℤ d) (c *ℤ b) (nat_cmp (r * n) (s * m)) (of (nat_cmp (r * n) (s * m)) (ranks (r * n) (s * m)))
  where
    q : ℤ
    q = int_div_euclid a b

    left : a *ℤ d ≡ (q *ℤ (b *ℤ d)) +ℤ pos (r * n)
    left =
        let e = ap (λ (z : ℤ). z *ℤ d) (sym (div_euclid-rem_euclid a b hb)) in
        let f = add-mul (q *ℤ b) (int_rem_euclid a b) d in
        let g = mul_assoc q b d in
        let h : int_rem_euclid a b *ℤ d ≡ pos (r * n) = rw (← er, ← ed) (omega (arith, ints)) in omega (arith, ints, e, f, g, h)

    right : c *ℤ b ≡ (q *ℤ (b *ℤ d)) +ℤ pos (s * m)
    right =
        let e = ap (λ (z : ℤ). z *ℤ b) (sym (div_euclid-rem_euclid c d hd)) in
        let f = add-mul (int_div_euclid c d *ℤ d) (int_rem_euclid c d) b in
        let g = mul_assoc (int_div_euclid c d) d b in
        let k = ap (λ (z : ℤ). z *ℤ (d *ℤ b)) (sym same) in
        let l = ap (λ (z : ℤ). q *ℤ z) (*ℤ_comm d b) in
        let h : int_rem_euclid c d *ℤ b ≡ pos (s * m) = rw (← es, ← eb) (omega (arith, ints)) in omega (arith, ints, e, f, g, h, k, l)

    of : (o : Ordering) → MatchOrdering o (r * n < s * m) (r * n ≡ s * m) (s * m < r * n) → MatchOrdering o ((a *ℤ d) <ℤ (c *ℤ b)) ((a *ℤ d) ≡ (c *ℤ b)) ((c *ℤ b) <ℤ (a *ℤ d))
    of Less h = let x = left in let y = right in omega (arith, ints, x, y, h)
    of Equal h = let x = left in let y = right in omega (arith, ints, x, y, h)
    of Greater h = let x = left in let y = right in omega (arith, ints, x, y, h)

-- what `Equal` says of two numbers

pub nat_equal : (x y : ℕ) (o : Ordering) → o ≡ nat_cmp x y → o ≡ Equal → x ≡ y
nat_equal x y o e f = subst (λ r. MatchOrdering r (x < y) (x ≡ y) (y < x)) (sym e ∙ f) (ranks x y)

pub int_equal : (x y : ℤ) (o : Ordering) → o ≡ int_cmp x y → o ≡ Equal → x ≡ y
int_equal x y o e f = subst (λ r. MatchOrdering r (x <ℤ y) (x ≡ y) (y <ℤ x)) (sym e ∙ f) (int_ranks x y)
