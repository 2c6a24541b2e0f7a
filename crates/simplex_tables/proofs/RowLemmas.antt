-- A pivot keeps the solutions of a row, and what holds of its numbers.
use Rattle.std.proofs.Common.{◌≡◌, ◌≢◌, ℕ, zero, suc, ◌+◌, ◌*◌, ◌/◌, ◌%◌, ◌<◌, ℤ, pos, neg_ℤ, ◌-ℤ◌, ◌*ℤ◌, ◌≤ℤ◌, arith, refl, sym, ap, ◌∙◌, subst, [], ◌∷◌, length, inl, inr, Bool, true, false, cond, nat_eq}
use lib.IntN.{negsuc, *ℤ_comm, *ℤ-zero}
use Rattle.std.proofs.Math.IntN.{zero-*ℤ}
use Rattle.std.specs.Prelude.{unsigned_abs}
use Rattle.std.specs.Int.{IsGcd, ◌∣◌}
use Rattle.std.proofs.lemmas.Int.{ints}
use Rattle.std.proofs.lemmas.Nat.Gcd.{IsGcd-from_zero, IsGcd-from_mod, dvd_trans, dvd_refl}
use Rattle.std.proofs.Math.Nat.{mul-div_cancel', eq_of_mul-eq-mul_left, mod-lt, mul-le-mul_left, eq-zero_of_zero-dvd, eq-zero-or-pos}
use Rattle.std.proofs.lemmas.Bool.Decides.{nat_tests}
use Rattle.simplex_tables.specs.Rows.{Row, dot_from, dot, combined, euclid, gcd, divisor, divisor_from, part, divided, reduced, entry, turned}
use Rattle.frac128.proofs.SignedLemmas.{mul-add, mul_assoc, mul-neg, neg-mul, add-mul, mul-le}

mul-zero : (a : ℤ) → a *ℤ pos 0 ≡ pos 0
mul-zero a = *ℤ-zero a

pub dot_combined : (p q : ℤ) (n : ℕ) (r ss : Row) (v : ℕ → ℤ) → length r ≡ length ss → dot_from n (combined p q r ss) v ≡ (p *ℤ dot_from n r v) -ℤ (q *ℤ dot_from n ss v)
dot_combined p q n [] [] v h = let e = mul-zero p in let f = mul-zero q in omega (arith, ints)
dot_combined p q n [] (b ∷ bs) v h = absurd (omega (arith, h))
dot_combined p q n (a ∷ as') [] v h = absurd (omega (arith, h))
dot_combined p q n (a ∷ as') (b ∷ bs) v h =
    let r = dot_combined p q (n + 1) as' bs v (omega (arith, h)) in
    let e1 = mul-add p (a *ℤ v n) (dot_from (n + 1) as' v) in
    let e2 = mul-add q (b *ℤ v n) (dot_from (n + 1) bs v) in
    let e3 = add-mul (p *ℤ a) (neg_ℤ (q *ℤ b)) (v n) in
    let e4 = neg-mul (q *ℤ b) (v n) in
    let e5 = mul_assoc p a (v n) in
    let e6 = mul_assoc q b (v n) in
    omega (arith, ints)

-- each number of the one row is g times that of the other
abbrev pub Times : ℕ → Row → Row → Type 0
Times g [] [] = Unit {0}
Times g [] (b ∷ bs) = ⊥
Times g (a ∷ as') [] = ⊥
Times g (a ∷ as') (b ∷ bs) = (a ≡ pos g *ℤ b) × Times g as' bs

dot_times : (g n : ℕ) (r k : Row) (v : ℕ → ℤ) → Times g r k → dot_from n r v ≡ pos g *ℤ dot_from n k v
dot_times g n [] [] v h = let e = mul-zero (pos g) in omega (arith, ints)
dot_times g n [] (b ∷ bs) v h = absurd h
dot_times g n (a ∷ as') [] v h = absurd h
dot_times g n (a ∷ as') (b ∷ bs) v h =
    let r = dot_times g (n + 1) as' bs v h.1 in
    let e = mul-add (pos g) (b *ℤ v n) (dot_from (n + 1) bs v) in
    let f = mul_assoc (pos g) b (v n) in
    let k = ap (λ (z : ℤ). z *ℤ v n) h.0 in
    omega (arith, ints)

-- a product is 0 only with a factor 0
product_zero : (g : ℕ) (z : ℤ) → 0 < g → pos g *ℤ z ≡ pos 0 → z ≡ pos 0
product_zero g (pos n) h e = let k : g * n ≡ g * 0 = omega (arith, ints) in ap pos (eq_of_mul-eq-mul_left g h n 0 k)
product_zero g (negsuc n) h e = let k : g * suc n ≡ g * 0 = omega (arith, ints) in let f = eq_of_mul-eq-mul_left g h (suc n) 0 k in absurd (omega arith)

-- ---- the common divisor
euclid_is : (n a b : ℕ) → b < n → IsGcd a b (euclid n a b)
euclid_is zero a b h = absurd (omega arith)
euclid_is (suc n) a b h = by_test (nat_eq b 0) refl (λ k. euclid_is n b (a % b) (let e = mod-lt a k in omega arith))
  where
    by_test : (t : Bool) → nat_eq b 0 ≡ t → (0 < b → IsGcd b (a % b) (euclid n b (a % b))) → IsGcd a b (cond t a (euclid n b (a % b)))
    by_test true e f = IsGcd-from_zero a b (grind (arith, nat_tests))
    by_test false e f = IsGcd-from_mod a b _ (f (grind (arith, nat_tests)))

pub gcd_is : (a b : ℕ) → IsGcd a b (gcd a b)
gcd_is a b = euclid_is (b + 1) a b (omega arith)

-- g divides each number of a row
abbrev Divides : ℕ → Row → Type 0
Divides g [] = Unit {0}
Divides g (a ∷ as') = (g ∣ unsigned_abs a) × Divides g as'

divides_less : (g d : ℕ) (r : Row) → g ∣ d → Divides d r → Divides g r
divides_less g d [] h k = k
divides_less g d (a ∷ as') h k = (dvd_trans g h k.0, divides_less g d as' h k.1)

divisor_divides : (g : ℕ) (r : Row) → (divisor_from g r ∣ g) × Divides (divisor_from g r) r
divisor_divides g [] = (dvd_refl g, tt)
divisor_divides g (a ∷ as') =
    let k = gcd_is g (unsigned_abs a) in
    let r = divisor_divides (gcd g (unsigned_abs a)) as' in
    (dvd_trans _ r.0 k.0, (dvd_trans _ r.0 k.1, r.1))

part_times : (g : ℕ) (a : ℤ) → g ∣ unsigned_abs a → a ≡ pos g *ℤ part g a
part_times g (pos n) h = let e = mul-div_cancel' g h in omega (arith, ints)
part_times g (negsuc n) h = let e = mul-div_cancel' g h in let f = mul-neg (pos g) (pos (suc n / g)) in omega (arith, ints)

divided_times : (g : ℕ) (r : Row) → Divides g r → Times g r (divided g r)
divided_times g [] h = h
divided_times g (a ∷ as') h = (part_times g a h.0, divided_times g as' h.1)

-- ---- one row
zero_abs : (a : ℤ) → unsigned_abs a ≡ 0 → a ≡ pos 0
zero_abs (pos n) h = ap pos h
zero_abs (negsuc n) h = absurd (omega (arith, h))

all_zero : (r : Row) → Divides 0 r → Times 0 r r
all_zero [] h = tt
all_zero (a ∷ as') h = let z = zero_abs a (eq-zero_of_zero-dvd h.0) in let e = zero-*ℤ a in (omega (arith, ints), all_zero as' h.1)

pub reduced_times : (r : Row) → Times (divisor r) r (reduced r)
reduced_times r = by_test (nat_eq (divisor r) 0) refl
  where
    by_test : (t : Bool) → nat_eq (divisor r) 0 ≡ t → Times (divisor r) r (cond t r (divided (divisor r) r))
    by_test true e =
        let z : divisor r ≡ 0 = grind (arith, nat_tests) in
        subst (λ g. Times g r r) (sym z) (all_zero r (subst (λ g. Divides g r) z (divisor_divides 0 r).1))
    by_test false e = divided_times (divisor r) r (divisor_divides 0 r).1

turned_times : (t : ℕ) (ss r : Row) → Times (divisor (combined (entry ss t) (entry r t) r ss)) (combined (entry ss t) (entry r t) r ss) (turned t ss r)
turned_times t ss r = reduced_times (combined (entry ss t) (entry r t) r ss)

-- what the new row gives, times the divisor
turned_dot : (t : ℕ) (ss r : Row) (v : ℕ → ℤ) → length r ≡ length ss → pos (divisor (combined (entry ss t) (entry r t) r ss)) *ℤ dot (turned t ss r) v ≡ (entry ss t *ℤ dot r v) -ℤ (entry r t *ℤ dot ss v)
turned_dot t ss r v h = sym (dot_times _ 0 _ (turned t ss r) v (turned_times t ss r)) ∙ dot_combined (entry ss t) (entry r t) 0 r ss v h

pub turned_solves : (t : ℕ) (ss r : Row) (v : ℕ → ℤ) → length r ≡ length ss → 0 < divisor (combined (entry ss t) (entry r t) r ss) → dot ss v ≡ pos 0 → dot r v ≡ pos 0 → dot (turned t ss r) v ≡ pos 0
turned_solves t ss r v h g e f =
    let k = turned_dot t ss r v h in
    let e1 = ap (λ (z : ℤ). entry ss t *ℤ z) f in
    let e2 = ap (λ (z : ℤ). entry r t *ℤ z) e in
    let e3 = mul-zero (entry ss t) in
    let e4 = mul-zero (entry r t) in
    product_zero _ _ g (omega (arith, ints))

pub turned_back : (t p : ℕ) (ss r : Row) (v : ℕ → ℤ) → length r ≡ length ss → 0 < p → entry ss t ≡ pos p → dot ss v ≡ pos 0 → dot (turned t ss r) v ≡ pos 0 → dot r v ≡ pos 0
turned_back t p ss r v h lt is e f =
    let k = turned_dot t ss r v h in
    let e1 = ap (λ (z : ℤ). pos (divisor (combined (entry ss t) (entry r t) r ss)) *ℤ z) f in
    let e2 = ap (λ (z : ℤ). entry r t *ℤ z) e in
    let e3 = mul-zero (pos (divisor (combined (entry ss t) (entry r t) r ss))) in
    let e4 = mul-zero (entry r t) in
    let e5 = ap (λ (z : ℤ). z *ℤ dot r v) is in
    product_zero p _ lt (omega (arith, ints))

-- a number of the new row, times the divisor
pub times_entry : (g : ℕ) (r k : Row) (u : ℕ) → Times g r k → entry r u ≡ pos g *ℤ entry k u
times_entry g [] [] u h = let e = mul-zero (pos g) in omega (arith, ints)
times_entry g [] (b ∷ bs) u h = absurd h
times_entry g (a ∷ as') [] u h = absurd h
times_entry g (a ∷ as') (b ∷ bs) zero h = h.0
times_entry g (a ∷ as') (b ∷ bs) (suc u) h = times_entry g as' bs u h.1

combined_entry : (p q : ℤ) (r ss : Row) (u : ℕ) → length r ≡ length ss → entry (combined p q r ss) u ≡ (p *ℤ entry r u) -ℤ (q *ℤ entry ss u)
combined_entry p q [] [] u h = let e = mul-zero p in let f = mul-zero q in omega (arith, ints)
combined_entry p q [] (b ∷ bs) u h = absurd (omega (arith, h))
combined_entry p q (a ∷ as') [] u h = absurd (omega (arith, h))
combined_entry p q (a ∷ as') (b ∷ bs) zero h = refl
combined_entry p q (a ∷ as') (b ∷ bs) (suc u) h = combined_entry p q as' bs u (omega (arith, h))

pub turned_entry : (t : ℕ) (ss r : Row) (u : ℕ) → length r ≡ length ss → pos (divisor (combined (entry ss t) (entry r t) r ss)) *ℤ entry (turned t ss r) u ≡ (entry ss t *ℤ entry r u) -ℤ (entry r t *ℤ entry ss u)
turned_entry t ss r u h = sym (times_entry _ _ (turned t ss r) u (turned_times t ss r)) ∙ combined_entry (entry ss t) (entry r t) r ss u h

-- a positive factor keeps the sign
pub sign_of : (g : ℕ) (z : ℤ) → 0 < g → pos 0 ≤ℤ (pos g *ℤ z) → pos 0 ≤ℤ z
sign_of g (pos n) h k = omega (arith, ints)
sign_of g (negsuc n) h k = let e = mul-le-mul_left n h in absurd (omega (arith, ints))

-- the right side stays at least 0, where the quotient is least
pub turned_right : (t u p : ℕ) (ss r : Row) → length r ≡ length ss → 0 < divisor (combined (entry ss t) (entry r t) r ss) → entry ss t ≡ pos p → (entry r t *ℤ entry ss u) ≤ℤ (pos p *ℤ entry r u) → pos 0 ≤ℤ entry (turned t ss r) u
turned_right t u p ss r h g is least =
    let k = turned_entry t ss r u h in
    let e = ap (λ (z : ℤ). z *ℤ entry r u) is in
    sign_of _ _ g (omega (arith, ints))

-- the variable taken in leaves the other rows
pub turned_out : (t : ℕ) (ss r : Row) → length r ≡ length ss → 0 < divisor (combined (entry ss t) (entry r t) r ss) → entry (turned t ss r) t ≡ pos 0
turned_out t ss r h g =
    let k = turned_entry t ss r t h in
    let e = *ℤ_comm (entry ss t) (entry r t) in
    product_zero _ _ g (omega (arith, ints))

-- ---- a row with a number that isn't 0 has a divisor
zero_entry : (r : Row) (u : ℕ) → Divides 0 r → entry r u ≡ pos 0
zero_entry [] u h = refl
zero_entry (a ∷ as') zero h = zero_abs a (eq-zero_of_zero-dvd h.0)
zero_entry (a ∷ as') (suc u) h = zero_entry as' u h.1

-- a row with a number that isn't 0 has a divisor
pub divisor_positive : (r : Row) (u : ℕ) → entry r u ≢ pos 0 → 0 < divisor r
divisor_positive r u h = elim (eq-zero-or-pos (divisor r)) [
  | inl e ↦ absurd (h (zero_entry r u (subst (λ g. Divides g r) e (divisor_divides 0 r).1)))
  | inr e ↦ e
]

-- a positive product
product_positive : (p : ℕ) (z : ℤ) → 0 < p → pos 1 ≤ℤ z → pos 1 ≤ℤ (pos p *ℤ z)
product_positive zero z h k = absurd (omega arith)
product_positive (suc p) z h k = let e = mul-le (suc p) (pos 1) z k in omega (arith, ints)

-- where a row has its own variable, which is not in the pivot's row, its new row has a divisor
pub turned_divides : (t u p : ℕ) (ss r : Row) → length r ≡ length ss → 0 < p → entry ss t ≡ pos p → pos 1 ≤ℤ entry r u → entry ss u ≡ pos 0 → 0 < divisor (combined (entry ss t) (entry r t) r ss)
turned_divides t u p ss r h lt is own out =
    let e = combined_entry (entry ss t) (entry r t) r ss u h in
    let e1 = ap (λ (z : ℤ). z *ℤ entry r u) is in
    let e2 = ap (λ (z : ℤ). entry r t *ℤ z) out in
    let e3 = mul-zero (entry r t) in
    let k = product_positive p (entry r u) lt own in
    divisor_positive (combined (entry ss t) (entry r t) r ss) u (λ (z : entry (combined (entry ss t) (entry r t) r ss) u ≡ pos 0). absurd (omega (arith, ints)))

pub turned_zero : (t u : ℕ) (ss r : Row) → length r ≡ length ss → 0 < divisor (combined (entry ss t) (entry r t) r ss) → entry r u ≡ pos 0 → entry ss u ≡ pos 0 → entry (turned t ss r) u ≡ pos 0
turned_zero t u ss r h g e f =
    let k = turned_entry t ss r u h in
    let e1 = ap (λ (z : ℤ). entry ss t *ℤ z) e in
    let e2 = ap (λ (z : ℤ). entry r t *ℤ z) f in
    let e3 = mul-zero (entry ss t) in
    let e4 = mul-zero (entry r t) in
    product_zero _ _ g (omega (arith, ints))

pub factor_positive : (g : ℕ) (z : ℤ) → pos 1 ≤ℤ (pos g *ℤ z) → pos 1 ≤ℤ z
factor_positive g (pos zero) h = let e = mul-zero (pos g) in absurd (omega (arith, ints))
factor_positive g (pos (suc n)) h = omega (arith, ints)
factor_positive g (negsuc n) h = let e = mul-neg (pos g) (pos (suc n)) in absurd (omega (arith, ints))

pub turned_positive : (t u p : ℕ) (ss r : Row) → length r ≡ length ss → 0 < p → entry ss t ≡ pos p → pos 1 ≤ℤ entry r u → entry ss u ≡ pos 0 → pos 1 ≤ℤ entry (turned t ss r) u
turned_positive t u p ss r h lt is own out =
    let k = turned_entry t ss r u h in
    let e1 = ap (λ (z : ℤ). z *ℤ entry r u) is in
    let e2 = ap (λ (z : ℤ). entry r t *ℤ z) out in
    let e3 = mul-zero (entry r t) in
    let e4 = product_positive p (entry r u) lt own in
    factor_positive (divisor (combined (entry ss t) (entry r t) r ss)) _ (omega (arith, ints))

-- ---- the new row is as long
combined-long : (p q : ℤ) (r ss : Row) → length r ≡ length ss → length (combined p q r ss) ≡ length r
combined-long p q [] ss h = refl
combined-long p q (a ∷ as') [] h = absurd (omega (arith, h))
combined-long p q (a ∷ as') (b ∷ bs) h = ap suc (combined-long p q as' bs (omega (arith, h)))

divided-long : (g : ℕ) (r : Row) → length (divided g r) ≡ length r
divided-long g [] = refl
divided-long g (a ∷ as') = ap suc (divided-long g as')

pub reduced-long : (r : Row) → length (reduced r) ≡ length r
reduced-long r = by_test (nat_eq (divisor r) 0)
  where
    by_test : (t : Bool) → length (cond t r (divided (divisor r) r)) ≡ length r
    by_test true = refl
    by_test false = divided-long (divisor r) r

pub turned-long : (t : ℕ) (ss r : Row) → length r ≡ length ss → length (turned t ss r) ≡ length r
turned-long t ss r h = reduced-long (combined (entry ss t) (entry r t) r ss) ∙ combined-long (entry ss t) (entry r t) r ss h

-- the other variables' numbers stay what they are where the pivot's row has none
pub turned_same_sign : (t u p : ℕ) (ss r : Row) → length r ≡ length ss → 0 < p → 0 < divisor (combined (entry ss t) (entry r t) r ss) → entry ss t ≡ pos p → entry ss u ≡ pos 0 → pos 0 ≤ℤ entry r u → pos 0 ≤ℤ entry (turned t ss r) u
turned_same_sign t u p ss r h lt g is out sign =
    let k = turned_entry t ss r u h in
    let e1 = ap (λ (z : ℤ). z *ℤ entry r u) is in
    let e2 = ap (λ (z : ℤ). entry r t *ℤ z) out in
    let e3 = mul-zero (entry r t) in
    let e4 = mul-le p (pos 0) (entry r u) sign in
    let e5 = mul-zero (pos p) in
    sign_of _ _ g (omega (arith, ints))
