-- Laws of whole numbers: products over sums, orders under products, and division with remainder.
use Rattle.std.proofs.Common.{◌≡◌, ℕ, zero, suc, ◌+◌, ◌*◌, ◌≤◌, ℤ, pos, neg_ℤ, ◌+ℤ◌, ◌-ℤ◌, ◌*ℤ◌, ◌≤ℤ◌, ◌<ℤ◌, arith, ap, ◌∙◌}
use lib.IntN.{negsuc, *ℤ_comm}
use borrow.Author.Differences.{up, down, same_in, sum_is_lem, product_is, neg_is, le_out, at_most_in}
use Rattle.std.specs.Int.{int_div_euclid}
use Rattle.std.proofs.lemmas.Int.{ints, by_lt_z}
use Rattle.std.proofs.Math.Nat.{mul-le-mul_left}

-- products over sums, differences and negations

pub mul-add : (a b c : ℤ) → a *ℤ (b +ℤ c) ≡ (a *ℤ b) +ℤ (a *ℤ c)
mul-add a b c =
    let e : up (b +ℤ c) + down b + down c ≡ down (b +ℤ c) + up b + up c = sum_is_lem b c in
    let e1 : up a * (up (b +ℤ c) + down b + down c) ≡ up a * (down (b +ℤ c) + up b + up c) = ap (λ n. up a * n) e in
    let e2 : down a * (up (b +ℤ c) + down b + down c) ≡ down a * (down (b +ℤ c) + up b + up c) = ap (λ n. down a * n) e in
    same_in _ _ (omega (arith, ints))

pub add-mul : (a b c : ℤ) → (a +ℤ b) *ℤ c ≡ (a *ℤ c) +ℤ (b *ℤ c)
add-mul a b c = *ℤ_comm (a +ℤ b) c ∙ (mul-add c a b ∙ cc (*ℤ_comm c a, *ℤ_comm c b))

pub mul-neg : (a b : ℤ) → a *ℤ neg_ℤ b ≡ neg_ℤ (a *ℤ b)
mul-neg a b = same_in _ _ (
    rw ((product_is a (neg_ℤ b)).0, (product_is a (neg_ℤ b)).1, (neg_is b).0, (neg_is b).1, (neg_is (a *ℤ b)).0, (neg_is (a *ℤ b)).1, (product_is a b).0, (product_is a b).1) (omega arith))

pub neg-mul : (a b : ℤ) → neg_ℤ a *ℤ b ≡ neg_ℤ (a *ℤ b)
neg-mul a b = *ℤ_comm (neg_ℤ a) b ∙ (mul-neg b a ∙ ap neg_ℤ (*ℤ_comm b a))

pub mul-sub : (a b c : ℤ) → a *ℤ (b -ℤ c) ≡ (a *ℤ b) -ℤ (a *ℤ c)
mul-sub a b c = let e = mul-add a b (neg_ℤ c) in let f = mul-neg a c in omega (arith, ints)

pub sub-mul : (a b c : ℤ) → (a -ℤ b) *ℤ c ≡ (a *ℤ c) -ℤ (b *ℤ c)
sub-mul a b c = let e = add-mul a (neg_ℤ b) c in let f = neg-mul b c in omega (arith, ints)

-- products of three numbers

pub mul-mul_swap : (a b c : ℤ) → a *ℤ (b *ℤ c) ≡ b *ℤ (a *ℤ c)
mul-mul_swap a b c = same_in _ _ (
    rw ((product_is a (b *ℤ c)).0, (product_is a (b *ℤ c)).1, (product_is b (a *ℤ c)).0, (product_is b (a *ℤ c)).1, (product_is b c).0, (product_is b c).1, (product_is a c).0, (product_is a c).1) (omega arith))

pub mul_assoc : (a b c : ℤ) → (a *ℤ b) *ℤ c ≡ a *ℤ (b *ℤ c)
mul_assoc a b c = *ℤ_comm (a *ℤ b) c ∙ (mul-mul_swap c a b ∙ ap (λ z. a *ℤ z) (*ℤ_comm c b))

-- orders under products

pub mul-le : (k : ℕ) (a b : ℤ) → a ≤ℤ b → (pos k *ℤ a) ≤ℤ (pos k *ℤ b)
mul-le k a b h =
    let e : k * (up a + down b) ≤ k * (up b + down a) = mul-le-mul_left k (le_out a b h) in
    at_most_in _ _ (omega (arith, ints))

pub mul_at_most : (a b : ℤ) → pos 0 ≤ℤ a → b ≤ℤ pos 0 → (a *ℤ b) ≤ℤ pos 0
mul_at_most (pos a) b h k = let e = mul-le a b (pos 0) k in omega (arith, ints)
mul_at_most (negsuc a) b h k = absurd (omega (arith, ints))

pub mul_at_least : (a b : ℤ) → pos 0 ≤ℤ a → pos 0 ≤ℤ b → pos 0 ≤ℤ (a *ℤ b)
mul_at_least (pos a) b h k = let e = mul-le a (pos 0) b k in omega (arith, ints)
mul_at_least (negsuc a) b h k = absurd (omega (arith, ints))

pub mul_positive : (a b : ℤ) → pos 0 <ℤ a → pos 0 <ℤ b → pos 0 <ℤ (a *ℤ b)
mul_positive (pos (suc a)) (pos (suc b)) h k = omega (arith, ints)
mul_positive (pos zero) b h k = absurd (omega (arith, ints))
mul_positive (pos (suc a)) (pos zero) h k = absurd (omega (arith, ints))
mul_positive (pos (suc a)) (negsuc b) h k = absurd (omega (arith, ints))
mul_positive (negsuc a) b h k = absurd (omega (arith, ints))

pub mul-lt : (a b c : ℤ) → pos 0 <ℤ c → a <ℤ b → (a *ℤ c) <ℤ (b *ℤ c)
mul-lt a b c h k =
    let e = mul_positive (b -ℤ a) c (omega (arith, ints)) h in
    let f = sub-mul b a c in omega (arith, ints)

pub le_of_mul-lt : (a b c : ℤ) → pos 0 <ℤ c → (a *ℤ c) <ℤ ((b *ℤ c) +ℤ c) → a ≤ℤ b
le_of_mul-lt a b c h k = by_lt_z b a (λ above. absurd (
    let e = mul_at_least ((a -ℤ b) -ℤ pos 1) c (omega (arith, ints)) (omega (arith, ints)) in
    let f = sub-mul (a -ℤ b) (pos 1) c in
    let g = sub-mul a b c in omega (arith, ints))) (λ at_most. at_most)

pub mul-le-mul_right : (a b c : ℤ) → pos 0 ≤ℤ c → a ≤ℤ b → (a *ℤ c) ≤ℤ (b *ℤ c)
mul-le-mul_right a b c h k =
    let e = mul_at_least (b -ℤ a) c (omega (arith, ints)) h in
    let f = sub-mul b a c in omega (arith, ints)

pub le_of_mul-le : (a b c : ℤ) → pos 0 <ℤ c → (a *ℤ c) ≤ℤ (b *ℤ c) → a ≤ℤ b
le_of_mul-le a b c h k = le_of_mul-lt a b c h (omega (arith, ints))

-- division with a remainder that is not negative

pub div_euclid-mul-le : (a b : ℤ) → pos 0 <ℤ b → (int_div_euclid a b *ℤ b) ≤ℤ a
div_euclid-mul-le (pos a) (pos b) h = omega (arith, ints)
div_euclid-mul-le (negsuc a) (pos b) h = omega (arith, ints)
div_euclid-mul-le a (negsuc b) h = absurd (omega (arith, ints))

pub lt-div_euclid-mul : (a b : ℤ) → pos 0 <ℤ b → a <ℤ ((int_div_euclid a b *ℤ b) +ℤ b)
lt-div_euclid-mul (pos a) (pos b) h = omega (arith, ints)
lt-div_euclid-mul (negsuc a) (pos b) h = omega (arith, ints)
lt-div_euclid-mul a (negsuc b) h = absurd (omega (arith, ints))

pub div_euclid_of_bounds : (a b q : ℤ) → pos 0 <ℤ b → (q *ℤ b) ≤ℤ a → a <ℤ ((q *ℤ b) +ℤ b) → q ≡ int_div_euclid a b
div_euclid_of_bounds a b q h low high =
    let e = div_euclid-mul-le a b h in
    let f = lt-div_euclid-mul a b h in
    let at_most = le_of_mul-lt q (int_div_euclid a b) b h (omega (arith, ints)) in
    let at_least = le_of_mul-lt (int_div_euclid a b) q b h (omega (arith, ints)) in omega (arith, ints)
