-- A factor after a factor.
use Rattle.std.proofs.Common.{◌≡◌, ℕ, ◌+◌, ◌-◌, ◌*◌, ◌/◌, ◌%◌, ◌<◌, ◌≤◌, ◌==◌, Option, Some, None, sym, ap, ◌∙◌, subst, ⊎_elim, arith, le_refl}
use Rattle.std.proofs.lemmas.Bool.{cases_lt, cases_eq, cond-true, cond-false, eq-eqb, ne_eqb}
use Rattle.std.proofs.Math.Nat.{mul-le-mul_left, div-div-eq-div-mul}
use Rattle.std.proofs.Math.Arith.{mod-mul}
use Rattle.high_ir.specs.Standing.{Bounds}
use Rattle.high_ir.specs.Splitting.{split, by_factor}
use Rattle.high_pass.specs.Carries.{AreBy, StartsFewer}

-- the least of the bounds behind the peeled starts
abbrev least_by : ℕ → ℕ → ℕ → ℕ
least_by least most k = (split (record { least = least; most = most }) k).least

cancel : (k q x : ℕ) → 0 < k → k * q < k * x + k → q ≤ x
cancel k q x pos h = ⊎_elim
    (λ (lt : x < q). let le : x + 1 ≤ q = omega arith in let m : k * (x + 1) ≤ k * q = mul-le-mul_left k le in absurd (omega (arith, m)))
    (λ (le : q ≤ x). le)
    (cases_lt x q)

-- the fewest starts are at most x just where x starts are enough
least_below : (lo hi k x : ℕ) → 0 < k → 1 ≤ x → lo ≤ hi % k + k * x → least_by lo hi k ≤ x
least_below lo hi k x pos one h =
    let r : ℕ = lo - hi % k in
    let q : ℕ = (r + k - 1) / k in
    let e : k * q ≤ r + k - 1 = omega arith in
    let b : r ≤ k * x = omega arith in
    let le : q ≤ x = cancel k q x pos (omega (arith, e, b)) in
    omega (arith, le)

least_enough : (lo hi k x : ℕ) → 0 < k → least_by lo hi k ≤ x → lo ≤ hi % k + k * x
least_enough lo hi k x pos h =
    let r : ℕ = lo - hi % k in
    let q : ℕ = (r + k - 1) / k in
    let e : r + k - 1 < k * q + k = omega arith in
    let le : q ≤ x = omega (arith, h) in
    let m : k * q ≤ k * x = mul-le-mul_left k le in
    omega (arith, e, m)

mod_twice : (hi k j : ℕ) → 0 < k → 0 < j → hi % (k * j) ≡ hi % k + k * (hi / k % j)
mod_twice hi k j pos pos' =
    let turned : k * j ≡ j * k = omega arith in
    let m = mod-mul hi pos' pos in
    ap (λ n. hi % n) turned ∙ m ∙ omega arith

product_above : (k j : ℕ) → 1 ≤ k → 0 < j → 1 ≤ k * j
product_above k j one pos = let m : k * 1 ≤ k * j = mul-le-mul_left k pos in omega (arith, m, one)

least_twice : (lo hi k j : ℕ) → 0 < k → 0 < j → least_by (least_by lo hi k) (hi / k) j ≡ least_by lo hi (k * j)
least_twice lo hi k j pos pos' =
    let a : ℕ = least_by (least_by lo hi k) (hi / k) j in
    let b : ℕ = least_by lo hi (k * j) in
    let u : ℕ = hi / k % j in
    let one : 1 ≤ k * j = product_above k j pos pos' in
    let low = mod_twice hi k j pos pos' in
    let one_a : 1 ≤ a = omega arith in
    let one_b : 1 ≤ b = omega arith in
    let jb : 1 ≤ j * b = product_above j b pos' one_b in
    let ja : 1 ≤ j * a = product_above j a pos' one_a in
    let enough_b : lo ≤ hi % (k * j) + k * j * b = least_enough lo hi (k * j) b one (le_refl b) in
    let le1 : a ≤ b = least_below (least_by lo hi k) (hi / k) j b pos' one_b (least_below lo hi k (u + j * b) pos (omega (arith, jb)) (omega (arith, enough_b, low))) in
    let enough_a : least_by lo hi k ≤ u + j * a = least_enough (least_by lo hi k) (hi / k) j a pos' (le_refl a) in
    let enough : lo ≤ hi % k + k * (u + j * a) = least_enough lo hi k (u + j * a) pos enough_a in
    let le2 : b ≤ a = least_below lo hi (k * j) a one one_a (omega (arith, enough, low)) in
    omega (arith, le1, le2)

-- the split by a product is the split of the split
split-split : (b : Bounds) (k j : ℕ) → 0 < k → 0 < j → split (split b k) j ≡ split b (k * j)
split-split b k j pos pos' =
    ap (λ n. record { least = n; most = b.most / k / j }) (least_twice b.least b.most k j pos pos')
    ∙ ap (λ n. record { least = least_by b.least b.most (k * j); most = n }) (div-div-eq-div-mul b.most k j)

by_one : (b : Bounds) (k : ℕ) → k ≡ 1 → by_factor b k ≡ b
by_one b k e = cond-true (k == 1) b (split b k) (eq-eqb k 1 e)

by_more : (b : Bounds) (k : ℕ) → (k ≡ 1 → ⊥) → by_factor b k ≡ split b k
by_more b k other = cond-false (k == 1) b (split b k) (ne_eqb k 1 other)

pub by_factor-by_factor : (b : Bounds) (k j : ℕ) → 1 ≤ k → 1 ≤ j → by_factor (by_factor b k) j ≡ by_factor b (k * j)
by_factor-by_factor b k j one one' = ⊎_elim
    (λ (e : k ≡ 1). ap (λ c. by_factor c j) (by_one b k e) ∙ ap (by_factor b) (sym (ap (λ n. n * j) e ∙ alone j)))
    (λ (more : k ≡ 1 → ⊥). ⊎_elim
    (λ (e : j ≡ 1). by_one (by_factor b k) j e ∙ ap (by_factor b) (sym (ap (λ n. k * n) e ∙ alone' k)))
    (λ (more' : j ≡ 1 → ⊥).
    by_more (by_factor b k) j more' ∙ ap (λ c. split c j) (by_more b k more) ∙ split-split b k j one one'
    ∙ sym (by_more b (k * j) (product_more k j one one' more)))
    (cases_eq j 1))
    (cases_eq k 1)
  where
    alone : (n : ℕ) → 1 * n ≡ n
    alone n = omega arith

    alone' : (n : ℕ) → n * 1 ≡ n
    alone' n = omega arith

    product_more : (k j : ℕ) → 1 ≤ k → 1 ≤ j → (k ≡ 1 → ⊥) → k * j ≡ 1 → ⊥
    product_more k j one one' more e =
        let m : k * 1 ≤ k * j = mul-le-mul_left k one' in
        more (omega (arith, m, e, one))

-- a factor of a loop whose factor is known
pub AreBy-AreBy : (b c d : Option Bounds) (k j : ℕ) → 1 ≤ k → 1 ≤ j → AreBy b k c → AreBy c j d → AreBy b (k * j) d
AreBy-AreBy None c d k j one one' h i = absurd h
AreBy-AreBy (Some b) c d k j one one' h i =
    subst (λ x. AreBy x j d) h i ∙ ap Some (by_factor-by_factor b k j one one')

-- a loop whose copy makes fewer starts than a factor makes fewer than the product
pub StartsFewer-AreBy : (b c : Option Bounds) (k j : ℕ) → 1 ≤ k → AreBy b k c → StartsFewer c j → StartsFewer b (k * j)
StartsFewer-AreBy None c k j one h few = absurd h
StartsFewer-AreBy (Some b) c k j one h few = ⊎_elim
    (λ (e : k ≡ 1). fewer_alone b.most k j e (subst (λ x. x.most < j) (by_one b k e) now))
    (λ (more : k ≡ 1 → ⊥). fewer b.most k j one (subst (λ x. x.most < j) (by_more b k more) now))
    (cases_eq k 1)
  where
    now : (by_factor b k).most < j
    now = subst (λ x. StartsFewer x j) h few

    fewer_alone : (hi k j : ℕ) → k ≡ 1 → hi < j → hi < k * j
    fewer_alone hi k j e lt = subst (λ n. hi < n * j) (sym e) (omega (arith, lt))

    fewer : (hi k j : ℕ) → 1 ≤ k → hi / k < j → hi < k * j
    fewer hi k j one lt =
        let le : hi / k + 1 ≤ j = omega (arith, lt) in
        let m : k * (hi / k + 1) ≤ k * j = mul-le-mul_left k le in
        let r : hi < k * (hi / k) + k = omega (arith, one) in
        omega (arith, m, r)
