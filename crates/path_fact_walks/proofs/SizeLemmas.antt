-- Products of multipliers, and what multiplied facts have at an address.
use Rattle.std.proofs.Common.{◌≡◌, ℕ, ◌+◌, ◌*◌, ◌^◌, ◌≤◌, ◌<◌, ◌≤ℤ◌, ℤ, pos, neg_ℤ, ◌+ℤ◌, ◌-ℤ◌, ◌*ℤ◌, arith, refl, sym, ap, ◌∙◌, subst, List, [], ◌∷◌, ◌++◌, length, drop, get_or, add-one, drop-cons, Bool, true, false, cond, unsigned_abs, FitsSigned}
use Rattle.std.specs.Prelude.{◌==◌}
use Rattle.std.specs.Int.{w128}
use mir.Val.{to_z, of_z}
use lib.IntN.{negsuc}
use Rattle.std.proofs.lemmas.Int.{ints, unsigned_abs-mul, to_z-of_z}
use Rattle.std.proofs.Math.Nat.{mul-le-mul_left, mul-le-mul_right}
use Rattle.frac128.specs.Terms.{Terms, coefficient}
use Rattle.frac128.proofs.TermsLemmas.{coefficient-append}
use Rattle.code_flow_system.specs.declared.claims.FactClaim.{FactClaim}
use Rattle.code_flow_system.specs.Certificates.{negated, fact_limits, held}
use Rattle.path_sizes.proofs.ClaimSizes.{size-add}

pub product_small : (a b : ℤ) → unsigned_abs a ≤ 2 ^ 44 → unsigned_abs b < 2 ^ 65 → unsigned_abs (a *ℤ b) ≤ 2 ^ 109
product_small a b h k =
    let e = unsigned_abs-mul a b in
    let f : unsigned_abs a * unsigned_abs b ≤ unsigned_abs a * 2 ^ 65 = mul-le-mul_left (unsigned_abs a) (omega (arith, k)) in
    let g : unsigned_abs a * 2 ^ 65 ≤ 2 ^ 44 * 2 ^ 65 = mul-le-mul_right (2 ^ 65) h in omega (arith, e, f, g)

negated_at : (ts : Terms) (a : ℕ) → coefficient (negated ts) a ≡ neg_ℤ (coefficient ts a)
negated_at [] a = refl
negated_at (t ∷ ts) a = by_test (t.0 == a) (negated_at ts a)
  where
    by_test : (b : Bool) → coefficient (negated ts) a ≡ neg_ℤ (coefficient ts a) → (cond b (neg_ℤ t.1) (pos 0) +ℤ coefficient (negated ts) a) ≡ neg_ℤ (cond b t.1 (pos 0) +ℤ coefficient ts a)
    by_test true r = omega (arith, ints)
    by_test false r = omega (arith, ints)

-- a fact's number at an address
pub difference_is : (c : FactClaim) (a : ℕ) → coefficient (c.left ++ negated c.right) a ≡ coefficient c.left a -ℤ coefficient c.right a
difference_is c a =
    let e = coefficient-append c.left (negated c.right) a in
    let f = negated_at c.right a in omega (arith, ints)

-- one more fact
pub held_next : (c : FactClaim) (cs : List FactClaim) (y : ℤ) (ys : List ℤ) (a : ℕ) (d z : ℤ) → d ≡ coefficient c.left a -ℤ coefficient c.right a → z ≡ y *ℤ d → held (fact_limits (c ∷ cs) (y ∷ ys)) a ≡ z +ℤ held (fact_limits cs ys) a
held_next c cs y ys a d z e f = ap (λ (x : ℤ). (y *ℤ x) +ℤ held (fact_limits cs ys) a) (difference_is c a ∙ sym e) ∙ ap (λ (x : ℤ). x +ℤ held (fact_limits cs ys) a) (sym f)

pub small_fits : (z : ℤ) → unsigned_abs z ≤ 2 ^ 115 → FitsSigned w128 z
small_fits (pos n) h = record { sfits = omega (arith, h) }
small_fits (negsuc n) h = record { sfits = omega (arith, h) }

-- the product in 128 bits
pub product_is : (a b : ℤ) → FitsSigned w128 a → FitsSigned w128 b → unsigned_abs a ≤ 2 ^ 44 → unsigned_abs b < 2 ^ 65 → to_z w128 (of_z w128 (to_z w128 (of_z w128 a) *ℤ to_z w128 (of_z w128 b))) ≡ a *ℤ b
product_is a b fa fb h k =
    let ea = to_z-of_z w128 a fa in
    let eb = to_z-of_z w128 b fb in
    let p = product_small a b h k in
    ap (λ (z : ℤ). to_z w128 (of_z w128 (z *ℤ to_z w128 (of_z w128 b)))) ea
    ∙ (ap (λ (z : ℤ). to_z w128 (of_z w128 (a *ℤ z))) eb
    ∙ to_z-of_z w128 (a *ℤ b) (small_fits (a *ℤ b) (omega (arith, p))))

-- the sum so far, and one product more
abbrev pub IsHeld : List FactClaim → List ℤ → ℕ → ℕ → ℤ → Type 0
IsHeld fs ys a i s = ((s +ℤ held (fact_limits (drop i fs) (drop i ys)) a) ≡ held (fact_limits fs ys) a) × (unsigned_abs s ≤ i * 2 ^ 109)

pub held_goes : (fs : List FactClaim) (ys : List ℤ) (a i : ℕ) (f : FactClaim) (s d z : ℤ) → f ≡ get_or fs i f → i < length fs → length ys ≡ length fs → d ≡ coefficient f.left a -ℤ coefficient f.right a → z ≡ get_or ys i (pos 0) *ℤ d → unsigned_abs z ≤ 2 ^ 109 →
    IsHeld fs ys a i s → IsHeld fs ys a (i + 1) (s +ℤ z)
held_goes fs ys a i f s d z is lt long ed ez small h = (sum, size)
  where
    facts : drop i fs ≡ get_or fs i f ∷ drop (i + 1) fs
    facts = rw add-one (drop-cons fs i f lt)

    multipliers : drop i ys ≡ get_or ys i (pos 0) ∷ drop (i + 1) ys
    multipliers = rw add-one (drop-cons ys i (pos 0) (omega (arith, lt, long)))

    next : held (fact_limits (drop i fs) (drop i ys)) a ≡ z +ℤ held (fact_limits (drop (i + 1) fs) (drop (i + 1) ys)) a
    next =
        ap (λ (gs : List FactClaim). held (fact_limits gs (drop i ys)) a) (facts ∙ ap (λ (g : FactClaim). g ∷ drop (i + 1) fs) (sym is))
        ∙ (ap (λ (zs : List ℤ). held (fact_limits (f ∷ drop (i + 1) fs) zs) a) multipliers
        ∙ held_next f (drop (i + 1) fs) (get_or ys i (pos 0)) (drop (i + 1) ys) a d z ed ez)

    sum : ((s +ℤ z) +ℤ held (fact_limits (drop (i + 1) fs) (drop (i + 1) ys)) a) ≡ held (fact_limits fs ys) a
    sum = let e = h.0 in let n = next in omega (arith, ints)

    size : unsigned_abs (s +ℤ z) ≤ (i + 1) * 2 ^ 109
    size = let e = size-add s z in let k = h.1 in omega (arith, e, k, small)

-- fewer than 32 products fit
pub held_fits : (s z : ℤ) (i n : ℕ) → unsigned_abs s ≤ i * 2 ^ 109 → unsigned_abs z ≤ 2 ^ 109 → i < n → n ≤ 32 → unsigned_abs (s +ℤ z) ≤ 2 ^ 115
held_fits s z i n h k lt few = let e = size-add s z in omega (arith, e, h, k, lt, few)

-- a scaled cost in 128 bits

scaled_small : (cost scale : ℕ) → cost < 2 ^ 33 → scale ≤ 2 ^ 44 → cost * scale ≤ 2 ^ 107
scaled_small cost scale h k =
    let f : cost * scale ≤ cost * 2 ^ 44 = mul-le-mul_left cost k in
    let g : cost * 2 ^ 44 ≤ 2 ^ 107 = omega (arith, h) in omega (arith, f, g)

scaled_is : (cost scale : ℕ) (a b : ℤ) → a ≡ pos cost → b ≡ pos scale → cost < 2 ^ 33 → scale ≤ 2 ^ 44 → to_z w128 (of_z w128 (to_z w128 (of_z w128 a) *ℤ to_z w128 (of_z w128 b))) ≡ pos (cost * scale)
scaled_is cost scale a b ea eb h k =
    let fa : to_z w128 (of_z w128 a) ≡ pos cost = ap (λ (z : ℤ). to_z w128 (of_z w128 z)) ea ∙ to_z-of_z w128 (pos cost) (small_fits (pos cost) (omega (arith, h))) in
    let fb : to_z w128 (of_z w128 b) ≡ pos scale = ap (λ (z : ℤ). to_z w128 (of_z w128 z)) eb ∙ to_z-of_z w128 (pos scale) (small_fits (pos scale) (omega (arith, k))) in
    let s = scaled_small cost scale h k in
    let p : pos cost *ℤ pos scale ≡ pos (cost * scale) = omega (arith, ints) in
    ap (λ (z : ℤ). to_z w128 (of_z w128 (z *ℤ to_z w128 (of_z w128 b)))) fa
    ∙ (ap (λ (z : ℤ). to_z w128 (of_z w128 (pos cost *ℤ z))) fb
    ∙ (ap (λ (z : ℤ). to_z w128 (of_z w128 z)) p
    ∙ to_z-of_z w128 (pos (cost * scale)) (small_fits (pos (cost * scale)) (omega (arith, s)))))

-- less what facts have

less_small : (c : ℕ) (h : ℤ) → c ≤ 2 ^ 107 → unsigned_abs h ≤ 2 ^ 114 → unsigned_abs (pos c -ℤ h) ≤ 2 ^ 115
less_small c (pos h) a b = by_sign (pos c -ℤ pos h) (omega (arith, ints)) (omega (arith, ints))
  where
    by_sign : (z : ℤ) → neg_ℤ (pos (2 ^ 115)) ≤ℤ z → z ≤ℤ pos (2 ^ 115) → unsigned_abs z ≤ 2 ^ 115
    by_sign (pos n) l m = omega (arith, ints)
    by_sign (negsuc n) l m = omega (arith, ints)
less_small c (negsuc h) a b = omega (arith, ints, a, b)

module _ (cost scale : ℕ) (a b h : ℤ) (ea : a ≡ pos cost) (eb : b ≡ pos scale) (lc : cost < 2 ^ 33) (ls : scale ≤ 2 ^ 44) (fh : FitsSigned w128 h) (lh : unsigned_abs h ≤ 2 ^ 114) where
  difference_now : to_z w128 (of_z w128 (to_z w128 (of_z w128 a) *ℤ to_z w128 (of_z w128 b))) -ℤ to_z w128 (of_z w128 h) ≡ pos (cost * scale) -ℤ h
  difference_now = ap (λ (z : ℤ). z -ℤ to_z w128 (of_z w128 h)) (scaled_is cost scale a b ea eb lc ls) ∙ ap (λ (z : ℤ). pos (cost * scale) -ℤ z) (to_z-of_z w128 h fh)

  fits_now : FitsSigned w128 (pos (cost * scale) -ℤ h)
  fits_now = small_fits (pos (cost * scale) -ℤ h) (less_small (cost * scale) h (scaled_small cost scale lc ls) lh)

  pub price_fits : FitsSigned w128 (to_z w128 (of_z w128 (to_z w128 (of_z w128 a) *ℤ to_z w128 (of_z w128 b))) -ℤ to_z w128 (of_z w128 h))
  price_fits = subst (λ (z : ℤ). FitsSigned w128 z) (sym difference_now) fits_now

  pub price_is : to_z w128 (of_z w128 (to_z w128 (of_z w128 (to_z w128 (of_z w128 a) *ℤ to_z w128 (of_z w128 b))) -ℤ to_z w128 (of_z w128 h))) ≡ pos (cost * scale) -ℤ h
  price_is = ap (λ (z : ℤ). to_z w128 (of_z w128 z)) difference_now ∙ to_z-of_z w128 (pos (cost * scale) -ℤ h) fits_now
