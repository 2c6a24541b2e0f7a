-- What the limits of claims hold at an address, in size: of one loop that begins there and one that ends there.
use Rattle.std.proofs.Common.{◌≡◌, ℕ, zero, suc, ◌+◌, ◌*◌, ◌≤◌, ◌<◌, ℤ, pos, neg_ℤ, ◌+ℤ◌, ◌-ℤ◌, ◌*ℤ◌, ◌≤ℤ◌, arith, refl, ap, ◌∙◌, subst, List, [], ◌∷◌, ◌++◌, Contains, All, inl, inr, ◌⊎◌, Bool, true, false, cond, unsigned_abs}
use Rattle.std.specs.Prelude.{◌==◌}
use lib.IntN.{negsuc, *ℤ-zero}
use Rattle.std.proofs.lemmas.Int.{ints}
use Rattle.std.proofs.lemmas.Bool.Decides.{nat_tests, eqb_tells}
use Rattle.std.proofs.lemmas.List.Elements.{All-head, All-tail}
use Rattle.frac128.specs.Terms.{coefficient}
use Rattle.frac128.proofs.SignedLemmas.{mul-neg}
use Rattle.code_flow_system.specs.declared.claims.Never.{Never}
use Rattle.code_flow_system.specs.declared.claims.LoopClaim.{LoopClaim}
use Rattle.code_flow_system.specs.declared.shapes.LoopShape.{LoopShape}
use Rattle.code_flow_system.specs.Certificates.{Limit, never_limits, least_terms, most_terms, loop_limits, held, size_by}
use Rattle.loop_walks.specs.declared.step.Pair.{Pair}
use Rattle.path_places.proofs.FunctionLemmas.{ClaimsAscend}
use Rattle.path_places.specs.Duals.{both_of, never_bounds, loop_bounds}
use Rattle.path_places.proofs.DealLemmas.{AreDealt}

-- sizes

pub size-neg : (z : ℤ) → unsigned_abs (neg_ℤ z) ≡ unsigned_abs z
size-neg (pos n) = omega (arith, ints)
size-neg (negsuc n) = omega (arith, ints)

pub size-add : (x y : ℤ) → unsigned_abs (x +ℤ y) ≤ unsigned_abs x + unsigned_abs y
size-add (pos x) (pos y) = omega (arith, ints)
size-add (pos x) (negsuc y) = omega (arith, ints)
size-add (negsuc x) (pos y) = omega (arith, ints)
size-add (negsuc x) (negsuc y) = omega (arith, ints)

pub size_within : (n : ℕ) (z : ℤ) → neg_ℤ (pos n) ≤ℤ z → z ≤ℤ pos n → unsigned_abs z ≤ n
size_within n (pos z) h k = omega (arith, ints)
size_within n (negsuc z) h k = omega (arith, ints)

pub size-append : {X : Type 0} (f : X → ℤ) (xs ys : List X) → size_by f (xs ++ ys) ≡ size_by f xs + size_by f ys
size-append f [] ys = omega arith
size-append f (x ∷ xs) ys = let r = size-append f xs ys in omega (arith, r)

-- what limits hold is no larger than their terms together
pub held_size : (ls : List Limit) (a : ℕ) → unsigned_abs (held ls a) ≤ size_by (λ l. l.by *ℤ coefficient l.terms a) ls
held_size [] a = omega arith
held_size (l ∷ ls) a = let r = held_size ls a in let s = size-add (l.by *ℤ coefficient l.terms a) (held ls a) in omega (arith, r, s)

-- the products of a claim's multipliers
pub record IsSizedClaim (n : ℕ) (c : LoopClaim) (p : Pair) : Type 0 where
  pub least : unsigned_abs p.least ≤ n
  pub least_turns : unsigned_abs (p.least *ℤ (pos c.min -ℤ pos 1)) ≤ n
  pub least_starts : unsigned_abs (p.least *ℤ pos c.min) ≤ n
  pub most : unsigned_abs p.most ≤ n
  pub most_turns : unsigned_abs (p.most *ℤ (pos c.max -ℤ pos 1)) ≤ n
  pub most_starts : unsigned_abs (p.most *ℤ pos c.max) ≤ n
  pub weight : unsigned_abs ((p.most *ℤ (pos c.max -ℤ pos 1)) -ℤ (p.least *ℤ (pos c.min -ℤ pos 1))) ≤ n

abbrev pub IsSizedDeal : ℕ → LoopClaim → LoopShape → Pair → Type 0
IsSizedDeal n c l p = IsSizedClaim n c p

-- ---- one loop

at : (h b a : ℕ) (x y : ℤ) → coefficient ((h, x) ∷ (b, y) ∷ []) a ≡ cond (h == a) x (pos 0) +ℤ (cond (b == a) y (pos 0) +ℤ pos 0)
at h b a x y = refl

module _ (n more : ℕ) (c : LoopClaim) (p : Pair) (sized : IsSizedClaim n c p) (e : ℤ) (extra : (e ≡ pos 0) ⊎ ((c.max ≡ 0) × (unsigned_abs e ≤ more))) where
  extra_small : unsigned_abs e ≤ more
  extra_small = elim extra [ inl z ↦ (let q : unsigned_abs e ≡ 0 = ap unsigned_abs z in omega (arith, q)) | inr k ↦ k.1 ]

  most_small : unsigned_abs (p.most +ℤ e) ≤ n + more
  most_small = let s = size-add p.most e in let a = sized.most in let b = extra_small in omega (arith, s, a, b)

  least_by : (t u : Bool) → unsigned_abs (p.least *ℤ (cond t (pos c.min -ℤ pos 1) (pos 0) +ℤ (cond u (neg_ℤ (pos c.min)) (pos 0) +ℤ pos 0))) ≤ (cond t 1 0 + cond u 1 0) * n
  least_by true true =
      let f : ((pos c.min -ℤ pos 1) +ℤ (neg_ℤ (pos c.min) +ℤ pos 0)) ≡ neg_ℤ (pos 1) = omega (arith, ints) in
      let g : p.least *ℤ ((pos c.min -ℤ pos 1) +ℤ (neg_ℤ (pos c.min) +ℤ pos 0)) ≡ neg_ℤ p.least = ap (λ (y : ℤ). p.least *ℤ y) f ∙ (mul-neg p.least (pos 1) ∙ ap neg_ℤ (one p.least)) in
      let s = size-neg p.least in let h = sized.least in rw g (omega (arith, s, h))
    where
      one : (z : ℤ) → z *ℤ pos 1 ≡ z
      one z = omega (arith, ints)
  least_by true false =
      let f : ((pos c.min -ℤ pos 1) +ℤ (pos 0 +ℤ pos 0)) ≡ (pos c.min -ℤ pos 1) = omega (arith, ints) in
      let h = sized.least_turns in rw f (omega (arith, h))
  least_by false true =
      let f : (pos 0 +ℤ (neg_ℤ (pos c.min) +ℤ pos 0)) ≡ neg_ℤ (pos c.min) = omega (arith, ints) in
      let g = mul-neg p.least (pos c.min) in
      let s = size-neg (p.least *ℤ pos c.min) in let h = sized.least_starts in rw (f, g) (omega (arith, s, h))
  least_by false false =
      let f : (pos 0 +ℤ (pos 0 +ℤ pos 0)) ≡ pos 0 = omega (arith, ints) in
      let z = *ℤ-zero p.least in rw (f, z) (omega arith)

  -- at the header
  header_by : unsigned_abs ((p.most +ℤ e) *ℤ (pos 1 -ℤ pos c.max)) ≤ n + more
  header_by = elim extra [
    | inl z ↦
        let a : (p.most +ℤ e) *ℤ (pos 1 -ℤ pos c.max) ≡ p.most *ℤ (pos 1 -ℤ pos c.max) = ap (λ (y : ℤ). y *ℤ (pos 1 -ℤ pos c.max)) (ap (λ (y : ℤ). p.most +ℤ y) z ∙ none p.most) in
        let b : (pos 1 -ℤ pos c.max) ≡ neg_ℤ (pos c.max -ℤ pos 1) = omega (arith, ints) in
        let d : p.most *ℤ (pos 1 -ℤ pos c.max) ≡ neg_ℤ (p.most *ℤ (pos c.max -ℤ pos 1)) = ap (λ (y : ℤ). p.most *ℤ y) b ∙ mul-neg p.most (pos c.max -ℤ pos 1) in
        let s = size-neg (p.most *ℤ (pos c.max -ℤ pos 1)) in let h = sized.most_turns in rw (a, d) (omega (arith, s, h))
    | inr k ↦
        let b : (pos 1 -ℤ pos c.max) ≡ pos 1 = ap (λ j. pos 1 -ℤ pos j) k.0 ∙ omega (arith, ints) in
        let a : (p.most +ℤ e) *ℤ (pos 1 -ℤ pos c.max) ≡ (p.most +ℤ e) = ap (λ (y : ℤ). (p.most +ℤ e) *ℤ y) b ∙ one (p.most +ℤ e) in
        let h = most_small in rw a h
  ]
    where
      none : (z : ℤ) → z +ℤ pos 0 ≡ z
      none z = omega (arith, ints)

      one : (z : ℤ) → z *ℤ pos 1 ≡ z
      one z = omega (arith, ints)

  -- at the jump back
  back_by : unsigned_abs ((p.most +ℤ e) *ℤ pos c.max) ≤ n + more
  back_by = elim extra [
    | inl z ↦
        let a : (p.most +ℤ e) *ℤ pos c.max ≡ p.most *ℤ pos c.max = ap (λ (y : ℤ). y *ℤ pos c.max) (ap (λ (y : ℤ). p.most +ℤ y) z ∙ none p.most) in
        let h = sized.most_starts in rw a (omega (arith, h))
    | inr k ↦
        let a : (p.most +ℤ e) *ℤ pos c.max ≡ pos 0 = ap (λ j. (p.most +ℤ e) *ℤ pos j) k.0 ∙ *ℤ-zero (p.most +ℤ e) in rw a (omega arith)
  ]
    where
      none : (z : ℤ) → z +ℤ pos 0 ≡ z
      none z = omega (arith, ints)

  most_by : (t u : Bool) → unsigned_abs ((p.most +ℤ e) *ℤ (cond t (pos 1 -ℤ pos c.max) (pos 0) +ℤ (cond u (pos c.max) (pos 0) +ℤ pos 0))) ≤ (cond t 1 0 + cond u 1 0) * (n + more)
  most_by true true =
      let f : ((pos 1 -ℤ pos c.max) +ℤ (pos c.max +ℤ pos 0)) ≡ pos 1 = omega (arith, ints) in
      let o : (p.most +ℤ e) *ℤ pos 1 ≡ (p.most +ℤ e) = one (p.most +ℤ e) in
      let h = most_small in rw (f, o) (omega (arith, h))
    where
      one : (z : ℤ) → z *ℤ pos 1 ≡ z
      one z = omega (arith, ints)
  most_by true false =
      let f : ((pos 1 -ℤ pos c.max) +ℤ (pos 0 +ℤ pos 0)) ≡ (pos 1 -ℤ pos c.max) = omega (arith, ints) in
      let h = header_by in rw f (omega (arith, h))
  most_by false true =
      let f : (pos 0 +ℤ (pos c.max +ℤ pos 0)) ≡ pos c.max = omega (arith, ints) in
      let h = back_by in rw f (omega (arith, h))
  most_by false false =
      let f : (pos 0 +ℤ (pos 0 +ℤ pos 0)) ≡ pos 0 = omega (arith, ints) in
      let z = *ℤ-zero (p.most +ℤ e) in rw (f, z) (omega arith)

  pub claim_size : (a : ℕ) → unsigned_abs (p.least *ℤ coefficient (least_terms c) a) + unsigned_abs ((p.most +ℤ e) *ℤ coefficient (most_terms c) a) ≤ (cond (c.header == a) 1 0 + cond (c.back == a) 1 0) * ((n + n) + more)
  claim_size a =
      let l = least_by (c.header == a) (c.back == a) in
      let m = most_by (c.header == a) (c.back == a) in
      together (cond (c.header == a) 1 0 + cond (c.back == a) 1 0) _ _ l m
    where
      together : (k x y : ℕ) → x ≤ k * n → y ≤ k * (n + more) → x + y ≤ k * ((n + n) + more)
      together k x y h g = omega (arith, h, g)

-- ---- all loops

-- the loops that begin or end at an address
abbrev pub touching : List LoopClaim → ℕ → ℕ
touching [] a = 0
touching (c ∷ cs) a = (cond (c.header == a) 1 0 + cond (c.back == a) 1 0) + touching cs a

pub loops_size : (n more : ℕ) (owe : ℕ → ℤ) (cs : List LoopClaim) (ks : List LoopShape) (us : List Pair) (a : ℕ) → ((b : ℕ) → unsigned_abs (owe b) ≤ more) → AreDealt (IsSizedDeal n) cs ks us →
    size_by (λ l. l.by *ℤ coefficient l.terms a) (loop_limits cs (loop_bounds owe cs us)) ≤ touching cs a * ((n + n) + more)
loops_size n more owe [] ks us a small sized = omega arith
loops_size n more owe (c ∷ cs) [] us a small sized = absurd sized
loops_size n more owe (c ∷ cs) (l ∷ ks) [] a small sized = absurd sized
loops_size n more owe (c ∷ cs) (l ∷ ks) (u ∷ us) a small sized =
    let r = loops_size n more owe cs ks us a small sized.1 in
    let o = claim_size n more c u sized.0 (cond (c.max == 0) (owe c.header) (pos 0)) (extra_of (c.max == 0) refl) a in
    joined (cond (c.header == a) 1 0 + cond (c.back == a) 1 0) (touching cs a) _ _ _ o r
  where
    extra_of : (t : Bool) → (c.max == 0) ≡ t → (cond t (owe c.header) (pos 0) ≡ pos 0) ⊎ ((c.max ≡ 0) × (unsigned_abs (cond t (owe c.header) (pos 0)) ≤ more))
    extra_of true e = inr (grind (arith, nat_tests), small c.header)
    extra_of false e = inl refl

    joined : (k m x y z : ℕ) → x + y ≤ k * ((n + n) + more) → z ≤ m * ((n + n) + more) → x + (y + z) ≤ (k + m) * ((n + n) + more)
    joined k m x y z h g = omega (arith, h, g)

pub pairs_size : (n : ℕ) (cs : List LoopClaim) (ks : List LoopShape) (us : List Pair) (a : ℕ) → AreDealt (IsSizedDeal n) cs ks us → size_by (λ l. l.by *ℤ coefficient l.terms a) (loop_limits cs (both_of us)) ≤ touching cs a * (n + n)
pairs_size n [] ks us a sized = omega arith
pairs_size n (c ∷ cs) [] us a sized = absurd sized
pairs_size n (c ∷ cs) (l ∷ ks) [] a sized = absurd sized
pairs_size n (c ∷ cs) (l ∷ ks) (u ∷ us) a sized =
    let r = pairs_size n cs ks us a sized.1 in
    let o = claim_size n 0 c u sized.0 (pos 0) (inl refl) a in
    let z : (u.most +ℤ pos 0) ≡ u.most = omega (arith, ints) in
    let o' = subst (λ (y : ℤ). unsigned_abs (u.least *ℤ coefficient (least_terms c) a) + unsigned_abs (y *ℤ coefficient (most_terms c) a) ≤ (cond (c.header == a) 1 0 + cond (c.back == a) 1 0) * ((n + n) + 0)) z o in
    joined (cond (c.header == a) 1 0 + cond (c.back == a) 1 0) (touching cs a) _ _ _ o' r
  where
    joined : (k m x y z : ℕ) → x + y ≤ k * ((n + n) + 0) → z ≤ m * (n + n) → x + (y + z) ≤ (k + m) * (n + n)
    joined k m x y z h g = omega (arith, h, g)

-- ---- one loop begins at an address, and one ends

abbrev pub beginning : List LoopClaim → ℕ → ℕ
beginning [] a = 0
beginning (c ∷ cs) a = cond (c.header == a) 1 0 + beginning cs a

abbrev pub ending : List LoopClaim → ℕ → ℕ
ending [] a = 0
ending (c ∷ cs) a = cond (c.back == a) 1 0 + ending cs a

pub touching-parts : (cs : List LoopClaim) (a : ℕ) → touching cs a ≡ beginning cs a + ending cs a
touching-parts [] a = refl
touching-parts (c ∷ cs) a = let r = touching-parts cs a in omega (arith, r)

none_begins : (cs : List LoopClaim) (a h : ℕ) → h ≡ a → All (λ (d : LoopClaim). h < d.header) cs → beginning cs a ≡ 0
none_begins [] a h e k = refl
none_begins (c ∷ cs) a h e k = elim (eqb_tells c.header a) [
  | inl q ↦ let lt = All-head (λ (d : LoopClaim). h < d.header) c cs k in let q1 = q.1 in absurd (omega (arith, lt, q1, e))
  | inr q ↦ let r = none_begins cs a h e (All-tail (λ (d : LoopClaim). h < d.header) c cs k) in let q0 = q.0 in rw q0 (omega (arith, r))
]

pub one_begins : (cs : List LoopClaim) (a : ℕ) → ClaimsAscend cs → beginning cs a ≤ 1
one_begins [] a k = omega arith
one_begins (c ∷ cs) a k = elim (eqb_tells c.header a) [
  | inl q ↦ let r = none_begins cs a c.header q.1 k.0 in let q0 = q.0 in rw q0 (omega (arith, r))
  | inr q ↦ let r = one_begins cs a k.1 in let q0 = q.0 in rw q0 (omega (arith, r))
]

none_ends : (cs : List LoopClaim) (a h : ℕ) → ((c : LoopClaim) → Contains cs c → c.back ≡ a → c.header ≡ h) → All (λ (d : LoopClaim). h < d.header) cs → ending cs a ≡ 0
none_ends [] a h same k = refl
none_ends (c ∷ cs) a h same k = elim (eqb_tells c.back a) [
  | inl q ↦ let lt = All-head (λ (d : LoopClaim). h < d.header) c cs k in let e = same c (zero, omega arith, refl) q.1 in absurd (omega (arith, lt, e))
  | inr q ↦ let r = none_ends cs a h (λ d i. same d (suc i.0, (let j = i.1 in omega (arith, j)), i.2)) (All-tail (λ (d : LoopClaim). h < d.header) c cs k) in let q0 = q.0 in rw q0 (omega (arith, r))
]

one_ends : (cs : List LoopClaim) (a h : ℕ) → ClaimsAscend cs → ((c : LoopClaim) → Contains cs c → c.back ≡ a → c.header ≡ h) → ending cs a ≤ 1
one_ends [] a h k same = omega arith
one_ends (c ∷ cs) a h k same = elim (eqb_tells c.back a) [
  | inl q ↦
      let e = same c (zero, omega arith, refl) q.1 in
      let r = none_ends cs a h (λ d i. same d (suc i.0, (let j = i.1 in omega (arith, j)), i.2)) (subst (λ y. All (λ (d : LoopClaim). y < d.header) cs) e k.0) in let q0 = q.0 in rw q0 (omega (arith, r))
  | inr q ↦ let r = one_ends cs a h k.1 (λ d i. same d (suc i.0, (let j = i.1 in omega (arith, j)), i.2)) in let q0 = q.0 in rw q0 (omega (arith, r))
]

-- so at most two loops touch an address whose moves go to one header
pub two_touch : (cs : List LoopClaim) (a h : ℕ) → ClaimsAscend cs → ((c : LoopClaim) → Contains cs c → c.back ≡ a → c.header ≡ h) → touching cs a ≤ 2
two_touch cs a h k same = let e = touching-parts cs a in let b = one_begins cs a k in let d = one_ends cs a h k same in omega (arith, e, b, d)

-- ---- never claims

abbrev pub NeversAscend : List Never → Type 0
NeversAscend [] = Unit {0}
NeversAscend (c ∷ cs) = All (λ (d : Never). c.at < d.at) cs × NeversAscend cs

nevers_none : (owe : ℕ → ℤ) (cs : List Never) (a h : ℕ) → h ≡ a → All (λ (d : Never). h < d.at) cs → size_by (λ l. l.by *ℤ coefficient l.terms a) (never_limits cs (never_bounds owe cs)) ≡ 0
nevers_none owe [] a h e k = refl
nevers_none owe (c ∷ cs) a h e k = elim (eqb_tells c.at a) [
  | inl q ↦ let lt = All-head (λ (d : Never). h < d.at) c cs k in let q1 = q.1 in absurd (omega (arith, lt, q1, e))
  | inr q ↦
      let r = nevers_none owe cs a h e (All-tail (λ (d : Never). h < d.at) c cs k) in
      let q0 = q.0 in
      let f : owe c.at *ℤ (pos 0 +ℤ pos 0) ≡ pos 0 = ap (λ (y : ℤ). owe c.at *ℤ y) (none refl) ∙ *ℤ-zero (owe c.at) in
      rw (q0, f) (omega (arith, r))
]
  where
    none : pos 0 ≡ pos 0 → pos 0 +ℤ pos 0 ≡ pos 0
    none e = omega (arith, ints)

pub nevers_size : (more : ℕ) (owe : ℕ → ℤ) (cs : List Never) (a : ℕ) → ((b : ℕ) → unsigned_abs (owe b) ≤ more) → NeversAscend cs → size_by (λ l. l.by *ℤ coefficient l.terms a) (never_limits cs (never_bounds owe cs)) ≤ more
nevers_size more owe [] a small k = omega arith
nevers_size more owe (c ∷ cs) a small k = elim (eqb_tells c.at a) [
  | inl q ↦
      let r = nevers_none owe cs a c.at q.1 k.0 in
      let q0 = q.0 in
      let f : owe c.at *ℤ (pos 1 +ℤ pos 0) ≡ owe c.at = one (owe c.at) in
      let s = small c.at in rw (q0, f) (omega (arith, r, s))
  | inr q ↦
      let r = nevers_size more owe cs a small k.1 in
      let q0 = q.0 in
      let f : owe c.at *ℤ (pos 0 +ℤ pos 0) ≡ pos 0 = none (owe c.at) in
      rw (q0, f) (omega (arith, r))
]
  where
    one : (z : ℤ) → z *ℤ (pos 1 +ℤ pos 0) ≡ z
    one z = omega (arith, ints)

    none : (z : ℤ) → z *ℤ (pos 0 +ℤ pos 0) ≡ pos 0
    none z = ap (λ (y : ℤ). z *ℤ y) (let e : pos 0 +ℤ pos 0 ≡ pos 0 = omega (arith, ints) in e) ∙ *ℤ-zero z
