-- What the last table of a round says of the first.
use Rattle.std.proofs.Common.{◌≡◌, ℕ, zero, suc, ◌+◌, ◌-◌, ◌*◌, ◌/◌, ◌≤◌, ◌<◌, ℤ, pos, neg_ℤ, ◌+ℤ◌, ◌*ℤ◌, ◌≤ℤ◌, ◌<ℤ◌, arith, refl, sym, ap, ◌∙◌, subst, List, [], ◌∷◌, length, All, inl, inr, ◌⊎◌, Bool, true, false, cond, nat_lt, nat_le, unsigned_abs}
use Rattle.std.specs.Prelude.{◌&&◌, slice_index_or}
use Rattle.std.specs.Int.{◌∣◌}
use Rattle.std.specs.Int.RustNames.{int_lt}
use lib.IntN.{negsuc, *ℤ_comm}
use Rattle.std.proofs.Math.IntN.{zero-*ℤ}
use Rattle.std.proofs.Math.Nat.{mul_comm, mul_assoc, mul-div_cancel'}
use Rattle.std.proofs.lemmas.Int.{ints}
use Rattle.std.proofs.lemmas.Bool.Decides.{nat_tests}
use Rattle.std.proofs.lemmas.List.Elements.{All-head, All-tail, All-cons, All-nil}
use Rattle.frac128.specs.Terms.{Terms, applied}
use Rattle.frac128.proofs.SignedLemmas.{mul-add, mul_assoc as mul_assoc_z, le_of_mul-le, mul-neg}
use Rattle.wcc_base.specs.declared.compare.Compare.{Compare}
use Rattle.wcc_base.specs.declared.compare.Compare.TheVariants.{AtMost, AtLeast, Equal}
use Rattle.code_flow_answer.specs.declared.bounded.Column.{Column}
use Rattle.simplex_tables.specs.Rows.{Row, entry, gcd}
use Rattle.simplex_tables.proofs.RowLemmas.{gcd_is}
use Rattle.simplex_rounds.specs.declared.starting.Side.{Side}
use Rattle.simplex_rounds.specs.declared.weighing.Weight.{Weight}
use Rattle.simplex_rounds.specs.Starts.{sides_from, sided}
use Rattle.simplex_tables.specs.Choices.{right}
use Rattle.simplex_rounds.specs.Multiplied.{side_count, duals}
use Rattle.simplex_rounds.specs.Weighted.{lowest, holds_weight, weights_of, numerator}
use Rattle.simplex_laws.specs.RoundLaws.{column_at, over, KeepFacts, HaveSigns}
use Rattle.simplex_laws.proofs.BasisLemmas.{number_at, basis_from}

swap : (x y z : ℤ) → (x *ℤ y) *ℤ z ≡ (x *ℤ z) *ℤ y
swap x y z = mul_assoc_z x y z ∙ (ap (λ (w : ℤ). x *ℤ w) (*ℤ_comm y z) ∙ sym (mul_assoc_z x z y))

product : (a b : ℕ) → pos a *ℤ pos b ≡ pos (a * b)
product a b = omega (arith, ints)

pub size_of : (z : ℤ) → pos 1 ≤ℤ z → (z ≡ pos (unsigned_abs z)) × (0 < unsigned_abs z)
size_of (pos n) h = (refl, omega (arith, ints))
size_of (negsuc n) h = absurd (omega (arith, ints))

-- a positive factor can be taken out
pub cancel : (p : ℕ) (x y : ℤ) → 0 < p → (pos p *ℤ x) ≡ (pos p *ℤ y) → x ≡ y
cancel p x y h e =
    let c1 = *ℤ_comm (pos p) x in let c2 = *ℤ_comm (pos p) y in
    let a = le_of_mul-le x y (pos p) (omega (arith, ints)) (omega (arith, ints)) in
    let b = le_of_mul-le y x (pos p) (omega (arith, ints)) (omega (arith, ints)) in omega (arith, ints)

-- a place of w variables: the artificial one, a column's, or a slack's
pub data Place (k n o : ℕ) : Type 0 where
  IsArtificial : o ≡ 0 → Place k n o
  IsColumn : (u : ℕ) → u < k → o ≡ suc u → Place k n o
  IsSlack : (u : ℕ) → u < n → o ≡ (k + 1) + u → Place k n o

pub place_of : (k n o : ℕ) → o < (k + 1) + n → Place k n o
place_of k n zero h = IsArtificial refl
place_of k n (suc u) h = by_test (nat_lt u k) refl
  where
    by_test : (t : Bool) → nat_lt u k ≡ t → Place k n (suc u)
    by_test true e = IsColumn u (grind (arith, nat_tests)) refl
    by_test false e = let g : k ≤ u = grind (arith, nat_tests) in IsSlack (u - k) (omega (arith, g, h)) (omega (arith, g))

-- ---- weights in lowest terms

half : (t q g b : ℕ) → (t * q) * (g * b) ≡ (t * b) * (q * g)
half t q g b = mul_assoc t q (g * b) ∙ (ap (λ x. t * x) (sym (mul_assoc q g b) ∙ mul_comm (q * g) b) ∙ sym (mul_assoc t b (q * g)))

shuffle : (t q g b : ℕ) → (t * q) * (g * b) ≡ (b * q) * (g * t)
shuffle t q g b = half t q g b ∙ (ap (λ x. x * (q * g)) (mul_comm t b) ∙ sym (half b q g t))

numerator_is : (c top bottom m : ℕ) → (lowest c top bottom).bottom ∣ m → numerator m (lowest c top bottom) * bottom ≡ m * top
numerator_is c top bottom m h =
    let g = gcd_is top bottom in
    let e1 : gcd top bottom * (top / gcd top bottom) ≡ top = mul-div_cancel' (gcd top bottom) g.0 in
    let e2 : gcd top bottom * (bottom / gcd top bottom) ≡ bottom = mul-div_cancel' (gcd top bottom) g.1 in
    let e3 : (bottom / gcd top bottom) * (m / (bottom / gcd top bottom)) ≡ m = mul-div_cancel' (bottom / gcd top bottom) h in
    ap (λ x. numerator m (lowest c top bottom) * x) (sym e2) ∙ (shuffle (top / gcd top bottom) (m / (bottom / gcd top bottom)) (gcd top bottom) (bottom / gcd top bottom) ∙ (ap (λ x. x * (gcd top bottom * (top / gcd top bottom))) e3 ∙ ap (λ x. m * x) e1))

lowest_positive : (c top bottom : ℕ) → 0 < bottom → 0 < (lowest c top bottom).bottom
lowest_positive c top bottom h = by_size (bottom / gcd top bottom) (mul-div_cancel' (gcd top bottom) (gcd_is top bottom).1)
  where
    by_size : (x : ℕ) → gcd top bottom * x ≡ bottom → 0 < x
    by_size zero e = let z : gcd top bottom * 0 ≡ 0 = omega arith in absurd (omega (arith, e, z, h))
    by_size (suc x) e = omega arith

-- ---- from a solution's numbers at own variables to the weights of columns

-- a number that is q times a weight's numerator over m
pub record Fits (q m : ℕ) (f : ℤ) (o : ℕ) (r : Row) : Type 0 where
  pub own : pos 1 ≤ℤ entry r o
  pub side : pos 0 ≤ℤ right r
  pub is : (f *ℤ entry r o) ≡ (pos q *ℤ (pos m *ℤ right r))

abbrev pub row_in : List Row → ℕ → Row
row_in rs i = slice_index_or rs i []

module _ (k q m : ℕ) (g : ℕ → ℤ) where
  one_weight : (f : ℤ) (o : ℕ) (r : Row) → Fits q m f o r → 0 < o → (lowest (o - 1) (unsigned_abs (right r)) (unsigned_abs (entry r o))).bottom ∣ m → f ≡ pos q *ℤ pos (numerator m (lowest (o - 1) (unsigned_abs (right r)) (unsigned_abs (entry r o))))
  one_weight f o r fits first divides =
      let e = size_of (entry r o) fits.own in
      let u = numerator_is (o - 1) (unsigned_abs (right r)) (unsigned_abs (entry r o)) m divides in
      let z = whole (right r) fits.side in
      let p = product (numerator m (lowest (o - 1) (unsigned_abs (right r)) (unsigned_abs (entry r o)))) (unsigned_abs (entry r o)) in
      let p2 = product m (unsigned_abs (right r)) in
      let u2 : pos (numerator m (lowest (o - 1) (unsigned_abs (right r)) (unsigned_abs (entry r o))) * unsigned_abs (entry r o)) ≡ pos (m * unsigned_abs (right r)) = ap pos u in
      let z2 : pos m *ℤ right r ≡ pos m *ℤ pos (unsigned_abs (right r)) = ap (λ (y : ℤ). pos m *ℤ y) z in
      let i2 : f *ℤ entry r o ≡ f *ℤ pos (unsigned_abs (entry r o)) = ap (λ (y : ℤ). f *ℤ y) e.0 in
      let w2 : pos q *ℤ (pos m *ℤ right r) ≡ pos q *ℤ (pos (numerator m (lowest (o - 1) (unsigned_abs (right r)) (unsigned_abs (entry r o)))) *ℤ pos (unsigned_abs (entry r o))) = ap (λ (y : ℤ). pos q *ℤ y) (z2 ∙ (p2 ∙ (sym u2 ∙ sym p))) in
      let a = mul_assoc_z (pos q) (pos (numerator m (lowest (o - 1) (unsigned_abs (right r)) (unsigned_abs (entry r o))))) (pos (unsigned_abs (entry r o))) in
      let c1 = *ℤ_comm f (pos (unsigned_abs (entry r o))) in
      let c2 = *ℤ_comm (pos q *ℤ pos (numerator m (lowest (o - 1) (unsigned_abs (right r)) (unsigned_abs (entry r o))))) (pos (unsigned_abs (entry r o))) in
      cancel (unsigned_abs (entry r o)) f (pos q *ℤ pos (numerator m (lowest (o - 1) (unsigned_abs (right r)) (unsigned_abs (entry r o))))) e.1
      (sym c1 ∙ (sym i2 ∙ (fits.is ∙ (w2 ∙ (sym a ∙ c2)))))
    where
      whole : (z : ℤ) → pos 0 ≤ℤ z → z ≡ pos (unsigned_abs z)
      whole (pos n) h = refl
      whole (negsuc n) h = absurd (omega (arith, ints))

  pub transfer : (f : ℕ → ℤ) (n : ℕ) (os : List ℕ) (rs : List Row) → length os ≡ length rs → ((j : ℕ) → j < length rs → Fits q m (f (n + j)) (number_at os j) (row_in rs j)) →
      ((j : ℕ) → j < length os → (number_at os j ≡ 0) ⊎ (k < number_at os j) → g (number_at os j) ≡ pos 0) → All (λ w. w.bottom ∣ m) (weights_of k os rs) →
      applied (basis_from f n os) g ≡ pos q *ℤ applied (over m (weights_of k os rs)) (λ i. g (suc i))
  transfer f n [] rs long fits zeros common = sym (*ℤ_comm (pos q) (pos 0) ∙ zero-*ℤ (pos q))
  transfer f n (o ∷ os) [] long fits zeros common = absurd (omega (arith, long))
  transfer f n (o ∷ os) (r ∷ rs) long fits zeros common = by_test (holds_weight k o r) refl common (λ c. transfer f (n + 1) os rs (omega (arith, long)) later (λ j lt e. zeros (suc j) (omega (arith, lt)) e) c)
    where
      later : (j : ℕ) → j < length rs → Fits q m (f ((n + 1) + j)) (number_at os j) (row_in rs j)
      later j lt = subst (λ i. Fits q m (f i) (number_at os j) (row_in rs j)) {x = n + suc j} {y = (n + 1) + j} (omega arith) (fits (suc j) (omega (arith, lt)))

      here : Fits q m (f n) o r
      here = subst (λ i. Fits q m (f i) o r) {x = n + 0} {y = n} (omega arith) (fits 0 (omega arith))

      by_test : (t : Bool) → holds_weight k o r ≡ t → All (λ w. w.bottom ∣ m) (cond t (lowest (o - 1) (unsigned_abs (right r)) (unsigned_abs (entry r o)) ∷ weights_of k os rs) (weights_of k os rs)) →
          (All (λ w. w.bottom ∣ m) (weights_of k os rs) → applied (basis_from f (n + 1) os) g ≡ pos q *ℤ applied (over m (weights_of k os rs)) (λ i. g (suc i))) →
          (f n *ℤ g o) +ℤ applied (basis_from f (n + 1) os) g ≡ pos q *ℤ applied (over m (cond t (lowest (o - 1) (unsigned_abs (right r)) (unsigned_abs (entry r o)) ∷ weights_of k os rs) (weights_of k os rs))) (λ i. g (suc i))
      by_test true e c next =
          let d = All-head (λ (w : Weight). w.bottom ∣ m) (lowest (o - 1) (unsigned_abs (right r)) (unsigned_abs (entry r o))) (weights_of k os rs) c in
          let s = next (All-tail (λ (w : Weight). w.bottom ∣ m) (lowest (o - 1) (unsigned_abs (right r)) (unsigned_abs (entry r o))) (weights_of k os rs) c) in
          let first = (held e).0 in
          let w = one_weight (f n) o r here first d in
          let u = numerator m (lowest (o - 1) (unsigned_abs (right r)) (unsigned_abs (entry r o))) in
          let a = mul_assoc_z (pos q) (pos u) (g o) in
          let w2 = ap (λ (z : ℤ). z *ℤ g o) w in
          let i : g (suc (o - 1)) ≡ g o = ap g (omega (arith, first)) in
          let i2 = ap (λ (z : ℤ). pos u *ℤ z) i in
          let m2 = mul-add (pos q) (pos u *ℤ g (suc (o - 1))) (applied (over m (weights_of k os rs)) (λ i. g (suc i))) in
          let i3 = ap (λ (z : ℤ). pos q *ℤ z) i2 in
          omega (arith, ints)
        where
          held : holds_weight k o r ≡ true → (0 < o) × (o ≤ k)
          held e = tests (nat_lt 0 o) refl (nat_le o k) refl (int_lt (pos 0) (entry r o)) e
            where
              tests : (a : Bool) → nat_lt 0 o ≡ a → (b : Bool) → nat_le o k ≡ b → (c : Bool) → a && (b && c) ≡ true → (0 < o) × (o ≤ k)
              tests true p true s c e = (grind (arith, nat_tests), grind (arith, nat_tests))
              tests true p false s c e = cc
              tests false p b s c e = cc
      by_test false e c next =
          let s = next c in
          let z = zeros 0 (omega arith) (outside e) in
          let y = ap (λ (x : ℤ). f n *ℤ x) z in
          let x = *ℤ_comm (f n) (pos 0) ∙ zero-*ℤ (f n) in omega (arith, ints)
        where
          outside : holds_weight k o r ≡ false → (o ≡ 0) ⊎ (k < o)
          outside e = tests (nat_lt 0 o) refl (nat_le o k) refl (int_lt (pos 0) (entry r o)) refl e
            where
              tests : (a : Bool) → nat_lt 0 o ≡ a → (b : Bool) → nat_le o k ≡ b → (c : Bool) → int_lt (pos 0) (entry r o) ≡ c → a && (b && c) ≡ false → (o ≡ 0) ⊎ (k < o)
              tests false p b s c t e = inl (let g : o ≤ 0 = grind (arith, nat_tests) in omega (arith, g))
              tests true p false s c t e = inr (grind (arith, nat_tests))
              tests true p true s false t e = absurd (let g : entry r o ≤ℤ pos 0 = grind (arith, ints, nat_tests) in let h = here.own in omega (arith, ints))
              tests true p true s true t e = cc

  -- weights have columns, and bottoms that aren't 0
  pub weights_fit : (os : List ℕ) (rs : List Row) → All (λ w. (w.column < k) × (0 < w.bottom)) (weights_of k os rs)
  weights_fit [] rs = All-nil (λ w. (w.column < k) × (0 < w.bottom))
  weights_fit (o ∷ os) [] = All-nil (λ w. (w.column < k) × (0 < w.bottom))
  weights_fit (o ∷ os) (r ∷ rs) = by_tests (nat_lt 0 o) refl (nat_le o k) refl (int_lt (pos 0) (entry r o)) refl (weights_fit os rs)
    where
      by_tests : (a : Bool) → nat_lt 0 o ≡ a → (b : Bool) → nat_le o k ≡ b → (c : Bool) → int_lt (pos 0) (entry r o) ≡ c → All (λ w. (w.column < k) × (0 < w.bottom)) (weights_of k os rs) →
          All (λ w. (w.column < k) × (0 < w.bottom)) (cond (a && (b && c)) (lowest (o - 1) (unsigned_abs (right r)) (unsigned_abs (entry r o)) ∷ weights_of k os rs) (weights_of k os rs))
      by_tests false p b s c t h = h
      by_tests true p false s c t h = h
      by_tests true p true s false t h = h
      by_tests true p true s true t h =
          let x : 0 < o = grind (arith, nat_tests) in let y : o ≤ k = grind (arith, nat_tests) in
          let z : pos 0 <ℤ entry r o = grind (arith, ints, nat_tests) in
          All-cons (λ w. (w.column < k) × (0 < w.bottom)) (lowest (o - 1) (unsigned_abs (right r)) (unsigned_abs (entry r o))) (weights_of k os rs)
          (omega (arith, x, y), lowest_positive (o - 1) (unsigned_abs (right r)) (unsigned_abs (entry r o)) (size_of (entry r o) (omega (arith, ints))).1) h

-- ---- signs of the dual values

pub signs_of : (i : ℕ) (os : List Compare) (r : Row) → ((u : ℕ) → i ≤ u → u < i + side_count os → pos 0 ≤ℤ entry r u) → HaveSigns os (duals i os r)
signs_of i [] r h = tt
signs_of i (AtMost ∷ os) r h = (h i (omega arith) (omega arith), signs_of (i + 1) os r (λ u from lt. h u (omega (arith, from)) (omega (arith, lt))))
signs_of i (AtLeast ∷ os) r h = ((let e = h i (omega arith) (omega arith) in omega (arith, ints)), signs_of (i + 1) os r (λ u from lt. h u (omega (arith, from)) (omega (arith, lt))))
signs_of i (Equal ∷ os) r h = (tt, signs_of (i + 2) os r (λ u from lt. h u (omega (arith, from)) (omega (arith, lt))))

-- ---- facts by their sides

applied_neg : (ts : Terms) (f : ℕ → ℤ) → applied ts (λ i. neg_ℤ (f i)) ≡ neg_ℤ (applied ts f)
applied_neg [] f = refl
applied_neg (t ∷ ts) f = let r = applied_neg ts f in let e = mul-neg t.1 (f t.0) in omega (arith, ints)

abbrev pub SideKept : List Column → Terms → Side → Type 0
SideKept cs ts s = applied ts (λ i. sided s (column_at cs i)) ≤ℤ pos 0

pub facts_kept : (cs : List Column) (ts : Terms) (n : ℕ) (os : List Compare) → All (SideKept cs ts) (sides_from n os) → KeepFacts cs ts n os
facts_kept cs ts n [] h = tt
facts_kept cs ts n (AtMost ∷ os) h = (All-head (SideKept cs ts) (record { fact = n; negated = false }) (sides_from (n + 1) os) h, facts_kept cs ts (n + 1) os (All-tail (SideKept cs ts) (record { fact = n; negated = false }) (sides_from (n + 1) os) h))
facts_kept cs ts n (AtLeast ∷ os) h = (
  (let e = applied_neg ts (λ i. entry (column_at cs i).totals n) in let k = All-head (SideKept cs ts) (record { fact = n; negated = true }) (sides_from (n + 1) os) h in omega (arith, ints)),
  facts_kept cs ts (n + 1) os (All-tail (SideKept cs ts) (record { fact = n; negated = true }) (sides_from (n + 1) os) h),
)
facts_kept cs ts n (Equal ∷ os) h =
    let k = All-tail (SideKept cs ts) (record { fact = n; negated = false }) (record { fact = n; negated = true } ∷ sides_from (n + 1) os) h in (
      (let e = applied_neg ts (λ i. entry (column_at cs i).totals n) in
          let a = All-head (SideKept cs ts) (record { fact = n; negated = false }) (record { fact = n; negated = true } ∷ sides_from (n + 1) os) h in
          let b = All-head (SideKept cs ts) (record { fact = n; negated = true }) (sides_from (n + 1) os) k in omega (arith, ints)),
      facts_kept cs ts (n + 1) os (All-tail (SideKept cs ts) (record { fact = n; negated = true }) (sides_from (n + 1) os) k),
    )
