-- Sums, maxima and weights of worths that are near loose ones.
use Rattle.std.proofs.Common.{◌≡◌, ℕ, zero, suc, ◌-◌, ◌≤◌, ◌<◌, ℤ, pos, neg_ℤ, ◌+ℤ◌, ◌-ℤ◌, ◌*ℤ◌, ◌≤ℤ◌, ◌<ℤ◌, arith, refl, ap, ◌∙◌, subst, inl, inr, Bool, true, false, cond, Option, Some, None}
use Rattle.std.specs.Prelude.{nat_le}
use Rattle.std.specs.Int.RustNames.{int_le, int_lt}
use lib.IntN.{negsuc}
use Rattle.std.proofs.lemmas.Int.{ints}
use Rattle.std.proofs.lemmas.Bool.Decides.{nat_tests}
use Rattle.std.proofs.Math.Nat.{mul-le-mul_left}
use Rattle.frac128.proofs.SignedLemmas.{mul-add, mul-le, mul-neg}
use Rattle.loop_walks.specs.declared.step.Loop.{Loop}
use Rattle.loop_walks.specs.Walks.{larger}
use Rattle.loop_walks.specs.Turns.{greater, further, gain_by}
use Rattle.loop_walks.specs.Multipliers.{first_weight}
use Rattle.loop_ranges.specs.Near.{IsUpTo, IsNear, IsNearWay, PaysFurther, IsAtMost}

pub near_up : (low v l k : ℤ) → l ≤ℤ k → IsNear low v l → IsNear low v k
near_up low v l k h s = elim s [
  | inl e ↦ let e0 = e.0 in let e1 = e.1 in inl (omega (arith, ints), omega (arith, ints))
  | inr e ↦ inr (omega (arith, ints))
]

pub near_sum : (low v l w k : ℤ) → low ≤ℤ pos 0 → IsNear low v l → IsNear low w k → IsNear low (v +ℤ w) (l +ℤ k)
near_sum low v l w k h s t = elim s [
  | inl e ↦ let e0 = e.0 in let e1 = e.1 in elim t [
    | inl f ↦ let f0 = f.0 in let f1 = f.1 in inl (omega (arith, ints), omega (arith, ints))
    | inr f ↦ inr (omega (arith, ints))
  ]
  | inr e ↦ elim t [
    | inl f ↦ let f1 = f.1 in inr (omega (arith, ints))
    | inr f ↦ inr (omega (arith, ints))
  ]
]

pub near_larger : (low v w l : ℤ) → IsNear low v l → IsNear low w l → IsNear low (larger v w) l
near_larger low v w l s t = by_test (int_le v w)
  where
    by_test : (b : Bool) → IsNear low (cond b w v) l
    by_test true = t
    by_test false = s

pub near_low : (low l : ℤ) → pos 0 ≤ℤ l → IsNear low low l
near_low low l h = inr (omega (arith, ints))

pub near_most : (low v l : ℤ) → low ≤ℤ pos 0 → IsNear low v l → v ≤ℤ l
near_most low v l h s = elim s [ inl e ↦ let e1 = e.1 in omega (arith, ints) | inr e ↦ omega (arith, ints) ]

-- ways

pub way_near : (low : ℤ) (o p q : Option ℤ) → IsNearWay low o q → IsNearWay low p q → IsNearWay low (greater o p) q
way_near low None p q h k = k
way_near low (Some x) None q h k = h
way_near low (Some x) (Some y) None h k = absurd h
way_near low (Some x) (Some y) (Some l) h k = (h.0, near_larger low x y l h.1 k.1)

-- a way at a further cost
pub further_near : (low c u : ℤ) (o p q : Option ℤ) → low ≤ℤ pos 0 → IsNear low c u → pos 0 ≤ℤ u → PaysFurther u p q → IsNearWay low o p → IsNearWay low (further low c o) q
further_near low c u None p q h n pu paid k = tt
further_near low c u (Some v) None q h n pu paid k = absurd k
further_near low c u (Some v) (Some t) None h n pu paid k = absurd paid
further_near low c u (Some v) (Some t) (Some l) h n pu paid k =
    let k0 = k.0 in
    let p : pos 0 ≤ℤ l = omega (arith, ints) in
    (p, near_larger low low (c +ℤ v) l (near_low low l p) (near_up low (c +ℤ v) (u +ℤ t) l paid (near_sum low c u v t h n k.1)))

-- what a turn gains
pub gain_near : (low price c : ℤ) (o p : Option ℤ) (g : ℤ) → low ≤ℤ pos 0 → IsNear low price c → pos 0 ≤ℤ g → IsAtMost p c g → IsNearWay low o p → IsNear low (gain_by low price o) g
gain_near low price c None p g h up pg turn k = near_low low g pg
gain_near low price c (Some v) None g h up pg turn k = absurd k
gain_near low price c (Some v) (Some t) g h up pg turn k =
    near_larger low low (v +ℤ price) g (near_low low g pg) (near_up low (v +ℤ price) (t +ℤ c) g turn (near_sum low v t price c h k.1 up))

-- weights

more : (n m : ℕ) (z : ℤ) → n ≤ m → pos 0 ≤ℤ z → (pos n *ℤ z) ≤ℤ (pos m *ℤ z)
more n m (pos z) h k = let e = mul-le-mul_left z h in omega (arith, ints)
more n m (negsuc z) h k = absurd (omega (arith, ints))

mul-comm : (a b : ℤ) → a *ℤ b ≡ b *ℤ a
mul-comm a b = omega (arith, ints)

less_one : (n : ℕ) → 0 < n → pos n -ℤ pos 1 ≡ pos (n - 1)
less_one n h = omega (arith, ints)

no_loss : (g : ℤ) → int_lt g (pos 0) ≡ false → pos 0 ≤ℤ g
no_loss g t = grind (arith, ints, nat_tests)

a_loss : (g : ℤ) → int_lt g (pos 0) ≡ true → g <ℤ pos 0
a_loss g t = grind (arith, ints, nat_tests)

-- the first weight of a header is near the loose one of as many turns as there are at most
pub weight_near : (low : ℤ) (l : Loop) (g z w : ℤ) → low ≤ℤ pos 0 → 0 < l.max → l.min ≤ l.max → pos 0 ≤ℤ z → (z +ℤ low) <ℤ pos 0 → IsNear low g z → ((pos l.max -ℤ pos 1) *ℤ z) ≤ℤ w → IsNear low (first_weight low l g) w
weight_near low l g z w h pm mm pz small near paid = by_gain (int_lt g (pos 0)) refl
  where
    most : ℕ
    most = l.max - 1

    paid' : (pos (l.max - 1) *ℤ z) ≤ℤ w
    paid' = subst (λ (y : ℤ). (y *ℤ z) ≤ℤ w) (less_one l.max pm) paid

    gains : pos 0 ≤ℤ g → IsNear low (g *ℤ (pos l.max -ℤ pos 1)) w
    gains pg = elim near [
      | inl e ↦
          let e1 = e.1 in
          let a = mul-le (l.max - 1) g z e1 in
          let b = mul-le (l.max - 1) (pos 0) g pg in
          let c : (pos (l.max - 1) *ℤ pos 0) ≡ pos 0 = omega (arith, ints) in
          let d : g *ℤ (pos l.max -ℤ pos 1) ≡ pos (l.max - 1) *ℤ g = ap (λ (y : ℤ). g *ℤ y) (less_one l.max pm) ∙ mul-comm g (pos (l.max - 1)) in
          let p = paid' in
          inl (omega (arith, ints), omega (arith, ints))
      | inr e ↦ absurd (omega (arith, ints))
    ]

    loses : g <ℤ pos 0 → 2 ≤ l.min → IsNear low (larger low (g *ℤ (pos l.min -ℤ pos 1))) w
    loses neg two =
        let d : g *ℤ (pos l.min -ℤ pos 1) ≡ pos (l.min - 1) *ℤ g = ap (λ (y : ℤ). g *ℤ y) (less_one l.min (omega arith)) ∙ mul-comm g (pos (l.min - 1)) in
        let m = more (l.min - 1) (l.max - 1) z (omega arith) pz in
        let one = more 1 (l.min - 1) z (omega arith) pz in
        let p = paid' in
        let pw : pos 0 ≤ℤ w = (let k = more 0 (l.max - 1) z (omega arith) pz in omega (arith, ints)) in
        near_larger low low (g *ℤ (pos l.min -ℤ pos 1)) w (near_low low w pw) (elim near [
          | inl e ↦
              let e0 = e.0 in
              let a = mul-le (l.min - 1) (neg_ℤ z) g e0 in
              let b = mul-neg (pos (l.min - 1)) z in
              let c = mul-le (l.min - 1) g (pos 0) (omega (arith, ints)) in
              let f : (pos (l.min - 1) *ℤ pos 0) ≡ pos 0 = omega (arith, ints) in
              inl (omega (arith, ints), omega (arith, ints))
          | inr e ↦
              let a = mul-le (l.min - 1) g (z +ℤ low) e in
              let b = less_turns (l.min - 1) (z +ℤ low) (omega arith) (omega (arith, ints)) in
              inr (omega (arith, ints))
        ])
      where
        -- a loss, so often as once at least
        less_turns : (n : ℕ) (y : ℤ) → 0 < n → y ≤ℤ pos 0 → (pos n *ℤ y) ≤ℤ y
        less_turns n y pn hy =
            let a = mul-le (n - 1) y (pos 0) hy in
            let c : (pos (n - 1) *ℤ pos 0) ≡ pos 0 = omega (arith, ints) in
            let e : pos n *ℤ y ≡ (pos (n - 1) *ℤ y) +ℤ y = split n y pn in omega (arith, ints)
          where
            split : (n : ℕ) (y : ℤ) → 0 < n → pos n *ℤ y ≡ (pos (n - 1) *ℤ y) +ℤ y
            split zero y h = absurd (omega arith)
            split (suc n) y h = let e : suc n - 1 ≡ n = omega arith in let f = mul-add y (pos n) (pos 1) in let g = mul-comm (pos (suc n)) y in let k = mul-comm (pos (suc n - 1)) y in rw e (omega (arith, ints))

    by_least : (b : Bool) → nat_le l.min 1 ≡ b → g <ℤ pos 0 → IsNear low (cond b (pos 0) (larger low (g *ℤ (pos l.min -ℤ pos 1)))) w
    by_least true t neg = let k = more 0 (l.max - 1) z (omega arith) pz in let p = paid' in inl (omega (arith, ints), omega (arith, ints))
    by_least false t neg = loses neg (grind (arith, nat_tests))

    by_gain : (b : Bool) → int_lt g (pos 0) ≡ b → IsNear low (cond b (cond (nat_le l.min 1) (pos 0) (larger low (g *ℤ (pos l.min -ℤ pos 1)))) (g *ℤ (pos l.max -ℤ pos 1))) w
    by_gain true t = by_least (nat_le l.min 1) refl (a_loss g t)
    by_gain false t = gains (no_loss g t)

-- a sum that isn't low has open parts
pub open_parts : (low c u v l : ℤ) → low ≤ℤ pos 0 → pos 0 ≤ℤ u → pos 0 ≤ℤ l → ((u +ℤ l) +ℤ ((u +ℤ l) +ℤ low)) <ℤ pos 0 → IsNear low c u → IsNear low v l → neg_ℤ (u +ℤ l) ≤ℤ (c +ℤ v) → IsUpTo c u × IsUpTo v l
open_parts low c u v l h pu pl small n k high = elim n [
  | inl e ↦ let e1 = e.1 in elim k [ inl f ↦ (e, f) | inr f ↦ absurd (omega (arith, ints)) ]
  | inr e ↦ elim k [ inl f ↦ let f1 = f.1 in absurd (omega (arith, ints)) | inr f ↦ absurd (omega (arith, ints)) ]
]
