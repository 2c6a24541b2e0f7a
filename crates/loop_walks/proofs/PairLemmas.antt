-- The multipliers: they cover what a turn gains, and a header's ways on with its new weight.
use Rattle.std.proofs.Common.{◌≡◌, ℕ, ◌+◌, ◌-◌, ◌*◌, ◌≤◌, ℤ, pos, ◌+ℤ◌, ◌-ℤ◌, ◌*ℤ◌, ◌≤ℤ◌, arith, refl, ap, ◌∙◌, Bool, true, false, cond, inl, inr, ◌⊎◌, unsigned_abs, neg_ℤ}
use lib.IntN.{negsuc}
use Rattle.std.specs.Prelude.{nat_le, min}
use Rattle.std.specs.Int.RustNames.{int_lt}
use Rattle.std.proofs.lemmas.Int.{ints}
use Rattle.std.proofs.lemmas.Bool.Decides.{nat_tests}
use Rattle.frac128.proofs.SignedLemmas.{neg-mul}
use Rattle.loop_walks.specs.declared.step.Loop.{Loop}
use Rattle.loop_walks.specs.declared.step.Pair.{Pair}
use Rattle.loop_walks.specs.Walks.{larger}
use Rattle.loop_walks.specs.Multipliers.{first_weight, whole, over, least_of, pair_of, weight_of}
use Rattle.loop_walks.proofs.LargerLemmas.{larger_right}

-- what a turn gains is covered, and no multiplier is negative
pub record Covers (g : ℤ) (p : Pair) : Type 0 where
  pub least : pos 0 ≤ℤ p.least
  pub most : pos 0 ≤ℤ p.most
  pub turn : (g +ℤ p.least) ≤ℤ p.most

least_small : (l : Loop) (g e h : ℤ) → least_of l g e h ≤ unsigned_abs g
least_small l g e h = by_test (nat_le l.min 1) (over (whole (e -ℤ h)) (l.min - 2))
  where
    by_test : (t : Bool) (n : ℕ) → cond t 0 (min (unsigned_abs g) n) ≤ unsigned_abs g
    by_test true n = omega arith
    by_test false n = omega arith

loss : (g : ℤ) (n : ℕ) → int_lt g (pos 0) ≡ true → n ≤ unsigned_abs g → (g +ℤ pos n) ≤ℤ pos 0
loss (pos g) n t h = grind (arith, ints, nat_tests)
loss (negsuc g) n t h = omega (arith, ints)

no_loss : (g : ℤ) → int_lt g (pos 0) ≡ false → pos 0 ≤ℤ g
no_loss g t = grind (arith, ints, nat_tests)

pub pair_covers : (l : Loop) (g e h : ℤ) → Covers g (pair_of l g e h)
pair_covers l g e h = by_test (int_lt g (pos 0)) refl
  where
    by_test : (t : Bool) → int_lt g (pos 0) ≡ t → Covers g (cond t (record { least = pos (least_of l g e h); most = pos 0 }) (record { least = pos 0; most = g }))
    by_test true t = record { least = omega (arith, ints); most = omega (arith, ints); turn = loss g (least_of l g e h) t (least_small l g e h) }
    by_test false t = let k = no_loss g t in record { least = omega (arith, ints); most = k; turn = omega (arith, ints) }

-- a quotient that is rounded up
over_enough : (n k : ℕ) → n ≤ over n k * (k + 1)
over_enough n k = omega arith

whole_enough : (z : ℤ) → z ≤ℤ pos (whole z)
whole_enough (pos n) = omega (arith, ints)
whole_enough (negsuc n) = omega (arith, ints)

zero-product : (z : ℤ) → pos 0 *ℤ z ≡ pos 0
zero-product z = omega (arith, ints)

least_is : (a b : ℕ) → (min a b ≡ a) ⊎ (min a b ≡ b)
least_is a b = by_test (nat_le a b) refl
  where
    by_test : (t : Bool) → nat_le a b ≡ t → (min a b ≡ a) ⊎ (min a b ≡ b)
    by_test true t = inl (grind (arith, nat_tests))
    by_test false t = inr (grind (arith, nat_tests))

size_of_loss : (g : ℤ) → int_lt g (pos 0) ≡ true → pos (unsigned_abs g) ≡ neg_ℤ g
size_of_loss (pos g) t = grind (arith, ints, nat_tests)
size_of_loss (negsuc g) t = omega (arith, ints)

-- x is one of the header's ways on, paid with the first weight; so it is with that of the multipliers
pub first_to_last : (low : ℤ) (l : Loop) (g e h x : ℤ) → x ≤ℤ e → (x +ℤ first_weight low l g) ≤ℤ h → (x +ℤ weight_of l (pair_of l g e h)) ≤ℤ h
first_to_last low l g e h x one paid = by_gain (int_lt g (pos 0)) refl paid
  where
    loses : (t : Bool) → nat_le l.min 1 ≡ t → int_lt g (pos 0) ≡ true → (x +ℤ cond t (pos 0) (larger low (g *ℤ (pos l.min -ℤ pos 1)))) ≤ℤ h →
        (x +ℤ ((pos 0 *ℤ (pos l.max -ℤ pos 1)) -ℤ (pos (cond t 0 (min (unsigned_abs g) (over (whole (e -ℤ h)) (l.min - 2)))) *ℤ (pos l.min -ℤ pos 1)))) ≤ℤ h
    loses true t neg paid = let z = zero-product (pos l.max -ℤ pos 1) in let y = zero-product (pos l.min -ℤ pos 1) in omega (arith, ints)
    loses false t neg paid = by_least (min (unsigned_abs g) (over (whole (e -ℤ h)) (l.min - 2))) (least_is (unsigned_abs g) (over (whole (e -ℤ h)) (l.min - 2)))
      where
        two : 2 ≤ l.min
        two = grind (arith, nat_tests)

        by_least : (n : ℕ) → (n ≡ unsigned_abs g) ⊎ (n ≡ over (whole (e -ℤ h)) (l.min - 2)) → (x +ℤ ((pos 0 *ℤ (pos l.max -ℤ pos 1)) -ℤ (pos n *ℤ (pos l.min -ℤ pos 1)))) ≤ℤ h
        by_least n is = elim is [
          | inl i ↦
              let z = zero-product (pos l.max -ℤ pos 1) in
              let a : pos n ≡ neg_ℤ g = ap pos i ∙ size_of_loss g neg in
              let b : pos n *ℤ (pos l.min -ℤ pos 1) ≡ neg_ℤ (g *ℤ (pos l.min -ℤ pos 1)) = ap (λ (y : ℤ). y *ℤ (pos l.min -ℤ pos 1)) a ∙ neg-mul g (pos l.min -ℤ pos 1) in
              let r = larger_right low (g *ℤ (pos l.min -ℤ pos 1)) in omega (arith, ints)
          | inr i ↦
              let w = two in
              let z = zero-product (pos l.max -ℤ pos 1) in
              let a : pos l.min -ℤ pos 1 ≡ pos ((l.min - 2) + 1) = omega (arith, ints) in
              let b : pos n *ℤ (pos l.min -ℤ pos 1) ≡ pos (over (whole (e -ℤ h)) (l.min - 2) * ((l.min - 2) + 1)) = ap (λ (y : ℤ). pos n *ℤ y) a ∙ ap (λ k. pos (k * ((l.min - 2) + 1))) i in
              let c = over_enough (whole (e -ℤ h)) (l.min - 2) in
              let d = whole_enough (e -ℤ h) in omega (arith, ints)
        ]

    by_gain : (t : Bool) → int_lt g (pos 0) ≡ t → (x +ℤ cond t (cond (nat_le l.min 1) (pos 0) (larger low (g *ℤ (pos l.min -ℤ pos 1)))) (g *ℤ (pos l.max -ℤ pos 1))) ≤ℤ h →
        (x +ℤ weight_of l (cond t (record { least = pos (least_of l g e h); most = pos 0 }) (record { least = pos 0; most = g }))) ≤ℤ h
    by_gain true t paid = loses (nat_le l.min 1) refl t paid
    by_gain false t paid = let z = zero-product (pos l.min -ℤ pos 1) in omega (arith, ints)
