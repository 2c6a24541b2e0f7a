-- The sizes of first weights and of multipliers.
use Rattle.std.proofs.Common.{◌≡◌, ℕ, ◌+◌, ◌-◌, ◌*◌, ◌≤◌, ◌<◌, ◌^◌, ℤ, pos, neg_ℤ, ◌+ℤ◌, ◌-ℤ◌, ◌*ℤ◌, ◌≤ℤ◌, ◌<ℤ◌, arith, refl, ap, ◌∙◌, inl, inr, ◌⊎◌, Bool, true, false, cond, unsigned_abs}
use Rattle.std.specs.Prelude.{nat_le, min}
use Rattle.std.specs.Int.RustNames.{int_lt}
use lib.IntN.{negsuc}
use Rattle.std.proofs.lemmas.Int.{ints}
use Rattle.std.proofs.lemmas.Bool.Decides.{nat_tests}
use Rattle.std.proofs.Math.Nat.{mul-le-mul_left}
use Rattle.frac128.proofs.SignedLemmas.{mul-sub, mul-le}
use Rattle.loop_walks.specs.declared.step.Loop.{Loop}
use Rattle.loop_walks.specs.declared.step.Pair.{Pair}
use Rattle.loop_walks.specs.Walks.{larger}
use Rattle.loop_walks.specs.Multipliers.{first_weight, whole, over, least_of, pair_of}
use Rattle.loop_walks.proofs.LargerLemmas.{larger_left, larger_least}
use Rattle.loop_worths.specs.Sizes.{IsSmallPair}
use Rattle.loop_sizes.specs.Laws.{IsIn, IsSizedPair}

pub small_is : (size z : ℤ) → size <ℤ pos (2 ^ 124) → IsIn size z → unsigned_abs z < 2 ^ 124
small_is size (pos n) fits h = let h1 = h.1 in omega (arith, ints)
small_is size (negsuc n) fits h = let h0 = h.0 in omega (arith, ints)

no_loss : (g : ℤ) → int_lt g (pos 0) ≡ false → pos 0 ≤ℤ g
no_loss g t = grind (arith, ints, nat_tests)

a_loss : (g : ℤ) → int_lt g (pos 0) ≡ true → g <ℤ pos 0
a_loss g t = grind (arith, ints, nat_tests)

mul-comm : (a b : ℤ) → a *ℤ b ≡ b *ℤ a
mul-comm a b = omega (arith, ints)

-- further turns of a gain: no less than the gain below 0, and no more than all turns
product_within : (g : ℤ) (k : ℕ) → pos 0 ≤ℤ g → (neg_ℤ g ≤ℤ (g *ℤ (pos k -ℤ pos 1))) × ((g *ℤ (pos k -ℤ pos 1)) ≤ℤ (pos k *ℤ g))
product_within (pos g) k h =
    let a = mul-sub (pos g) (pos k) (pos 1) in
    let b = mul-comm (pos g) (pos k) in
    let c : pos g *ℤ pos 1 ≡ pos g = omega (arith, ints) in
    let d : pos 0 ≤ℤ (pos k *ℤ pos g) = omega (arith, ints) in
    (omega (arith, ints), omega (arith, ints))
product_within (negsuc g) k h = absurd (omega (arith, ints))

-- a loss times a number isn't positive
loss_product : (g : ℤ) (k : ℕ) → g <ℤ pos 0 → 2 ≤ k → (g *ℤ (pos k -ℤ pos 1)) ≤ℤ pos 0
loss_product g k h two =
    let e : pos k -ℤ pos 1 ≡ pos (k - 1) = omega (arith, ints) in
    let a = mul-le (k - 1) g (pos 0) (omega (arith, ints)) in
    let z : pos (k - 1) *ℤ pos 0 ≡ pos 0 = omega (arith, ints) in
    let c : g *ℤ (pos k -ℤ pos 1) ≡ pos (k - 1) *ℤ g = ap (λ (y : ℤ). g *ℤ y) e ∙ mul-comm g (pos (k - 1)) in
    omega (arith, ints)

-- the first weight of a loop lies between a block and the greatest loose number
pub first_weight_within : (low most : ℤ) (l : Loop) (g : ℤ) → low ≤ℤ pos 0 → pos 0 ≤ℤ most → (most +ℤ low) <ℤ pos 0 → (pos l.max *ℤ g) ≤ℤ most → g ≤ℤ most → (low ≤ℤ first_weight low l g) × (first_weight low l g ≤ℤ most)
first_weight_within low most l g h pm small turns less = by_gain (int_lt g (pos 0)) refl
  where
    by_least : (b : Bool) → nat_le l.min 1 ≡ b → g <ℤ pos 0 → (low ≤ℤ cond b (pos 0) (larger low (g *ℤ (pos l.min -ℤ pos 1)))) × (cond b (pos 0) (larger low (g *ℤ (pos l.min -ℤ pos 1))) ≤ℤ most)
    by_least true t neg = (h, pm)
    by_least false t neg =
        let p = loss_product g l.min neg (grind (arith, nat_tests)) in
        (larger_left low (g *ℤ (pos l.min -ℤ pos 1)), larger_least low (g *ℤ (pos l.min -ℤ pos 1)) most (omega (arith, ints)) (omega (arith, ints)))

    by_gain : (b : Bool) → int_lt g (pos 0) ≡ b → (low ≤ℤ cond b (cond (nat_le l.min 1) (pos 0) (larger low (g *ℤ (pos l.min -ℤ pos 1)))) (g *ℤ (pos l.max -ℤ pos 1))) × (cond b (cond (nat_le l.min 1) (pos 0) (larger low (g *ℤ (pos l.min -ℤ pos 1)))) (g *ℤ (pos l.max -ℤ pos 1)) ≤ℤ most)
    by_gain true t = by_least (nat_le l.min 1) refl (a_loss g t)
    by_gain false t = let p = product_within g l.max (no_loss g t) in let p0 = p.0 in let p1 = p.1 in (omega (arith, ints), omega (arith, ints))

-- ---- multipliers

least_small : (a b : ℕ) → (min a b ≤ a) × (min a b ≤ b)
least_small a b = (omega arith, omega arith)

over_small : (n k : ℕ) → over n k * (k + 1) ≤ n + k
over_small n k = omega arith

size_of_loss : (low g : ℤ) → low ≤ℤ g → low ≤ℤ pos 0 → int_lt g (pos 0) ≡ true → pos (unsigned_abs g) ≤ℤ neg_ℤ low
size_of_loss low (pos g) h k t = grind (arith, ints, nat_tests)
size_of_loss low (negsuc g) h k t = omega (arith, ints)

whole_small : (z bound : ℤ) → z ≤ℤ bound → pos 0 ≤ℤ bound → pos (whole z) ≤ℤ bound
whole_small (pos n) bound h p = h
whole_small (negsuc n) bound h p = p

module _ (low most bound size : ℤ) (q : ℕ) (l : Loop) (g e h : ℤ) (neg : low ≤ℤ pos 0) (pm : pos 0 ≤ℤ most) (few : l.min ≤ q) (least_gain : low ≤ℤ g) (most_gain : g ≤ℤ most) (turns : (pos l.max *ℤ g) ≤ℤ most)
    (most_bound : most ≤ℤ bound) (most_onward : e ≤ℤ (bound +ℤ most)) (least_header : low ≤ℤ h) (enough : (bound +ℤ ((most -ℤ (low +ℤ low)) +ℤ pos q)) ≤ℤ size) where
  zero-product : (z : ℤ) → pos 0 *ℤ z ≡ pos 0
  zero-product z = omega (arith, ints)

  -- of a turn that loses
  loss_sizes : (n : ℕ) → pos n ≤ℤ neg_ℤ low → (n ≡ 0) ⊎ ((2 ≤ l.min) × ((n * ((l.min - 2) + 1)) ≤ (whole (e -ℤ h) + (l.min - 2)))) → IsSizedPair size l (record { least = pos n; most = pos 0 })
  loss_sizes n small how = by_case how
    where
      all_by : (r : ℕ) → pos n *ℤ (pos l.min -ℤ pos 1) ≡ (pos r -ℤ pos 0) → pos r ≤ℤ (((bound +ℤ most) -ℤ low) +ℤ pos q) → pos n *ℤ pos l.min ≡ pos (r + n) → IsSizedPair size l (record { least = pos n; most = pos 0 })
      all_by r er most_r es =
          let z = zero-product (pos l.max -ℤ pos 1) in
          let y = zero-product (pos l.max) in record {
            least = (omega (arith, ints), omega (arith, ints));
            least_turns = (omega (arith, ints), omega (arith, ints));
            least_starts = (omega (arith, ints), omega (arith, ints));
            most = (omega (arith, ints), omega (arith, ints));
            most_turns = (omega (arith, ints), omega (arith, ints));
            most_starts = (omega (arith, ints), omega (arith, ints));
            weight = (omega (arith, ints), omega (arith, ints));
          }

      by_case : (n ≡ 0) ⊎ ((2 ≤ l.min) × ((n * ((l.min - 2) + 1)) ≤ (whole (e -ℤ h) + (l.min - 2)))) → IsSizedPair size l (record { least = pos n; most = pos 0 })
      by_case k = elim k [
        | inl z ↦
            let a : pos n *ℤ (pos l.min -ℤ pos 1) ≡ (pos 0 -ℤ pos 0) = ap (λ j. pos j *ℤ (pos l.min -ℤ pos 1)) z ∙ zero-product (pos l.min -ℤ pos 1) in
            let r : 0 ≡ 0 + n = omega (arith, z) in
            let c : pos n *ℤ pos l.min ≡ pos (0 + n) = ap (λ j. pos j *ℤ pos l.min) z ∙ (zero-product (pos l.min) ∙ ap pos r) in
            all_by 0 a (omega (arith, ints)) c
        | inr k ↦
            let two = k.0 in
            let w = whole_small (e -ℤ h) ((bound +ℤ most) -ℤ low) (omega (arith, ints)) (omega (arith, ints)) in
            let f : pos l.min -ℤ pos 1 ≡ pos ((l.min - 2) + 1) = omega (arith, ints) in
            let a : pos n *ℤ (pos l.min -ℤ pos 1) ≡ pos (n * ((l.min - 2) + 1)) = ap (λ (y : ℤ). pos n *ℤ y) f ∙ whole_product n ((l.min - 2) + 1) in
            let k1 = k.1 in
            let c : pos n *ℤ pos l.min ≡ pos (n * ((l.min - 2) + 1) + n) = whole_product n l.min ∙ ap pos (turns_split n l.min two) in
            all_by (n * ((l.min - 2) + 1)) (omega (arith, ints)) (omega (arith, ints)) c
      ]
        where
          whole_product : (a b : ℕ) → pos a *ℤ pos b ≡ pos (a * b)
          whole_product a b = omega (arith, ints)

          turns_split : (n k : ℕ) → 2 ≤ k → n * k ≡ n * ((k - 2) + 1) + n
          turns_split n k h = let e : k ≡ (k - 2) + 2 = omega arith in by_rest n (k - 2) k e
            where
              by_rest : (n r k : ℕ) → k ≡ r + 2 → n * k ≡ n * (r + 1) + n
              by_rest n r k e = ap (λ m. n * m) e ∙ omega arith

  -- of a turn that gains
  gain_sizes : pos 0 ≤ℤ g → IsSizedPair size l (record { least = pos 0; most = g })
  gain_sizes pg =
      let z = zero-product (pos l.min -ℤ pos 1) in
      let y = zero-product (pos l.min) in
      let p = product_within g l.max pg in let p0 = p.0 in let p1 = p.1 in
      let c = mul-comm g (pos l.max) in
      let d = mul-sub g (pos l.max) (pos 1) in
      let o : g *ℤ pos 1 ≡ g = omega (arith, ints) in record {
        least = (omega (arith, ints), omega (arith, ints));
        least_turns = (omega (arith, ints), omega (arith, ints));
        least_starts = (omega (arith, ints), omega (arith, ints));
        most = (omega (arith, ints), omega (arith, ints));
        most_turns = (omega (arith, ints), omega (arith, ints));
        most_starts = (omega (arith, ints), omega (arith, ints));
        weight = (omega (arith, ints), omega (arith, ints));
      }

  pub pair_sizes : IsSizedPair size l (pair_of l g e h)
  pair_sizes = by_gain (int_lt g (pos 0)) refl
    where
      by_least : (t : Bool) → nat_le l.min 1 ≡ t → int_lt g (pos 0) ≡ true → IsSizedPair size l (record { least = pos (cond t 0 (min (unsigned_abs g) (over (whole (e -ℤ h)) (l.min - 2)))); most = pos 0 })
      by_least true u t = loss_sizes 0 (omega (arith, ints)) (inl refl)
      by_least false u t =
          let m = least_small (unsigned_abs g) (over (whole (e -ℤ h)) (l.min - 2)) in
          let m0 = m.0 in
          let a = size_of_loss low g least_gain neg t in
          loss_sizes (min (unsigned_abs g) (over (whole (e -ℤ h)) (l.min - 2))) (omega (arith, ints))
          (inr (grind (arith, nat_tests), times (min (unsigned_abs g) (over (whole (e -ℤ h)) (l.min - 2))) (over (whole (e -ℤ h)) (l.min - 2)) (l.min - 2) (whole (e -ℤ h)) m.1 (over_small (whole (e -ℤ h)) (l.min - 2))))
        where
          times : (n o k w : ℕ) → n ≤ o → o * (k + 1) ≤ w + k → n * (k + 1) ≤ w + k
          times n o k w h g = let e : (k + 1) * n ≤ (k + 1) * o = mul-le-mul_left (k + 1) h in omega arith

      by_gain : (b : Bool) → int_lt g (pos 0) ≡ b → IsSizedPair size l (cond b (record { least = pos (least_of l g e h); most = pos 0 }) (record { least = pos 0; most = g }))
      by_gain true t = by_least (nat_le l.min 1) refl t
      by_gain false t = gain_sizes (no_loss g t)

pub pair_small : (size : ℤ) (l : Loop) (p : Pair) → size <ℤ pos (2 ^ 124) → IsSizedPair size l p → IsSmallPair l p
pair_small size l p fits h = record {
  least = small_is size p.least fits h.least;
  least_turns = small_is size (p.least *ℤ (pos l.min -ℤ pos 1)) fits h.least_turns;
  least_starts = small_is size (p.least *ℤ pos l.min) fits h.least_starts;
  most = small_is size p.most fits h.most;
  most_turns = small_is size (p.most *ℤ (pos l.max -ℤ pos 1)) fits h.most_turns;
  most_starts = small_is size (p.most *ℤ pos l.max) fits h.most_starts;
}
