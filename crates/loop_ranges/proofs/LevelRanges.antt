-- How far worths reach: a loop that is settled adds no more than twice the greatest loose worth, the price of a block and its least number of starts.
use Rattle.std.proofs.Common.{◌≡◌, ℕ, suc, ◌+◌, ◌-◌, ◌*◌, ◌≤◌, ◌<◌, ◌^◌, ℤ, pos, ◌+ℤ◌, ◌-ℤ◌, ◌*ℤ◌, ◌≤ℤ◌, arith, refl, ap, ◌∙◌, List, [], ◌∷◌, Bool, true, false, cond, Option, Some, None, inl, inr, unsigned_abs}
use Rattle.std.specs.Prelude.{nat_le, min}
use Rattle.std.specs.Int.RustNames.{int_lt}
use lib.IntN.{negsuc}
use Rattle.std.proofs.lemmas.Int.{ints}
use Rattle.std.proofs.lemmas.Bool.Decides.{nat_tests}
use Rattle.std.proofs.Math.Nat.{mul-le-mul_left}
use Rattle.loop_walks.specs.declared.step.Step.{Step}
use Rattle.loop_walks.specs.declared.step.Loop.{Loop}
use Rattle.loop_walks.specs.Walks.{worth_at}
use Rattle.loop_walks.specs.Multipliers.{whole, over, least_of, pair_of, back_worth}
use Rattle.loop_walks.specs.Levels.{onward}
use Rattle.loop_walks.specs.Rows.{Each}
use Rattle.loop_walks.proofs.LargerLemmas.{larger_least, Beneath}
use Rattle.loop_ranges.specs.Near.{IsNearWay, IsAtMost}
use Rattle.loop_ranges.proofs.NearLemmas.{near_most}

-- the greatest worth of a header's ways on
pub onward_below : (low : ℤ) (ws : List ℤ) (ms : List Step) (bound : ℤ) → low ≤ℤ bound → Each (λ m. (m.price +ℤ worth_at ws m.on) ≤ℤ bound) ms → onward low ws ms ≤ℤ bound
onward_below low ws [] bound h k = h
onward_below low ws (m ∷ ms) bound h k = larger_least (m.price +ℤ worth_at ws m.on) (onward low ws ms) bound k.0 (onward_below low ws ms bound h k.1)

-- a quotient that is rounded up is not much larger
over_small : (n k : ℕ) → over n k * (k + 1) ≤ n + k
over_small n k = omega arith

zero-product : (z : ℤ) → pos 0 *ℤ z ≡ pos 0
zero-product z = omega (arith, ints)

at_least_0 : (g : ℤ) (n : ℕ) → pos 0 ≤ℤ g → pos 0 ≤ℤ (g *ℤ pos n)
at_least_0 (pos g) n h = omega (arith, ints)
at_least_0 (negsuc g) n h = absurd (omega (arith, ints))

no_loss : (g : ℤ) → int_lt g (pos 0) ≡ false → pos 0 ≤ℤ g
no_loss g t = grind (arith, ints, nat_tests)

least_small : (a b : ℕ) → (min a b ≤ a) × (min a b ≤ b)
least_small a b = (omega arith, omega arith)

-- the size of a loss
size_of_loss : (low g : ℤ) → low ≤ℤ g → low ≤ℤ pos 0 → int_lt g (pos 0) ≡ true → pos (unsigned_abs g) ≤ℤ (pos 0 -ℤ low)
size_of_loss low (pos g) h k t = grind (arith, ints, nat_tests)
size_of_loss low (negsuc g) h k t = omega (arith, ints)

-- what is made up for, together with what there is
made_up : (e h bound : ℤ) → e ≤ℤ bound → h ≤ℤ bound → (h +ℤ pos (whole (e -ℤ h))) ≤ℤ bound
made_up e h bound he hh = by_sign (e -ℤ h) refl
  where
    by_sign : (z : ℤ) → (e -ℤ h) ≡ z → (h +ℤ pos (whole z)) ≤ℤ bound
    by_sign (pos n) q = omega (arith, ints)
    by_sign (negsuc n) q = omega (arith, ints)

-- so many starts, of which one isn't counted
turns_split : (n k : ℕ) → 2 ≤ k → n * k ≡ n * ((k - 2) + 1) + n
turns_split n k h = let e : k ≡ (k - 2) + 2 = omega arith in by_rest n (k - 2) k e
  where
    by_rest : (n r k : ℕ) → k ≡ r + 2 → n * k ≡ n * (r + 1) + n
    by_rest n r k e = ap (λ m. n * m) e ∙ omega arith

-- what a jump back is worth, by what its header and the header's ways on are worth at most
pub back_below : (low : ℤ) (l : Loop) (g e h bound : ℤ) → low ≤ℤ pos 0 → low ≤ℤ g → e ≤ℤ bound → h ≤ℤ bound → back_worth l h (pair_of l g e h) ≤ℤ (((l.price +ℤ bound) -ℤ low) +ℤ pos l.min)
back_below low l g e h bound neg least he hh = by_gain (int_lt g (pos 0)) refl
  where
    by_number : (n : ℕ) → (2 ≤ l.min) → pos n ≤ℤ (pos 0 -ℤ low) → n * ((l.min - 2) + 1) ≤ whole (e -ℤ h) + (l.min - 2) → (((l.price +ℤ h) +ℤ (pos n *ℤ pos l.min)) -ℤ (pos 0 *ℤ pos l.max)) ≤ℤ (((l.price +ℤ bound) -ℤ low) +ℤ pos l.min)
    by_number n two size made =
        let z = zero-product (pos l.max) in
        let s : pos n *ℤ pos l.min ≡ pos (n * ((l.min - 2) + 1) + n) = whole_product n l.min ∙ ap pos (turns_split n l.min two) in
        let u = made_up e h bound he hh in
        omega (arith, ints)
      where
        whole_product : (a b : ℕ) → pos a *ℤ pos b ≡ pos (a * b)
        whole_product a b = omega (arith, ints)

    by_least : (b : Bool) → nat_le l.min 1 ≡ b → int_lt g (pos 0) ≡ true →
        (((l.price +ℤ h) +ℤ (pos (cond b 0 (min (unsigned_abs g) (over (whole (e -ℤ h)) (l.min - 2)))) *ℤ pos l.min)) -ℤ (pos 0 *ℤ pos l.max)) ≤ℤ (((l.price +ℤ bound) -ℤ low) +ℤ pos l.min)
    by_least true t loss = let z = zero-product (pos l.max) in let y = zero-product (pos l.min) in omega (arith, ints)
    by_least false t loss =
        let m = least_small (unsigned_abs g) (over (whole (e -ℤ h)) (l.min - 2)) in
        let m0 = m.0 in
        let a = size_of_loss low g least neg loss in
        by_number (min (unsigned_abs g) (over (whole (e -ℤ h)) (l.min - 2))) (grind (arith, nat_tests)) (omega (arith, ints))
        (times (min (unsigned_abs g) (over (whole (e -ℤ h)) (l.min - 2))) (over (whole (e -ℤ h)) (l.min - 2)) (l.min - 2) (whole (e -ℤ h)) m.1 (over_small (whole (e -ℤ h)) (l.min - 2)))
      where
        times : (n o k w : ℕ) → n ≤ o → o * (k + 1) ≤ w + k → n * (k + 1) ≤ w + k
        times n o k w h g = let e : (k + 1) * n ≤ (k + 1) * o = mul-le-mul_left (k + 1) h in omega arith

    by_gain : (b : Bool) → int_lt g (pos 0) ≡ b →
        back_worth l h (cond b (record { least = pos (least_of l g e h); most = pos 0 }) (record { least = pos 0; most = g })) ≤ℤ (((l.price +ℤ bound) -ℤ low) +ℤ pos l.min)
    by_gain true t = by_least (nat_le l.min 1) refl t
    by_gain false t =
        let y = zero-product (pos l.min) in
        let a = at_least_0 g l.max (no_loss g t) in
        omega (arith, ints)

-- a worth after a level: most is a bound of the loose ones, c a price that is no less than that of the jump back
pub level_below : (low most bound price c z w e : ℤ) (o p : Option ℤ) (q : ℕ) → low ≤ℤ pos 0 → pos 0 ≤ℤ most → Beneath w e o z → e ≤ℤ bound → IsNearWay low o p → IsAtMost p c most → price ≤ℤ c → z ≤ℤ (((price +ℤ (bound +ℤ most)) -ℤ low) +ℤ pos q)
    → w ≤ℤ (bound +ℤ (((most +ℤ most) -ℤ low) +ℤ pos q))
level_below low most bound price c z w e None p q h pm under below near far less back = omega (arith, ints)
level_below low most bound price c z w e (Some v) None q h pm under below near far less back = absurd near
level_below low most bound price c z w e (Some v) (Some t) q h pm under below near far less back =
    let v1 = near_most low v t h near.1 in
    elim under [ inl k ↦ omega (arith, ints) | inr k ↦ omega (arith, ints) ]

-- n is one more than the number of loop claims, m the greatest numerator or denominator of multipliers, and k a number of loops
abbrev pub level_closed : (l s k : ℕ) → ℕ
level_closed l s k = l + k * s

-- all levels fit: with restrictions
pub levels_fit : (n m k : ℕ) → n * m ≤ 2 ^ 44 → n ≤ 2 ^ 33 → k < n → level_closed (m * (2 ^ 60 + 32 * 2 ^ 66)) (6 * (m * (2 ^ 60 + 32 * 2 ^ 66)) + 2 ^ 32) k < 2 ^ 118
levels_fit n m k h hn hk =
    let one : k * (6 * (m * (2 ^ 60 + 32 * 2 ^ 66)) + 2 ^ 32) + (6 * (m * (2 ^ 60 + 32 * 2 ^ 66)) + 2 ^ 32) ≤ n * (6 * (m * (2 ^ 60 + 32 * 2 ^ 66)) + 2 ^ 32) = by_step n k (6 * (m * (2 ^ 60 + 32 * 2 ^ 66)) + 2 ^ 32) hk in
    let two : n * (6 * (m * (2 ^ 60 + 32 * 2 ^ 66)) + 2 ^ 32) ≡ (n * m) * (6 * (2 ^ 60 + 32 * 2 ^ 66)) + n * 2 ^ 32 = omega arith in
    omega (arith, h, hn)
  where
    by_step : (n k z : ℕ) → k < n → k * z + z ≤ n * z
    by_step n k z h = let e : z * suc k ≤ z * n = mul-le-mul_left z h in omega arith

-- and without
pub levels_fit_plain : (n k : ℕ) → n ≤ 2 ^ 33 → k < n → level_closed (2 ^ 60) (6 * 2 ^ 60 + 2 ^ 32) k < 2 ^ 97
levels_fit_plain n k hn hk = omega (arith, hn, hk)
