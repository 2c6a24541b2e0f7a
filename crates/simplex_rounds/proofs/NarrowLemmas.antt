-- Numbers within the limit, and lists of them.
use Rattle.std.proofs.Common.{◌≡◌, ℕ, suc, ◌*◌, ◌/◌, ◌≤◌, ◌<◌, ◌^◌, ℤ, arith, refl, ap, [], ◌∷◌, ◌++◌, length, All, Bool, true, false, unsigned_abs}
use Rattle.std.specs.Prelude.{◌&&◌, nat_le}
use Rattle.std.proofs.lemmas.Bool.Decides.{nat_tests}
use Rattle.std.proofs.lemmas.List.Elements.{All-cons, All-nil}
use Rattle.std.proofs.Math.Nat.{le-div_iff_mul-le, mul-le-mul_right}
use Rattle.simplex_tables.specs.Rows.{Row}
use Rattle.simplex_rounds.specs.Limits.{is_narrow, all_narrow}
use Rattle.simplex_rounds.specs.Multiplied.{times_all}

-- a number is at most a quotient where its product is at most what was divided
pub narrow_is : (l z n : ℕ) → 0 < n → nat_le z (l / n) ≡ nat_le (z * n) l
narrow_is l z n h = by_tests (nat_le z (l / n)) refl (nat_le (z * n) l) refl
  where
    by_tests : (a : Bool) → nat_le z (l / n) ≡ a → (b : Bool) → nat_le (z * n) l ≡ b → a ≡ b
    by_tests true p true q = refl
    by_tests false p false q = refl
    by_tests true p false q =
        let x : z ≤ l / n = grind (arith, nat_tests) in
        let y : l < z * n = grind (arith, nat_tests) in
        let k = (le-div_iff_mul-le h).0 x in absurd (omega (arith, y, k))
    by_tests false p true q =
        let x : l / n < z = grind (arith, nat_tests) in
        let y : z * n ≤ l = grind (arith, nat_tests) in
        let k = (le-div_iff_mul-le h).1 y in absurd (omega (arith, x, k))

both : (a b : Bool) → a && b ≡ true → (a ≡ true) × (b ≡ true)
both true b e = (refl, e)
both false b e = cc

either_false : (a b : Bool) → b ≡ false → a && b ≡ false
either_false true b e = e
either_false false b e = refl

first_false : (a b : Bool) → a ≡ false → a && b ≡ false
first_false true b e = cc
first_false false b e = refl

-- one of the numbers isn't narrow
pub wide_inside : (n : ℕ) (xs : Row) (z : ℤ) (rest : Row) → is_narrow n (unsigned_abs z) ≡ false → all_narrow n (xs ++ z ∷ rest) ≡ false
wide_inside n [] z rest e = first_false (is_narrow n (unsigned_abs z)) (all_narrow n rest) e
wide_inside n (x ∷ xs) z rest e = either_false (is_narrow n (unsigned_abs x)) (all_narrow n (xs ++ z ∷ rest)) (wide_inside n xs z rest e)

-- all are
pub narrow_more : (n : ℕ) (xs : Row) (z : ℤ) → all_narrow n xs ≡ true → is_narrow n (unsigned_abs z) ≡ true → all_narrow n (xs ++ z ∷ []) ≡ true
narrow_more n [] z h e = meet (is_narrow n (unsigned_abs z)) e
  where
    meet : (a : Bool) → a ≡ true → a && true ≡ true
    meet true e = refl
    meet false e = cc
narrow_more n (x ∷ xs) z h e = let k = both (is_narrow n (unsigned_abs x)) (all_narrow n xs) h in meet (is_narrow n (unsigned_abs x)) k.0 (narrow_more n xs z k.1 e)
  where
    meet : (a : Bool) → a ≡ true → all_narrow n (xs ++ z ∷ []) ≡ true → a && all_narrow n (xs ++ z ∷ []) ≡ true
    meet true p q = q
    meet false p q = cc

-- what the test says
pub narrow_says : (n z : ℕ) → is_narrow n z ≡ true → z * n ≤ 2 ^ 44
narrow_says n z e = at_most (z * n) (2 ^ 44) e
  where
    at_most : (l k : ℕ) → nat_le l k ≡ true → l ≤ k
    at_most l k e = grind (arith, nat_tests)

pub all_narrow_say : (n : ℕ) (xs : Row) → all_narrow n xs ≡ true → All (λ z. unsigned_abs z * n ≤ 2 ^ 44) xs
all_narrow_say n [] e = All-nil (λ z. unsigned_abs z * n ≤ 2 ^ 44)
all_narrow_say n (x ∷ xs) e = let k = both (is_narrow n (unsigned_abs x)) (all_narrow n xs) e in
    All-cons (λ z. unsigned_abs z * n ≤ 2 ^ 44) x xs (narrow_says n (unsigned_abs x) k.0) (all_narrow_say n xs k.1)

-- a lesser number is narrow where a greater one is
pub wide_above : (n y z : ℕ) → y ≤ z → is_narrow n y ≡ false → is_narrow n z ≡ false
wide_above n y z h e = by_tests (nat_le (y * n) (2 ^ 44)) refl (nat_le (z * n) (2 ^ 44)) refl (mul-le-mul_right n h) e
  where
    by_tests : (a : Bool) → nat_le (y * n) (2 ^ 44) ≡ a → (b : Bool) → nat_le (z * n) (2 ^ 44) ≡ b → y * n ≤ z * n → a ≡ false → b ≡ false
    by_tests true p b q k f = cc
    by_tests false p false q k f = refl
    by_tests false p true q k f = absurd (at (y * n) (z * n) (2 ^ 44) p q k)
      where
        at : (l m k : ℕ) → nat_le l k ≡ false → nat_le m k ≡ true → l ≤ m → ⊥
        at l m k p q h = let x : k < l = grind (arith, nat_tests) in let y : m ≤ k = grind (arith, nat_tests) in absurd (omega (arith, x, y, h))

pub times-long : (f : ℤ) (r : Row) → length (times_all f r) ≡ length r
times-long f [] = refl
times-long f (a ∷ as') = ap suc (times-long f as')
