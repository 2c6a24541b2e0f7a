-- Sums over the numbers of functions and blocks.
use Rattle.std.proofs.Common.{◌≡◌, ◌≢◌, ℕ, zero, suc, ◌+◌, ◌<◌, ◌≤◌, Bool, true, false, not, List, [], ◌∷◌, ◌++◌, refl, ap, ◌∙◌, ⊎_elim, arith, if◌then◌else◌}
use Rattle.std.proofs.lemmas.Bool.{cases_eq}
use Rattle.asm_forms.specs.Regions.{Rows}
use Rattle.asm_placed.specs.Written.{in_scratchpad}
use Rattle.claims_definition.specs.Orders.{in_order, lying}

abbrev pub summed : (ℕ → ℕ) → List ℕ → ℕ
summed g [] = 0
summed g (x ∷ xs) = g x + summed g xs

pub summed-append : (g : ℕ → ℕ) (xs ys : List ℕ) → summed g (xs ++ ys) ≡ summed g xs + summed g ys
summed-append g [] ys = omega arith
summed-append g (x ∷ xs) ys = let h = summed-append g xs ys in omega (arith, h)

pub summed-add : (g h : ℕ → ℕ) (xs : List ℕ) → summed (λ x. g x + h x) xs ≡ summed g xs + summed h xs
summed-add g h [] = refl
summed-add g h (x ∷ xs) = let r = summed-add g h xs in omega (arith, r)

pub summed-zero : (g : ℕ → ℕ) (xs : List ℕ) → ((x : ℕ) → g x ≡ 0) → summed g xs ≡ 0
summed-zero g [] each = refl
summed-zero g (x ∷ xs) each = let e = each x in let r = summed-zero g xs each in omega (arith, e, r)

pub summed-same : (g h : ℕ → ℕ) (xs : List ℕ) → ((x : ℕ) → g x ≡ h x) → summed g xs ≡ summed h xs
summed-same g h [] each = refl
summed-same g h (x ∷ xs) each = let e = each x in let r = summed-same g h xs each in omega (arith, e, r)

-- n numbers from f on
abbrev pub upto : ℕ → ℕ → List ℕ
upto f zero = []
upto f (suc n) = f ∷ upto (suc f) n

both_rows : (g : ℕ → ℕ) (here : ℕ → Bool) (f n : ℕ) → summed g (lying (λ x. not (here x)) f n) + summed g (lying here f n) ≡ summed g (upto f n)
both_rows g here f zero = refl
both_rows g here f (suc n) = by_row (here f) (both_rows g here (suc f) n)
  where
    by_row : (b : Bool) → summed g (lying (λ x. not (here x)) (suc f) n) + summed g (lying here (suc f) n) ≡ summed g (upto (suc f) n)
        → summed g (if not b then f ∷ lying (λ x. not (here x)) (suc f) n else lying (λ x. not (here x)) (suc f) n) + summed g (if b then f ∷ lying here (suc f) n else lying here (suc f) n) ≡ g f + summed g (upto (suc f) n)
    by_row true h = omega (arith, h)
    by_row false h = omega (arith, h)

-- the order of addresses has each function once
pub in_numbers : (g : ℕ → ℕ) (r : Rows) (n : ℕ) → summed g (in_order r n) ≡ summed g (upto 0 n)
in_numbers g r n = summed-append g (lying (λ f. not (in_scratchpad r f)) 0 n) (lying (in_scratchpad r) 0 n) ∙ both_rows g (in_scratchpad r) 0 n

-- where one number alone counts
module _ (g : ℕ → ℕ) (k : ℕ) (others : (x : ℕ) → x ≢ k → g x ≡ 0) where
  behind_it : (f n : ℕ) → k < f → summed g (upto f n) ≡ 0
  behind_it f zero h = refl
  behind_it f (suc n) h = let a = others f (λ e. omega (arith, e, h)) in let r = behind_it (suc f) n (omega (arith, h)) in omega (arith, a, r)

  pub one_counts : (f n : ℕ) → f ≤ k → k < f + n → summed g (upto f n) ≡ g k
  one_counts f zero low high = absurd (omega (arith, low, high))
  one_counts f (suc n) low high =
      ⊎_elim
      (λ (same : f ≡ k). let a = ap g same in let r = behind_it (suc f) n (omega (arith, same)) in omega (arith, a, r))
      (λ (other : f ≢ k). let a = others f other in let r = one_counts (suc f) n (omega (arith, low, other)) (omega (arith, high)) in omega (arith, a, r))
      (cases_eq f k)

  pub none_counts : (f n : ℕ) → f + n ≤ k → summed g (upto f n) ≡ 0
  none_counts f zero h = refl
  none_counts f (suc n) h = let a = others f (λ e. omega (arith, e, h)) in let r = none_counts (suc f) n (omega (arith, h)) in omega (arith, a, r)
