-- Numbers that are small, one more at a time.
use Rattle.std.proofs.Common.{◌≡◌, ◌≢◌, ℕ, zero, suc, ◌+◌, ◌<◌, ℤ, pos, arith, refl, sym, ap, subst, List, [], ◌∷◌, length, inl, inr, unsigned_abs, get_or}
use Rattle.std.proofs.lemmas.Bool.Decides.{eqb_tells}

same_inside : (xs : List ℤ) (i : ℕ) (d e : ℤ) → i < length xs → get_or xs i d ≡ get_or xs i e
same_inside [] i d e h = absurd (omega (arith, h))
same_inside (x ∷ xs) zero d e h = refl
same_inside (x ∷ xs) (suc i) d e h = same_inside xs i d e (omega (arith, h))

pub small_next : (xs : List ℤ) (i m : ℕ) → i < length xs → ((k : ℕ) (d : ℤ) → k < i → unsigned_abs (get_or xs k d) < m) → unsigned_abs (get_or xs i (pos 0)) < m → (k : ℕ) (d : ℤ) → k < i + 1 → unsigned_abs (get_or xs k d) < m
small_next xs i m inside before here k d lt = elim (eqb_tells k i) [
  | inl e ↦ subst (λ j. unsigned_abs (get_or xs j d) < m) (sym e.1) (subst (λ (z : ℤ). unsigned_abs z < m) (same_inside xs i (pos 0) d inside) here)
  | inr e ↦ before k d (strict k i lt e.1)
]
  where
    strict : (k i : ℕ) → k < i + 1 → k ≢ i → k < i
    strict zero zero lt ne = absurd (ne refl)
    strict zero (suc i) lt ne = omega arith
    strict (suc k) zero lt ne = absurd (omega (arith, lt))
    strict (suc k) (suc i) lt ne = let r = strict k i (omega (arith, lt)) (λ q. ne (ap suc q)) in omega (arith, r)
