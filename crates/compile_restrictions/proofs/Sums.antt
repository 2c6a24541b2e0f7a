-- Sums of places with one number: none of their coefficients is negative or above that number, and a sum in its one form has no more terms than there are places.
use Rattle.std.proofs.Common.{◌≡◌, ◌≢◌, ℕ, zero, suc, ◌≤◌, ◌<◌, ℤ, pos, negsuc, ◌≤ℤ◌, List, [], ◌∷◌, length, map, get_or, refl, sym, ap, subst, arith, ◌⊎◌, inl, inr, All, Contains}
use Rattle.std.specs.List.{remove}
use Rattle.std.proofs.lemmas.Int.{ints}
use Rattle.std.proofs.lemmas.Bool.Decides.{eqb_tells}
use Rattle.std.proofs.lemmas.List.Edits.{length-remove}
use Rattle.std.proofs.lemmas.List.Elements.{All-head, All-tail}
use Rattle.std.proofs.lemmas.List.Sorted.{IsPermutation-remove, Contains-permutation}
use Rattle.report_text.specs.Forms.{Ascend}
use Rattle.frac128.specs.Terms.{Terms, coefficient, when_same}
use Rattle.frac128.specs.Sum.{IsSum, address_at}
use Rattle.frac128.proofs.TermsLemmas.{when_same-here, when_same-elsewhere}
use Rattle.frac128.proofs.SumLemmas.{coefficient_at}

-- at least 0, and at most a number
pub record IsUpTo (z : ℤ) (most : ℕ) : Type 0 where
  pub least : pos 0 ≤ℤ z
  pub below : z ≤ℤ pos most

pub is_zero : (z : ℤ) → (z ≡ pos 0) ⊎ (z ≢ pos 0)
is_zero (pos zero) = inl refl
is_zero (pos (suc n)) = inr (λ e. absurd (omega (arith, ints, e)))
is_zero (negsuc n) = inr (λ e. absurd (omega (arith, ints, e)))

-- lists of places

pub Contains-first : (q p : ℕ) (ps : List ℕ) → p ≡ q → Contains (p ∷ ps) q
Contains-first q p ps e = (0, omega arith, e)

pub Contains-rest : (q p : ℕ) (ps : List ℕ) → Contains ps q → Contains (p ∷ ps) q
Contains-rest q p ps (k, lt, e) = (suc k, omega (arith, lt), e)

rest_of : (q p : ℕ) (ps : List ℕ) → Contains (p ∷ ps) q → q ≢ p → Contains ps q
rest_of q p ps (zero, lt, e) other = absurd (other (sym e))
rest_of q p ps (suc k, lt, e) other = (k, omega (arith, lt), e)

-- each place with a number

abbrev pub each : ℕ → List ℕ → Terms
each n ps = map (λ p. (p, pos n)) ps

none_below : (n q : ℕ) (ps : List ℕ) → All (λ b. q < b) ps → coefficient (each n ps) q ≡ pos 0
none_below n q [] above = refl
none_below n q (p ∷ ps) above =
    let lt : q < p = All-head (λ b. q < b) p ps above in
    let e = when_same-elsewhere p q (pos n) (λ same. absurd (omega (arith, lt, same))) in
    let r = none_below n q ps (All-tail (λ b. q < b) p ps above) in omega (arith, ints)

pub each-up_to : (n q : ℕ) (ps : List ℕ) → Ascend ps → IsUpTo (coefficient (each n ps) q) n
each-up_to n q [] up = record { least = omega (arith, ints); below = omega (arith, ints) }
each-up_to n q (p ∷ ps) up = elim (eqb_tells p q) [
  | inl same ↦
      let e = when_same-here q (pos n) in
      let f : when_same p q (pos n) ≡ when_same q q (pos n) = ap (λ z. when_same z q (pos n)) same.1 in
      let r = none_below n q ps (subst (λ z. All (λ b. z < b) ps) same.1 up.0) in
      record { least = omega (arith, ints); below = omega (arith, ints) }
  | inr other ↦
      let e = when_same-elsewhere p q (pos n) (λ same. other.1 (sym same)) in
      let r = each-up_to n q ps up.1 in
      record { least = omega (arith, ints, r.least); below = omega (arith, ints, r.below) }
]

pub each-contains : (n q : ℕ) (ps : List ℕ) → coefficient (each n ps) q ≢ pos 0 → Contains ps q
each-contains n q [] some = absurd (some refl)
each-contains n q (p ∷ ps) some = elim (eqb_tells p q) [
  | inl same ↦ Contains-first q p ps same.1
  | inr other ↦
      let e = when_same-elsewhere p q (pos n) (λ same. other.1 (sym same)) in
      Contains-rest q p ps (each-contains n q ps (λ none. some (omega (arith, ints, none))))
]

-- a sum in its one form

pub coefficient-own : (ts : Terms) (k : ℕ) → IsSum ts → k < length ts → coefficient ts (address_at ts k) ≡ (get_or ts k (0, pos 0)).1
coefficient-own ts k sum lt = coefficient_at ts sum (address_at ts k) k (record { in_range = lt; has_address = refl })

-- its addresses are apart, so they are no more than the places that they are among
among : (ts : Terms) (ys : List ℕ) → ((i j : ℕ) → i < j → j < length ts → address_at ts i < address_at ts j) → ((k : ℕ) → k < length ts → Contains ys (address_at ts k)) → length ts ≤ length ys
among [] ys rise inside = omega arith
among (t ∷ ts) ys rise inside = from (inside 0 (omega arith)) (λ zs. among ts zs (λ i j less below. rise (suc i) (suc j) (omega (arith, less)) (omega (arith, below))))
  where
    left : (k : ℕ) → k < length ys → t.0 ≡ get_or ys k t.0 → (j : ℕ) → j < length ts → Contains (remove ys k) (address_at ts j)
    left k lt e j below =
        rest_of (address_at ts j) t.0 (remove ys k)
        (Contains-permutation ys (t.0 ∷ remove ys k) (address_at ts j) (IsPermutation-remove ys k t.0 lt e) (inside (suc j) (omega (arith, below))))
        (λ same. absurd (omega (arith, same, rise 0 (suc j) (omega arith) (omega (arith, below)))))

    from : Contains ys t.0 → ((zs : List ℕ) → ((k : ℕ) → k < length ts → Contains zs (address_at ts k)) → length ts ≤ length zs) → length (t ∷ ts) ≤ length ys
    from (k, lt, e) rest =
        let h = rest (remove ys k) (left k lt (sym e)) in
        let shorter = length-remove ys k lt in
        omega (arith, h, lt, shorter)

pub IsSum-among : (ts : Terms) (ys : List ℕ) → IsSum ts → ((k : ℕ) → k < length ts → Contains ys (address_at ts k)) → length ts ≤ length ys
IsSum-among ts ys sum inside = among ts ys sum.ascending inside
