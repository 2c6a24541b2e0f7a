-- Sums over moves and over addresses, one by one.
use Rattle.std.proofs.Common.{◌≡◌, ℕ, ◌+◌, ◌^◌, ◌<◌, ◌≤◌, ℤ, pos, ◌-ℤ◌, ◌*ℤ◌, ◌≤ℤ◌, neg_ℤ, unsigned_abs, FitsSigned, List, length, drop, get_or, ap, arith}
use Rattle.std.specs.Int.{w128}
use lib.IntN.{negsuc}
use Rattle.std.proofs.lemmas.Int.{fits_signed_mul, ints, unsigned_abs-mul}
use Rattle.std.proofs.lemmas.Nat.{mul-lt}
use Rattle.std.proofs.lemmas.List.{drop_all, drop_more}
use Rattle.code_flow_system.specs.declared.cert.Part.{Part}
use Rattle.spm_placement.specs.Gains.{all_parts, all_visits, visits}

module _ (ps : List Part) (i : ℕ) where
  pub parts_more : (d : Part) → i < length ps → all_parts (drop i ps) ≡ unsigned_abs (get_or ps i d).part + all_parts (drop (i + 1) ps)
  parts_more d lt = ap all_parts (drop_more ps i d lt)

  pub parts_none : length ps ≤ i → all_parts (drop i ps) ≡ 0
  parts_none le = ap all_parts (drop_all i ps le)

module _ (ps : List Part) (places : List ℕ) (i : ℕ) where
  pub visits_more : i < length places → all_visits ps (drop i places) ≡ visits ps (get_or places i 0) + all_visits ps (drop (i + 1) places)
  visits_more lt = ap (all_visits ps) (drop_more places i 0 lt)

  pub visits_none : length places ≤ i → all_visits ps (drop i places) ≡ 0
  visits_none le = ap (all_visits ps) (drop_all i places le)

-- the size of a difference, and of a product

abs_within : (z : ℤ) (n : ℕ) → z ≤ℤ pos n → neg_ℤ (pos n) ≤ℤ z → unsigned_abs z ≤ n
abs_within (pos m) n above below = omega (arith, ints, above)
abs_within (negsuc m) n above below = omega (arith, ints, below)

pub difference_small : (a b : ℕ) → a ≤ 1000 → b ≤ 1000 → unsigned_abs (pos a -ℤ pos b) ≤ 1000
difference_small a b most other = abs_within (pos a -ℤ pos b) 1000 (omega (arith, ints, most)) (omega (arith, ints, other))

module _ (a b : ℤ) (few : unsigned_abs a < 2 ^ 100) (small : unsigned_abs b ≤ 1000) where
  pub product_small : unsigned_abs (a *ℤ b) < 2 ^ 110
  product_small =
      let below = mul-lt (unsigned_abs a) (unsigned_abs b) (2 ^ 100) 1001 few (omega (arith, small)) in
      let same = unsigned_abs-mul a b in
      omega (arith, below, same)

  pub product_fits : FitsSigned w128 (a *ℤ b)
  product_fits = fits_signed_mul w128 a b (2 ^ 100) 1000 (omega (arith, few)) small (omega arith)
