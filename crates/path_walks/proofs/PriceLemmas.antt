-- The price of a move is the one at its place in the list, and the greatest of an address is that of a part of the list.
use Rattle.std.proofs.Common.{◌≡◌, ℕ, zero, suc, ◌+◌, ◌-◌, ◌<◌, ◌≤◌, ℤ, pos, arith, refl, sym, ap, ◌∙◌, List, [], ◌∷◌, length, take, drop, get_or, Bool, true, false, cond, inl, inr, length-drop}
use Rattle.std.specs.Prelude.{◌==◌, ◌&&◌, nat_lt, nat_le}
use Rattle.std.specs.List.Sorted.{IsPartitionPoint}
use Rattle.std.proofs.lemmas.Bool.Decides.{nat_tests}
use Rattle.std.proofs.lemmas.List.{get_or-drop}
use Rattle.code_flow_system.specs.declared.moves.Move.{Move}
use Rattle.code_flow_system.specs.Systems.{ComesBefore, AreAscending}
use Rattle.loop_walks.specs.Walks.{larger}
use Rattle.path_places.specs.Places.{dearest_from}
use Rattle.path_walks.specs.Prices.{price_in, greatest}
use Rattle.loop_worths.proofs.CodeLemmas.{back_step}
use Rattle.path_walks.proofs.PointLemmas.{IsPoint}

is_eq : (x y : ℕ) → x ≡ y → (x == y) ≡ true
is_eq x y e = grind (arith, nat_tests)

less_not : (x y : ℕ) → x < y → (x == y) ≡ false
less_not x y h = grind (arith, nat_tests)

and_false : (t : Bool) → (t && false) ≡ false
and_false true = refl
and_false false = refl

same_move : (m : Move) → ((m.at == m.at) && (m.number == m.number)) ≡ true
same_move m = ap (λ (t : Bool). t && (m.number == m.number)) (is_eq m.at m.at refl) ∙ is_eq m.number m.number refl

other_move : (m k : Move) → ComesBefore m k → ((m.at == k.at) && (m.number == k.number)) ≡ false
other_move m k c = elim c [
  | inl a ↦ ap (λ (t : Bool). t && (m.number == k.number)) (less_not m.at k.at a)
  | inr b ↦ ap (λ (t : Bool). (m.at == k.at) && t) (less_not m.number k.number b.1) ∙ and_false (m.at == k.at)
]

pub priced_at : (ms : List Move) (zs : List ℤ) → AreAscending ms → length zs ≡ length ms → (k : ℕ) (d : Move) → k < length ms → price_in ms zs (get_or ms k d) ≡ get_or zs k (pos 0)
priced_at [] zs up e k d lt = absurd (omega arith)
priced_at (m ∷ ms) [] up e k d lt = absurd (omega (arith, e))
priced_at (m ∷ ms) (z ∷ zs) up e zero d lt = ap (λ (t : Bool). cond t z (price_in ms zs m)) (same_move m)
priced_at (m ∷ ms) (z ∷ zs) up e (suc k) d lt =
    ap (λ (t : Bool). cond t z (price_in ms zs (get_or ms k d))) (other_move m (get_or ms k d) (up.0 k d (omega arith)))
    ∙ priced_at ms zs up.1 (omega (arith, e)) k d (omega arith)

-- ---- the greatest price of an address

module _ (f : Move → ℤ) (a : ℕ) (low : ℤ) where
  dear_skip : (ms : List Move) (n : ℕ) → ((k : ℕ) (d : Move) → k < n → k < length ms → ((get_or ms k d).at == a) ≡ false) → dearest_from f (drop n ms) a low ≡ dearest_from f ms a low
  dear_skip ms zero h = refl
  dear_skip [] (suc n) h = refl
  dear_skip (m ∷ ms) (suc n) h =
      dear_skip ms n (λ k d lt l. h (suc k) d (omega arith) (omega arith))
      ∙ sym (ap (λ (t : Bool). cond t (larger (f m) (dearest_from f ms a low)) (dearest_from f ms a low)) (h 0 m (omega arith) (omega arith)))

  dear_none : (ms : List Move) → ((k : ℕ) (d : Move) → k < length ms → ((get_or ms k d).at == a) ≡ false) → dearest_from f ms a low ≡ low
  dear_none [] h = refl
  dear_none (m ∷ ms) h =
      ap (λ (t : Bool). cond t (larger (f m) (dearest_from f ms a low)) (dearest_from f ms a low)) (h 0 m (omega arith))
      ∙ dear_none ms (λ k d lt. h (suc k) d (omega arith))

  dear_same : (ms : List Move) (zs : List ℤ) (c : ℕ) → c ≤ length ms → c ≤ length zs → ((k : ℕ) (d : Move) → k < c → f (get_or ms k d) ≡ get_or zs k (pos 0)) →
      ((k : ℕ) (d : Move) → k < c → ((get_or ms k d).at == a) ≡ true) → ((k : ℕ) (d : Move) → c ≤ k → k < length ms → ((get_or ms k d).at == a) ≡ false) → dearest_from f ms a low ≡ greatest low (take c zs)
  dear_same ms zs zero le le' p h n = dear_none ms (λ k d lt. n k d (omega arith) lt)
  dear_same [] zs (suc c) le le' p h n = absurd (omega (arith, le))
  dear_same (m ∷ ms) [] (suc c) le le' p h n = absurd (omega (arith, le'))
  dear_same (m ∷ ms) (z ∷ zs) (suc c) le le' p h n =
      ap (λ (t : Bool). cond t (larger (f m) (dearest_from f ms a low)) (dearest_from f ms a low)) (h 0 m (omega arith))
      ∙ (ap (λ (y : ℤ). larger y (dearest_from f ms a low)) (p 0 m (omega arith))
      ∙ ap (λ (y : ℤ). larger z y) (dear_same ms zs c (omega (arith, le)) (omega (arith, le')) (λ k d lt. p (suc k) d (omega arith)) (λ k d lt. h (suc k) d (omega arith)) (λ k d ge lt. n (suc k) d (omega arith) (omega arith))))

below_not : (b a : ℕ) → nat_lt b a ≡ true → (b == a) ≡ false
below_not b a h = grind (arith, nat_tests)

behind_not : (b a : ℕ) → nat_le b a ≡ false → (b == a) ≡ false
behind_not b a h = grind (arith, nat_tests)

between_is : (b a : ℕ) → nat_lt b a ≡ false → nat_le b a ≡ true → (b == a) ≡ true
between_is b a h k = grind (arith, nat_tests)

pub dearest_is : (ms : List Move) (zs : List ℤ) (a : ℕ) (low : ℤ) (n b : ℕ) → AreAscending ms → length zs ≡ length ms → n ≤ b → b ≤ length ms → IsPoint (λ (m : Move). m.at) a ms n →
    IsPartitionPoint (λ (m : Move). nat_le m.at a ≡ true) (λ (m : Move). nat_le m.at a ≡ false) ms b → dearest_from (price_in ms zs) ms a low ≡ greatest low (take (b - n) (drop n zs))
dearest_is ms zs a low n b up e le within p q =
    let lm = length-drop n ms in
    let lz = length-drop n zs in
    sym (dear_skip (price_in ms zs) a low ms n (λ k d lt l. below_not (get_or ms k d).at a (p.0 k d (omega arith) lt)))
    ∙ dear_same (price_in ms zs) a low (drop n ms) (drop n zs) (b - n) (omega (arith, lm, le, within)) (omega (arith, lz, e, le, within))
    (λ k d lt.
    ap (price_in ms zs) (get_or-drop n ms k d) ∙ (priced_at ms zs up e (n + k) d (omega (arith, lt, le, within)) ∙ sym (get_or-drop n zs k (pos 0))))
    (λ k d lt.
    ap (λ (m : Move). m.at == a) (get_or-drop n ms k d)
    ∙ between_is (get_or ms (n + k) d).at a (p.1 (n + k) d (omega arith) (omega (arith, lt, le, within))) (q.0 (n + k) d (omega arith) (omega (arith, lt, le))))
    (λ k d ge lt.
    ap (λ (m : Move). m.at == a) (get_or-drop n ms k d)
    ∙ behind_not (get_or ms (n + k) d).at a (q.1 (n + k) d (omega (arith, ge, le)) (omega (arith, lt, lm))))

pub greatest_on : (low best best' : ℤ) (zs : List ℤ) (k : ℕ) → k < length zs → best ≡ greatest low (drop (length zs - k) zs) → best' ≡ larger (get_or zs (length zs - 1 - k) (pos 0)) best → best' ≡ greatest low (drop (length zs - (k + 1)) zs)
greatest_on low best best' zs k h e f = f ∙ (ap (λ (x : ℤ). larger (get_or zs (length zs - 1 - k) (pos 0)) x) e ∙ sym (ap (λ (ys : List ℤ). greatest low ys) (back_step zs k (pos 0) h)))
