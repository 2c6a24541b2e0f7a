-- Amounts, added place by place.
use Rattle.std.proofs.Common.{◌≡◌, ℕ, zero, suc, ◌+◌, ◌-◌, ◌*◌, ◌≤◌, ◌<◌, ◌^◌, arith, refl, ap, ◌∙◌, List, [], ◌∷◌, ◌++◌, length, take, drop, get_or, All}
use Rattle.std.proofs.Math.ListN.{set, replicate}
use Rattle.std.proofs.Math.Nat.{mul-le-mul_right}
use Rattle.std.proofs.lemmas.List.Elements.{All-head, All-tail, All-cons, All-nil}
use Rattle.code_flow_system.specs.declared.moves.Move.{Move}
use Rattle.code_flow_system.specs.Counts.{Amounts}
use Rattle.path_fact_kinds.specs.Mixes.{added, times, nothing}
use Rattle.path_fact_columns.specs.Adding.{raised, amounts_in}

-- an amount, so often
pub product_small : (a b : ℕ) → a ≤ 2 ^ 44 → b < 2 ^ 60 → a * b < 2 ^ 104
product_small a b h k =
    let l : b ≤ 2 ^ 60 - 1 = omega (arith, k) in
    let x : a * b ≤ 2 ^ 44 * b = mul-le-mul_right b h in omega (arith, x, l)

-- amounts of moves, one behind the other

module _ (n : ℕ) (x : Amounts) where
  pub raised-long : (ms : List Move) (us : List ℕ) → length us ≡ length ms → length (raised n x ms us) ≡ length us
  raised-long [] us h = refl
  raised-long (m ∷ ms) [] h = refl
  raised-long (m ∷ ms) (u ∷ us) h = ap suc (raised-long ms us (omega (arith, h)))

  -- the next amount is still as it was
  pub raised_read : (ms : List Move) (us : List ℕ) (i d : ℕ) → length us ≡ length ms → i < length us → get_or (take i (raised n x ms us) ++ drop i us) i d ≡ get_or us i d
  raised_read [] [] i d h lt = absurd (omega (arith, lt))
  raised_read [] (u ∷ us) i d h lt = absurd (omega (arith, h))
  raised_read (m ∷ ms) [] i d h lt = absurd (omega (arith, lt))
  raised_read (m ∷ ms) (u ∷ us) zero d h lt = refl
  raised_read (m ∷ ms) (u ∷ us) (suc i) d h lt = raised_read ms us i d (omega (arith, h)) (omega (arith, lt))

  raised_set : (ms : List Move) (us : List ℕ) (i d : ℕ) (e : Move) → length us ≡ length ms → i < length us →
      set (take i (raised n x ms us) ++ drop i us) i (get_or us i d + n * x (get_or ms i e).at (get_or ms i e).number) ≡ take (suc i) (raised n x ms us) ++ drop (suc i) us
  raised_set [] [] i d e h lt = absurd (omega (arith, lt))
  raised_set [] (u ∷ us) i d e h lt = absurd (omega (arith, h))
  raised_set (m ∷ ms) [] i d e h lt = absurd (omega (arith, lt))
  raised_set (m ∷ ms) (u ∷ us) zero d e h lt = refl
  raised_set (m ∷ ms) (u ∷ us) (suc i) d e h lt = ap (λ (vs : List ℕ). (u + n * x m.at m.number) ∷ vs) (raised_set ms us i d e (omega (arith, h)) (omega (arith, lt)))

  pub raised_next : (ms : List Move) (us : List ℕ) (i d : ℕ) (m : Move) (v : ℕ) (vs : List ℕ) → length us ≡ length ms → i < length us → m ≡ get_or ms i m → vs ≡ take i (raised n x ms us) ++ drop i us → v ≡ get_or vs i d + n * x m.at m.number →
      set vs i v ≡ take (i + 1) (raised n x ms us) ++ drop (i + 1) us
  raised_next ms us i d m v vs h lt is e v_is =
      let next : suc i ≡ i + 1 = omega arith in
      let old : get_or vs i d ≡ get_or us i d = ap (λ (ws : List ℕ). get_or ws i d) e ∙ raised_read ms us i d h lt in
      let new : v ≡ get_or us i d + n * x (get_or ms i m).at (get_or ms i m).number = v_is ∙ (ap (λ (k : ℕ). k + n * x m.at m.number) old ∙ ap (λ (j : Move). get_or us i d + n * x j.at j.number) is) in
      ap (λ (ws : List ℕ). set ws i v) e ∙ (ap (λ (k : ℕ). set (take i (raised n x ms us) ++ drop i us) i k) new ∙ (raised_set ms us i d m h lt ∙ ap (λ (k : ℕ). take k (raised n x ms us) ++ drop k us) next))

  pub raised_all : (ms : List Move) (us : List ℕ) (i : ℕ) → length us ≡ length ms → length ms ≤ i → take i (raised n x ms us) ++ drop i us ≡ raised n x ms us
  raised_all [] [] zero h le = refl
  raised_all [] [] (suc i) h le = refl
  raised_all [] (u ∷ us) i h le = absurd (omega (arith, h))
  raised_all (m ∷ ms) [] i h le = absurd (omega (arith, h))
  raised_all (m ∷ ms) (u ∷ us) zero h le = absurd (omega (arith, le))
  raised_all (m ∷ ms) (u ∷ us) (suc i) h le = ap (λ (vs : List ℕ). (u + n * x m.at m.number) ∷ vs) (raised_all ms us i (omega (arith, h)) (omega (arith, le)))

  -- amounts below a limit, raised by small ones
  pub raised_small : n ≤ 2 ^ 44 → ((a k : ℕ) → x a k < 2 ^ 60) → (c : ℕ) (ms : List Move) (us : List ℕ) → All (λ u. u < c * 2 ^ 104) us → All (λ u. u < (c + 1) * 2 ^ 104) (raised n x ms us)
  raised_small few small c [] [] h = All-nil (λ u. u < (c + 1) * 2 ^ 104)
  raised_small few small c [] (u ∷ us) h =
      let k : u < c * 2 ^ 104 = All-head (λ u. u < c * 2 ^ 104) u us h in
      All-cons (λ u. u < (c + 1) * 2 ^ 104) u us (omega (arith, k)) (raised_small few small c [] us (All-tail (λ u. u < c * 2 ^ 104) u us h))
  raised_small few small c (m ∷ ms) [] h = All-nil (λ u. u < (c + 1) * 2 ^ 104)
  raised_small few small c (m ∷ ms) (u ∷ us) h =
      let k : u < c * 2 ^ 104 = All-head (λ u. u < c * 2 ^ 104) u us h in
      let p : n * x m.at m.number < 2 ^ 104 = product_small n (x m.at m.number) few (small m.at m.number) in
      All-cons (λ u. u < (c + 1) * 2 ^ 104) (u + n * x m.at m.number) (raised n x ms us) (omega (arith, k, p)) (raised_small few small c ms us (All-tail (λ u. u < c * 2 ^ 104) u us h))

-- ---- lists, added

abbrev pub plus : List ℕ → List ℕ → List ℕ
plus [] vs = []
plus (u ∷ us) [] = []
plus (u ∷ us) (v ∷ vs) = (u + v) ∷ plus us vs

-- a flow that is added to the rest, or to what is there
pub raised_plus : (n : ℕ) (x y : Amounts) (ms : List Move) (us : List ℕ) → length us ≡ length ms → plus us (amounts_in (added (times n x) y) ms) ≡ plus (raised n x ms us) (amounts_in y ms)
raised_plus n x y [] [] h = refl
raised_plus n x y [] (u ∷ us) h = absurd (omega (arith, h))
raised_plus n x y (m ∷ ms) [] h = refl
raised_plus n x y (m ∷ ms) (u ∷ us) h =
    let r = raised_plus n x y ms us (omega (arith, h)) in
    let e : u + (n * x m.at m.number + y m.at m.number) ≡ (u + n * x m.at m.number) + y m.at m.number = omega arith in
    ap (λ (k : ℕ). k ∷ plus us (amounts_in (added (times n x) y) ms)) e ∙ ap (λ (vs : List ℕ). ((u + n * x m.at m.number) + y m.at m.number) ∷ vs) r

pub plus_zeros : (y : Amounts) (ms : List Move) → plus (replicate (length ms) 0) (amounts_in y ms) ≡ amounts_in y ms
plus_zeros y [] = refl
plus_zeros y (m ∷ ms) =
    let z : 0 + y m.at m.number ≡ y m.at m.number = omega arith in
    ap (λ (k : ℕ). k ∷ plus (replicate (length ms) 0) (amounts_in y ms)) z ∙ ap (λ (vs : List ℕ). y m.at m.number ∷ vs) (plus_zeros y ms)

pub plus_nothing : (ms : List Move) (us : List ℕ) → length us ≡ length ms → plus us (amounts_in nothing ms) ≡ us
plus_nothing [] [] h = refl
plus_nothing [] (u ∷ us) h = absurd (omega (arith, h))
plus_nothing (m ∷ ms) [] h = absurd (omega (arith, h))
plus_nothing (m ∷ ms) (u ∷ us) h =
    let z : u + 0 ≡ u = omega arith in
    ap (λ (k : ℕ). k ∷ plus us (amounts_in nothing ms)) z ∙ ap (λ (vs : List ℕ). u ∷ vs) (plus_nothing ms us (omega (arith, h)))
