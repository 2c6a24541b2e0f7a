-- Sums over the moves of what each adds, as often as it is made.
use Rattle.std.proofs.Common.{◌≡◌, ◌≢◌, ℕ, zero, suc, ◌+◌, ◌*◌, ℤ, pos, ◌+ℤ◌, ◌*ℤ◌, ◌≤ℤ◌, arith, refl, sym, ap, ◌∙◌, subst, List, [], ◌∷◌, Contains, All, inl, inr, ◌⊎◌, Bool, true, false, cond}
use Rattle.std.specs.Prelude.{◌==◌, ◌&&◌}
use lib.IntN.{*ℤ-zero, *ℤ_comm}
use Rattle.std.proofs.lemmas.Int.{ints}
use Rattle.std.proofs.lemmas.Bool.Decides.{nat_tests}
use Rattle.std.proofs.lemmas.List.Elements.{All-head, All-tail, All-contains}
use Rattle.frac128.specs.Terms.{coefficient, when_same}
use Rattle.frac128.proofs.SignedLemmas.{mul-add, mul-le, mul_assoc}
use Rattle.frac128.proofs.TermsLemmas.{coefficient-append}
use Rattle.code_flow_system.specs.declared.moves.Move.{Move}
use Rattle.code_flow_system.specs.Moves.{destinations}
use Rattle.code_flow_system.specs.Systems.{ComesBefore, AreAscending}
use Rattle.code_flow_system.specs.Counts.{Amounts, amount, each_with, arrivals, count, total}
use Rattle.code_flow_system.specs.Loose.{moves_elsewhere}

-- a move leaves an address, arrives at it, or arrives at it from elsewhere than another one

abbrev pub leaves : ℕ → Move → ℤ
leaves a m = when_same m.at a (pos 1)

abbrev pub comes : ℕ → Move → ℤ
comes a m = coefficient (each_with (pos 1) (destinations m)) a

abbrev pub comes_by : ℕ → ℕ → Move → ℤ
comes_by back a m = cond (m.at == back) (pos 0) (comes a m)

-- these are the counts of a flow

when_times : (t : Bool) (w : ℤ) → cond t w (pos 0) ≡ (w *ℤ cond t (pos 1) (pos 0))
when_times true w = omega (arith, ints)
when_times false w = sym (*ℤ-zero w)

each-times : (w : ℤ) (ds : List ℕ) (a : ℕ) → coefficient (each_with w ds) a ≡ (w *ℤ coefficient (each_with (pos 1) ds) a)
each-times w [] a = sym (*ℤ-zero w)
each-times w (d ∷ ds) a =
    let r = each-times w ds a in
    let e = when_times (d == a) w in
    let f = mul-add w (when_same d a (pos 1)) (coefficient (each_with (pos 1) ds) a) in omega (arith, ints)

pub count-total : (x : Amounts) (ms : List Move) (a : ℕ) → count x ms a ≡ total (leaves a) x ms
count-total x [] a = refl
count-total x (m ∷ ms) a = let r = count-total x ms a in let e = when_times (m.at == a) (amount x m) in omega (arith, ints)

pub arrivals-total : (x : Amounts) (ms : List Move) (a : ℕ) → coefficient (arrivals x ms) a ≡ total (comes a) x ms
arrivals-total x [] a = refl
arrivals-total x (m ∷ ms) a =
    let r = arrivals-total x ms a in
    let e = each-times (amount x m) (destinations m) a in
    let f = coefficient-append (each_with (amount x m) (destinations m)) (arrivals x ms) a in omega (arith, ints)

pub elsewhere-total : (x : Amounts) (ms : List Move) (back a : ℕ) → coefficient (arrivals x (moves_elsewhere back ms)) a ≡ total (comes_by back a) x ms
elsewhere-total x [] back a = refl
elsewhere-total x (m ∷ ms) back a = by_test (m.at == back) (elsewhere-total x ms back a)
  where
    by_test : (t : Bool) → coefficient (arrivals x (moves_elsewhere back ms)) a ≡ total (comes_by back a) x ms →
        coefficient (arrivals x (cond t (moves_elsewhere back ms) (m ∷ moves_elsewhere back ms))) a ≡ (amount x m *ℤ cond t (pos 0) (comes a m)) +ℤ total (comes_by back a) x ms
    by_test true r = let z = *ℤ-zero (amount x m) in omega (arith, ints)
    by_test false r =
        let e = each-times (amount x m) (destinations m) a in
        let f = coefficient-append (each_with (amount x m) (destinations m)) (arrivals x (moves_elsewhere back ms)) a in omega (arith, ints)

-- two flows together, one so many times, none, and one move

abbrev pub added : Amounts → Amounts → Amounts
added x y a k = x a k + y a k

abbrev pub times : ℕ → Amounts → Amounts
times n x a k = n * x a k

abbrev pub none : Amounts
none a k = 0

abbrev pub once : Move → Amounts
once m a k = cond ((a == m.at) && (k == m.number)) 1 0

module _ (f : Move → ℤ) where
  pub total-added : (x y : Amounts) (ms : List Move) → total f (added x y) ms ≡ total f x ms +ℤ total f y ms
  total-added x y [] = omega (arith, ints)
  total-added x y (m ∷ ms) =
      let r = total-added x y ms in
      let e = pair (x m.at m.number) (y m.at m.number) (f m) in omega (arith, ints)
    where
      pair : (p q : ℕ) (z : ℤ) → (pos (p + q) *ℤ z) ≡ ((pos p *ℤ z) +ℤ (pos q *ℤ z))
      pair p q z =
          let a : pos (p + q) ≡ pos p +ℤ pos q = omega (arith, ints) in
          let b = mul-add z (pos p) (pos q) in
          let c = *ℤ_comm z (pos p) in let d = *ℤ_comm z (pos q) in
          let e = *ℤ_comm z (pos p +ℤ pos q) in
          ap (λ (y : ℤ). y *ℤ z) a ∙ omega (arith, ints)

  pub total-times : (n : ℕ) (x : Amounts) (ms : List Move) → total f (times n x) ms ≡ pos n *ℤ total f x ms
  total-times n x [] = sym (*ℤ-zero (pos n))
  total-times n x (m ∷ ms) =
      let r = total-times n x ms in
      let a : pos (n * x m.at m.number) ≡ pos n *ℤ pos (x m.at m.number) = product n (x m.at m.number) in
      let b : pos (n * x m.at m.number) *ℤ f m ≡ pos n *ℤ (pos (x m.at m.number) *ℤ f m) = ap (λ (y : ℤ). y *ℤ f m) a ∙ mul_assoc (pos n) (pos (x m.at m.number)) (f m) in
      let c = mul-add (pos n) (pos (x m.at m.number) *ℤ f m) (total f x ms) in omega (arith, ints)
    where
      product : (p q : ℕ) → pos (p * q) ≡ pos p *ℤ pos q
      product p q = omega (arith, ints)

  pub total-none : (ms : List Move) → total f none ms ≡ pos 0
  total-none [] = refl
  total-none (m ∷ ms) = let r = total-none ms in let z : pos 0 *ℤ f m ≡ pos 0 = omega (arith, ints) in omega (arith, ints)

  -- another move isn't made
  not_once : (m k : Move) → (k.at ≢ m.at) ⊎ (k.number ≢ m.number) → once m k.at k.number ≡ 0
  not_once m k h = elim h [
    | inl d ↦ by_at (k.at == m.at) (k.number == m.number) (differ k.at m.at d)
    | inr d ↦ by_number (k.at == m.at) (k.number == m.number) (differ k.number m.number d)
  ]
    where
      differ : (a b : ℕ) → a ≢ b → (a == b) ≡ false
      differ a b d = grind (arith, nat_tests)

      by_at : (t u : Bool) → t ≡ false → ◌≡◌ {A = ℕ} (cond (t && u) 1 0) 0
      by_at true u e = cc
      by_at false u e = refl

      by_number : (t u : Bool) → u ≡ false → ◌≡◌ {A = ℕ} (cond (t && u) 1 0) 0
      by_number true true e = cc
      by_number true false e = refl
      by_number false u e = refl

  -- moves that come one before the other are two
  other_move : (m k : Move) → ComesBefore m k → (k.at ≢ m.at) ⊎ (k.number ≢ m.number)
  other_move m k h = elim h [
    | inl lt ↦ inl (λ e. absurd (omega (arith, e, lt)))
    | inr e ↦ let e1 = e.1 in inr (λ q. absurd (omega (arith, q, e1)))
  ]

  other_back : (m k : Move) → ComesBefore k m → (k.at ≢ m.at) ⊎ (k.number ≢ m.number)
  other_back m k h = elim h [
    | inl lt ↦ inl (λ e. absurd (omega (arith, e, lt)))
    | inr e ↦ let e1 = e.1 in inr (λ q. absurd (omega (arith, q, e1)))
  ]

  is_once : (m : Move) → once m m.at m.number ≡ 1
  is_once m = both (m.at == m.at) (m.number == m.number) (same m.at) (same m.number)
    where
      same : (a : ℕ) → (a == a) ≡ true
      same a = grind (arith, nat_tests)

      both : (t u : Bool) → t ≡ true → u ≡ true → ◌≡◌ {A = ℕ} (cond (t && u) 1 0) 1
      both true true e h = refl
      both true false e h = cc
      both false u e h = cc

  once_behind : (m : Move) (ms : List Move) → All (ComesBefore m) ms → total f (once m) ms ≡ pos 0
  once_behind m [] h = refl
  once_behind m (k ∷ ms) h =
      let r = once_behind m ms (All-tail (ComesBefore m) k ms h) in
      let e = not_once m k (other_move m k (All-head (ComesBefore m) k ms h)) in
      let z : pos (once m k.at k.number) *ℤ f k ≡ pos 0 = ap (λ n. pos n *ℤ f k) e ∙ zero_product (f k) in omega (arith, ints)
    where
      zero_product : (z : ℤ) → pos 0 *ℤ z ≡ pos 0
      zero_product z = omega (arith, ints)

  -- one move adds what it adds
  pub total-once : (ms : List Move) (m : Move) → AreAscending ms → Contains ms m → total f (once m) ms ≡ f m
  total-once [] m up (i, lt, e) = absurd (omega (arith, lt))
  total-once (k ∷ ms) m up (zero, lt, e) =
      let r = once_behind k ms up.0 in
      let one : pos (once k k.at k.number) *ℤ f k ≡ f k = ap (λ n. pos n *ℤ f k) (is_once k) ∙ one_product (f k) in
      subst (λ (y : Move). total f (once y) (k ∷ ms) ≡ f y) e (omega (arith, ints))
    where
      one_product : (z : ℤ) → pos 1 *ℤ z ≡ z
      one_product z = omega (arith, ints)
  total-once (k ∷ ms) m up (suc i, lt, e) =
      let there : Contains ms m = (i, omega (arith, lt), e) in
      let r = total-once ms m up.1 there in
      let b = All-contains (ComesBefore k) ms m up.0 there in
      let z : pos (once m k.at k.number) *ℤ f k ≡ pos 0 = ap (λ n. pos n *ℤ f k) (not_once m k (other_back m k b)) ∙ zero_product (f k) in omega (arith, ints)
    where
      zero_product : (z : ℤ) → pos 0 *ℤ z ≡ pos 0
      zero_product z = omega (arith, ints)

  pub total_least : (x : Amounts) (ms : List Move) → ((m : Move) → Contains ms m → pos 0 ≤ℤ f m) → pos 0 ≤ℤ total f x ms
  total_least x [] h = omega (arith, ints)
  total_least x (m ∷ ms) h =
      let r = total_least x ms (λ k i. h k (suc i.0, omega (arith, i.1), i.2)) in
      let p = mul-le (x m.at m.number) (pos 0) (f m) (h m (zero, omega arith, refl)) in
      let z : pos (x m.at m.number) *ℤ pos 0 ≡ pos 0 = *ℤ-zero (pos (x m.at m.number)) in omega (arith, ints)
