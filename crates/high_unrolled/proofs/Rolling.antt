-- A loop by a factor starts its body as often: some starts before it, and then several at each of its own.
use Rattle.std.proofs.Common.{◌≡◌, ℕ, zero, suc, ◌+◌, ◌-◌, ◌*◌, ◌/◌, ◌%◌, ◌<◌, ◌≤◌, max, refl, sym, ap, ◌∙◌, subst, arith}
use Rattle.high_ir.specs.Meaning.{Outcome, Goes, Leaves, Returns, Bad, State, then_do, again, turns}
use Rattle.high_ir.specs.Splitting.{peeled, split}
use Rattle.high_ir.specs.Standing.{Bounds}
use Rattle.high_unrolled.specs.Serving.{Serves}
use Rattle.high_unrolled.proofs.ServingOrders.{serves_again, serves_met, serves_same, serves_through}

-- a body so many times, one start after another
abbrev pub times : ℕ → (State → Outcome) → State → Outcome
times zero body st = Goes st
times (suc n) body st = then_do (body st) (times n body)

fewer_owed : (k lo r : ℕ) → k * r ≤ lo - 1 → k * (r - 1) ≤ lo - k - 1
fewer_owed k lo zero h = let e : zero - 1 ≡ 0 = refl in rw e (omega arith)
fewer_owed k lo (suc r) h =
    let e : suc r - 1 ≡ r = omega arith in
    let f : k * suc r ≡ k * r + k = omega arith in
    rw e (omega (arith, f))

none_owed : (k lo r : ℕ) → 1 ≤ k → k * r ≤ lo - 1 → lo - k ≡ 0 → r ≡ 0
none_owed k lo zero one h z = refl
none_owed k lo (suc r) one h z = let f : k * suc r ≡ k * r + k = omega arith in absurd (omega (arith, f))

module _ (body : State → Outcome) where
  same_turns : (m n lo hi : ℕ) (st : State) → m ≡ n → lo ≡ hi → turns m lo body st ≡ turns n hi body st
  same_turns m n lo hi st e f = ap (λ k. turns k lo body st) e ∙ ap (λ k. turns n k body st) f

  -- the first starts of a loop, and the rest
  split_turns : (a b lo : ℕ) (st : State) → Serves (turns (a + b) lo body st) (again (lo - a) (turns b (lo - a) body) (times a body st))
  split_turns zero b lo st =
      let e : zero + b ≡ b = omega arith in
      let f : lo ≡ lo - zero = omega arith in
      subst (λ o. Serves o (turns b (lo - zero) body st)) (sym (same_turns (zero + b) b lo (lo - zero) st e f)) (serves_same (turns b (lo - zero) body st))
  split_turns (suc a) b lo st =
      let e : suc a + b ≡ suc (a + b) = omega arith in
      subst (λ o. Serves o (again (lo - suc a) (turns b (lo - suc a) body) (then_do (body st) (times a body)))) (sym (same_turns (suc a + b) (suc (a + b)) lo lo st e refl)) (go (λ s. split_turns a b (lo - 1) s) (body st))
    where
      go : ((s : State) → Serves (turns (a + b) (lo - 1) body s) (again (lo - 1 - a) (turns b (lo - 1 - a) body) (times a body s))) → (x : Outcome) → Serves (again (lo - 1) (turns (a + b) (lo - 1) body) x) (again (lo - suc a) (turns b (lo - suc a) body) (then_do x (times a body)))
      go ih (Goes s) =
          let f : lo - 1 - a ≡ lo - suc a = omega arith in
          subst (λ q. Serves (turns (a + b) (lo - 1) body s) (again q (turns b q body) (times a body s))) f (ih s)
      go ih (Leaves d s) = let z : lo - 1 ≡ 0 → lo - suc a ≡ 0 = λ h. omega arith in serves_met (lo - 1) (lo - suc a) (Leaves d s) (Leaves d s) z refl
      go ih (Returns v w t) = let z : lo - 1 ≡ 0 → lo - suc a ≡ 0 = λ h. omega arith in serves_met (lo - 1) (lo - suc a) (Returns v w t) (Returns v w t) z refl
      go ih Bad = tt

  -- a loop of `m * k` starts, and one of `m` starts of `k` each
  rolled : (k m lo least : ℕ) → 1 ≤ k → k * (least - 1) ≤ lo - 1 → (st : State) → Serves (turns (m * k) lo body st) (turns m least (times k body) st)
  rolled k zero lo least one owed st =
      let e : zero * k ≡ zero = omega arith in
      subst (λ o. Serves o Bad) (sym (same_turns (zero * k) zero lo lo st e refl)) tt
  rolled k (suc m) lo least one owed st =
      let e : suc m * k ≡ k + m * k = omega arith in
      subst (λ o. Serves o (turns (suc m) least (times k body) st)) (sym (same_turns (suc m * k) (k + m * k) lo lo st e refl))
      (serves_through (turns (k + m * k) lo body st) (again (lo - k) (turns (m * k) (lo - k) body) (times k body st)) (turns (suc m) least (times k body) st)
      (split_turns k (m * k) lo st)
      (serves_again (lo - k) (least - 1) (times k body st) (times k body st) (turns (m * k) (lo - k) body) (turns m (least - 1) (times k body)) (none_owed k lo (least - 1) one owed) (serves_same (times k body st)) (rolled k m (lo - k) (least - 1) one (fewer_owed k lo (least - 1) owed))))

  -- what follows the first starts
  behind_first : (o : ℕ) (x : Outcome) (f g : State → Outcome) → ((st : State) → Serves (f st) (g st)) → Serves (again o f x) (then_do x g)
  behind_first o (Goes st) f g h = h st
  behind_first zero (Leaves d st) f g h = refl
  behind_first (suc o) (Leaves d st) f g h = tt
  behind_first zero (Returns v w t) f g h = refl
  behind_first (suc o) (Returns v w t) f g h = tt
  behind_first o Bad f g h = tt

  unrolled : (p k m lo least : ℕ) → 1 ≤ k → k * (least - 1) ≤ lo - p - 1 → (st : State) → Serves (turns (p + m * k) lo body st) (then_do (times p body st) (turns m least (times k body)))
  unrolled p k m lo least one owed st =
      serves_through (turns (p + m * k) lo body st) (again (lo - p) (turns (m * k) (lo - p) body) (times p body st)) (then_do (times p body st) (turns m least (times k body)))
      (split_turns p (m * k) lo st)
      (behind_first (lo - p) (times p body st) (turns (m * k) (lo - p) body) (turns m least (times k body)) (rolled k m (lo - p) least one owed))

  -- a loop of fewer starts than it makes is no good run
  pub only_starts : (n lo : ℕ) (next : State → Outcome) (st : State) → Serves (turns n lo body st) (then_do (times n body st) next)
  only_starts n lo next st =
      let e : n ≡ n + 0 = omega arith in
      subst (λ o. Serves o (then_do (times n body st) next)) (sym (same_turns n (n + 0) lo lo st e refl))
      (serves_through (turns (n + 0) lo body st) (again (lo - n) (turns 0 (lo - n) body) (times n body st)) (then_do (times n body st) next)
      (split_turns n 0 lo st)
      (behind_first (lo - n) (times n body st) (turns 0 (lo - n) body) next (λ s. tt)))

-- the bound of the split serves
rounded_serves : (k r q : ℕ) → 0 < k → k * q ≤ r + k - 1 → k * (max 1 q - 1) ≤ r - 1
rounded_serves k r zero pos h = let e : max 1 zero - 1 ≡ 0 = refl in rw e (omega arith)
rounded_serves k r (suc q) pos h =
    let e : max 1 (suc q) - 1 ≡ q = omega arith in
    let f : k * suc q ≡ k * q + k = omega arith in
    rw e (omega (arith, f))

least_serves : (b : Bounds) (k : ℕ) → 0 < k → k * ((split b k).least - 1) ≤ b.least - b.most % k - 1
least_serves b k pos =
    let r : ℕ = b.least - b.most % k in
    let h : k * ((r + k - 1) / k) ≤ r + k - 1 = omega arith in
    rounded_serves k r ((r + k - 1) / k) pos h

-- a loop is served by its first starts and the loop of several at a time
pub by_factor_serves : (body : State → Outcome) (b : Bounds) (k : ℕ) → 1 ≤ k → (st : State) → Serves (turns b.most b.least body st) (then_do (times (peeled b.most k) body st) (turns (split b k).most (split b k).least (times k body)))
by_factor_serves body b k one st =
    let e : b.most ≡ b.most % k + b.most / k * k = omega arith in
    subst (λ n. Serves (turns n b.least body st) (then_do (times (peeled b.most k) body st) (turns (split b k).most (split b k).least (times k body)))) (sym e)
    (unrolled body (b.most % k) k (b.most / k) b.least (split b k).least one (least_serves b k one) st)
