-- Later states of a run, one after another.
use Rattle.std.proofs.Common.{◌≡◌, ℕ, suc, ◌+◌, subst, arith}
use Rattle.rv_steps.specs.Steps.{Later}

-- at once
pub now : (P : ℕ → Type 0) (n : ℕ) → P n → Later P n
now P n p = let e : n ≡ n + 0 = omega arith in (0, subst P e p)

-- behind one step
pub stepped : (P : ℕ → Type 0) (n : ℕ) → Later P (suc n) → Later P n
stepped P n (k, p) = let e : suc n + k ≡ n + suc k = omega arith in (suc k, subst P e p)

-- later than later
pub and_then : (P Q : ℕ → Type 0) (n : ℕ) → Later P n → ((m : ℕ) → P m → Later Q m) → Later Q n
and_then P Q n (k, p) go =
    let r = go (n + k) p in
    let e : n + k + r.0 ≡ n + (k + r.0) = omega arith in
    (k + r.0, subst Q e r.1)
