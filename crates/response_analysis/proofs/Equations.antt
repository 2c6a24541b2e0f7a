-- The workload rises with the cycles, and a number of cycles that holds its workload is no less than some response.
use Rattle.std.proofs.Common.{◌≡◌, ℕ, zero, suc, ◌+◌, ◌*◌, ◌<◌, ◌≤◌, arith, sym, ap, ◌∙◌, subst, inl, inr, List, length, mul-le-mul_right, add-one}
use Rattle.std.specs.Int.{div_ceil}
use Rattle.std.proofs.lemmas.Bool.{cases_eq}
use Rattle.response_analysis.specs.declared.task.Task.{Task}
use Rattle.response_analysis.specs.Tasks.{cycles_of, period_of, AreTasks}
use Rattle.response_analysis.specs.Equation.{interference, workload}
use Rattle.response_analysis.proofs.Ceilings.{ceil_rises}

-- every period is positive
pub positive_periods : (tasks : List Task) → AreTasks tasks → (k : ℕ) → k < length tasks → 0 < period_of tasks k
positive_periods tasks are k lt = let t = are.each k (record { cycles = 0; period = 0 }) lt in t.positive

-- one task more
pub interference_more : (tasks : List Task) (within i sum more : ℕ) → sum ≡ interference tasks within i → more ≡ div_ceil within (period_of tasks i) * cycles_of tasks i → sum + more ≡ interference tasks within (i + 1)
interference_more tasks within i sum more is asks =
    let e : sum + more ≡ interference tasks within i + div_ceil within (period_of tasks i) * cycles_of tasks i = ap (λ x. x + more) is ∙ ap (λ y. interference tasks within i + y) asks in
    subst (λ n. sum + more ≡ interference tasks within n) (sym (add-one i)) e

module _ (tasks : List Task) (positive : (k : ℕ) → k < length tasks → 0 < period_of tasks k) where
  pub interference_rises : (i r s : ℕ) → i ≤ length tasks → r ≤ s → interference tasks r i ≤ interference tasks s i
  interference_rises zero r s within le = omega arith
  interference_rises (suc i) r s within le =
      let before = interference_rises i r s (omega (arith, within)) le in
      let periods = ceil_rises r s (period_of tasks i) (positive i (omega (arith, within))) le in
      sums (interference tasks r i) (interference tasks s i) (div_ceil r (period_of tasks i) * cycles_of tasks i) (div_ceil s (period_of tasks i) * cycles_of tasks i) before (mul-le-mul_right (cycles_of tasks i) periods)
    where
      sums : (a b x y : ℕ) → a ≤ b → x ≤ y → a + x ≤ b + y
      sums a b x y h k = omega (arith, h, k)

  pub workload_rises : (i r s : ℕ) → i < length tasks → r ≤ s → workload tasks i r ≤ workload tasks i s
  workload_rises i r s there le = let more = interference_rises i r s (omega (arith, there)) le in omega (arith, more)

  -- a response is found by going down from what holds its workload
  solved_below : (n i s : ℕ) → i < length tasks → s ≤ n → workload tasks i s ≤ s → (r : ℕ) × (r ≤ s) × (r ≡ workload tasks i r)
  solved_below zero i s there few holds = (s, omega arith, omega (arith, few, holds))
  solved_below (suc n) i s there few holds = elim (cases_eq s (workload tasks i s)) [
    | inl same ↦ (s, omega arith, same)
    | inr other ↦
        let less : workload tasks i s < s = omega (arith, holds, other) in
        let again = workload_rises i (workload tasks i s) s there holds in
        let r = solved_below n i (workload tasks i s) there (omega (arith, less, few)) again in
        (r.0, (let below = r.1 in omega (arith, below, holds)), r.2)
  ]

  -- so the least response is at most whatever holds its workload
  pub least_below : (i r s : ℕ) → i < length tasks → ((other : ℕ) → other ≡ workload tasks i other → r ≤ other) → workload tasks i s ≤ s → r ≤ s
  least_below i r s there least holds =
      let found = solved_below s i s there (omega arith) holds in
      let a = least found.0 found.2 in
      let b = found.1 in
      omega (arith, a, b)
