-- Shares of the processor: a task takes its share of every number of cycles at least.
use Rattle.std.proofs.Common.{◌≡◌, ℕ, zero, suc, ◌+◌, ◌-◌, ◌*◌, ◌<◌, ◌≤◌, ◌^◌, arith, sym, ap, subst, inl, inr, List, length, mul-le-mul_right, mul-le-mul_left, add-one}
use Rattle.std.specs.Int.{div_ceil}
use Rattle.std.proofs.lemmas.Bool.{cases_eq}
use Rattle.response_analysis.specs.declared.task.Task.{Task}
use Rattle.response_analysis.specs.Tasks.{cycles_of, period_of}
use Rattle.response_analysis.specs.Equation.{interference, workload}
use Rattle.response_analysis.proofs.Ceilings.{ceil_covers, ceil_least, ceil_rises}
use Rattle.response_analysis.proofs.Equations.{workload_rises}

-- a share of r cycles is no more than what the task asks for within them
pub share_asks : (share period cycles r : ℕ) → 0 < period → share * period ≤ cycles * 2 ^ 64 → r * share ≤ div_ceil r period * cycles * 2 ^ 64
share_asks share period cycles r positive small = steps (div_ceil r period) (ceil_covers r period positive)
  where
    steps : (n : ℕ) → r ≤ n * period → r * share ≤ n * cycles * 2 ^ 64
    steps n covers =
        let a : r * share ≤ n * period * share = mul-le-mul_right share covers in
        let b : n * (share * period) ≤ n * (cycles * 2 ^ 64) = mul-le-mul_left n small in
        omega (arith, a, b)

-- the shares of the first k tasks, of every number of cycles
abbrev pub AreShares : List Task → ℕ → ℕ → Type 0
AreShares tasks k shares = (r : ℕ) → r * shares ≤ interference tasks r k * 2 ^ 64

pub no_shares : (tasks : List Task) → AreShares tasks 0 0
no_shares tasks r = omega arith

pub more_shares : (tasks : List Task) (k shares share : ℕ) → 0 < period_of tasks k → share * period_of tasks k ≤ cycles_of tasks k * 2 ^ 64 → AreShares tasks k shares → AreShares tasks (k + 1) (shares + share)
more_shares tasks k shares share positive small are = subst (λ n. AreShares tasks n (shares + share)) (sym (add-one k)) (λ r. added (interference tasks r k) (div_ceil r (period_of tasks k) * cycles_of tasks k) r (are r) (share_asks share (period_of tasks k) (cycles_of tasks k) r positive small))
  where
    added : (a b r : ℕ) → r * shares ≤ a * 2 ^ 64 → r * share ≤ b * 2 ^ 64 → r * (shares + share) ≤ (a + b) * 2 ^ 64
    added a b r x y = omega (arith, x, y)

-- what the tasks from k on ask for rises with the cycles
pub tail_rises : (tasks : List Task) → ((k : ℕ) → k < length tasks → 0 < period_of tasks k) → (i k r s : ℕ) → k ≤ i → i ≤ length tasks → r ≤ s → interference tasks r i + interference tasks s k ≤ interference tasks s i + interference tasks r k
tail_rises tasks positive zero k r s few within le = let none : k ≡ 0 = omega (arith, few) in rw none (omega arith)
tail_rises tasks positive (suc i) k r s few within le = elim (cases_eq k (suc i)) [
  | inl all ↦ rw all (omega arith)
  | inr less ↦
      let before = tail_rises tasks positive i k r s (omega (arith, few, less)) (omega (arith, within)) le in
      let asks : div_ceil r (period_of tasks i) * cycles_of tasks i ≤ div_ceil s (period_of tasks i) * cycles_of tasks i = mul-le-mul_right (cycles_of tasks i) (ceil_rises r s (period_of tasks i) (positive i (omega (arith, within))) le) in
      sums (interference tasks r i) (interference tasks s k) (interference tasks s i) (interference tasks r k) (div_ceil r (period_of tasks i) * cycles_of tasks i) (div_ceil s (period_of tasks i) * cycles_of tasks i) before asks
]
  where
    sums : (a b c d x y : ℕ) → a + b ≤ c + d → x ≤ y → a + x + b ≤ c + y + d
    sums a b c d x y h k = omega (arith, h, k)

-- a solution holds what the tasks from k on ask for within fewer cycles, and the shares of those before them
pub holds_shares : (tasks : List Task) → ((k : ℕ) → k < length tasks → 0 < period_of tasks k) → (i k within rest shares : ℕ) → k ≤ i → i < length tasks → rest + interference tasks within k ≡ workload tasks i within → AreShares tasks k shares
    → (other : ℕ) → other ≡ workload tasks i other → within ≤ other → rest * 2 ^ 64 + other * shares ≤ other * 2 ^ 64
holds_shares tasks positive i k within rest shares few there is are other solves le =
    let tail = tail_rises tasks positive i k within other few (omega (arith, there)) le in
    held (cycles_of tasks i) (interference tasks within i) (interference tasks other i) (interference tasks within k) (interference tasks other k) is solves tail (are other)
  where
    held : (c a b x y : ℕ) → rest + x ≡ c + a → other ≡ c + b → a + y ≤ b + x → other * shares ≤ y * 2 ^ 64 → rest * 2 ^ 64 + other * shares ≤ other * 2 ^ 64
    held c a b x y e f g h =
        let few : rest + y ≤ other = omega (arith, e, f, g) in
        omega (arith, few, h)

-- the least number that holds so many cycles and shares of itself

pub least_held : (cycles shares other : ℕ) → shares < 2 ^ 64 → cycles * 2 ^ 64 + other * shares ≤ other * 2 ^ 64 → div_ceil (cycles * 2 ^ 64) (2 ^ 64 - shares) ≤ other
least_held cycles shares other less holds = ceil_least (cycles * 2 ^ 64) (2 ^ 64 - shares) other (omega (arith, less)) (parted (2 ^ 64 - shares) (omega (arith, less)))
  where
    parted : (left : ℕ) → left + shares ≡ 2 ^ 64 → cycles * 2 ^ 64 ≤ other * left
    parted left e =
        let whole : other * (left + shares) ≡ other * 2 ^ 64 = ap (λ n. other * n) e in
        omega (arith, whole, holds)

pub none_held : (cycles shares other : ℕ) → 2 ^ 64 ≤ shares → 0 < cycles → cycles * 2 ^ 64 + other * shares ≤ other * 2 ^ 64 → ⊥
none_held cycles shares other full some holds =
    let more : other * 2 ^ 64 ≤ other * shares = mul-le-mul_left other full in
    omega (arith, more, some, holds)

-- ---- task after task

interference_longer : (tasks : List Task) (within i k : ℕ) → k ≤ i → interference tasks within k ≤ interference tasks within i
interference_longer tasks within zero k few = let none : k ≡ 0 = omega (arith, few) in rw none (omega arith)
interference_longer tasks within (suc i) k few = elim (cases_eq k (suc i)) [
  | inl all ↦ rw all (omega arith)
  | inr less ↦ let before = interference_longer tasks within i k (omega (arith, few, less)) in omega (arith, before)
]

pub asks_less : (tasks : List Task) (i k within rest asks : ℕ) → k < i → asks ≡ div_ceil within (period_of tasks k) * cycles_of tasks k → rest + interference tasks within k ≡ workload tasks i within → asks ≤ rest
asks_less tasks i k within rest asks less is left = (let longer = interference_longer tasks within i (suc k) less in within_rest (interference tasks within k) (div_ceil within (period_of tasks k) * cycles_of tasks k) (interference tasks within i) (cycles_of tasks i) longer is left)
  where
    within_rest : (a b whole own : ℕ) → a + b ≤ whole → asks ≡ b → rest + a ≡ own + whole → asks ≤ rest
    within_rest a b whole own h e f = omega (arith, h, e, f)

pub rest_more : (tasks : List Task) (i k within rest asks : ℕ) → k < i → asks ≡ div_ceil within (period_of tasks k) * cycles_of tasks k → rest + interference tasks within k ≡ workload tasks i within → rest - asks + interference tasks within (k + 1) ≡ workload tasks i within
rest_more tasks i k within rest asks less is left =
    let few = asks_less tasks i k within rest asks less is left in
    subst (λ n. rest - asks + interference tasks within n ≡ workload tasks i within) (sym (add-one k)) (moved (interference tasks within k) (div_ceil within (period_of tasks k) * cycles_of tasks k) (workload tasks i within) few is left)
  where
    moved : (a b whole : ℕ) → asks ≤ rest → asks ≡ b → rest + a ≡ whole → rest - asks + (a + b) ≡ whole
    moved a b whole h e f = omega (arith, h, e, f)

pub shares_more : (tasks : List Task) (k shares share all : ℕ) → 0 < period_of tasks k → share * period_of tasks k ≤ cycles_of tasks k * 2 ^ 64 → AreShares tasks k shares → all ≤ shares + share → AreShares tasks (k + 1) all
shares_more tasks k shares share all positive small are few = λ r. at r (more_shares tasks k shares share positive small are r)
  where
    through : (x y z : ℕ) → x ≤ y → y ≤ z → x ≤ z
    through x y z a b = omega (arith, a, b)

    at : (r : ℕ) → r * (shares + share) ≤ interference tasks r (k + 1) * 2 ^ 64 → r * all ≤ interference tasks r (k + 1) * 2 ^ 64
    at r h = through (r * all) (r * (shares + share)) (interference tasks r (k + 1) * 2 ^ 64) (mul-le-mul_left r few) h

-- no solution is below the workload of what none is below
pub above_load : (tasks : List Task) → ((k : ℕ) → k < length tasks → 0 < period_of tasks k) → (i within load : ℕ) → i < length tasks → load ≡ workload tasks i within → (other : ℕ) → other ≡ workload tasks i other → within ≤ other → load ≤ other
above_load tasks positive i within load there is other solves le = let more = workload_rises tasks positive i within other there le in omega (arith, more, is, solves)
