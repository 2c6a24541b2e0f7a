-- The jobs that are released together are jobs, and what they ask for.
use Rattle.std.proofs.Common.{◌≡◌, ℕ, zero, suc, ◌+◌, ◌*◌, ◌/◌, ◌<◌, ◌≤◌, arith, sym, ap, ◌∙◌, subst, inl, inr, List, [], ◌∷◌, ◌++◌, length, Bool, true, false, suc-mul, mul-le-mul_right}
use Rattle.std.specs.Prelude.{if◌then◌else◌}
use Rattle.std.specs.Int.{div_ceil}
use Rattle.std.proofs.lemmas.Bool.{cases_eq, false≢true}
use Rattle.response_analysis.specs.declared.task.Task.{Task}
use Rattle.response_analysis.specs.Tasks.{cycles_of, period_of}
use Rattle.response_analysis.specs.Equation.{interference}
use Rattle.response_analysis.specs.Schedule.{Job, need_of, ApartFrom, AreJobs}
use Rattle.response_analysis.specs.Together.{repeated, together, synchronous}
use Rattle.response_analysis.proofs.Ceilings.{ceil_begun, ceil_within}

-- all jobs are of the first n tasks
abbrev AreBelow : ℕ → List Job → Type 0
AreBelow n [] = Unit {0}
AreBelow n (j ∷ js) = (j.task < n) × AreBelow n js

below_more : (n : ℕ) (js : List Job) → AreBelow n js → AreBelow (suc n) js
below_more n [] below = tt
below_more n (j ∷ js) below = let less = below.0 in (omega (arith, less), below_more n js below.1)

below_stack : (i period cycles k : ℕ) (js : List Job) → AreBelow i js → AreBelow (suc i) (repeated i period cycles k ++ js)
below_stack i period cycles zero js below = below_more i js below
below_stack i period cycles (suc k) js below = (omega arith, below_stack i period cycles k js below)

below_together : (tasks : List Task) (horizon n : ℕ) → AreBelow n (together tasks horizon n)
below_together tasks horizon zero = tt
below_together tasks horizon (suc n) = below_stack n (period_of tasks n) (cycles_of tasks n) (suc (horizon / period_of tasks n)) (together tasks horizon n) (below_together tasks horizon n)

-- a job of a task is apart from those of other tasks
apart_below : (period i release : ℕ) (js : List Job) → AreBelow i js → ApartFrom period i release js
apart_below period i release [] below = tt
apart_below period i release (j ∷ js) below = (λ same. (let less = below.0 in absurd (omega (arith, less, same))), apart_below period i release js below.1)

-- and from the earlier ones of its own
apart_stack : (period cycles i k m : ℕ) (js : List Job) → AreBelow i js → m ≤ k → ApartFrom period i (k * period) (repeated i period cycles m ++ js)
apart_stack period cycles i k zero js below le = apart_below period i (k * period) js below
apart_stack period cycles i k (suc m) js below le =
    let fits : suc m * period ≤ k * period = mul-le-mul_right period le in
    let next = suc-mul m period in
    (λ same. inr (omega (arith, fits, next)), apart_stack period cycles i k m js below (omega (arith, le)))

jobs_stack : (tasks : List Task) (i k : ℕ) (js : List Job) → AreBelow i js → AreJobs tasks js → AreJobs tasks (repeated i (period_of tasks i) (cycles_of tasks i) k ++ js)
jobs_stack tasks i zero js below are = are
jobs_stack tasks i (suc k) js below are = (omega arith, apart_stack (period_of tasks i) (cycles_of tasks i) i k k js below (omega arith), jobs_stack tasks i k js below are)

jobs_together : (tasks : List Task) (horizon n : ℕ) → AreJobs tasks (together tasks horizon n)
jobs_together tasks horizon zero = tt
jobs_together tasks horizon (suc n) = jobs_stack tasks n (suc (horizon / period_of tasks n)) (together tasks horizon n) (below_together tasks horizon n) (jobs_together tasks horizon n)

pub jobs_synchronous : (tasks : List Task) (horizon : ℕ) → AreJobs tasks (synchronous tasks horizon)
jobs_synchronous tasks horizon = jobs_together tasks horizon (length tasks)

-- ---- what they ask for

counts_by : (p : Bool) (n c x y : ℕ) → p ≡ true → n * c + x ≤ y → suc n * c + x ≤ (if p then c else 0) + y
counts_by true n c x y e h = omega (arith, h, suc-mul n c)
counts_by false n c x y e h = absurd (false≢true e)

skips_by : (p : Bool) (m c x y : ℕ) → m * c + x ≤ y → m * c + x ≤ (if p then c else 0) + y
skips_by true m c x y h = omega (arith, h)
skips_by false m c x y h = omega (arith, h)

-- the first m jobs of a task count where they pass the test
counts_stack : (test : ℕ → ℕ → Bool) (i period cycles k m : ℕ) (js : List Job) → m ≤ k → ((x : ℕ) → x < m → test i (x * period) ≡ true) → m * cycles + need_of test js ≤ need_of test (repeated i period cycles k ++ js)
counts_stack test i period cycles zero m js le passes = let none : m ≡ 0 = omega (arith, le) in let e = ap (λ n. n * cycles) none in omega (arith, e)
counts_stack test i period cycles (suc k) m js le passes = elim (cases_eq m (suc k)) [
  | inl all ↦
      let rest = counts_stack test i period cycles k k js (omega arith) (λ x less. passes x (omega (arith, less, all))) in
      let sum = counts_by (test i (k * period)) k cycles (need_of test js) (need_of test (repeated i period cycles k ++ js)) (passes k (omega (arith, all))) rest in
      subst (λ n. n * cycles + need_of test js ≤ need_of test (repeated i period cycles (suc k) ++ js)) (sym all) sum
  | inr fewer ↦ skips_by (test i (k * period)) m cycles (need_of test js) (need_of test (repeated i period cycles k ++ js)) (counts_stack test i period cycles k m js (omega (arith, le, fewer)) passes)
]

module _ (tasks : List Task) (positive : (k : ℕ) → k < length tasks → 0 < period_of tasks k) (test : ℕ → ℕ → Bool) (i f horizon : ℕ) (there : i < length tasks) (near : f ≤ horizon)
    (higher : (t r : ℕ) → t < i → r < f → test t r ≡ true) (own : test i 0 ≡ true) where
  -- the jobs of higher tasks that are released before that cycle
  counts_higher : (n : ℕ) → n ≤ i → interference tasks f n ≤ need_of test (together tasks horizon n)
  counts_higher zero few = omega arith
  counts_higher (suc n) few =
      let before = counts_higher n (omega (arith, few)) in
      let period = positive n (omega (arith, few, there)) in
      sums (interference tasks f n) (need_of test (together tasks horizon n)) (div_ceil f (period_of tasks n) * cycles_of tasks n) (need_of test (together tasks horizon (suc n))) before
      (counts_stack test n (period_of tasks n) (cycles_of tasks n) (suc (horizon / period_of tasks n)) (div_ceil f (period_of tasks n)) (together tasks horizon n) (ceil_within f horizon (period_of tasks n) period near)
      (λ x less. higher n (x * period_of tasks n) (omega (arith, few)) (ceil_begun x f (period_of tasks n) period less)))
    where
      sums : (a b c d : ℕ) → a ≤ b → c + b ≤ d → a + c ≤ d
      sums a b c d h k = omega (arith, h, k)

  -- and the first job of the task itself
  pub counts_all : (n : ℕ) → i < n → cycles_of tasks i + interference tasks f i ≤ need_of test (together tasks horizon n)
  counts_all zero less = absurd (omega (arith, less))
  counts_all (suc n) less = elim (cases_eq i n) [
    | inl same ↦ subst (λ k. cycles_of tasks i + interference tasks f i ≤ need_of test (together tasks horizon (suc k))) same here
    | inr other ↦
        let before = counts_all n (omega (arith, less, other)) in
        let rest = counts_stack test n (period_of tasks n) (cycles_of tasks n) (suc (horizon / period_of tasks n)) 0 (together tasks horizon n) (omega arith) (λ x none. absurd (omega (arith, none))) in
        through (cycles_of tasks i + interference tasks f i) (need_of test (together tasks horizon n)) (0 * cycles_of tasks n) (need_of test (together tasks horizon (suc n))) before rest
  ]
    where
      through : (a b c d : ℕ) → a ≤ b → c + b ≤ d → a ≤ d
      through a b c d h k = omega (arith, h, k)

      first_passes : (x : ℕ) → x < 1 → test i (x * period_of tasks i) ≡ true
      first_passes x less =
          let none : x ≡ 0 = omega (arith, less) in
          let zero_at : x * period_of tasks i ≡ 0 = ap (λ n. n * period_of tasks i) none ∙ zero_times (period_of tasks i) in
          subst (λ r. test i r ≡ true) (sym zero_at) own
        where
          zero_times : (p : ℕ) → 0 * p ≡ 0
          zero_times p = omega arith

      here : cycles_of tasks i + interference tasks f i ≤ need_of test (together tasks horizon (suc i))
      here =
          let higher_count = counts_higher i (omega arith) in
          let one = counts_stack test i (period_of tasks i) (cycles_of tasks i) (suc (horizon / period_of tasks i)) 1 (together tasks horizon i) (omega arith) first_passes in
          last (cycles_of tasks i) (interference tasks f i) (need_of test (together tasks horizon i)) (need_of test (together tasks horizon (suc i))) higher_count one
        where
          last : (c a b d : ℕ) → a ≤ b → 1 * c + b ≤ d → c + a ≤ d
          last c a b d h k = omega (arith, h, k)
