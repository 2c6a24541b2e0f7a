-- What the jobs of a stretch of cycles ask for: one job of a task for each period that has begun.
use Rattle.std.proofs.Common.{◌≡◌, ℕ, zero, suc, ◌+◌, ◌*◌, ◌<◌, ◌≤◌, ◌⊎◌, arith, refl, sym, ap, ◌∙◌, subst, inl, inr, List, [], ◌∷◌, length, Bool, true, false, suc-mul}
use Rattle.std.specs.Prelude.{nat_lt, nat_le, ◌==◌, ◌&&◌, if◌then◌else◌}
use Rattle.std.specs.Int.{div_ceil}
use Rattle.std.proofs.lemmas.Bool.{cases_lt, ltb-true, leb-true, eqb-true, lt-ltb, le-leb, eq-eqb, and_parts, and_from, false_from_ne_true}
use Rattle.response_analysis.specs.declared.task.Task.{Task}
use Rattle.response_analysis.specs.Tasks.{cycles_of, period_of}
use Rattle.response_analysis.specs.Equation.{interference}
use Rattle.response_analysis.specs.Schedule.{Job, need_of, is_job, ApartFrom, AreJobs}
use Rattle.response_analysis.proofs.Ceilings.{ceil_covers}
use Rattle.response_analysis.proofs.Needs.{need_none, need_more, need_covered}

-- ---- the tests

-- a release in that stretch
abbrev pub is_between : ℕ → ℕ → ℕ → Bool
is_between from to release = nat_le from release && nat_lt release to

-- a job of the first i tasks
abbrev pub is_higher : ℕ → ℕ → ℕ → ℕ → ℕ → Bool
is_higher i from to task release = nat_lt task i && is_between from to release

-- a job of task i
abbrev pub is_of : ℕ → ℕ → ℕ → ℕ → ℕ → Bool
is_of i from to task release = (task == i) && is_between from to release

pub record IsHigher (i from to task release : ℕ) : Type 0 where
  pub less : task < i
  pub early : from ≤ release
  pub late : release < to

pub record IsOf (i from to task release : ℕ) : Type 0 where
  pub same : task ≡ i
  pub early : from ≤ release
  pub late : release < to

pub higher_at : (i from to task release : ℕ) → is_higher i from to task release ≡ true → IsHigher i from to task release
higher_at i from to task release e =
    let a = and_parts (nat_lt task i) (is_between from to release) e in
    let b = and_parts (nat_le from release) (nat_lt release to) a.1 in
    record { less = ltb-true task i a.0; early = leb-true from release b.0; late = ltb-true release to b.1 }

pub higher_from : (i from to task release : ℕ) → IsHigher i from to task release → is_higher i from to task release ≡ true
higher_from i from to task release h =
    and_from (nat_lt task i) (is_between from to release) (lt-ltb task i h.less)
    (and_from (nat_le from release) (nat_lt release to) (le-leb from release h.early) (lt-ltb release to h.late))

of_at : (i from to task release : ℕ) → is_of i from to task release ≡ true → IsOf i from to task release
of_at i from to task release e =
    let a = and_parts (task == i) (is_between from to release) e in
    let b = and_parts (nat_le from release) (nat_lt release to) a.1 in
    record { same = eqb-true task i a.0; early = leb-true from release b.0; late = ltb-true release to b.1 }

of_from : (i from to task release : ℕ) → IsOf i from to task release → is_of i from to task release ≡ true
of_from i from to task release h =
    and_from (task == i) (is_between from to release) (eq-eqb task i h.same)
    (and_from (nat_le from release) (nat_lt release to) (le-leb from release h.early) (lt-ltb release to h.late))

pub record IsJob (i from task release : ℕ) : Type 0 where
  pub same : task ≡ i
  pub here : release ≡ from

pub job_at : (i from task release : ℕ) → is_job i from task release ≡ true → IsJob i from task release
job_at i from task release e =
    let a = and_parts (task == i) (release == from) e in
    record { same = eqb-true task i a.0; here = eqb-true release from a.1 }

pub job_from : (i from task release : ℕ) → IsJob i from task release → is_job i from task release ≡ true
job_from i from task release h = and_from (task == i) (release == from) (eq-eqb task i h.same) (eq-eqb release from h.here)

-- no job of the first i tasks is released in a stretch that is empty
pub higher_nowhere : (i from to : ℕ) → to ≤ from → (js : List Job) → need_of (is_higher i from to) js ≡ 0
higher_nowhere i from to empty js = need_none (is_higher i from to) (λ t r. false_from_ne_true (is_higher i from to t r) (λ e. out t r (higher_at i from to t r e))) js
  where
    out : (t r : ℕ) → IsHigher i from to t r → ⊥
    out t r h = let a = h.early in let b = h.late in omega (arith, a, b, empty)

-- ---- one job

module _ (period i from : ℕ) (test : ℕ → ℕ → Bool) (mine : (t r : ℕ) → test t r ≡ true → t ≡ i) where
  -- beside a job of the task there is none within a period
  alone : (near : (r : ℕ) → test i r ≡ true → (r < from + period) × (from < r + period)) → (js : List Job) → ApartFrom period i from js → need_of test js ≡ 0
  alone near [] apart = refl
  alone near (j ∷ js) apart = by (test j.task j.release) refl (alone near js apart.1)
    where
      out : test j.task j.release ≡ true → ⊥
      out e =
          let same = mine j.task j.release e in
          let n = near j.release (sym (ap (λ t. test t j.release) same) ∙ e) in
          let low = n.0 in let high = n.1 in
          elim (apart.0 same) [ inl le ↦ omega (arith, le, low) | inr le ↦ omega (arith, le, high) ]

      by : (b : Bool) → test j.task j.release ≡ b → need_of test js ≡ 0 → (if b then j.need else 0) + need_of test js ≡ 0
      by true e none = absurd (out e)
      by false e none = omega (arith, none)

-- a test that picks jobs of one task, all within a period, picks one at most
pub one_job : (tasks : List Task) (i : ℕ) (test : ℕ → ℕ → Bool) → ((t r : ℕ) → test t r ≡ true → t ≡ i) → ((r s : ℕ) → test i r ≡ true → test i s ≡ true → s < r + period_of tasks i) → (js : List Job) → AreJobs tasks js →
    need_of test js ≤ cycles_of tasks i
one_job tasks i test mine near [] are = omega arith
one_job tasks i test mine near (j ∷ js) are = by (test j.task j.release) refl (one_job tasks i test mine near js are.2)
  where
    by : (b : Bool) → test j.task j.release ≡ b → need_of test js ≤ cycles_of tasks i → (if b then j.need else 0) + need_of test js ≤ cycles_of tasks i
    by false e later = omega (arith, later)
    by true e later =
        let same = mine j.task j.release e in
        let passes : test i j.release ≡ true = sym (ap (λ t. test t j.release) same) ∙ e in
        let apart = subst (λ t. ApartFrom (period_of tasks t) t j.release js) same are.1 in
        let none = alone (period_of tasks i) i j.release test mine (λ r p. (near j.release r passes p, near r j.release p passes)) js apart in
        let need = are.0 in
        let cycles = ap (cycles_of tasks) same in
        omega (arith, none, need, cycles)

-- ---- the jobs of a stretch

module _ (tasks : List Task) (positive : (k : ℕ) → k < length tasks → 0 < period_of tasks k) (js : List Job) (are : AreJobs tasks js) where
  -- a task has one job in each period
  jobs_within : (i from n : ℕ) → need_of (is_of i from (from + n * period_of tasks i)) js ≤ n * cycles_of tasks i
  jobs_within i from zero =
      let none = need_none (is_of i from (from + zero * period_of tasks i)) (λ t r. false_from_ne_true (is_of i from (from + zero * period_of tasks i) t r) (λ e. out t r (of_at i from (from + zero * period_of tasks i) t r e))) js in
      omega (arith, none)
    where
      out : (t r : ℕ) → IsOf i from (from + zero * period_of tasks i) t r → ⊥
      out t r h = let a = h.early in let b = h.late in omega (arith, a, b)
  jobs_within i from (suc n) =
      let middle = from + n * period_of tasks i in
      let end = from + suc n * period_of tasks i in
      let before = jobs_within i from n in
      let last = one_job tasks i (is_of i middle end) (λ t r e. (of_at i middle end t r e).same) (λ r s p q. near r s (of_at i middle end i r p) (of_at i middle end i s q)) js are in
      let all = need_covered (is_of i from end) (is_of i from middle) (is_of i middle end) (λ t r e. parts t r (of_at i from end t r e)) js in
      omega (arith, before, last, all, suc-mul n (cycles_of tasks i))
    where
      near : (r s : ℕ) → IsOf i (from + n * period_of tasks i) (from + suc n * period_of tasks i) i r → IsOf i (from + n * period_of tasks i) (from + suc n * period_of tasks i) i s → s < r + period_of tasks i
      near r s a b = let x = a.early in let y = b.late in omega (arith, x, y, suc-mul n (period_of tasks i))

      parts : (t r : ℕ) → IsOf i from (from + suc n * period_of tasks i) t r → (is_of i from (from + n * period_of tasks i) t r ≡ true) ⊎ (is_of i (from + n * period_of tasks i) (from + suc n * period_of tasks i) t r ≡ true)
      parts t r h = elim (cases_lt r (from + n * period_of tasks i)) [
        | inl less ↦ inl (of_from i from (from + n * period_of tasks i) t r (record { same = h.same; early = h.early; late = less }))
        | inr more ↦ inr (of_from i (from + n * period_of tasks i) (from + suc n * period_of tasks i) t r (record { same = h.same; early = more; late = h.late }))
      ]

  -- so the first i tasks ask in a stretch for no more than their interference
  pub higher_bound : (i from long : ℕ) → i ≤ length tasks → need_of (is_higher i from (from + long)) js ≤ interference tasks long i
  higher_bound zero from long within =
      let none = need_none (is_higher 0 from (from + long)) (λ t r. false_from_ne_true (is_higher 0 from (from + long) t r) (λ e. out t r (higher_at 0 from (from + long) t r e))) js in
      omega (arith, none)
    where
      out : (t r : ℕ) → IsHigher 0 from (from + long) t r → ⊥
      out t r h = let a = h.less in omega (arith, a)
  higher_bound (suc i) from long within =
      let before = higher_bound i from long (omega (arith, within)) in
      let all = need_covered (is_higher (suc i) from (from + long)) (is_higher i from (from + long)) (is_of i from (from + long)) (λ t r e. parts t r (higher_at (suc i) from (from + long) t r e)) js in
      let own = own_bound (div_ceil long (period_of tasks i)) (ceil_covers long (period_of tasks i) (positive i (omega (arith, within)))) in
      sums (need_of (is_higher (suc i) from (from + long)) js) (need_of (is_higher i from (from + long)) js) (need_of (is_of i from (from + long)) js) (interference tasks long i) (div_ceil long (period_of tasks i) * cycles_of tasks i) all before own
    where
      sums : (a b x c y : ℕ) → a ≤ b + x → b ≤ c → x ≤ y → a ≤ c + y
      sums a b x c y h k l = omega (arith, h, k, l)

      own_bound : (n : ℕ) → long ≤ n * period_of tasks i → need_of (is_of i from (from + long)) js ≤ n * cycles_of tasks i
      own_bound n covered =
          let more = need_more (is_of i from (from + long)) (is_of i from (from + n * period_of tasks i)) (λ t r e. wider t r (of_at i from (from + long) t r e)) js in
          let few = jobs_within i from n in
          omega (arith, more, few)
        where
          wider : (t r : ℕ) → IsOf i from (from + long) t r → is_of i from (from + n * period_of tasks i) t r ≡ true
          wider t r h = let late = h.late in of_from i from (from + n * period_of tasks i) t r (record { same = h.same; early = h.early; late = omega (arith, late, covered) })

      parts : (t r : ℕ) → IsHigher (suc i) from (from + long) t r → (is_higher i from (from + long) t r ≡ true) ⊎ (is_of i from (from + long) t r ≡ true)
      parts t r h = let less = h.less in elim (cases_lt t i) [
        | inl lower ↦ inl (higher_from i from (from + long) t r (record { less = lower; early = h.early; late = h.late }))
        | inr above ↦ inr (of_from i from (from + long) t r (record { same = omega (arith, less, above); early = h.early; late = h.late }))
      ]
