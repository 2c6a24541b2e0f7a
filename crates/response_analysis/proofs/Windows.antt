-- A job is served from the last cycle before its release at which nothing of a higher task was left: from there on the processor serves nothing else, so the job is finished within its response.
use Rattle.std.proofs.Common.{◌≡◌, ℕ, zero, suc, ◌+◌, ◌<◌, ◌≤◌, ◌⊎◌, arith, refl, sym, ap, subst, inl, inr, List, length, Bool, true}
use Rattle.std.specs.Prelude.{◌||◌}
use Rattle.std.proofs.lemmas.Bool.{cases_lt, cases_eq, or_cases, or_left, or_right}
use Rattle.response_analysis.specs.declared.task.Task.{Task}
use Rattle.response_analysis.specs.Tasks.{cycles_of, period_of}
use Rattle.response_analysis.specs.Equation.{IsResponse}
use Rattle.response_analysis.specs.Schedule.{Job, schedule, need_of, is_job, left, AreJobs}
use Rattle.response_analysis.proofs.Needs.{Among, need_more, need_covered, need_among, HasNeed, some_need}
use Rattle.response_analysis.proofs.Turns.{IsReady, IsFirst}
use Rattle.response_analysis.proofs.Cycles.{cycle_falls, need_fades, need_falls}
use Rattle.response_analysis.proofs.Apart.{jobs_stay, apart_among}
use Rattle.response_analysis.proofs.Demands.{is_higher, IsHigher, higher_at, higher_from, higher_nowhere, IsJob, job_at, job_from, one_job, higher_bound}

pub zero_or : (n : ℕ) → (n ≡ 0) ⊎ (0 < n)
zero_or zero = inl refl
zero_or (suc n) = inr (omega arith)

-- the last cycle before a release or at it at which no earlier job of the first i tasks has need left
pub record IsStart (jobs : List Job) (i from : ℕ) : Type 0 where
  pub at : ℕ
  pub early : at ≤ from
  pub idle : need_of (is_higher i 0 at) (schedule jobs at) ≡ 0
  pub busy : (m : ℕ) → at < m → m ≤ from → 0 < need_of (is_higher i 0 m) (schedule jobs m)

pub start : (jobs : List Job) (i from : ℕ) → IsStart jobs i from
start jobs i zero = record { at = 0; early = omega arith; idle = higher_nowhere i 0 0 (omega arith) jobs; busy = λ m lt le. absurd (omega (arith, lt, le)) }
start jobs i (suc from) = by (zero_or (need_of (is_higher i 0 (suc from)) (schedule jobs (suc from)))) (start jobs i from)
  where
    by : (need_of (is_higher i 0 (suc from)) (schedule jobs (suc from)) ≡ 0) ⊎ (0 < need_of (is_higher i 0 (suc from)) (schedule jobs (suc from))) → IsStart jobs i from → IsStart jobs i (suc from)
    by (inl none) s = record { at = suc from; early = omega arith; idle = none; busy = λ m lt le. absurd (omega (arith, lt, le)) }
    by (inr some) s = record { at = s.at; early = (let early = s.early in omega (arith, early)); idle = s.idle; busy = busy }
      where
        busy : (m : ℕ) → s.at < m → m ≤ suc from → 0 < need_of (is_higher i 0 m) (schedule jobs m)
        busy m lt le = elim (cases_eq m (suc from)) [
          | inl now ↦ subst (λ n. 0 < need_of (is_higher i 0 n) (schedule jobs n)) (sym now) some
          | inr other ↦ s.busy m lt (omega (arith, le, other))
        ]

-- the job of task i that is released there, and the jobs of higher tasks in a stretch
abbrev pub is_either : ℕ → ℕ → ℕ → ℕ → ℕ → ℕ → Bool
is_either i low high from task release = is_higher i low high task release || is_job i from task release

pub higher_either : (i low high from task release : ℕ) → IsHigher i low high task release → is_either i low high from task release ≡ true
higher_either i low high from task release h = or_left (is_higher i low high task release) (is_job i from task release) (higher_from i low high task release h)

pub job_either : (i low high from task release : ℕ) → is_job i from task release ≡ true → is_either i low high from task release ≡ true
job_either i low high from task release e = or_right (is_higher i low high task release) (is_job i from task release) e

pub either_bound : (i low high from : ℕ) (js : List Job) → need_of (is_either i low high from) js ≤ need_of (is_higher i low high) js + need_of (is_job i from) js
either_bound i low high from js = need_covered (is_either i low high from) (is_higher i low high) (is_job i from) (λ t r e. or_cases (is_higher i low high t r) (is_job i from t r) e) js

pub job_bound : (i low high from : ℕ) (js : List Job) → need_of (is_job i from) js ≤ need_of (is_either i low high from) js
job_bound i low high from js = need_more (is_job i from) (is_either i low high from) (λ t r e. job_either i low high from t r e) js

module _ (tasks : List Task) (positive : (k : ℕ) → k < length tasks → 0 < period_of tasks k) (jobs : List Job) (are : AreJobs tasks jobs) where
  -- one job has one need
  pub job_need : (i from : ℕ) → i < length tasks → need_of (is_job i from) jobs ≤ cycles_of tasks i
  job_need i from there = one_job tasks i (is_job i from) (λ t r e. (job_at i from t r e).same) (λ r s p q. near r s (job_at i from i r p) (job_at i from i s q)) jobs are
    where
      near : (r s : ℕ) → IsJob i from i r → IsJob i from i s → s < r + period_of tasks i
      near r s a b = let x = a.here in let y = b.here in let z = positive i there in omega (arith, x, y, z)

  module _ (i from response : ℕ) (there : i < length tasks) (is : IsResponse tasks i response) (s : IsStart jobs i from) (earlier : (r : ℕ) → r < from → left jobs i r (r + response) ≡ 0) where
    -- a job of a higher task that has need left in the stretch was released in it
    in_stretch : (t : ℕ) (k : Job) → s.at ≤ t → t < s.at + response → Among k (schedule jobs t) → IsReady t k → k.task < i → is_either i s.at (s.at + response) from k.task k.release ≡ true
    in_stretch t k low high among r less = elim (cases_lt k.release s.at) [
      | inl before ↦
          let passes = higher_from i 0 s.at k.task k.release (record { less = less; early = omega arith; late = before }) in
          let counts = need_among (is_higher i 0 s.at) k (schedule jobs t) among passes in
          let fades = need_fades (is_higher i 0 s.at) jobs t s.at low in
          let idle = s.idle in
          let needs = r.needs in
          absurd (omega (arith, counts, fades, idle, needs))
      | inr later ↦
          let released = r.released in
          higher_either i s.at (s.at + response) from k.task k.release (record { less = less; early = later; late = omega (arith, released, high) })
    ]

    -- before the release a job of a higher task is served
    before_release : (t : ℕ) → s.at ≤ t → t < s.at + response → t < from → need_of (is_either i s.at (s.at + response) from) (schedule jobs (suc t)) + 1 ≤ need_of (is_either i s.at (s.at + response) from) (schedule jobs t)
    before_release t low high lt = with_need (some_need (is_higher i 0 (suc t)) (schedule jobs t) some)
      where
        some : 0 < need_of (is_higher i 0 (suc t)) (schedule jobs t)
        some =
            let busy = s.busy (suc t) (omega (arith, low)) (omega (arith, lt)) in
            let fades = need_fades (is_higher i 0 (suc t)) jobs (suc t) t (omega arith) in
            omega (arith, busy, fades)

        with_need : HasNeed (is_higher i 0 (suc t)) (schedule jobs t) → need_of (is_either i s.at (s.at + response) from) (schedule jobs (suc t)) + 1 ≤ need_of (is_either i s.at (s.at + response) from) (schedule jobs t)
        with_need h =
            let parts = higher_at i 0 (suc t) h.job.task h.job.release h.passes in
            let late = parts.late in
            let r : IsReady t h.job = record { released = omega (arith, late); needs = h.needs } in
            cycle_falls (is_either i s.at (s.at + response) from) jobs t h.job h.among r (λ k f. passes k f r parts.less)
          where
            passes : (k : Job) → IsFirst t (schedule jobs t) k → IsReady t h.job → h.job.task < i → is_either i s.at (s.at + response) from k.task k.release ≡ true
            passes k f r less =
                let order = f.first h.job h.among r in
                let tasks_order = order.tasks in
                in_stretch t k low high f.among f.ready (omega (arith, tasks_order, less))

    -- from the release on that job is served, or one of a higher task
    from_release : (t : ℕ) → s.at ≤ t → t < s.at + response → from ≤ t → 0 < left jobs i from t → need_of (is_either i s.at (s.at + response) from) (schedule jobs (suc t)) + 1 ≤ need_of (is_either i s.at (s.at + response) from) (schedule jobs t)
    from_release t low high released some = with_need (some_need (is_job i from) (schedule jobs t) some)
      where
        with_need : HasNeed (is_job i from) (schedule jobs t) → need_of (is_either i s.at (s.at + response) from) (schedule jobs (suc t)) + 1 ≤ need_of (is_either i s.at (s.at + response) from) (schedule jobs t)
        with_need h =
            let parts = job_at i from h.job.task h.job.release h.passes in
            let here = parts.here in
            let r : IsReady t h.job = record { released = omega (arith, here, released); needs = h.needs } in
            cycle_falls (is_either i s.at (s.at + response) from) jobs t h.job h.among r (λ k f. passes k f r parts)
          where
            -- an earlier job of the task is finished by then
            finished : (k : Job) → IsFirst t (schedule jobs t) k → IsJob i from h.job.task h.job.release → k.task ≡ i → k.release < from → ⊥
            finished k f parts same less =
                let ready = f.ready in
                let needs = ready.needs in
                let own = parts.same in
                let here = parts.here in
                let apart = apart_among tasks (schedule jobs t) (jobs_stay tasks jobs are t) k h.job f.among h.among (omega (arith, same, own)) (omega (arith, here, less)) in
                let period = ap (period_of tasks) same in
                let short = is.within in
                let over : k.release + response ≤ t = omega (arith, apart, period, short, here, released) in
                let done = earlier k.release less in
                let fades = need_fades (is_job i k.release) jobs t (k.release + response) over in
                let counts = need_among (is_job i k.release) k (schedule jobs t) f.among (job_from i k.release k.task k.release (record { same = same; here = refl })) in
                omega (arith, done, fades, counts, needs)

            passes : (k : Job) → IsFirst t (schedule jobs t) k → IsReady t h.job → IsJob i from h.job.task h.job.release → is_either i s.at (s.at + response) from k.task k.release ≡ true
            passes k f r parts =
                let order = f.first h.job h.among r in
                let tasks_order = order.tasks in
                let own = parts.same in
                let here = parts.here in
                elim (cases_lt k.task i) [
                  | inl less ↦ in_stretch t k low high f.among f.ready less
                  | inr more ↦
                      let same : k.task ≡ i = omega (arith, tasks_order, own, more) in
                      let late = order.releases (omega (arith, same, own)) in
                      elim (cases_lt k.release from) [
                        | inl less ↦ absurd (finished k f parts same less)
                        | inr later ↦ job_either i s.at (s.at + response) from k.task k.release (job_from i from k.task k.release (record { same = same; here = omega (arith, late, here, later) }))
                      ]
                ]

    -- so the job is finished before the stretch is over
    pub done_in_stretch : left jobs i from (s.at + response) ≡ 0
    done_in_stretch = by (zero_or (left jobs i from (s.at + response)))
      where
        falls : 0 < left jobs i from (s.at + response) → (t : ℕ) → s.at ≤ t → t < s.at + response → need_of (is_either i s.at (s.at + response) from) (schedule jobs (suc t)) + 1 ≤ need_of (is_either i s.at (s.at + response) from) (schedule jobs t)
        falls some t low high = elim (cases_lt t from) [
          | inl less ↦ before_release t low high less
          | inr more ↦
              let fades = need_fades (is_job i from) jobs (s.at + response) t (omega (arith, high)) in
              from_release t low high more (omega (arith, some, fades))
        ]

        never : 0 < left jobs i from (s.at + response) → ⊥
        never some =
            let all = need_falls (is_either i s.at (s.at + response) from) jobs s.at response (falls some) in
            let last = job_bound i s.at (s.at + response) from (schedule jobs (s.at + response)) in
            let fades = need_fades (is_either i s.at (s.at + response) from) jobs s.at 0 (omega arith) in
            let sum = either_bound i s.at (s.at + response) from jobs in
            let higher = higher_bound tasks positive jobs are i s.at response (omega (arith, there)) in
            let own = job_need i from there in
            let solves = is.solves in
            omega (arith, some, all, last, fades, sum, higher, own, solves)

        by : (left jobs i from (s.at + response) ≡ 0) ⊎ (0 < left jobs i from (s.at + response)) → left jobs i from (s.at + response) ≡ 0
        by (inl none) = none
        by (inr some) = absurd (never some)
