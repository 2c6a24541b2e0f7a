-- Where all tasks are released together, the first job of each is finished exactly at its least response.
use Rattle.std.proofs.Common.{◌≡◌, ℕ, zero, suc, ◌<◌, ◌≤◌, ◌⊎◌, arith, refl, subst, inl, inr, List, length, Option, Some, None}
use Rattle.std.specs.Prelude.{slice_index}
use Rattle.std.proofs.lemmas.Bool.{cases_Bool}
use Rattle.response_analysis.specs.declared.task.Task.{Task}
use Rattle.response_analysis.specs.Tasks.{period_of}
use Rattle.response_analysis.specs.Equation.{workload, IsLeastResponse, AreLeastResponses, AreResponses}
use Rattle.response_analysis.specs.Schedule.{Job, chosen, serve, schedule, need_of, is_job, left, IsFinishedAt}
use Rattle.response_analysis.specs.Together.{synchronous}
use Rattle.response_analysis.specs.Ends.{AreReached}
use Rattle.response_analysis.proofs.Equations.{least_below}
use Rattle.response_analysis.proofs.Needs.{served_other, some_need}
use Rattle.response_analysis.proofs.Turns.{IsReady, IsFirst, IsChoice, chooses}
use Rattle.response_analysis.proofs.Cycles.{need_fades, need_stays}
use Rattle.response_analysis.proofs.Demands.{is_higher, higher_at, higher_nowhere, job_at, job_from}
use Rattle.response_analysis.proofs.Windows.{zero_or, is_either, higher_either, job_either, either_bound}
use Rattle.response_analysis.proofs.InTime.{finished}
use Rattle.response_analysis.proofs.Rows.{jobs_synchronous, counts_all}

-- the job that is served last is first of all that are ready
record IsServed (jobs : List Job) (i n : ℕ) : Type 0 where
  job : Job
  first : IsFirst n (schedule jobs n) job
  task : job.task ≡ i

served_at : (jobs : List Job) (i from n : ℕ) → 0 < left jobs i from n → left jobs i from (suc n) ≡ 0 → IsServed jobs i n
served_at jobs i from n some none = by (chosen n (schedule jobs n)) (chooses n (schedule jobs n)) none
  where
    by : (o : Option Job) → IsChoice n (schedule jobs n) o → need_of (is_job i from) (serve o (schedule jobs n)) ≡ 0 → IsServed jobs i n
    by None c none = absurd (omega (arith, some, none))
    by (Some k) f none = elim (cases_Bool (is_job i from k.task k.release)) [
      | inl passes ↦ let parts = job_at i from k.task k.release passes in record { job = k; first = f; task = parts.same }
      | inr fails ↦ let more = served_other (is_job i from) k (schedule jobs n) fails in absurd (omega (arith, some, none, more))
    ]

-- so no job of a higher task has need left by then
higher_done : (jobs : List Job) (i from n : ℕ) → IsFinishedAt jobs i from n → from ≡ 0 → need_of (is_higher i 0 n) (schedule jobs n) ≡ 0
higher_done jobs i from zero fin start = higher_nowhere i 0 0 (omega arith) jobs
higher_done jobs i from (suc n) fin start = by (zero_or (need_of (is_higher i 0 (suc n)) (schedule jobs n)))
  where
    never : 0 < need_of (is_higher i 0 (suc n)) (schedule jobs n) → ⊥
    never some =
        let last = served_at jobs i from n (fin.before n (omega (arith, start)) (omega arith)) fin.done in
        let h = some_need (is_higher i 0 (suc n)) (schedule jobs n) some in
        let parts = higher_at i 0 (suc n) h.job.task h.job.release h.passes in
        let late = parts.late in
        let less = parts.less in
        let r : IsReady n h.job = record { released = omega (arith, late); needs = h.needs } in
        let f = last.first in
        let order = f.first h.job h.among r in
        let tasks_order = order.tasks in
        let task = last.task in
        omega (arith, less, tasks_order, task)

    by : (need_of (is_higher i 0 (suc n)) (schedule jobs n) ≡ 0) ⊎ (0 < need_of (is_higher i 0 (suc n)) (schedule jobs n)) → need_of (is_higher i 0 (suc n)) (schedule jobs (suc n)) ≡ 0
    by (inl none) = let fades = need_fades (is_higher i 0 (suc n)) jobs (suc n) n (omega arith) in omega (arith, none, fades)
    by (inr some) = absurd (never some)

module _ (tasks : List Task) (positive : (k : ℕ) → k < length tasks → 0 < period_of tasks k) (i response : ℕ) (there : i < length tasks) (is : IsLeastResponse tasks i response) where
  -- what is done by then is the workload of that long
  holds : (n : ℕ) → n ≤ response → IsFinishedAt (synchronous tasks response) i 0 n → workload tasks i n ≤ n
  holds n few fin =
      let asked = counts_all tasks positive (is_either i 0 n 0) i n response there few (λ t r less early. higher_either i 0 n 0 t r (record { less = less; early = omega arith; late = early })) (job_either i 0 n 0 i 0 (job_from i 0 i 0 (record { same = refl; here = refl }))) (length tasks) there in
      let served = need_stays (is_either i 0 n 0) (synchronous tasks response) n in
      let both = either_bound i 0 n 0 (schedule (synchronous tasks response) n) in
      let higher = higher_done (synchronous tasks response) i 0 n fin refl in
      let own = fin.done in
      omega (arith, asked, served, both, higher, own)

  pub exactly : IsFinishedAt (synchronous tasks response) i 0 response
  exactly =
      let found = finished tasks positive (synchronous tasks response) (jobs_synchronous tasks response) i response there is.fixed 0 in
      let early = found.1 in
      let few : found.0 ≤ response = omega (arith, early) in
      let late = least_below tasks positive i response found.0 there is.least (holds found.0 few found.2) in
      let same : found.0 ≡ response = omega (arith, few, late) in
      subst (λ n. IsFinishedAt (synchronous tasks response) i 0 n) same found.2

pub are_reached : (tasks : List Task) (responses : List ℕ) → ((k : ℕ) → k < length tasks → 0 < period_of tasks k) → AreLeastResponses tasks responses → AreReached tasks responses
are_reached tasks responses positive least = record {
  may_be = jobs_synchronous tasks;
  reached = λ i there. exactly tasks positive i (slice_index responses i) there (least.each i there);
}

pub are_responses : (tasks : List Task) (responses : List ℕ) → AreLeastResponses tasks responses → AreResponses tasks responses
are_responses tasks responses least = record { long = least.long; each = λ i there. (least.each i there).fixed }
