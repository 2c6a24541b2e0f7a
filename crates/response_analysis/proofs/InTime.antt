-- In every schedule each job is finished within its response.
use Rattle.std.proofs.Common.{◌≡◌, ℕ, zero, suc, ◌+◌, ◌<◌, ◌≤◌, ◌⊎◌, arith, refl, sym, ap, ◌∙◌, subst, inl, inr, List, length}
use Rattle.std.specs.Prelude.{slice_index}
use Rattle.std.proofs.lemmas.Bool.{cases_eq}
use Rattle.response_analysis.specs.declared.task.Task.{Task}
use Rattle.response_analysis.specs.Tasks.{period_of}
use Rattle.response_analysis.specs.Equation.{IsResponse, AreResponses}
use Rattle.response_analysis.specs.Schedule.{Job, is_job, left, IsFinishedAt, AreJobs}
use Rattle.response_analysis.specs.Ends.{EndInTime}
use Rattle.response_analysis.proofs.Cycles.{need_fades}
use Rattle.response_analysis.proofs.Windows.{zero_or, start, done_in_stretch}

-- the first number from one on at which a function is 0
record IsFirstZero (f : ℕ → ℕ) (from to : ℕ) : Type 0 where
  place : ℕ
  above : from ≤ place
  below : place ≤ to
  nothing : f place ≡ 0
  before : (m : ℕ) → from ≤ m → m < place → 0 < f m

first_zero : (f : ℕ → ℕ) (d from to : ℕ) → from + d ≡ to → f to ≡ 0 → IsFirstZero f from to
first_zero f zero from to e none =
    let same : to ≡ from = omega (arith, e) in
    record { place = from; above = omega arith; below = omega (arith, same); nothing = sym (ap f same) ∙ none; before = λ m low high. absurd (omega (arith, low, high)) }
first_zero f (suc d) from to e none = by (zero_or (f from)) (first_zero f d (suc from) to (omega (arith, e)) none)
  where
    by : (f from ≡ 0) ⊎ (0 < f from) → IsFirstZero f (suc from) to → IsFirstZero f from to
    by (inl here) later = record { place = from; above = omega arith; below = omega (arith, e); nothing = here; before = λ m low high. absurd (omega (arith, low, high)) }
    by (inr some) later = record { place = later.place; above = (let above = later.above in omega (arith, above)); below = later.below; nothing = later.nothing; before = before }
      where
        before : (m : ℕ) → from ≤ m → m < later.place → 0 < f m
        before m low high = elim (cases_eq m from) [
          | inl here ↦ subst (λ n. 0 < f n) (sym here) some
          | inr other ↦ later.before m (omega (arith, low, other)) high
        ]

module _ (tasks : List Task) (positive : (k : ℕ) → k < length tasks → 0 < period_of tasks k) (jobs : List Job) (are : AreJobs tasks jobs) (i response : ℕ) (there : i < length tasks) (is : IsResponse tasks i response) where
  -- the jobs of a task are finished one after the other
  done_before : (n from : ℕ) → from < n → left jobs i from (from + response) ≡ 0
  done_before zero from less = absurd (omega (arith, less))
  done_before (suc n) from less =
      let s = start jobs i from in
      let done = done_in_stretch tasks positive jobs are i from response there is s (λ r lower. done_before n r (omega (arith, less, lower))) in
      let early = s.early in
      let fades = need_fades (is_job i from) jobs (from + response) (s.at + response) (omega (arith, early)) in
      omega (arith, done, fades)

  pub finished : (from : ℕ) → (n : ℕ) × (n ≤ from + response) × IsFinishedAt jobs i from n
  finished from =
      let done = done_before (suc from) from (omega arith) in
      let first = first_zero (left jobs i from) response from (from + response) refl done in
      (first.place, first.below, record { released = first.above; done = first.nothing; before = first.before })

pub end_in_time : (tasks : List Task) (responses : List ℕ) → ((k : ℕ) → k < length tasks → 0 < period_of tasks k) → AreResponses tasks responses → EndInTime tasks responses
end_in_time tasks responses positive fixed = record {
  ends = λ jobs are i from there. finished tasks positive jobs are i (slice_index responses i) there (fixed.each i there) from;
}
