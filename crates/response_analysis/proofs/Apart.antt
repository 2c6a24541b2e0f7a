-- The jobs of a schedule stay jobs, and earlier jobs of a task are released at least a period before later ones.
use Rattle.std.proofs.Common.{◌≡◌, ℕ, zero, suc, ◌+◌, ◌<◌, ◌≤◌, ◌⊎◌, arith, sym, ap, ◌∙◌, inl, inr, List, [], ◌∷◌, Option, Some, None, Bool, true, false}
use Rattle.std.specs.Prelude.{if◌then◌else◌}
use Rattle.response_analysis.specs.declared.task.Task.{Task}
use Rattle.response_analysis.specs.Tasks.{period_of}
use Rattle.response_analysis.specs.Schedule.{Job, is_same, lessened, served, serve, chosen, schedule, ApartFrom, AreJobs}
use Rattle.response_analysis.proofs.Needs.{alike, Among}

apart_served : (period task release : ℕ) (k : Job) (js : List Job) → ApartFrom period task release js → ApartFrom period task release (served k js)
apart_served period task release k [] apart = tt
apart_served period task release k (j ∷ js) apart = by (is_same k j) (apart_served period task release k js apart.1)
  where
    by : (b : Bool) → ApartFrom period task release (served k js) → ApartFrom period task release (if b then lessened j ∷ js else j ∷ served k js)
    by true later = (apart.0, apart.1)
    by false later = (apart.0, later)

jobs_served : (tasks : List Task) (k : Job) (js : List Job) → AreJobs tasks js → AreJobs tasks (served k js)
jobs_served tasks k [] are = tt
jobs_served tasks k (j ∷ js) are = by (is_same k j) (jobs_served tasks k js are.2)
  where
    by : (b : Bool) → AreJobs tasks (served k js) → AreJobs tasks (if b then lessened j ∷ js else j ∷ served k js)
    by true later = let need = are.0 in (omega (arith, need), are.1, are.2)
    by false later = (are.0, apart_served (period_of tasks j.task) j.task j.release k js are.1, later)

jobs_serve : (tasks : List Task) (o : Option Job) (js : List Job) → AreJobs tasks js → AreJobs tasks (serve o js)
jobs_serve tasks None js are = are
jobs_serve tasks (Some k) js are = jobs_served tasks k js are

pub jobs_stay : (tasks : List Task) (jobs : List Job) → AreJobs tasks jobs → (n : ℕ) → AreJobs tasks (schedule jobs n)
jobs_stay tasks jobs are zero = are
jobs_stay tasks jobs are (suc n) = jobs_serve tasks (chosen n (schedule jobs n)) (schedule jobs n) (jobs_stay tasks jobs are n)

-- a job among those that are apart
apart_at : (period task release : ℕ) (k : Job) (js : List Job) → ApartFrom period task release js → Among k js → k.task ≡ task → (release + period ≤ k.release) ⊎ (k.release + period ≤ release)
apart_at period task release k [] apart among same = absurd among
apart_at period task release k (j ∷ js) apart (inl here) same =
    let a = alike k j here in
    let at = a.release in
    elim (apart.0 (sym a.task ∙ same)) [ inl le ↦ inl (omega (arith, le, at)) | inr le ↦ inr (omega (arith, le, at)) ]
apart_at period task release k (j ∷ js) apart (inr later) same = apart_at period task release k js apart.1 later same

-- of two jobs of a task the earlier is released at least a period before the other
pub apart_among : (tasks : List Task) (js : List Job) → AreJobs tasks js → (k j : Job) → Among k js → Among j js → k.task ≡ j.task → k.release < j.release → k.release + period_of tasks k.task ≤ j.release
apart_among tasks [] are k j one two same less = absurd one
apart_among tasks (x ∷ js) are k j (inl one) (inl two) same less =
    let a = alike k x one in let b = alike j x two in
    let p = a.release in let q = b.release in
    absurd (omega (arith, p, q, less))
apart_among tasks (x ∷ js) are k j (inl one) (inr two) same less =
    let a = alike k x one in
    let at = a.release in
    let period = ap (period_of tasks) a.task in
    elim (apart_at (period_of tasks x.task) x.task x.release j js are.1 two (sym same ∙ a.task)) [
      | inl le ↦ omega (arith, le, at, period)
      | inr le ↦ absurd (omega (arith, le, at, less))
    ]
apart_among tasks (x ∷ js) are k j (inr one) (inl two) same less =
    let b = alike j x two in
    let at = b.release in
    let period = ap (period_of tasks) (same ∙ b.task) in
    elim (apart_at (period_of tasks x.task) x.task x.release k js are.1 one (same ∙ b.task)) [
      | inl le ↦ absurd (omega (arith, le, at, less))
      | inr le ↦ omega (arith, le, at, period)
    ]
apart_among tasks (x ∷ js) are k j (inr one) (inr two) same less = apart_among tasks js are.2 k j one two same less
