-- Laws over schedules: need falls by at most one a cycle, and by one where the job that is chosen passes the test.
use Rattle.std.proofs.Common.{◌≡◌, ℕ, zero, suc, ◌+◌, ◌<◌, ◌≤◌, arith, ap, inl, inr, List, Option, Some, None, Bool, true}
use Rattle.std.proofs.lemmas.Bool.{cases_eq}
use Rattle.response_analysis.specs.Schedule.{Job, chosen, serve, schedule, need_of}
use Rattle.response_analysis.proofs.Needs.{Among, served_less, served_one, served_falls}
use Rattle.response_analysis.proofs.Turns.{IsReady, IsFirst, IsChoice, chooses}

serve_less : (test : ℕ → ℕ → Bool) (o : Option Job) (js : List Job) → need_of test (serve o js) ≤ need_of test js
serve_less test None js = omega arith
serve_less test (Some k) js = served_less test k js

serve_one : (test : ℕ → ℕ → Bool) (o : Option Job) (js : List Job) → need_of test js ≤ need_of test (serve o js) + 1
serve_one test None js = omega arith
serve_one test (Some k) js = served_one test k js

serve_falls : (test : ℕ → ℕ → Bool) (n : ℕ) (js : List Job) (o : Option Job) → IsChoice n js o → (j : Job) → Among j js → IsReady n j → ((k : Job) → IsFirst n js k → test k.task k.release ≡ true) → need_of test (serve o js) + 1 ≤ need_of test js
serve_falls test n js None none j among r passes = absurd (none j among r)
serve_falls test n js (Some k) f j among r passes = let ready = f.ready in served_falls test k js f.among (passes k f) ready.needs

-- where some job is ready, and the first one passes the test, need falls
pub cycle_falls : (test : ℕ → ℕ → Bool) (jobs : List Job) (n : ℕ) (j : Job) → Among j (schedule jobs n) → IsReady n j → ((k : Job) → IsFirst n (schedule jobs n) k → test k.task k.release ≡ true) →
    need_of test (schedule jobs (suc n)) + 1 ≤ need_of test (schedule jobs n)
cycle_falls test jobs n j among r passes = serve_falls test n (schedule jobs n) (chosen n (schedule jobs n)) (chooses n (schedule jobs n)) j among r passes

-- need never grows
pub need_fades : (test : ℕ → ℕ → Bool) (jobs : List Job) (n t : ℕ) → t ≤ n → need_of test (schedule jobs n) ≤ need_of test (schedule jobs t)
need_fades test jobs zero t h =
    let start : t ≡ 0 = omega (arith, h) in
    let same = ap (λ m. need_of test (schedule jobs m)) start in
    omega (arith, same)
need_fades test jobs (suc n) t h = elim (cases_eq t (suc n)) [
  | inl now ↦ let same = ap (λ m. need_of test (schedule jobs m)) now in omega (arith, same)
  | inr other ↦
      let before = need_fades test jobs n t (omega (arith, h, other)) in
      let step = serve_less test (chosen n (schedule jobs n)) (schedule jobs n) in
      omega (arith, before, step)
]

-- what falls in each of so many cycles
pub need_falls : (test : ℕ → ℕ → Bool) (jobs : List Job) (t n : ℕ) → ((m : ℕ) → t ≤ m → m < t + n → need_of test (schedule jobs (suc m)) + 1 ≤ need_of test (schedule jobs m)) →
    need_of test (schedule jobs (t + n)) + n ≤ need_of test (schedule jobs t)
need_falls test jobs t zero each =
    let here : t + 0 ≡ t = omega arith in
    let same = ap (λ m. need_of test (schedule jobs m)) here in
    omega (arith, same)
need_falls test jobs t (suc n) each =
    let next : t + suc n ≡ suc (t + n) = omega arith in
    let same = ap (λ m. need_of test (schedule jobs m)) next in
    let last = each (t + n) (omega arith) (omega arith) in
    let before = need_falls test jobs t n (λ m from to. each m from (omega (arith, to))) in
    omega (arith, same, last, before)

-- the processor serves at most one job a cycle
pub need_stays : (test : ℕ → ℕ → Bool) (jobs : List Job) (n : ℕ) → need_of test jobs ≤ need_of test (schedule jobs n) + n
need_stays test jobs zero = omega arith
need_stays test jobs (suc n) =
    let before = need_stays test jobs n in
    let step = serve_one test (chosen n (schedule jobs n)) (schedule jobs n) in
    omega (arith, before, step)
