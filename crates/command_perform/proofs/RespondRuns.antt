-- Which lists of tasks leave one answer only, and what it says of runs.
use Rattle.std.proofs.Common.{◌≡◌, ◌⊎◌, ℕ, zero, suc, ◌<◌, ◌≤◌, arith, refl, sym, ap, ◌∙◌, subst, inl, inr, ⊎_elim, List, [], ◌∷◌, length, get_or, drop, Option, Some, None}
use Rattle.std.specs.Prelude.{IsSomeAnd}
use Rattle.wcc_base.specs.Outside.{Files, StoreState, bytes_of}
use Rattle.wcc_base.specs.declared.limits.Bound.{Bound}
use Rattle.wcc_base.specs.declared.status.Status.{Status}
use Rattle.wcc_base.specs.declared.status.Status.TheVariants as status
use Rattle.rv_core.specs.Table.{Table}
use Rattle.rv_core.specs.Runs.{setup, mrun}
use Rattle.elf_image.specs.Loading.{image_of}
use Rattle.code_flow_system.specs.KeptRuns.{KeepsClaims}
use Rattle.report_text.specs.Reports.{Report}
use Rattle.report_laws.proofs.OneReport.{one_report}
use Rattle.report_check.specs.Checks.{IsTextOf, IsAccepted, BoundsRuns}
use Rattle.report_check.proofs.ExclusionLemmas.{never_fails}
use Rattle.response_analysis.specs.declared.task.Task.{Task}
use Rattle.response_analysis.specs.Tasks.{period_of}
use Rattle.response_analysis.specs.Equation.{AreResponses}
use Rattle.response_analysis.specs.Schedule.{Job, AreJobs, ApartFrom}
use Rattle.response_analysis.specs.Ends.{EndInTime}
use Rattle.response_time.specs.declared.entry.Entry.{Entry}
use Rattle.response_time.specs.Lists.{IsList}
use Rattle.response_time.proofs.OneList.{one_list}
use Rattle.response_time.proofs.OneList.{never_fails as list_never_fails}
use Rattle.command_words.specs.Requests.{RespondRequest}
use Rattle.command_perform.specs.Words.{Respond}
use Rattle.command_perform.specs.Outputs.{Outputs}
use Rattle.command_perform.specs.Gathering.{contents_of, Gathered}
use Rattle.command_perform.specs.Tables.{AreCosts}
use Rattle.command_perform.specs.Responding.{wanted_list, wanted_task, RefusesList, AreListed, IsTaskOf, AreTasksOf, RefusesFirst, OverlongFirst, OverlongTasks, RefusesTasks, MakesAnswer, MakesResponses, CanOnlyRespond, CanRespond, entry_at, IsRunOf, AreRunsOf, RunsEndInTime}
use Rattle.command_perform.specs.Promises.{CanEnd}
use Rattle.command_perform.proofs.Charges.{same_costs, no_table_fault}
use Rattle.command_perform.proofs.Succeeding.{fits}
use Rattle.command_perform.proofs.TaskRuns.{as_many}

-- ---- one list, one table

abbrev first_of : List (List ℕ) → List ℕ
first_of contents = get_or contents 0 []

module _ (contents : List (List ℕ)) (c d : Table) (es fs : List Entry) (p : AreListed contents c es) (q : AreListed contents d fs) where
  same_list : p.list ≡ q.list
  same_list = ap first_of (sym p.contents_are ∙ q.contents_are)

  same_tables : p.tables ≡ q.tables
  same_tables = ap (drop 1) (sym p.contents_are ∙ q.contents_are)

  pub listed_costs : c ≡ d
  listed_costs = same_costs p.tables c d p.are_costs (subst (λ ts. AreCosts ts d) (sym same_tables) q.are_costs)

  pub listed_tasks : es ≡ fs
  listed_tasks = one_list p.list es fs p.is_list (subst (λ l. IsList l fs) (sym same_list) q.is_list)

no_refusal : (contents : List (List ℕ)) (c : Table) (es : List Entry) (s : Status) → AreListed contents c es → RefusesList contents s → ⊥
no_refusal contents c es s p r = at (subst (λ k. RefusesList k s) p.contents_are r)
  where
    at : RefusesList (p.list ∷ p.tables) s → ⊥
    at k = ⊎_elim (λ x. no_table_fault p.tables c s p.are_costs x) (λ x. list_never_fails p.list es x.2.fault p.is_list x.2.fails) k

-- ---- reports that hold

accepted : (costs : Table) (image text : List ℕ) (fs : Files) (e : Entry) (t : Task) → IsTaskOf costs (Some fs) e t → image ∷ text ∷ [] ≡ contents_of (wanted_task e) fs → IsAccepted costs image text
accepted costs image text fs e t is same =
    let both : is.image ∷ is.report ∷ [] ≡ image ∷ text ∷ [] = is.gathered.0 ∙ sym same in
    let here : IsAccepted costs is.image is.report = record { report = is.is_checked.report; system = is.is_checked.system; holds = is.is_checked.holds } in
    subst (λ (k : List ℕ). IsAccepted costs k text) (ap first_of both) (subst (λ (k : List ℕ). IsAccepted costs is.image k) (ap (λ l. first_of (drop 1 l)) both) here)

none_refused : (costs : Table) (fs : Files) (es : List Entry) (ts : List Task) (s : Status) → AreTasksOf costs (Some fs) es ts → RefusesFirst costs (Some fs) es s → ⊥
none_refused costs fs [] ts s are r = r
none_refused costs fs (e ∷ es) [] s are r = are
none_refused costs fs (e ∷ es) (t ∷ ts) s are r =
    ⊎_elim (λ x. never_fails costs x.image x.report x.refuses.cause (accepted costs x.image x.report fs e t are.0 x.gathered.0) x.refuses.fails) (λ x. none_refused costs fs es ts s are.1 x.1) r

none_overlong : (costs : Table) (fs : Files) (es : List Entry) (ts : List Task) (which : Bound) → AreTasksOf costs (Some fs) es ts → OverlongFirst costs fs es which → ⊥
none_overlong costs fs [] ts which are o = o
none_overlong costs fs (e ∷ es) [] which are o = are
none_overlong costs fs (e ∷ es) (t ∷ ts) which are o =
    ⊎_elim (λ x. fits (wanted_task e) fs which are.0.gathered.1 x) (λ x. none_overlong costs fs es ts which are.1 x.1) o

-- ---- one task of an entry

one_text : (text : List ℕ) (r k : Report) → IsTextOf text r → IsTextOf text k → r ≡ k
one_text text r k p q = one_report r k p.is_report q.is_report p.typed q.typed p.sums q.sums (sym p.text_is ∙ q.text_is)

-- its report, as the files have it
reported : (costs : Table) (fs : Files) (e : Entry) (t : Task) (is : IsTaskOf costs (Some fs) e t) → IsTextOf (bytes_of fs e.report) is.is_checked.report
reported costs fs e t is = subst (λ (k : List ℕ). IsTextOf k is.is_checked.report) (ap (λ l. first_of (drop 1 l)) is.gathered.0) is.is_checked.holds.found.read.is_text

cycles_in : (costs : Table) (fs : Files) (e : Entry) (t : Task) (is : IsTaskOf costs (Some fs) e t) → t.cycles ≡ is.is_checked.report.cert.cycles
cycles_in costs fs e t is = is.cycles_are ∙ is.is_checked.cycles

abbrev task_with : ℕ → ℕ → Task
task_with cycles period = record { cycles = cycles; period = period }

one_task : (costs : Table) (fs : Files) (e : Entry) (t u : Task) → IsTaskOf costs (Some fs) e t → IsTaskOf costs (Some fs) e u → t ≡ u
one_task costs fs e t u p q =
    let report : p.is_checked.report ≡ q.is_checked.report = one_text (bytes_of fs e.report) p.is_checked.report q.is_checked.report (reported costs fs e t p) (reported costs fs e u q) in
    let cycles : t.cycles ≡ u.cycles = cycles_in costs fs e t p ∙ ap (λ (r : Report). r.cert.cycles) report ∙ sym (cycles_in costs fs e u q) in
    let period : t.period ≡ u.period = p.period_is ∙ sym q.period_is in
    ap (λ n. task_with n t.period) cycles ∙ ap (λ n. task_with u.cycles n) period

same_tasks : (costs : Table) (fs : Files) (es : List Entry) (ts us : List Task) → AreTasksOf costs (Some fs) es ts → AreTasksOf costs (Some fs) es us → ts ≡ us
same_tasks costs fs [] [] [] p q = refl
same_tasks costs fs [] [] (u ∷ us) p q = absurd q
same_tasks costs fs [] (t ∷ ts) us p q = absurd p
same_tasks costs fs (e ∷ es) [] us p q = absurd p
same_tasks costs fs (e ∷ es) (t ∷ ts) [] p q = absurd q
same_tasks costs fs (e ∷ es) (t ∷ ts) (u ∷ us) p q = ap (λ x. x ∷ ts) (one_task costs fs e t u p.0 q.0) ∙ ap (λ xs. u ∷ xs) (same_tasks costs fs es ts us p.1 q.1)

-- ---- the one answer

in_time_done : (es : List Entry) (ts : List Task) (responses : List ℕ) (made : Outputs) → AreResponses ts responses → MakesAnswer es ts made → made.status ≡ status.Done
in_time_done es ts responses made are (inl m) = ap (λ (o : Outputs). o.status) m.made_is
in_time_done es ts responses made are (inr m) = absurd (m.late.late (get_or responses m.task 0) (are.each m.task m.late.there))

module _ (asked : RespondRequest) (fs : Files) (can : CanRespond asked fs) where
  listed_at : (contents : List (List ℕ)) (c : Table) (es : List Entry) → Gathered (wanted_list asked) (Some fs) contents → AreListed contents c es → AreListed (contents_of (wanted_list asked) fs) c es
  listed_at contents c es g p = subst (λ k. AreListed k c es) g.0 p

  costs_are : (contents : List (List ℕ)) (c : Table) (es : List Entry) → Gathered (wanted_list asked) (Some fs) contents → AreListed contents c es → c ≡ can.costs
  costs_are contents c es g p = listed_costs (contents_of (wanted_list asked) fs) c can.costs es can.es (listed_at contents c es g p) can.listed

  tasks_are : (contents : List (List ℕ)) (c : Table) (es : List Entry) → Gathered (wanted_list asked) (Some fs) contents → AreListed contents c es → es ≡ can.es
  tasks_are contents c es g p = listed_tasks (contents_of (wanted_list asked) fs) c can.costs es can.es (listed_at contents c es g p) can.listed

  overlong : (which : Bound) (contents : List (List ℕ)) → Gathered (wanted_list asked) (Some fs) contents → (c : Table) (es : List Entry) → AreListed contents c es → OverlongFirst c fs es which → ⊥
  overlong which contents g c es p o =
      none_overlong can.costs fs can.es can.ts which can.tasks (subst (λ (k : Table). OverlongFirst k fs can.es which) (costs_are contents c es g p) (subst (λ (k : List Entry). OverlongFirst c fs k which) (tasks_are contents c es g p) o))

  fit_all : (which : Bound) → OverlongTasks asked fs which → ⊥
  fit_all which (inl o) = fits (wanted_list asked) fs which can.fit o
  fit_all which (inr x) = overlong which x.0 x.1 x.2.0 x.2.1 x.2.2 x.2.3

  refused : (s : Status) (contents : List (List ℕ)) → Gathered (wanted_list asked) (Some fs) contents → (c : Table) (es : List Entry) → AreListed contents c es → RefusesFirst c (Some fs) es s → ⊥
  refused s contents g c es p r =
      none_refused can.costs fs can.es can.ts s can.tasks (subst (λ (k : Table). RefusesFirst k (Some fs) can.es s) (costs_are contents c es g p) (subst (λ (k : List Entry). RefusesFirst c (Some fs) k s) (tasks_are contents c es g p) r))

  refuse_none : (s : Status) → RefusesTasks asked (Some fs) s → ⊥
  refuse_none s x = ⊎_elim (λ r. no_refusal (contents_of (wanted_list asked) fs) can.costs can.es s can.listed (subst (λ k. RefusesList k s) x.1.0 r)) (λ r. refused s x.0 x.1 r.0 r.1 r.2 r.3) x.2

  makes : (made : Outputs) (contents : List (List ℕ)) → Gathered (wanted_list asked) (Some fs) contents → (c : Table) (es : List Entry) → AreListed contents c es → (ts : List Task) → AreTasksOf c (Some fs) es ts → MakesAnswer es ts made → made.status ≡ status.Done
  makes made contents g c es p ts are m =
      let here : AreTasksOf can.costs (Some fs) can.es ts = subst (λ (k : Table). AreTasksOf k (Some fs) can.es ts) (costs_are contents c es g p) (subst (λ (k : List Entry). AreTasksOf c (Some fs) k ts) (tasks_are contents c es g p) are) in
      let same : ts ≡ can.ts = same_tasks can.costs fs can.es ts can.ts here can.tasks in
      in_time_done es ts can.responses made (subst (λ (k : List Task). AreResponses k can.responses) (sym same) can.in_time) m

  make_one : (made : Outputs) → MakesResponses asked (Some fs) made → made.status ≡ status.Done
  make_one made x = makes made x.0 x.1 x.2.0 x.2.1 x.2.2 x.2.3.0 x.2.3.1 x.2.3.2

  pub respond_only : CanOnlyRespond asked fs status.Done
  respond_only = record { fits = fit_all; refuses = λ s x. absurd (refuse_none s x); makes = make_one }

pub respond_ends : (asked : RespondRequest) (files : Option Files) (old : StoreState) → old.files ≡ files → IsSomeAnd files (λ fs. CanRespond asked fs) → CanEnd (Some (Respond asked)) old status.Done
respond_ends asked None old e c = absurd c
respond_ends asked (Some fs) old e c = rw e (respond_only asked fs c)

-- ---- jobs that are runs

-- the entry and the task at a place
at_place : (costs : Table) (fs : Files) (es : List Entry) (ts : List Task) (i : ℕ) (d : Entry) (u : Task) → AreTasksOf costs (Some fs) es ts → i < length es → IsTaskOf costs (Some fs) (get_or es i d) (get_or ts i u)
at_place costs fs [] ts i d u are lt = absurd (omega (arith, lt))
at_place costs fs (e ∷ es) [] i d u are lt = absurd are
at_place costs fs (e ∷ es) (t ∷ ts) zero d u are lt = are.0
at_place costs fs (e ∷ es) (t ∷ ts) (suc i) d u are lt = at_place costs fs es ts i d u are.1 (omega (arith, lt))

no_more : (costs : Table) (fs : Files) (e : Entry) (t : Task) (cycles : ℕ) → IsTaskOf costs (Some fs) e t → IsRunOf costs fs e cycles → cycles ≤ t.cycles
no_more costs fs e t cycles is r =
    let report : r.report ≡ is.is_checked.report = one_text (bytes_of fs e.report) r.report is.is_checked.report r.is_text (reported costs fs e t is) in
    let image : is.image ≡ bytes_of fs e.image = ap first_of is.gathered.0 in
    let bound = subst (λ (k : List ℕ). BoundsRuns costs (image_of k) is.is_checked.report.claims is.checked.cycles) image is.is_checked.runs in
    let most = bound r.input r.steps (subst (λ (k : Report). KeepsClaims k.claims (mrun (setup (image_of (bytes_of fs e.image)) costs r.input) r.steps)) report r.kept) in
    let own = is.cycles_are in
    let taken = r.cycles_are in
    omega (arith, most, own, taken)

are_jobs : (costs : Table) (fs : Files) (es : List Entry) (ts : List Task) (jobs : List Job) → AreTasksOf costs (Some fs) es ts → AreRunsOf costs fs es jobs → AreJobs ts jobs
are_jobs costs fs es ts [] are runs = tt
are_jobs costs fs es ts (j ∷ js) are runs =
    let d : Entry = record { name = []; period = 0; image = []; report = [] } in
    let u : Task = record { cycles = 0; period = 0 } in
    let is = at_place costs fs es ts j.task d u are runs.0 in
    let period : (entry_at es j.task).period ≡ period_of ts j.task = sym is.period_is in
    (no_more costs fs (entry_at es j.task) (get_or ts j.task u) j.need is runs.1, subst (λ p. ApartFrom p j.task j.release js) period runs.2, are_jobs costs fs es ts js are runs.3)

pub runs_end : (costs : Table) (fs : Files) (es : List Entry) (ts : List Task) (responses : List ℕ) → AreTasksOf costs (Some fs) es ts → EndInTime ts responses → RunsEndInTime costs fs es responses
runs_end costs fs es ts responses are in_time = λ jobs runs i from there. in_time.ends jobs (are_jobs costs fs es ts jobs are runs) i from (let n = as_many costs (Some fs) es ts are in omega (arith, n, there))
