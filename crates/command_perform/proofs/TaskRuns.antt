-- Tasks of a list, taken one by one, and what is answered of them.
use Rattle.std.proofs.Common.{◌≡◌, ◌⊎◌, ℕ, suc, ◌+◌, ◌<◌, ◌≤◌, arith, refl, sym, ap, ◌∙◌, subst, inl, inr, List, [], ◌∷◌, ◌++◌, length, drop, get_or, Option, Some, None, Result, Ok, Err, true, All, append_assoc, append-nil, drop-cons, add-one}
use Rattle.std.specs.Prelude.{◌&&◌, nat_le, IfOk, IfSome, MatchResult}
use Rattle.std.specs.Str.{IsUtf8}
use Rattle.std.proofs.lemmas.Bool.{and_parts, leb-true}
use Rattle.std.proofs.lemmas.Str.{IsUtf8-from_ascii}
use Rattle.std.proofs.lemmas.Str.Ascii.{IsAscii-from_all}
use Rattle.std.proofs.lemmas.List.{length-drop, nil_from_length}
use Rattle.std.proofs.lemmas.List.Elements.{All-nil, All-cons, All-head, All-tail}
use Rattle.wcc_base.specs.Outside.{Files, StoreState}
use Rattle.wcc_base.specs.declared.limits.Bound.{Bound}
use Rattle.wcc_base.specs.declared.memory.Memory.{Memory as NoMemory}
use Rattle.wcc_base.specs.declared.status.Status.{Status}
use Rattle.wcc_base.specs.declared.status.Status.TheVariants as status
use Rattle.rv_core.specs.Table.{Table}
use Rattle.report_check.specs.declared.verdict.Checked.{Checked}
use Rattle.report_check.specs.Checks.{IsChecked}
use Rattle.response_analysis.specs.declared.task.Task.{Task}
use Rattle.response_analysis.specs.Tasks.{IsTask, AreTasks}
use Rattle.response_analysis.specs.Equation.{AreLeastResponses, IsFirstLate}
use Rattle.response_analysis.specs.Ends.{EndInTime, AreReached}
use Rattle.response_time.specs.declared.entry.Entry.{Entry}
use Rattle.response_time.specs.declared.fault.ListFault.{ListFault}
use Rattle.response_time.specs.declared.fault.ListFault.TheVariants.{Line, Number, Memory}
use Rattle.response_time.specs.Entries.{are_visible, is_file, IsEntry}
use Rattle.response_time.specs.Lists.{IsList, IsFault}
use Rattle.command_words.specs.Requests.{RespondRequest}
use Rattle.command_perform.specs.declared.make.Made.{Made}
use Rattle.command_perform.specs.Words.{Respond}
use Rattle.command_perform.specs.Lines.{response_line}
use Rattle.command_perform.specs.Outputs.{Outputs, outputs_of}
use Rattle.command_perform.specs.Gathering.{Overlong, Gathered, NotRead, NotGathered, reads_counted, OnlyRead}
use Rattle.command_perform.specs.Tables.{Charged, IsUncharged}
use Rattle.command_perform.specs.Ends.{IsEnd, IsRefusal, FailsBy, Fails, MakesIn}
use Rattle.command_perform.specs.Responding.{wanted_list, wanted_task, list_status, RefusesText, RefusesList, AreListed, IsTaskOf, AreTasksOf, RefusesTask, RefusesFirst, OverlongFirst, OverlongListed, OverlongTasks, RefusesListed, response_lines, response_outputs, late_outputs, MakesAnswer, MakesOf, MakesListed}
use Rattle.command_perform.specs.Tasks.{FailsTask, FailsFirst, FailsListed, Taking}
use Rattle.command_perform.proofs.Counts.{gathered_on, refusal_counts}

-- ---- why a step fails

not_read_on : (P Q : Bound → Type 0) → ((which : Bound) → P which → Q which) → (s : Status) → NotRead (Unit {0}) P s → NotRead (Unit {0}) Q s
not_read_on P Q f status.ReadFault n = tt
not_read_on P Q f status.Memory n = tt
not_read_on P Q f (status.Limit which found) n = (n.0, f which n.1, tt)
not_read_on P Q f s n = absurd n

-- what fails for one cause fails for a wider one
fails_on : (P Q : Bound → Type 0) (R T : Status → Type 0) → ((which : Bound) → P which → Q which) → ((s : Status) → R s → T s) → (s : Status) → FailsBy (Unit {0}) P R s → FailsBy (Unit {0}) Q T s
fails_on P Q R T f g s (inl n) = inl (not_read_on P Q f s n)
fails_on P Q R T f g s (inr (inl m)) = inr (inl m)
fails_on P Q R T f g s (inr (inr x)) = inr (inr (x.0, g s x.1))

told_on : (P Q : Files → Type 0) (files : Option Files) → ((fs : Files) → files ≡ Some fs → P fs → Q fs) → IfSome files P → IfSome files Q
told_on P Q None f p = tt
told_on P Q (Some fs) f p = f fs refl p

-- a refusal counts no fault
pub refused_counts : (T : Type 0) (R : Status → Type 0) (s : Status) (n : ℕ) → (s ≡ status.Memory) ⊎ (IsRefusal s × R s) → reads_counted {T = T} n (Err s) ≡ n
refused_counts T R s n (inl m) = subst (λ (t : Status). reads_counted {T = T} n (Err t) ≡ n) (sym m) refl
refused_counts T R s n (inr x) = refusal_counts T s n x.0

-- a step that only read, behind another
pub only_read_on : {T U : Type 0} (old mid new : StoreState) (value : T) (r : Result U Status) → OnlyRead old mid (Ok value) → OnlyRead mid new r → OnlyRead old new r
only_read_on old mid new value r a b = record {
  same = b.same ∙ a.same;
  reads = b.reads ∙ ap (λ n. reads_counted n r) a.reads;
  writes = b.writes ∙ a.writes;
}

-- a refusal behind a step that only read
pub only_refused : {T U : Type 0} (R : Status → Type 0) (old new : StoreState) (value : T) (s : Status) → OnlyRead old new (Ok value) → (s ≡ status.Memory) ⊎ (IsRefusal s × R s) → OnlyRead {T = U} old new (Err s)
only_refused {U = U} R old new value s o r = record {
  same = o.same;
  reads = o.reads ∙ sym (refused_counts U R s old.read_faults r);
  writes = o.writes;
}

-- ---- the list

pub refuses_text : (list : List ℕ) (fault : ListFault) (s : Status) → s ≡ list_status fault → IsFault list fault → (s ≡ status.Memory) ⊎ (IsRefusal s × RefusesText list s)
refuses_text list (Line n) s e f = inr (subst IsRefusal (sym e) tt, record { fault = Line n; fails = f; status_is = e })
refuses_text list (Number n) s e f = inr (subst IsRefusal (sym e) tt, record { fault = Number n; fails = f; status_is = e })
refuses_text list Memory s e f = inl e

pub list_charged : (contents : List (List ℕ)) (list : List ℕ) (costs : Table) (es : List Entry) → Charged contents (list ∷ []) costs → IsList list es → AreListed contents costs es
list_charged contents list costs es c is = record { list = list; tables = c.tables; contents_are = c.contents_are; are_costs = c.are_costs; is_list = is }

pub list_refused : (contents : List (List ℕ)) (list : List ℕ) (costs : Table) (s : Status) → Charged contents (list ∷ []) costs → (s ≡ status.Memory) ⊎ (IsRefusal s × RefusesText list s) → (s ≡ status.Memory) ⊎ (IsRefusal s × RefusesList contents s)
list_refused contents list costs s c (inl memory) = inl memory
list_refused contents list costs s c (inr x) = inr (x.0, subst (λ (k : List (List ℕ)). RefusesList k s) (sym c.contents_are) (inr (costs, c.are_costs, x.1)))

list_behind : (contents : List (List ℕ)) (s : Status) → IsUncharged 1 contents s → RefusesList contents s
list_behind [] s r = absurd r
list_behind (list ∷ tables) s r = inl r

pub list_uncharged : (contents : List (List ℕ)) (s : Status) → (s ≡ status.Memory) ⊎ (IsRefusal s × IsUncharged 1 contents s) → (s ≡ status.Memory) ⊎ (IsRefusal s × RefusesList contents s)
list_uncharged contents s (inl memory) = inl memory
list_uncharged contents s (inr x) = inr (x.0, list_behind contents s x.1)

-- ---- the name of a file is text

visible_small : (bs : List ℕ) → are_visible bs ≡ true → All (λ b. b < 128) bs
visible_small [] e = All-nil (λ b. b < 128)
visible_small (b ∷ bs) e =
    let p = and_parts (nat_le 33 b && nat_le b 126) (are_visible bs) e in
    let q = and_parts (nat_le 33 b) (nat_le b 126) p.0 in
    let most = leb-true b 126 q.1 in
    All-cons (λ b. b < 128) b bs (omega (arith, most)) (visible_small bs p.1)

pub file_is_text : (name : List ℕ) → is_file name ≡ true → IsUtf8 name
file_is_text [] e = absurd cc
file_is_text (b ∷ bs) e = IsUtf8-from_ascii (b ∷ bs) (IsAscii-from_all (b ∷ bs) (visible_small (b ∷ bs) e))

-- ---- one task

pub task_of : (costs : Table) (files : Option Files) (e : Entry) (image report : List ℕ) (checked : Checked) (t : Task) → Gathered (wanted_task e) files (image ∷ report ∷ []) → IsChecked costs image report checked → t.cycles ≡ checked.cycles → t.period ≡ e.period → IsTaskOf costs files e t
task_of costs files e image report checked t g c cycles period = record {
  image = image;
  report = report;
  gathered = g;
  checked = checked;
  is_checked = c;
  cycles_are = cycles;
  period_is = period;
}

-- ---- task after task

-- the tasks that are left
pub left_over : (es : List Entry) (i : ℕ) (e : Entry) → i < length es → e ≡ get_or es i e → drop i es ≡ e ∷ drop (i + 1) es
left_over es i e there is = drop-cons es i e there ∙ ap (λ x. x ∷ drop (suc i) es) (sym is) ∙ ap (λ n. e ∷ drop n es) (sym (add-one i))

pub none_left : (es : List Entry) (i : ℕ) → length es ≤ i → drop i es ≡ []
none_left es i all = nil_from_length (drop i es) (let left = length-drop i es in omega (arith, left, all))

pub taking_begins : (costs : Table) (es : List Entry) (old : StoreState) (ts : List Task) → ts ≡ [] → Taking costs es es old old ts
taking_begins costs es old ts none = subst (λ (xs : List Task). Taking costs es es old old xs) (sym none) (record {
  taken = λ more are. are;
  refuses = λ s r. r;
  overlong = λ which o. o;
  same = refl;
  counts = record { reads = refl; writes = refl };
})

pub taking_more : (costs : Table) (es left : List Entry) (e : Entry) (rest : List Entry) (old now new : StoreState) (ts more : List Task) (t : Task) → left ≡ e ∷ rest → more ≡ ts ++ t ∷ [] → Taking costs es left old now ts → IsTaskOf costs now.files e t → OnlyRead now new (Ok t) → Taking costs es rest old new more
taking_more costs es left e rest old now new ts more t l m k is o =
    subst (λ (xs : List Task). Taking costs es rest old new xs) (sym m) (record {
      taken = λ later are. subst (λ (xs : List Task). AreTasksOf costs old.files es xs) (sym (append_assoc ts (t ∷ []) later)) (h.taken (t ∷ later) (here, are));
      refuses = λ s r. h.refuses s (inr ((t, here), r));
      overlong = λ which x. h.overlong which (told_on (λ fs. OverlongFirst costs fs rest which) (λ fs. OverlongFirst costs fs (e ∷ rest) which) old.files (λ fs told p. inr ((t, subst (λ (f : Option Files). IsTaskOf costs f e t) told here), p)) x);
      same = o.same ∙ h.same;
      counts = gathered_on old now new t h.counts o;
    })
  where
    h : Taking costs es (e ∷ rest) old now ts
    h = subst (λ (xs : List Entry). Taking costs es xs old now ts) l k

    here : IsTaskOf costs old.files e t
    here = subst (λ (f : Option Files). IsTaskOf costs f e t) h.same is

pub taking_fails : (costs : Table) (es left : List Entry) (e : Entry) (rest : List Entry) (old now : StoreState) (ts : List Task) (s : Status) → left ≡ e ∷ rest → Taking costs es left old now ts → FailsTask costs now.files e s → FailsFirst costs old.files es s
taking_fails costs es left e rest old now ts s l k f =
    fails_on
    (λ which. IfSome old.files (λ fs. Overlong (wanted_task e) fs which)) (λ which. IfSome old.files (λ fs. OverlongFirst costs fs es which))
    (RefusesTask costs old.files e) (RefusesFirst costs old.files es)
    (λ which p. h.overlong which (told_on (λ fs. Overlong (wanted_task e) fs which) (λ fs. OverlongFirst costs fs (e ∷ rest) which) old.files (λ fs told o. inl o) p))
    (λ t r. h.refuses t (inl r))
    s (subst (λ (x : Option Files). FailsTask costs x e s) h.same f)
  where
    h : Taking costs es (e ∷ rest) old now ts
    h = subst (λ (xs : List Entry). Taking costs es xs old now ts) l k

pub taking_ends : (costs : Table) (es left : List Entry) (old now : StoreState) (ts : List Task) → left ≡ [] → Taking costs es left old now ts → AreTasksOf costs old.files es ts
taking_ends costs es left old now ts l k =
    let h : Taking costs es [] old now ts = subst (λ (xs : List Entry). Taking costs es xs old now ts) l k in
    subst (λ (xs : List Task). AreTasksOf costs old.files es xs) (append-nil ts) (h.taken [] tt)

pub failed_reads : {T U : Type 0} (costs : Table) (es rest : List Entry) (old now new : StoreState) (ts : List Task) (s : Status) → Taking costs es rest old now ts → OnlyRead {T = T} now new (Err s) → OnlyRead {T = U} old new (Err s)
failed_reads {U = U} costs es rest old now new ts s k o = record {
  same = o.same ∙ k.same;
  reads = o.reads ∙ ap (λ n. reads_counted {T = U} n (Err s)) k.counts.reads;
  writes = o.writes ∙ k.counts.writes;
}

-- ---- tasks with responses

pub as_many : (costs : Table) (files : Option Files) (es : List Entry) (ts : List Task) → AreTasksOf costs files es ts → length es ≡ length ts
as_many costs files [] [] are = refl
as_many costs files [] (t ∷ ts) are = absurd are
as_many costs files (e ∷ es) [] are = absurd are
as_many costs files (e ∷ es) (t ∷ ts) are = ap suc (as_many costs files es ts are.1)

is_task : (costs : Table) (files : Option Files) (e : Entry) (t : Task) → IsEntry e → IsTaskOf costs files e t → IsTask t
is_task costs files e t entry is =
    let cycles = is.cycles_are in
    let reported = is.is_checked.cycles in
    let small = is.is_checked.holds.found.read.is_text.is_report.certificate.cycles in
    let period = is.period_is in
    let positive = entry.positive in
    let short = entry.short in
    record {
      positive = omega (arith, period, positive);
      short = omega (arith, period, short);
      small = omega (arith, cycles, reported, small);
    }

each_task : (costs : Table) (files : Option Files) (es : List Entry) (ts : List Task) → All IsEntry es → AreTasksOf costs files es ts → All IsTask ts
each_task costs files es [] each are = All-nil IsTask
each_task costs files [] (t ∷ ts) each are = absurd are
each_task costs files (e ∷ es) (t ∷ ts) each are = All-cons IsTask t ts (is_task costs files e t (All-head IsEntry e es each) are.0) (each_task costs files es ts (All-tail IsEntry e es each) are.1)

pub are_tasks : (costs : Table) (files : Option Files) (es : List Entry) (ts : List Task) → All IsEntry es → length es ≤ 64 → AreTasksOf costs files es ts → AreTasks ts
are_tasks costs files es ts each few are = record {
  few = (let long = as_many costs files es ts are in omega (arith, long, few));
  each = each_task costs files es ts each are;
}

-- ---- what is answered

pub lines_more : (es : List Entry) (rs : List ℕ) (i : ℕ) (d : Entry) (text more : List ℕ) (whole : List ℕ) → i < length es → length es ≡ length rs → more ≡ text ++ response_line (get_or es i d).name (get_or rs i 0) → text ++ response_lines (drop i es) (drop i rs) ≡ whole → more ++ response_lines (drop (i + 1) es) (drop (i + 1) rs) ≡ whole
lines_more es rs i d text more whole there long m so_far =
    let line = response_line (get_or es i d).name (get_or rs i 0) in
    let left : response_lines (drop i es) (drop i rs) ≡ line ++ response_lines (drop (i + 1) es) (drop (i + 1) rs) =
    rw (drop-cons es i d there, drop-cons rs i 0 (omega (arith, there, long)), add-one i) refl in
    ap (λ t. t ++ response_lines (drop (i + 1) es) (drop (i + 1) rs)) m
    ∙ append_assoc text line (response_lines (drop (i + 1) es) (drop (i + 1) rs))
    ∙ ap (λ t. text ++ t) (sym left)
    ∙ so_far

has_status : (m : Made) (o : Outputs) → outputs_of m ≡ o → IsEnd o.status → IsEnd m.status
has_status m o e i = subst IsEnd (sym (ap (λ (x : Outputs). x.status) e)) i

pub answers_in_time : (es : List Entry) (ts : List Task) (responses : List ℕ) (r : Result Made NoMemory) → IfOk r (λ m. outputs_of m ≡ response_outputs es responses) → AreLeastResponses ts responses → EndInTime ts responses → AreReached ts responses → IfOk r (λ m. IsEnd m.status × MakesAnswer es ts (outputs_of m))
answers_in_time es ts responses (Ok m) e least ends reached = (has_status m (response_outputs es responses) e tt, inl (record { responses = responses; least = least; ends = ends; reached = reached; made_is = e }))
answers_in_time es ts responses (Err x) e least ends reached = tt

pub answers_late : (es : List Entry) (ts : List Task) (task : ℕ) (r : Result Made NoMemory) → IfOk r (λ m. outputs_of m ≡ late_outputs task) → IsFirstLate ts task → IfOk r (λ m. IsEnd m.status × MakesAnswer es ts (outputs_of m))
answers_late es ts task (Ok m) e late = (has_status m (late_outputs task) e tt, inr (record { task = task; late = late; made_is = e }))
answers_late es ts task (Err x) e late = tt

pub makes_of : (costs : Table) (files : Option Files) (es : List Entry) (ts : List Task) (m : Made) → AreTasksOf costs files es ts → IsEnd m.status × MakesAnswer es ts (outputs_of m) → IsEnd m.status × MakesOf costs files es (outputs_of m)
makes_of costs files es ts m are x = (x.0, (ts, are, x.1))

-- ---- the whole command

pub responds_listed : (contents : List (List ℕ)) (costs : Table) (es : List Entry) (files : Option Files) (r : Result Made Status) → AreListed contents costs es
    → MatchResult r (λ m. IsEnd m.status × MakesOf costs files es (outputs_of m)) (FailsFirst costs files es)
    → MatchResult r (λ m. IsEnd m.status × MakesListed contents files (outputs_of m)) (FailsListed contents files)
responds_listed contents costs es files (Ok m) are x = (x.0, (costs, es, are, x.1))
responds_listed contents costs es files (Err s) are x =
    fails_on
    (λ which. IfSome files (λ fs. OverlongFirst costs fs es which)) (λ which. IfSome files (λ fs. OverlongListed contents fs which))
    (RefusesFirst costs files es) (RefusesListed contents files)
    (λ which p. told_on (λ fs. OverlongFirst costs fs es which) (λ fs. OverlongListed contents fs which) files (λ fs told o. (costs, es, are, o)) p)
    (λ t f. inr (costs, es, are, f))
    s x

pub refuses_listed : (contents : List (List ℕ)) (files : Option Files) (s : Status) → (s ≡ status.Memory) ⊎ (IsRefusal s × RefusesList contents s) → FailsListed contents files s
refuses_listed contents files s (inl m) = inr (inl m)
refuses_listed contents files s (inr x) = inr (inr (x.0, inl x.1))

pub responds : (asked : RespondRequest) (contents : List (List ℕ)) (old mid : Option Files) (r : Result Made Status) → Gathered (wanted_list asked) old contents → mid ≡ old
    → MatchResult r (λ m. IsEnd m.status × MakesListed contents mid (outputs_of m)) (FailsListed contents mid)
    → MatchResult r (λ m. IsEnd m.status × MakesIn (Respond asked) old (outputs_of m)) (λ s. Fails (Respond asked) old s)
responds asked contents old mid r g same x = at r (subst (λ (f : Option Files). MatchResult r (λ m. IsEnd m.status × MakesListed contents f (outputs_of m)) (FailsListed contents f)) same x)
  where
    passes : (which : Bound) → IfSome old (λ fs. OverlongListed contents fs which) → IfSome old (λ fs. OverlongTasks asked fs which)
    passes which p = told_on (λ fs. OverlongListed contents fs which) (λ fs. OverlongTasks asked fs which) old (λ fs told o. inr (contents, subst (λ (f : Option Files). Gathered (wanted_list asked) f contents) told g, o)) p

    at : (k : Result Made Status) → MatchResult k (λ m. IsEnd m.status × MakesListed contents old (outputs_of m)) (FailsListed contents old) → MatchResult k (λ m. IsEnd m.status × MakesIn (Respond asked) old (outputs_of m)) (λ s. Fails (Respond asked) old s)
    at (Ok m) y = (y.0, (contents, g, y.1))
    at (Err s) y =
        fails_on (λ which. IfSome old (λ fs. OverlongListed contents fs which)) (λ which. IfSome old (λ fs. OverlongTasks asked fs which))
        (RefusesListed contents old) (λ t. (contents : List (List ℕ)) × Gathered (wanted_list asked) old contents × RefusesListed contents old t)
        passes (λ t f. (contents, g, f)) s y

pub not_listed : (asked : RespondRequest) (files : Option Files) (s : Status) → NotGathered (wanted_list asked) files s → Fails (Respond asked) files s
not_listed asked files s n =
    inl (not_read_on (λ which. IfSome files (λ fs. Overlong (wanted_list asked) fs which)) (λ which. IfSome files (λ fs. OverlongTasks asked fs which)) (λ which p. told_on (λ fs. Overlong (wanted_list asked) fs which) (λ fs. OverlongTasks asked fs which) files (λ fs told o. inl o) p) s n)
