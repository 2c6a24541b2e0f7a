-- What `respond` makes of a list of tasks: the longest response of each, or the first task that is late; and what it refuses before.
use Rattle.std.specs.Prelude.{◌≡◌, ◌⊎◌, ℕ, suc, ◌+◌, ◌<◌, ◌≤◌, List, [], ◌∷◌, ◌++◌, length, slice_index, slice_index_or, Option, Some}
use Rattle.wcc_base.specs.Outside.{Files, bytes_of}
use Rattle.wcc_base.specs.declared.limits.Bound.{Bound}
use Rattle.wcc_base.specs.declared.limits.Bound.TheVariants as bound
use Rattle.wcc_base.specs.declared.status.Status.{Status}
use Rattle.wcc_base.specs.declared.status.Status.TheVariants as status
use Rattle.rv_core.specs.Table.{Table}
use Rattle.rv_core.specs.Runs.{setup, mrun}
use Rattle.elf_image.specs.Loading.{image_of}
use Rattle.code_flow_system.specs.KeptRuns.{KeepsClaims}
use Rattle.report_text.specs.Reports.{Report}
use Rattle.report_check.specs.declared.verdict.Checked.{Checked}
use Rattle.report_check.specs.Checks.{IsTextOf, IsChecked}
use Rattle.response_analysis.specs.declared.task.Task.{Task}
use Rattle.response_analysis.specs.Equation.{AreResponses, AreLeastResponses, IsFirstLate}
use Rattle.response_analysis.specs.Schedule.{Job, IsFinishedAt, ApartFrom}
use Rattle.response_analysis.specs.Ends.{EndInTime, AreReached}
use Rattle.response_time.specs.declared.entry.Entry.{Entry}
use Rattle.response_time.specs.declared.fault.ListFault.{ListFault}
use Rattle.response_time.specs.declared.fault.ListFault.TheVariants.{Line, Number, Memory}
use Rattle.response_time.specs.Lists.{IsList, FailsAt}
use Rattle.command_words.specs.Requests.{RespondRequest}
use Rattle.command_perform.specs.Lines.{response_line, late_line}
use Rattle.command_perform.specs.Outputs.{Outputs}
use Rattle.command_perform.specs.Gathering.{Wants, contents_of, Fit, Overlong, Gathered}
use Rattle.command_perform.specs.Tables.{wanted_table, AreCosts, RefusesWith}
use Rattle.command_perform.specs.Checking.{RefusesCheck}

-- the list is read first, and behind it the table of costs, where one is named
abbrev pub wanted_list : RespondRequest → Wants
wanted_list asked = (asked.tasks, bound.Tasks) ∷ wanted_table asked.table

-- then the image and the report of one task after the other
abbrev pub wanted_task : Entry → Wants
wanted_task e = (e.image, bound.Image) ∷ (e.report, bound.Report) ∷ []

-- the status of a list that is refused
abbrev pub list_status : ListFault → Status
list_status (Line number) = status.Refused 12 1 number
list_status (Number line) = status.Refused 12 2 line
list_status Memory = status.Memory

-- the text is no list of tasks, and this line is the first that fails
pub record RefusesText (list : List ℕ) (s : Status) : Type 0 where
  pub fault : ListFault
  pub fails : FailsAt list fault
  pub status_is : s ≡ list_status fault

abbrev pub RefusesList : List (List ℕ) → Status → Type 0
RefusesList [] s = ⊥
RefusesList (list ∷ tables) s = RefusesWith tables (λ costs. RefusesText list s) s

-- the list says these tasks, and the table these costs
pub record AreListed (contents : List (List ℕ)) (costs : Table) (es : List Entry) : Type 0 where
  pub list : List ℕ
  pub tables : List (List ℕ)
  pub contents_are : contents ≡ list ∷ tables
  pub are_costs : AreCosts tables costs
  pub is_list : IsList list es

-- the files of a task were read, its report holds of its image, and it has the report's cycles and its own period
pub record IsTaskOf (costs : Table) (files : Option Files) (e : Entry) (t : Task) : Type 0 where
  pub image : List ℕ
  pub report : List ℕ
  pub gathered : Gathered (wanted_task e) files (image ∷ report ∷ [])
  pub checked : Checked
  pub is_checked : IsChecked costs image report checked
  pub cycles_are : t.cycles ≡ checked.cycles
  pub period_is : t.period ≡ e.period

abbrev pub AreTasksOf : Table → Option Files → List Entry → List Task → Type 0
AreTasksOf costs files [] [] = Unit {0}
AreTasksOf costs files (e ∷ es) (t ∷ ts) = IsTaskOf costs files e t × AreTasksOf costs files es ts
AreTasksOf costs files es ts = ⊥

-- the files of a task were read, and with these costs this fails first
pub record RefusesTask (costs : Table) (files : Option Files) (e : Entry) (s : Status) : Type 0 where
  pub image : List ℕ
  pub report : List ℕ
  pub gathered : Gathered (wanted_task e) files (image ∷ report ∷ [])
  pub refuses : RefusesCheck costs image report s

-- the first task whose report fails: the reports of those before it hold
abbrev pub RefusesFirst : Table → Option Files → List Entry → Status → Type 0
RefusesFirst costs files [] s = ⊥
RefusesFirst costs files (e ∷ es) s = RefusesTask costs files e s ⊎ (((t : Task) × IsTaskOf costs files e t) × RefusesFirst costs files es s)

-- the first task of which a file passes a limit: the reports of those before it hold
abbrev pub OverlongFirst : Table → Files → List Entry → Bound → Type 0
OverlongFirst costs fs [] which = ⊥
OverlongFirst costs fs (e ∷ es) which = Overlong (wanted_task e) fs which ⊎ (((t : Task) × IsTaskOf costs (Some fs) e t) × OverlongFirst costs fs es which)

-- the table or the list is refused, or else a report fails
abbrev pub RefusesListed : List (List ℕ) → Option Files → Status → Type 0
RefusesListed contents files s = RefusesList contents s ⊎ ((costs : Table) × (es : List Entry) × AreListed contents costs es × RefusesFirst costs files es s)

abbrev pub RefusesTasks : RespondRequest → Option Files → Status → Type 0
RefusesTasks asked files s = (contents : List (List ℕ)) × Gathered (wanted_list asked) files contents × RefusesListed contents files s

-- the list or the table passes this limit, or else a file of a task
abbrev pub OverlongListed : List (List ℕ) → Files → Bound → Type 0
OverlongListed contents fs which = (costs : Table) × (es : List Entry) × AreListed contents costs es × OverlongFirst costs fs es which

abbrev pub OverlongTasks : RespondRequest → Files → Bound → Type 0
OverlongTasks asked fs which = Overlong (wanted_list asked) fs which ⊎ ((contents : List (List ℕ)) × Gathered (wanted_list asked) (Some fs) contents × OverlongListed contents fs which)

-- one line for each task
abbrev pub response_lines : List Entry → List ℕ → List ℕ
response_lines [] responses = []
response_lines (e ∷ es) [] = []
response_lines (e ∷ es) (r ∷ rs) = response_line e.name r ++ response_lines es rs

abbrev pub response_outputs : List Entry → List ℕ → Outputs
response_outputs es responses = record { status = status.Done; files = []; lines = response_lines es responses }

abbrev pub late_outputs : ℕ → Outputs
late_outputs task = record { status = status.Stopped 7 0 (suc task) 0; files = []; lines = late_line (suc task) }

-- no task is late: the printed numbers are the least responses, in every schedule each job is finished by then, and where all tasks are released together it may take as long
pub record MakesInTime (es : List Entry) (ts : List Task) (made : Outputs) : Type 0 where
  pub responses : List ℕ
  pub least : AreLeastResponses ts responses
  pub ends : EndInTime ts responses
  pub reached : AreReached ts responses
  pub made_is : made ≡ response_outputs es responses

-- a task is late, and none before it
pub record MakesLate (ts : List Task) (made : Outputs) : Type 0 where
  pub task : ℕ
  pub late : IsFirstLate ts task
  pub made_is : made ≡ late_outputs task

abbrev pub MakesAnswer : List Entry → List Task → Outputs → Type 0
MakesAnswer es ts made = MakesInTime es ts made ⊎ MakesLate ts made

-- the report of each task of the list holds of its image, and this is made of their cycles and periods
abbrev pub MakesOf : Table → Option Files → List Entry → Outputs → Type 0
MakesOf costs files es made = (ts : List Task) × AreTasksOf costs files es ts × MakesAnswer es ts made

abbrev pub MakesListed : List (List ℕ) → Option Files → Outputs → Type 0
MakesListed contents files made = (costs : Table) × (es : List Entry) × AreListed contents costs es × MakesOf costs files es made

abbrev pub MakesResponses : RespondRequest → Option Files → Outputs → Type 0
MakesResponses asked files made = (contents : List (List ℕ)) × Gathered (wanted_list asked) files contents × MakesListed contents files made

-- no file that is read passes its limit, and whatever is refused or made has this status
pub record CanOnlyRespond (asked : RespondRequest) (fs : Files) (s : Status) : Type 0 where
  pub fits : (which : Bound) → OverlongTasks asked fs which → ⊥
  pub refuses : (t : Status) → RefusesTasks asked (Some fs) t → t ≡ s
  pub makes : (made : Outputs) → MakesResponses asked (Some fs) made → made.status ≡ s

-- the files that are read are within their limits, the table and the list aren't refused, each report holds, and no task is late
pub record CanRespond (asked : RespondRequest) (fs : Files) : Type 0 where
  pub fit : Fit (wanted_list asked) fs
  pub costs : Table
  pub es : List Entry
  pub listed : AreListed (contents_of (wanted_list asked) fs) costs es
  pub ts : List Task
  pub tasks : AreTasksOf costs (Some fs) es ts
  pub responses : List ℕ
  pub in_time : AreResponses ts responses

abbrev pub entry_at : List Entry → ℕ → Entry
entry_at es i = slice_index_or es i (record { name = []; period = 0; image = []; report = [] })

-- a run of a task's image that exits and keeps the claims of its report takes so many cycles
pub record IsRunOf (costs : Table) (fs : Files) (e : Entry) (cycles : ℕ) : Type 0 where
  pub report : Report
  pub is_text : IsTextOf (bytes_of fs e.report) report
  pub input : List ℕ
  pub steps : ℕ
  pub kept : KeepsClaims report.claims (mrun (setup (image_of (bytes_of fs e.image)) costs input) steps)
  pub cycles_are : cycles ≡ (mrun (setup (image_of (bytes_of fs e.image)) costs input) steps).state.cycles

-- each job is such a run of its task, and two jobs of one task are released at least its period apart
abbrev pub AreRunsOf : Table → Files → List Entry → List Job → Type 0
AreRunsOf costs fs es [] = Unit {0}
AreRunsOf costs fs es (j ∷ js) = (j.task < length es) × IsRunOf costs fs (entry_at es j.task) j.need × ApartFrom (entry_at es j.task).period j.task j.release js × AreRunsOf costs fs es js

-- then each is finished at most the response of its task after its release
abbrev pub RunsEndInTime : Table → Files → List Entry → List ℕ → Type 0
RunsEndInTime costs fs es responses = (jobs : List Job) → AreRunsOf costs fs es jobs → (i from : ℕ) → i < length es → (n : ℕ) × (n ≤ from + slice_index responses i) × IsFinishedAt jobs i from n
