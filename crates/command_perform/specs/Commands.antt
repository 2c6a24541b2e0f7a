-- The commands: which files each reads, what it refuses them for, and what it makes of them.
use Rattle.std.specs.Prelude.{ℕ, false, List, [], ◌∷◌}
use Rattle.wcc_base.specs.declared.limits.Bound.TheVariants as bound
use Rattle.wcc_base.specs.declared.status.Status.{Status}
use Rattle.rv_core.specs.Table.{Table}
use Rattle.command_words.specs.Requests.{RunRequest, limit_of}
use Rattle.report_check.specs.Checks.{IsAccepted}
use Rattle.command_numbered.specs.Text.{numbered_text}
use Rattle.command_perform.specs.Words.{Command, Compile, Check, Run, Eval, Report, Make}
use Rattle.command_perform.specs.Gathering.{Wants}
use Rattle.command_perform.specs.Outputs.{Outputs}
use Rattle.command_perform.specs.Tables.{wanted_table, AreCosts, RefusesWith}
use Rattle.command_perform.specs.Sources.{RefusesProgram}
use Rattle.command_perform.specs.Compiling.{MakesImage}
use Rattle.command_perform.specs.Checking.{RefusesCheck, MakesYes}
use Rattle.command_perform.specs.Running.{Job, RefusesImage, MakesOutput, CanExit}
use Rattle.command_perform.specs.Evaluating.{MakesRun}
use Rattle.command_perform.specs.Reporting.{RefusesReport, MakesSummary}
use Rattle.command_perform.specs.Numbered.{MakesNumbered}

-- the files that are read, in order, each with its limit
abbrev pub wanted_of : Command → Wants
wanted_of (Compile asked) = (asked.source, bound.Source) ∷ wanted_table asked.table
wanted_of (Check asked) = (asked.image, bound.Image) ∷ (asked.report, bound.Report) ∷ wanted_table asked.table
wanted_of (Run asked) = (asked.image, bound.Image) ∷ (asked.input, bound.Input) ∷ wanted_table asked.table
wanted_of (Eval asked) = (asked.source, bound.Source) ∷ (asked.input, bound.Input) ∷ []
wanted_of (Report asked) = (asked.report, bound.Report) ∷ []
wanted_of (Make asked) = []

-- what `run` is asked of these contents, with these costs
abbrev pub job_of : RunRequest → Table → List ℕ → List ℕ → Job
job_of asked costs image input = record { image = image; input = input; costs = costs; cycles = limit_of asked }

-- the table isn't refused, and this holds of the source
abbrev pub IsOfSource : (List ℕ → Type 0) → List (List ℕ) → Type 0
IsOfSource P (source ∷ tables) = (costs : Table) × AreCosts tables costs × P source
IsOfSource P contents = ⊥

-- the table isn't refused, and with its costs the report holds of the image
abbrev pub CanAccept : List (List ℕ) → Type 0
CanAccept (image ∷ report ∷ tables) = (costs : Table) × AreCosts tables costs × IsAccepted costs image report
CanAccept contents = ⊥

-- the table isn't refused, and with its costs the image exits within the limits
abbrev pub CanExitRun : RunRequest → List (List ℕ) → Type 0
CanExitRun asked (image ∷ input ∷ tables) = (costs : Table) × AreCosts tables costs × CanExit (job_of asked costs image input)
CanExitRun asked contents = ⊥

-- these contents are refused with this status
abbrev pub Refuses : Command → List (List ℕ) → Status → Type 0
Refuses (Compile asked) (source ∷ tables) s = RefusesWith tables (λ costs. RefusesProgram asked.derive source s) s
Refuses (Check asked) (image ∷ report ∷ tables) s = RefusesWith tables (λ costs. RefusesCheck costs image report s) s
Refuses (Run asked) (image ∷ input ∷ tables) s = RefusesWith tables (λ costs. RefusesImage image s) s
Refuses (Eval asked) (source ∷ input ∷ []) s = RefusesProgram asked.derive source s
Refuses (Report asked) (report ∷ []) s = RefusesReport report s
Refuses (Make asked) [] s = RefusesProgram false (numbered_text asked.number) s
Refuses command contents s = ⊥

-- of these contents this is made
abbrev pub Makes : Command → List (List ℕ) → Outputs → Type 0
Makes (Compile asked) (source ∷ tables) made = (costs : Table) × AreCosts tables costs × MakesImage asked costs source made
Makes (Check asked) (image ∷ report ∷ tables) made = (costs : Table) × AreCosts tables costs × MakesYes costs image report made
Makes (Run asked) (image ∷ input ∷ tables) made = (costs : Table) × AreCosts tables costs × MakesOutput asked.output (job_of asked costs image input) made
Makes (Eval asked) (source ∷ input ∷ []) made = MakesRun asked source input made
Makes (Report asked) (report ∷ []) made = MakesSummary report made
Makes (Make asked) [] made = MakesNumbered asked made
Makes command contents made = ⊥
