-- What the words of a command line ask of this program: what `command_words` reads in them.
use Rattle.std.specs.Prelude.{◌≤◌, ℕ, List, Option, Some, option_map}
use Rattle.command_words.specs.Requests.{Request, CompileRequest, CheckRequest, RunRequest, EvalRequest, ReportRequest, MakeRequest, RespondRequest}
use Rattle.command_words.specs.Requests.{Compile as AsksCompile, Check as AsksCheck, Run as AsksRun, Eval as AsksEval, Report as AsksReport, Make as AsksMake, Respond as AsksRespond}
use Rattle.command_words.specs.Asked.{asked_by as request_by}

-- a command whose files the words name
pub data Command : Type 0 where
  Compile : (asked : CompileRequest) → Command
  Check : (asked : CheckRequest) → Command
  Run : (asked : RunRequest) → Command
  Eval : (asked : EvalRequest) → Command
  Report : (asked : ReportRequest) → Command
  Make : (asked : MakeRequest) → Command

-- what is asked: such a command, or the responses of the tasks of a list, whose lines name files of their own
pub data Asked : Type 0 where
  Named : (command : Command) → Asked
  Respond : (asked : RespondRequest) → Asked

-- what a request asks
abbrev pub asked : Request → Asked
asked (AsksCompile r) = Named (Compile r)
asked (AsksCheck r) = Named (Check r)
asked (AsksRun r) = Named (Run r)
asked (AsksEval r) = Named (Eval r)
asked (AsksReport r) = Named (Report r)
asked (AsksMake r) = Named (Make r)
asked (AsksRespond r) = Respond r

-- what the words ask, if they ask for a command
abbrev pub asked_by : List (List ℕ) → Option Asked
asked_by words = option_map asked (request_by words)

-- the numbers that are asked for are in their ranges
abbrev pub IsInRange : Option Asked → Type 0
IsInRange (Some (Named (Make r))) = (1 ≤ r.number) × (r.number ≤ 100)
IsInRange asked = Unit {0}
