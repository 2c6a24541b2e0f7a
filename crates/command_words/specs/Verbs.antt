-- The commands by the words that name them, with what stands in their files.
use Rattle.std.specs.Prelude.{List, Option, Some, None, codes, if◌then◌else◌, ⊤}
use Rattle.std.specs.Str.{bytes_eq}
use Rattle.clap.specs.Words.{App, Row, Text}
use Rattle.command_words.specs.declared.verb.Verb.{Verb}
use Rattle.command_words.specs.declared.verb.Verb.TheVariants.{Compile, Check, Run, Eval, Report, Make, Respond}
use Rattle.command_words.specs.Commands.{compile_command, check_command, run_command, eval_command, report_command, make_command, respond_command}
use Rattle.command_words.specs.Values.{IsGivenIn}
use Rattle.command_words.specs.Requests.{Request}
use Rattle.command_words.specs.Asked.{compile_asked, check_asked, run_asked, eval_asked, report_asked, make_asked, respond_asked}

abbrev pub verb_of : Text → Option Verb
verb_of w =
    if bytes_eq w (codes "compile") then Some Compile
    else (if bytes_eq w (codes "check") then Some Check
    else (if bytes_eq w (codes "run") then Some Run
    else (if bytes_eq w (codes "eval") then Some Eval
    else (if bytes_eq w (codes "report") then Some Report
    else (if bytes_eq w (codes "make") then Some Make
    else (if bytes_eq w (codes "respond") then Some Respond
    else None))))))

abbrev pub command_of : Verb → App
command_of Compile = compile_command
command_of Check = check_command
command_of Run = run_command
command_of Eval = eval_command
command_of Report = report_command
command_of Make = make_command
command_of Respond = respond_command

abbrev pub asked_of : Verb → List Row → Request
asked_of Compile rows = compile_asked rows
asked_of Check rows = check_asked rows
asked_of Run rows = run_asked rows
asked_of Eval rows = eval_asked rows
asked_of Report rows = report_asked rows
asked_of Make rows = make_asked rows
asked_of Respond rows = respond_asked rows

-- the numbers of the command are in their ranges
abbrev pub AreGivenTo : Verb → List Row → Type 0
AreGivenTo Compile rows = IsGivenIn 0 65536 (codes "spm") rows × (IsGivenIn 1 64 (codes "unroll") rows × IsGivenIn 0 10000 (codes "inline") rows)
AreGivenTo Run rows = IsGivenIn 0 4611686018427387904 (codes "limit") rows
AreGivenTo Make rows = IsGivenIn 1 100 (codes "N") rows
AreGivenTo Check rows = ⊤
AreGivenTo Eval rows = ⊤
AreGivenTo Report rows = ⊤
AreGivenTo Respond rows = ⊤
