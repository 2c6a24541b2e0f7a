-- What words ask.
use Rattle.std.specs.Prelude.{Bool, true, false, List, [], ◌∷◌, Option, Some, None, codes, if◌then◌else◌}
use Rattle.std.specs.Str.{bytes_eq}
use Rattle.clap.specs.Words.{App, Kinds, Row, Text, fault_of, first_of, matches_of}
use Rattle.command_words.specs.Commands.{compile_command, check_command, run_command, eval_command, report_command, make_command, respond_command}
use Rattle.command_words.specs.Values.{name_of, number_of, placed_number_of, flag_of}
use Rattle.command_words.specs.Requests.{Request, Compile, Check, Run, Eval, Report, Make, Respond, files_of, has_twins}

-- what the matches of each command ask
abbrev pub compile_asked : List Row → Request
compile_asked rows = Compile (record {
  source = name_of (codes "SOURCE") rows;
  image = name_of (codes "IMAGE") rows;
  report = name_of (codes "REPORT") rows;
  spm = number_of (codes "spm") rows;
  unroll = number_of (codes "unroll") rows;
  inline = number_of (codes "inline") rows;
  table = first_of (codes "table") rows;
  derive = flag_of (codes "derive") rows;
})

abbrev pub check_asked : List Row → Request
check_asked rows = Check (record {
  image = name_of (codes "IMAGE") rows;
  report = name_of (codes "REPORT") rows;
  table = first_of (codes "table") rows;
})

abbrev pub run_asked : List Row → Request
run_asked rows = Run (record {
  image = name_of (codes "IMAGE") rows;
  input = name_of (codes "INPUT") rows;
  output = name_of (codes "OUTPUT") rows;
  limit = number_of (codes "limit") rows;
  table = first_of (codes "table") rows;
})

abbrev pub eval_asked : List Row → Request
eval_asked rows = Eval (record {
  source = name_of (codes "SOURCE") rows;
  input = name_of (codes "INPUT") rows;
  output = name_of (codes "OUTPUT") rows;
  derive = flag_of (codes "derive") rows;
})

abbrev pub report_asked : List Row → Request
report_asked rows = Report (record { report = name_of (codes "REPORT") rows })

abbrev pub make_asked : List Row → Request
make_asked rows = Make (record {
  number = placed_number_of (codes "N") 1 rows;
  source = name_of (codes "SOURCE") rows;
  image = name_of (codes "IMAGE") rows;
  report = name_of (codes "REPORT") rows;
})

abbrev pub respond_asked : List Row → Request
respond_asked rows = Respond (record {
  tasks = name_of (codes "TASKS") rows;
  table = first_of (codes "table") rows;
})

abbrev pub is_empty : Kinds → Bool
is_empty [] = true
is_empty (k ∷ ks) = false

-- the definition of the command refuses nothing in the words, of which the first one stands for the program's name
abbrev pub accepts : App → List Text → Bool
accepts command words = is_empty (fault_of command words)

-- the request, where no two of its files have one name
abbrev pub distinct : Request → Option Request
distinct request = if has_twins (files_of request) then None else Some request

-- what words ask of a command with this definition, which reads its matches so
unfoldable pub taken : App → (List Row → Request) → List Text → Option Request
taken command reading words = if accepts command words then distinct (reading (matches_of command words)) else None

-- what words ask, if they ask for a command
abbrev pub asked_by : List Text → Option Request
asked_by [] = None
asked_by (w ∷ ws) =
    if bytes_eq w (codes "compile") then taken compile_command compile_asked (w ∷ ws)
    else (if bytes_eq w (codes "check") then taken check_command check_asked (w ∷ ws)
    else (if bytes_eq w (codes "run") then taken run_command run_asked (w ∷ ws)
    else (if bytes_eq w (codes "eval") then taken eval_command eval_asked (w ∷ ws)
    else (if bytes_eq w (codes "report") then taken report_command report_asked (w ∷ ws)
    else (if bytes_eq w (codes "make") then taken make_command make_asked (w ∷ ws)
    else (if bytes_eq w (codes "respond") then taken respond_command respond_asked (w ∷ ws)
    else None))))))
