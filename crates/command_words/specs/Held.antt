-- A request as the program holds it.
use Rattle.std.specs.Prelude.{Option, option_map}
use Rattle.std.specs.Borrow.{Bor}
use Rattle.command_words.specs.declared.request.CompileRequest.{CompileRequest as HeldCompileRequest}
use Rattle.command_words.specs.declared.request.CheckRequest.{CheckRequest as HeldCheckRequest}
use Rattle.command_words.specs.declared.request.RunRequest.{RunRequest as HeldRunRequest}
use Rattle.command_words.specs.declared.request.EvalRequest.{EvalRequest as HeldEvalRequest}
use Rattle.command_words.specs.declared.request.ReportRequest.{ReportRequest as HeldReportRequest}
use Rattle.command_words.specs.declared.request.MakeRequest.{MakeRequest as HeldMakeRequest}
use Rattle.command_words.specs.declared.request.RespondRequest.{RespondRequest as HeldRespondRequest}
use Rattle.command_words.specs.declared.request.Request.{Request as HeldRequest}
use Rattle.command_words.specs.declared.request.Request.TheVariants as held
use Rattle.command_words.specs.Requests.{Name, CompileRequest, CheckRequest, RunRequest, EvalRequest, ReportRequest, MakeRequest, RespondRequest}
use Rattle.command_words.specs.Requests.{Request, Compile, Check, Run, Eval, Report, Make, Respond}

-- the name of a table
abbrev pub table_name : Option (Bor Name) → Option Name
table_name = option_map (λ s. s.now)

abbrev pub compile_request : HeldCompileRequest → CompileRequest
compile_request r = record {
  source = r.source.now;
  image = r.image.now;
  report = r.report.now;
  spm = r.spm;
  unroll = r.unroll;
  inline = r.inline;
  table = table_name r.table;
  derive = r.derive;
}

abbrev pub check_request : HeldCheckRequest → CheckRequest
check_request r = record { image = r.image.now; report = r.report.now; table = table_name r.table }

abbrev pub run_request : HeldRunRequest → RunRequest
run_request r = record {
  image = r.image.now;
  input = r.input.now;
  output = r.output.now;
  limit = r.limit;
  table = table_name r.table;
}

abbrev pub eval_request : HeldEvalRequest → EvalRequest
eval_request r = record { source = r.source.now; input = r.input.now; output = r.output.now; derive = r.derive }

abbrev pub report_request : HeldReportRequest → ReportRequest
report_request r = record { report = r.report.now }

abbrev pub make_request : HeldMakeRequest → MakeRequest
make_request r = record { number = r.number; source = r.source.now; image = r.image.now; report = r.report.now }

abbrev pub respond_request : HeldRespondRequest → RespondRequest
respond_request r = record { tasks = r.tasks.now; table = table_name r.table }

abbrev pub request_of : HeldRequest → Request
request_of (held.Compile r) = Compile (compile_request r)
request_of (held.Check r) = Check (check_request r)
request_of (held.Run r) = Run (run_request r)
request_of (held.Eval r) = Eval (eval_request r)
request_of (held.Report r) = Report (report_request r)
request_of (held.Make r) = Make (make_request r)
request_of (held.Respond r) = Respond (respond_request r)
