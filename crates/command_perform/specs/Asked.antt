-- What is asked, as the program holds it.
use Rattle.command_words.specs.Held.{compile_request, check_request, run_request, eval_request, report_request, make_request, respond_request}
use Rattle.command_perform.specs.declared.words.Command.{Command as Held}
use Rattle.command_perform.specs.declared.words.Command.TheVariants.{Compile, Check, Run, Eval, Report, Make}
use Rattle.command_perform.specs.declared.words.Asked.{Asked as HeldAsked}
use Rattle.command_perform.specs.declared.words.Asked.TheVariants.{Named, Respond}
use Rattle.command_perform.specs.Words.{Command, Asked}
use Rattle.command_perform.specs.Words.{Compile as AsksCompile, Check as AsksCheck, Run as AsksRun, Eval as AsksEval, Report as AsksReport, Make as AsksMake, Named as AsksNamed, Respond as AsksRespond}

abbrev pub command_of : Held → Command
command_of (Compile r) = AsksCompile (compile_request r)
command_of (Check r) = AsksCheck (check_request r)
command_of (Run r) = AsksRun (run_request r)
command_of (Eval r) = AsksEval (eval_request r)
command_of (Report r) = AsksReport (report_request r)
command_of (Make r) = AsksMake (make_request r)

abbrev pub asked_of : HeldAsked → Asked
asked_of (Named c) = AsksNamed (command_of c)
asked_of (Respond r) = AsksRespond (respond_request r)
