-- The files that words name have different names.
use Rattle.std.proofs.Common.{◌≡◌, Bool, true, false, List, [], ◌∷◌, Option, Some, None, refl, subst}
use Rattle.std.specs.Prelude.{codes, if◌then◌else◌, option_map}
use Rattle.std.specs.Str.{bytes_eq}
use Rattle.std.proofs.lemmas.Option.{none-some, same_Some}
use Rattle.clap.specs.Words.{App, Row, Text, matches_of}
use Rattle.command_words.specs.Asked.{accepts, asked_by as request_by, check_asked, compile_asked, distinct, eval_asked, make_asked, report_asked, respond_asked, run_asked, taken}
use Rattle.command_words.specs.Commands.{check_command, compile_command, eval_command, make_command, report_command, respond_command, run_command}
use Rattle.command_words.specs.Requests.{Request, Compile as AsksCompile, Check as AsksCheck, Run as AsksRun, Eval as AsksEval, Report as AsksReport, Make as AsksMake, Respond as AsksRespond, files_of, has_twins, with_table}
use Rattle.command_perform.specs.Words.{Asked, Command, Named, Compile, Check, Run, Eval, Report, Make, asked, asked_by}

taken_apart : (command : App) (reading : List Row → Request) (words : List Text) (r : Request) → taken command reading words ≡ Some r → has_twins (files_of r) ≡ false
unfolding taken
taken_apart command reading words r h = accepted (accepts command words) h
  where
    apart : (t : Bool) → has_twins (files_of (reading (matches_of command words))) ≡ t → (if t then None else Some (reading (matches_of command words))) ≡ Some r → has_twins (files_of r) ≡ false
    apart true e k = absurd (none-some r k)
    apart false e k = subst (λ x. has_twins (files_of x) ≡ false) (same_Some (reading (matches_of command words)) r k) e

    accepted : (b : Bool) → (if b then distinct (reading (matches_of command words)) else None) ≡ Some r → has_twins (files_of r) ≡ false
    accepted true k = apart (has_twins (files_of (reading (matches_of command words)))) refl k
    accepted false k = absurd (none-some r k)

abbrev Apart : Request → Type 0
Apart r = has_twins (files_of r) ≡ false

either : (b : Bool) (x y : Option Request) (r : Request) (P : Type 0) → (x ≡ Some r → P) → (y ≡ Some r → P) → (if b then x else y) ≡ Some r → P
either true x y r P f g h = f h
either false x y r P f g h = g h

requests_apart : (words : List Text) (r : Request) → request_by words ≡ Some r → has_twins (files_of r) ≡ false
requests_apart [] r h = absurd (none-some r h)
requests_apart (w ∷ ws) r h =
    either (bytes_eq w (codes "compile")) (taken compile_command compile_asked (w ∷ ws)) _ r (Apart r) (taken_apart compile_command compile_asked (w ∷ ws) r)
    (either (bytes_eq w (codes "check")) (taken check_command check_asked (w ∷ ws)) _ r (Apart r) (taken_apart check_command check_asked (w ∷ ws) r)
    (either (bytes_eq w (codes "run")) (taken run_command run_asked (w ∷ ws)) _ r (Apart r) (taken_apart run_command run_asked (w ∷ ws) r)
    (either (bytes_eq w (codes "eval")) (taken eval_command eval_asked (w ∷ ws)) _ r (Apart r) (taken_apart eval_command eval_asked (w ∷ ws) r)
    (either (bytes_eq w (codes "report")) (taken report_command report_asked (w ∷ ws)) _ r (Apart r) (taken_apart report_command report_asked (w ∷ ws) r)
    (either (bytes_eq w (codes "make")) (taken make_command make_asked (w ∷ ws)) _ r (Apart r) (taken_apart make_command make_asked (w ∷ ws) r)
    (either (bytes_eq w (codes "respond")) (taken respond_command respond_asked (w ∷ ws)) None r (Apart r) (taken_apart respond_command respond_asked (w ∷ ws) r) (λ e. absurd (none-some r e))))))))
    h

-- what is written has names of its own: those of the files beside it are others
abbrev pub IsApart : Command → Type 0
IsApart (Compile q) = has_twins (with_table q.table (q.source ∷ q.image ∷ q.report ∷ [])) ≡ false
IsApart (Make q) = has_twins (q.source ∷ q.image ∷ q.report ∷ []) ≡ false
IsApart c = Unit {0}

abbrev asks : Command → Asked
asks c = Named c

same_command : (c d : Command) → asks c ≡ asks d → c ≡ d
same_command c d h = cc

handed : (c d : Command) → IsApart c → asks c ≡ asks d → IsApart d
handed c d apart h = subst IsApart (same_command c d h) apart

asked_apart : (r : Request) (c : Command) → has_twins (files_of r) ≡ false → asked r ≡ Named c → IsApart c
asked_apart (AsksCompile q) c apart h = handed (Compile q) c apart h
asked_apart (AsksCheck q) c apart h = handed (Check q) c tt h
asked_apart (AsksRun q) c apart h = handed (Run q) c tt h
asked_apart (AsksEval q) c apart h = handed (Eval q) c tt h
asked_apart (AsksReport q) c apart h = handed (Report q) c tt h
asked_apart (AsksMake q) c apart h = handed (Make q) c apart h
asked_apart (AsksRespond q) c apart h = absurd (cc)

pub names_apart : (words : List Text) (c : Command) → asked_by words ≡ Some (Named c) → IsApart c
names_apart words c h = of (request_by words) refl h
  where
    of : (o : Option Request) → request_by words ≡ o → option_map asked o ≡ Some (Named c) → IsApart c
    of None e k = absurd (none-some (Named c) k)
    of (Some r) e k = asked_apart r c (requests_apart words r e) (same_Some (asked r) (Named c) k)
