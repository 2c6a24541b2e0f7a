-- What holds of each command, and what words ask by the command that the first one names.
use Rattle.std.proofs.Common.{◌≡◌, ◌∙◌, refl, sym, ap, subst, rules, Bool, true, false, List, [], ◌∷◌, Option, Some, None, map, codes, slice_get}
use Rattle.std.specs.Prelude.{if◌then◌else◌}
use Rattle.std.specs.Str.{bytes_eq}
use Rattle.clap.specs.Words.{Text, app_of, found_of, is_simple_and_free, rows_of}
use Rattle.clap.specs.declared.builder.command.Command.{Command}
use Rattle.clap.specs.declared.parser.matches.ArgMatches.{ArgMatches}
use Rattle.command_words.specs.declared.verb.Verb.{Verb}
use Rattle.command_words.specs.declared.verb.Verb.TheVariants.{Compile, Check, Run, Eval, Report, Make, Respond}
use Rattle.command_words.specs.Requests.{Request}
use Rattle.command_words.specs.Asked.{asked_by, taken}
use Rattle.command_words.specs.Commands.{compile_command, check_command, run_command, eval_command, report_command, make_command, respond_command}
use Rattle.command_words.specs.Asked.{compile_asked, check_asked, run_asked, eval_asked, report_asked, make_asked, respond_asked}
use Rattle.command_words.specs.Matching.{IsMatch}
use Rattle.command_words.specs.Verbs.{AreGivenTo, asked_of, command_of, verb_of}
use Rattle.command_words.proofs.Accepted.{accepted}
use Rattle.command_words.proofs.Laws.{compile_is_free, check_is_free, run_is_free, eval_is_free, report_is_free, make_is_free, respond_is_free, reads_spm, reads_unroll, reads_inline, reads_limit, reads_make}

pub is_free : (v : Verb) → is_simple_and_free (command_of v) ≡ true
is_free Compile = compile_is_free
is_free Check = check_is_free
is_free Run = run_is_free
is_free Eval = eval_is_free
is_free Report = report_is_free
is_free Make = make_is_free
is_free Respond = respond_is_free

-- the parsers took the numbers of a match
pub are_given : (v : Verb) (command : Command) (words : List Text) (m : ArgMatches) → app_of command ≡ command_of v → IsMatch command words m
    → AreGivenTo v (rows_of (found_of m))
are_given Compile command words m is match = (
  (λ t first. accepted command m (codes "spm") t 0 65536 match.parsed (reads_spm command is) first),
  (
    (λ t first. accepted command m (codes "unroll") t 1 64 match.parsed (reads_unroll command is) first),
    (λ t first. accepted command m (codes "inline") t 0 10000 match.parsed (reads_inline command is) first),
  ),
)
are_given Run command words m is match = λ t first. accepted command m (codes "limit") t 0 4611686018427387904 match.parsed (reads_limit command is) first
are_given Make command words m is match = λ t first. accepted command m (codes "N") t 1 100 match.parsed (reads_make command is) first
are_given Check command words m is match = tt
are_given Eval command words m is match = tt
are_given Report command words m is match = tt
are_given Respond command words m is match = tt

-- what words ask of a command, if the first one names one
abbrev asked : Option Verb → List Text → Option Request
asked (Some v) words = taken (command_of v) (asked_of v) words
asked None words = None

by_tests : (compile check run eval report make respond : Bool) (words : List Text)
    → asked (if compile then Some Compile
    else (if check then Some Check
    else (if run then Some Run
    else (if eval then Some Eval
    else (if report then Some Report
    else (if make then Some Make
    else (if respond then Some Respond
    else None))))))) words
    ≡ (if compile then taken compile_command compile_asked words
    else (if check then taken check_command check_asked words
    else (if run then taken run_command run_asked words
    else (if eval then taken eval_command eval_asked words
    else (if report then taken report_command report_asked words
    else (if make then taken make_command make_asked words
    else (if respond then taken respond_command respond_asked words
    else None)))))))
by_tests true check run eval report make respond words = refl
by_tests false true run eval report make respond words = refl
by_tests false false true eval report make respond words = refl
by_tests false false false true report make respond words = refl
by_tests false false false false true make respond words = refl
by_tests false false false false false true respond words = refl
by_tests false false false false false false true words = refl
by_tests false false false false false false false words = refl

by_verb : (w : Text) (ws : List Text) → asked (verb_of w) (w ∷ ws) ≡ asked_by (w ∷ ws)
by_verb w ws =
    by_tests (bytes_eq w (codes "compile")) (bytes_eq w (codes "check")) (bytes_eq w (codes "run")) (bytes_eq w (codes "eval"))
    (bytes_eq w (codes "report")) (bytes_eq w (codes "make")) (bytes_eq w (codes "respond")) (w ∷ ws)

asks : {S : Type 0} (text : S → Text) (words : List S) (first : S) (shown : Text) (o : Option Verb)
    → Some first ≡ slice_get words 0 → shown ≡ text first → o ≡ verb_of shown → asked o (map text words) ≡ asked_by (map text words)
asks text [] first shown o is same named = cc
asks text (x ∷ xs) first shown o is same named =
    let same_first : first ≡ x = grind rules in
    let own : o ≡ verb_of (text x) = named ∙ ap verb_of (same ∙ ap text same_first) in
    subst (λ p. asked p (text x ∷ map text xs) ≡ asked_by (text x ∷ map text xs)) (sym own) (by_verb (text x) (map text xs))

-- the request of the command that the first word names
pub asks_command : {S : Type 0} (text : S → Text) (words : List S) (first : S) (shown : Text) (o : Option Verb) (v : Verb)
    → Some first ≡ slice_get words 0 → shown ≡ text first → o ≡ verb_of shown → o ≡ Some v
    → taken (command_of v) (asked_of v) (map text words) ≡ asked_by (map text words)
asks_command text words first shown o v is same named found = subst (λ p. asked p (map text words) ≡ asked_by (map text words)) found (asks text words first shown o is same named)
