-- The definitions of the commands, computed: they are simple, no argument has a rule on another, and their numbers are read by their parsers.
use Rattle.std.proofs.Common.{◌≡◌, true, false, refl, codes}
use Rattle.std.proofs.lemmas.Bool.{false≢true}
use Rattle.clap.specs.Words.{app_of, is_simple_and_free}
use Rattle.clap.specs.declared.builder.command.Command.{Command}
use Rattle.clap.specs.declared.builder.value_parser.ValueParser.TheVariants as parser
use Rattle.clap.proofs.OnLiterals.{clap_on_literals}
use Rattle.command_words.specs.Commands.{compile_command, check_command, run_command, eval_command, report_command, make_command, respond_command}
use Rattle.command_words.proofs.Accepted.{Reads, reads_from}

pub compile_is_free : is_simple_and_free compile_command ≡ true
unfolding clap_on_literals
compile_is_free = refl

pub check_is_free : is_simple_and_free check_command ≡ true
unfolding clap_on_literals
check_is_free = refl

pub run_is_free : is_simple_and_free run_command ≡ true
unfolding clap_on_literals
run_is_free = refl

pub eval_is_free : is_simple_and_free eval_command ≡ true
unfolding clap_on_literals
eval_is_free = refl

pub report_is_free : is_simple_and_free report_command ≡ true
unfolding clap_on_literals
report_is_free = refl

pub make_is_free : is_simple_and_free make_command ≡ true
unfolding clap_on_literals
make_is_free = refl

pub respond_is_free : is_simple_and_free respond_command ≡ true
unfolding clap_on_literals
respond_is_free = refl

-- a rule of another argument says nothing of this one
skip : {A : Type 0} → false ≡ true → A
skip h = absurd (false≢true h)

pub reads_spm : (c : Command) → app_of c ≡ compile_command → Reads c (codes "spm") (parser.Unsigned 0 65536)
reads_spm c is = reads_from c compile_command (codes "spm") (parser.Unsigned 0 65536) is
    (skip, (skip, (skip, ((λ _. refl), (skip, (skip, (skip, (skip, tt))))))))
    refl refl (λ e. cc) refl refl

pub reads_unroll : (c : Command) → app_of c ≡ compile_command → Reads c (codes "unroll") (parser.Unsigned 1 64)
reads_unroll c is = reads_from c compile_command (codes "unroll") (parser.Unsigned 1 64) is
    (skip, (skip, (skip, (skip, ((λ _. refl), (skip, (skip, (skip, tt))))))))
    refl refl (λ e. cc) refl refl

pub reads_inline : (c : Command) → app_of c ≡ compile_command → Reads c (codes "inline") (parser.Unsigned 0 10000)
reads_inline c is = reads_from c compile_command (codes "inline") (parser.Unsigned 0 10000) is
    (skip, (skip, (skip, (skip, (skip, ((λ _. refl), (skip, (skip, tt))))))))
    refl refl (λ e. cc) refl refl

pub reads_limit : (c : Command) → app_of c ≡ run_command → Reads c (codes "limit") (parser.Unsigned 0 4611686018427387904)
reads_limit c is = reads_from c run_command (codes "limit") (parser.Unsigned 0 4611686018427387904) is
    (skip, (skip, (skip, ((λ _. refl), (skip, tt)))))
    refl refl (λ e. cc) refl refl

pub reads_make : (c : Command) → app_of c ≡ make_command → Reads c (codes "N") (parser.Unsigned 1 100)
reads_make c is = reads_from c make_command (codes "N") (parser.Unsigned 1 100) is
    ((λ _. refl), (skip, (skip, (skip, tt))))
    refl refl (λ e. cc) refl refl
