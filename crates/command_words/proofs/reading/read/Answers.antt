use Rattle.std.proofs.Common.{◌∙◌, ap, map, string_bytes}
use Rattle.clap.specs.Words.{is_simple_and_free}
use Rattle.command_words.specs.Matching.{IsMatch}
use Rattle.command_words.specs.Verbs.{asked_of, command_of}
use Rattle.command_words.proofs.Taking.{takes, refuses}
use Rattle.command_words.proofs.Verbs.{are_given, is_free}
use Rattle.command_words.proofs.reading.read.Goals as goal

pub matches-requires : goal.matches-requires
matches-requires c = ap is_simple_and_free c.in_ok-command.ensures ∙ is_free c.args.verb

pub request-asked-requires : goal.request-asked-requires
request-asked-requires c =
    let m : IsMatch c.in_ok-command.command (map string_bytes c.args.words.now) c.in-Ok-Some.matches = rw c.in-Ok-Some.field-0-is at c.in-Ok-Some.ensures in
    are_given c.args.verb c.in_ok-command.command (map string_bytes c.args.words.now) c.in-Ok-Some.matches c.in_ok-command.ensures m

pub returns-in-Ok-Some : goal.returns-in-Ok-Some
returns-in-Ok-Some c =
    let m : IsMatch c.in_ok-command.command (map string_bytes c.args.words.now) c.in-Ok-Some.matches = rw c.in-Ok-Some.field-0-is at c.in-Ok-Some.ensures in
    takes c.in_ok-command.command (command_of c.args.verb) (asked_of c.args.verb) (map string_bytes c.args.words.now) c.in-Ok-Some.matches _ _ c.in_ok-command.ensures m c.request-asked.ensures c.distinct.ensures

pub returns-in-Ok-None : goal.returns-in-Ok-None
returns-in-Ok-None c =
    let refused = rw c.in-Ok-None.field-0-is at c.in-Ok-None.ensures in
    refuses c.in_ok-command.command (command_of c.args.verb) (asked_of c.args.verb) (map string_bytes c.args.words.now) c.in_ok-command.ensures refused
