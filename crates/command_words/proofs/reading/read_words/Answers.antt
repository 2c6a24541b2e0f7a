use Rattle.std.proofs.Common.{◌≡◌, IfOk, Option, Some, option_map, string_bytes, refl, subst}
use Rattle.command_words.specs.Held.{request_of}
use Rattle.command_words.specs.Requests.{Request}
use Rattle.command_words.proofs.Verbs.{asks_command}
use Rattle.command_words.proofs.reading.read_words.Goals as goal

pub returns-in-Some-verb_of : goal.returns-in-Some-verb_of
returns-in-Some-verb_of c =
    let verb = c.in-Some-verb_of.verb in
    let same = asks_command string_bytes c.args.words.now c.in-Some.word.now c.as_str.result.now (Some verb) verb c.in-Some.ensures.value c.as_str.ensures.value c.in-Some-verb_of.ensures refl in
    subst (λ (q : Option Request). IfOk c.read.result (λ o. option_map request_of o ≡ q)) same c.read.ensures
