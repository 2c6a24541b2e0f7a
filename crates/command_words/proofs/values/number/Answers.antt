use Rattle.std.proofs.Common.{◌≡◌, ◌≤◌, ap, subst, option_map, rules}
use Rattle.clap.specs.Words.{found_of}
use Rattle.command_words.proofs.Getters.{first_of-read, number_of-read, read_in, never_unread}
use Rattle.command_words.proofs.values.number.Goals as goal

pub returns-in-Ok-clause-value : goal.returns-in-Ok-clause-value
returns-in-Ok-clause-value c =
    let first = first_of-read (found_of c.args.matches.now) c.args.id.now c.get_str.result _ c.get_str.ensures (ap (option_map (λ s. s.now)) c.in-Some.is) in
    number_of-read (found_of c.args.matches.now) c.args.id.now c.in-Some.text.now _ c.parse.result first c.parse.ensures.value.0 c.in-Ok.is

pub returns-in-Ok-clause-least : goal.returns-in-Ok-clause-least
returns-in-Ok-clause-least c = λ x is.
    let first = first_of-read (found_of c.args.matches.now) c.args.id.now c.get_str.result _ c.get_str.ensures (ap (option_map (λ s. s.now)) c.in-Some.is) in
    let same : c.in-Ok.number ≡ x = grind rules in
    subst (λ n. c.args.least ≤ n) same
    (read_in c.in-Some.text.now c.args.least c.args.most _ c.parse.result (c.requires c.in-Some.text.now first) c.parse.ensures.value.0 c.in-Ok.is).0

pub returns-in-Ok-clause-most : goal.returns-in-Ok-clause-most
returns-in-Ok-clause-most c = λ x is.
    let first = first_of-read (found_of c.args.matches.now) c.args.id.now c.get_str.result _ c.get_str.ensures (ap (option_map (λ s. s.now)) c.in-Some.is) in
    let same : c.in-Ok.number ≡ x = grind rules in
    subst (λ n. n ≤ c.args.most) same
    (read_in c.in-Some.text.now c.args.least c.args.most _ c.parse.result (c.requires c.in-Some.text.now first) c.parse.ensures.value.0 c.in-Ok.is).1

pub returns-in-Err-clause-value : goal.returns-in-Err-clause-value
returns-in-Err-clause-value c =
    let first = first_of-read (found_of c.args.matches.now) c.args.id.now c.get_str.result _ c.get_str.ensures (ap (option_map (λ s. s.now)) c.in-Some.is) in
    absurd (never_unread c.in-Some.text.now c.args.least c.args.most c.parse.result _ (c.requires c.in-Some.text.now first) c.parse.ensures.value.0 c.in-Err.is)

pub returns-in-None-clause-value : goal.returns-in-None-clause-value
returns-in-None-clause-value c = rw (first_of-read (found_of c.args.matches.now) c.args.id.now c.get_str.result _ c.get_str.ensures (ap (option_map (λ s. s.now)) c.in-None.is))
