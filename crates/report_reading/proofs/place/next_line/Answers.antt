use Rattle.std.proofs.Common.{◌+◌, ◌∙◌, map, refl, sym}
use Rattle.report_reading.proofs.TextLemmas.{next_is}
use Rattle.report_reading.proofs.place.next_line.Goals as goal

pub returns : goal.returns
returns c =
    let words = rw c.in_ok-words.ensures.items at c.in_ok-read_words.ensures in
    let test = sym c.has_tag.ensures ∙ c.if-not-has_tag.false in
    let tagged = rw c.as_slice.ensures.value at test in
    next_is c.args.tag.now c.args.at.number (c.args.at.number + 1) c.args.at.rest.now c.in-Some.text.now c.in-Some.rest.now (map (λ w. w.now) c.read_words.new.words.items) c.in-Some.ensures words tagged c.requires refl
