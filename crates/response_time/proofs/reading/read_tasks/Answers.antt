use Rattle.std.proofs.Common.{arith, subst}
use Rattle.report_words.specs.Splitting.{words_of}
use Rattle.response_time.specs.Entries.{names_of}
use Rattle.response_time.specs.Forms.{Says}
use Rattle.response_time.proofs.ListLemmas.{listing_more}
use Rattle.response_time.proofs.reading.read_tasks.Goals as goal

pub lines-preserved : goal.lines-preserved
lines-preserved c =
    rw c.in-Ok-add.ensures
    (listing_more c.args.bytes.now c.lines.entries.items c.lines.rest.now c.in-Some.line.now c.in-Some.behind.now c.in-Ok.entry c.lines.invariant c.in-Some.ensures (omega arith)
    (subst (λ es. Says (names_of es) (words_of c.in-Some.line.now) c.in-Ok.entry) c.as_slice-in-Some.ensures.value c.in-Ok.ensures.ok))
