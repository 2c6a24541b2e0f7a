use Rattle.std.proofs.Common.{ap, sym, ◌∙◌}
use Rattle.std.proofs.lemmas.Result.{MatchResult-weaker}
use Rattle.high_code.specs.Code.{frame_needed_all}
use Rattle.high_ir.specs.View.{statements_of}
use Rattle.make_program.proofs.Needed.{needed_seq}
use Rattle.make_program.proofs.frames.+needed.Goals as goal

pub frame_needed-returns-in-Seq : goal.frame_needed-returns-in-Seq
frame_needed-returns-in-Seq t c =
    MatchResult-weaker c.frame_needed_all.result c.frame_needed_all.ensures (λ needed same.
    same
    ∙ ap (λ xs. frame_needed_all (statements_of xs)) c.deref.ensures.value
    ∙ sym (needed_seq c.args.statement.now c.in-Seq.parts c.in-Seq.is)) (λ memory no_number. no_number)
