use Rattle.std.proofs.Common.{ap, sym, ◌∙◌}
use Rattle.high_code.specs.Code.{assigns_any}
use Rattle.high_ir.specs.View.{statements_of}
use Rattle.make_pieces.proofs.Lists.{assigns_seq}
use Rattle.make_pieces.proofs.changes.+assigns.Goals as goal

pub assigns-returns-in-Seq : goal.assigns-returns-in-Seq
assigns-returns-in-Seq t c =
    c.assigns_any-any.ensures
    ∙ ap (λ xs. assigns_any c.args.x (statements_of xs)) c.deref.ensures.value
    ∙ sym (assigns_seq c.args.x c.args.statement.now c.in-Seq.parts c.in-Seq.is)
