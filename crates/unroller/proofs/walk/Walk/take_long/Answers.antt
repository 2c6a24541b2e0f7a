use Rattle.std.proofs.Common.{◌%◌, ap, map, ◌∙◌}
use Rattle.high_ir.specs.Standing.{marks_of}
use Rattle.high_ir.specs.View.{statement_of}
use Rattle.high_pass.specs.Listing.{loop_entry}
use Rattle.high_unrolled.specs.Factor.{as_loop, turned}
use Rattle.high_unrolled.specs.Starts.{repeated}
use Rattle.unroller.specs.View.{copied, going, met}
use Rattle.unroller.proofs.walk.Walk.take_long.Goals as goal

pub returns-clause-code : goal.returns-clause-code
returns-clause-code c =
    let by = c.args.by in
    let x = as_loop by.id by.min by.max (statement_of c.args.body.now) in
    c.in_ok-made.ensures.code
    ∙ ap (λ q. turned c.args.factor q.place.marks c.in_ok-number.number x) c.in_ok-number.ensures.progress
    ∙ ap (λ n. turned c.args.factor c.args.self.now.marks n x) c.in_ok-number.ensures.number

pub returns-clause-progress : goal.returns-clause-progress
returns-clause-progress c =
    let w = c.args.self.now in
    let by = c.args.by in
    let k = c.args.factor in
    let marks = marks_of (statement_of c.args.body.now) in
    c.in_ok-made.ensures.progress
    ∙ ap (λ q. copied (copied q (repeated (by.max % k) marks)) (repeated k marks))
    (c.in_ok-number.ensures.progress ∙ ap (λ n. met (going n w.marks w.loops w.made.items (map loop_entry w.entries.items)) by.id k) c.left-room.ensures)
