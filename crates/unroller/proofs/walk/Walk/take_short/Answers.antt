use Rattle.std.proofs.Common.{[], ◌∷◌, ap, map, ◌∙◌}
use Rattle.high_ir.specs.Standing.{marks_of}
use Rattle.high_ir.specs.View.{statement_of}
use Rattle.high_pass.specs.Listing.{loop_entry}
use Rattle.high_unrolled.specs.declared.made.Made.TheVariants.{Behind}
use Rattle.high_unrolled.specs.Factor.{as_loop, ended}
use Rattle.high_unrolled.specs.Starts.{repeated}
use Rattle.unroller.specs.View.{copied, going, noted, past}
use Rattle.unroller.proofs.walk.Walk.take_short.Goals as goal

pub returns-clause-code : goal.returns-clause-code
returns-clause-code c =
    let by = c.args.by in
    c.in_ok-made.ensures.code ∙ ap (λ q. ended q.place.marks (as_loop by.id by.min by.max (statement_of c.args.body.now))) c.in_ok-pass.ensures

pub returns-clause-progress : goal.returns-clause-progress
returns-clause-progress c =
    let w = c.args.self.now in
    let id = c.args.by.id in
    c.in_ok-made.ensures.progress
    ∙ ap (λ q. noted (copied q (repeated c.args.by.max (marks_of (statement_of c.args.body.now)))) (Behind id ∷ []))
    (c.in_ok-pass.ensures ∙ ap (λ n. past (going n w.marks w.loops w.made.items (map loop_entry w.entries.items)) id) c.left-room.ensures)
