use Rattle.command_perform.proofs.TextRuns.{left_shown, show_more, show_cut}
use Rattle.command_perform.proofs.printing.put_lines.Goals as goal

pub returns-in-Err-clause-err : goal.returns-in-Err-clause-err
returns-in-Err-clause-err g c =
    show_cut _ _ _ _ _ _ _ (left_shown c.args.lines.now c.lines.part-index _ c.lines-test.true) c.in-Err.ensures.err c.lines.invariant

pub lines-preserved : goal.lines-preserved
lines-preserved g c =
    show_more _ _ _ _ _ _ _ (left_shown c.args.lines.now c.lines.part-index _ c.lines-test.true) c.in-Ok.ensures.ok c.in-Ok.ensures.counts c.lines.invariant
