use Rattle.std.proofs.Common.{sym, ◌∙◌}
use Rattle.path_walks.proofs.PointLemmas.{back_any, back_none, back_heads, back_never}
use Rattle.path_walks.proofs.open.is_back.Goals as goal

pub returns-in-None : goal.returns-in-None
returns-in-None c = sym (back_none c.args.shapes.now c.args.step.now.at (back_never c.args.shapes.now c.args.step.now c.requires.back (sym c.in-None.ensures)))

pub returns-in-Some : goal.returns-in-Some
returns-in-Some c = c.is_back_of.ensures ∙ sym (back_any c.args.shapes.now c.args.step.now.at c.in-Some.header (back_heads c.args.shapes.now c.args.step.now c.in-Some.header c.requires.back (sym c.in-Some.ensures)))
