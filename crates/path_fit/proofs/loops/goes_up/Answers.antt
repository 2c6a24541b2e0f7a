use Rattle.std.proofs.Common.{rules}
use Rattle.path_fit.proofs.ShapeLemmas.{up_by, by_up}
use Rattle.path_fit.proofs.loops.goes_up.Goals as goal

pub returns : goal.returns
returns c = (
  λ e. up_by c.args.shapes.now c.args.step.now _ (c.is_back_of.ensures.0 e),
  λ up. c.is_back_of.ensures.1 (by_up c.args.shapes.now c.args.step.now _ c.requires.back c.in-Some.ensures (search rules) up),
)
