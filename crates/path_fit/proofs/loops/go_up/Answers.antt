use Rattle.path_fit.proofs.ShapeLemmas.{headers_ascend}
use Rattle.path_fit.proofs.loops.go_up.Goals as goal

pub goes_up-requires-clause-ascending : goal.goes_up-requires-clause-ascending
goes_up-requires-clause-ascending c = headers_ascend c.args.system.now c.args.shapes.now c.moves-moves.ensures.valid c.requires.shapes
