use Rattle.loop_walks.specs.Levels.{level_of}
use Rattle.path_walks.specs.Prices.{prices_of}
use Rattle.path_walks.proofs.SystemLemmas.{Settling}
use Rattle.path_walks.proofs.walks.settle_functions.Given as goal

abbrev pub invariant-loop-i : goal.invariant-loop-i
invariant-loop-i l = Settling l.priced.system.now l.priced.shapes.now l.spans (prices_of l.priced.system.now l.priced.prices.now l.priced.low) (level_of l.worths l.weights) l.pairs l.i
