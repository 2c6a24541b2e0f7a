use Rattle.std.proofs.Common.{refl, sym, subst}
use Rattle.types_tree.specs.View.{program_of}
use Rattle.call_graph.specs.Search.{IsInRange}
use Rattle.call_graph.proofs.Graphs.{graph_range, graph_whole}
use Rattle.call_graph.proofs.graph.graph.Goals as goal

pub returns-clause-same : goal.returns-clause-same
returns-clause-same c = graph_whole _ _ _ _ _ refl c.as_slice-functions.ensures.value c.loop-function-test.false c.loop-function.invariant

pub returns-clause-range : goal.returns-clause-range
returns-clause-range c =
    subst IsInRange (sym (graph_whole _ _ _ _ _ refl c.as_slice-functions.ensures.value c.loop-function-test.false c.loop-function.invariant))
    (graph_range (program_of c.args.program.now))
