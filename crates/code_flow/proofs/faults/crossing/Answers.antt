use Rattle.std.proofs.Common.{[], ap, ◌∙◌}
use Rattle.code_flow_system.specs.Moves.{code_by}
use Rattle.code_flow.specs.Faults.{lesser}
use Rattle.code_flow.proofs.CrossLemmas.{crossing-back}
use Rattle.code_flow.proofs.faults.crossing.Goals as goal

pub loop-k-preserved : goal.loop-k-preserved
loop-k-preserved c =
    c.lesser-least.ensures
    ∙ (ap (λ o. lesser o c.loop-k.least) c.crossing_of.ensures
    ∙ crossing-back (code_by c.args.image.now []) c.args.moves.now c.loop-k.k c.index-moves-moves.result c.loop-k.least c.loop-k-test.true c.index-moves-moves.is c.loop-k.invariant)
