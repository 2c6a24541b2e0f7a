use Rattle.std.proofs.Common.{◌+◌, get_or, subst, None, rules}
use Rattle.std.specs.Prelude.{All}
use Rattle.code_flow_lookup.proofs.RunLemmas.{rest_is}
use Rattle.code_flow_system.specs.declared.shapes.LoopShape.{LoopShape}
use Rattle.code_flow_system.specs.Shapes.{AreNested}
use Rattle.path_fit.proofs.NestLemmas.{alike_more}
use Rattle.path_fit.proofs.nest.nest_by_pairs.Goals as goal

abbrev first_shape : LoopShape
first_shape = record { header = 0; back = 0; parent = None; first = 0; last = 0 }

pub loop-i-preserved : goal.loop-i-preserved
loop-i-preserved c =
    alike_more c.args.shapes.now c.loop-i.i first_shape c.loop-i-test.true
    (subst (All (AreNested (get_or c.args.shapes.now c.loop-i.i first_shape))) (rest_is (c.loop-i.i + 1) c.args.shapes.now) (c.nests_with.ensures.0 (search rules)))
    c.loop-i.invariant
