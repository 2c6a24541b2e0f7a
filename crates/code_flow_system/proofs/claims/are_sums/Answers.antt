use Rattle.std.proofs.Common.{arith}
use Rattle.code_flow_system.specs.Claims.{AreSums}
use Rattle.code_flow_system.proofs.IndexLemmas.{below_next}
use Rattle.code_flow_system.proofs.claims.are_sums.Goals as goal

pub loop-i-preserved : goal.loop-i-preserved
loop-i-preserved c = below_next AreSums c.args.facts.now c.loop-i.i c.index-facts-i.result c.loop-i.invariant c.loop-i-test.true c.index-facts-i.is c.fact_is_sums.ensures

pub returns : goal.returns
returns c = λ k d lt. c.loop-i.invariant k d (let h = c.loop-i-test.false in omega arith)
