use Rattle.std.proofs.Common.{pos}
use Rattle.loop_walks.specs.Levels.{level_of}
use Rattle.loop_flows.specs.Passes.{spread}
use Rattle.loop_flows.specs.Turns.{is_tight}
use Rattle.loop_flow_counts.proofs.PassLemmas.{pass_next}
use Rattle.loop_flow_counts.proofs.pass.end_pass.Goals as goal

pub loop-k-preserved : goal.loop-k-preserved
loop-k-preserved c =
    let chosen = is_tight (level_of c.args.worths.now c.args.weights.now) in
    let ms = c.args.steps.now in
    pass_next chosen ms c.loop-k.counts.items c.loop-k.amounts c.loop-k.k (spread chosen c.args.amounts.now ms) (record { at = 0; on = 0; price = pos 0 }) c.loop-k-test.true c.loop-k.invariant c.push.new.self.items c.make_if.new.amounts c.is_tight-chosen.result c.make_if.result c.is_tight-chosen.ensures c.make_if.ensures.handed c.make_if.ensures.made c.in_ok-push.ensures.items
