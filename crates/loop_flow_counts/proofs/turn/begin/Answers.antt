use Rattle.std.proofs.Common.{arith, ◌-◌, length, refl}
use Rattle.loop_flow_counts.proofs.TurnLemmas.{begins_by}
use Rattle.loop_flow_counts.proofs.turn.begin.Goals as goal

pub returns : goal.returns
returns c =
    let r0 = c.requires.0 in
    let r1 = c.requires.1 in
    let l = c.clear.auto.counts in
    begins_by c.clear.new.counts _ (length c.args.amounts.now - 1) c.args.ring.header c.args.ring.end c.args.turns (omega (arith, r0, r1)) (omega (arith, r0, r1, l)) c.clear.ensures refl
