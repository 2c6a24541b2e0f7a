use Rattle.std.proofs.Common.{◌+◌, arith}
use Rattle.response_analysis.proofs.Equations.{positive_periods}
use Rattle.response_analysis.proofs.Shares.{no_shares, above_load, asks_less, rest_more, shares_more, holds_shares}
use Rattle.response_analysis.proofs.lowest.rise.Goals as goal

pub loop-k-init : goal.loop-k-init
loop-k-init c =
    let load = c.requires.load in
    record {
      rest = omega (arith, load);
      shares = no_shares c.args.tasks.now;
      few = omega arith;
      more = omega arith;
      low = above_load c.args.tasks.now (positive_periods c.args.tasks.now c.requires.tasks) c.args.i c.args.within c.args.load c.requires.there c.requires.load;
    }

pub overflow_sub-rest : goal.overflow_sub-rest
overflow_sub-rest c = asks_less c.args.tasks.now c.args.i c.loop-k.k c.args.within c.loop-k.rest c.asked-asks.result c.loop-k-test.true c.asked-asks.ensures.value c.loop-k.invariant.rest

pub loop-k-preserved : goal.loop-k-preserved
loop-k-preserved c =
    let positive = positive_periods c.args.tasks.now c.requires.tasks in
    let rest = rest_more c.args.tasks.now c.args.i c.loop-k.k c.args.within c.loop-k.rest c.asked-asks.result c.loop-k-test.true c.asked-asks.ensures.value c.loop-k.invariant.rest in
    let shares = shares_more c.args.tasks.now c.loop-k.k c.loop-k.shares c.share.result c.at_most_whole-shares.result (positive c.loop-k.k (omega arith)) c.share.ensures.value c.loop-k.invariant.shares c.at_most_whole-shares.ensures.fewer in
    let more = c.loop-k.invariant.more in
    let best = c.greater-best.ensures.first in
    record {
      rest = rest;
      shares = shares;
      few = c.at_most_whole-shares.ensures.most;
      more = omega (arith, more, best);
      low = λ other solves le. c.greater-best.ensures.least other (c.loop-k.invariant.low other solves le)
          (c.least_with.ensures other (holds_shares c.args.tasks.now positive c.args.i (c.loop-k.k + 1) c.args.within _ _ (omega arith) c.requires.there rest shares other solves le));
    }
