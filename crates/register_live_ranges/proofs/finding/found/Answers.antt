use Rattle.std.proofs.Common.{ap, arith, length, ◌∙◌}
use Rattle.register_live_ranges.specs.Walks.{fresh}
use Rattle.register_live_ranges.proofs.Beginning.{is_fresh}
use Rattle.register_live_ranges.proofs.Widening.{found_more}
use Rattle.register_live_ranges.proofs.finding.found.Goals as goal

pub loop-register-preserved : goal.loop-register-preserved
loop-register-preserved c =
    let before = c.loop-register.invariant in
    record {
      size = let long = before.size in let push = c.in_ok-push.ensures.len in omega (arith, long, push);
      fresh = c.in_ok-interval.ensures.fresh;
      found = found_more c.args.reading.now _ _ c.loop-register.register _ before.size c.in_ok-push.ensures.items c.in_ok-interval.ensures.found before.found;
    }

pub loop-register-init : goal.loop-register-init
loop-register-init c = record {
  size = ap length c.new-found.ensures.items;
  fresh = is_fresh (length c.args.reading.now.function.now.blocks.items) _ c.in_ok-walk.walk (omega arith) (c.in_ok-walk.ensures ∙ ap fresh (c.len.ensures ∙ c.args.reading.now.function.now.blocks.ok.0));
  found = λ v lt. absurd (omega (arith, lt));
}
