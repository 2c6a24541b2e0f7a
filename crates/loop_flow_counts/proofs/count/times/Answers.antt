use Rattle.loop_flow_counts.specs.Made.{total}
use Rattle.loop_flow_counts.proofs.PassLemmas.{times_by}
use Rattle.loop_flow_counts.proofs.count.times.Goals as goal

pub returns : goal.returns
returns c = cc (times_by c.args.number c.total.result (total c.args.counts.now) c.total.ensures, c.from.ensures)
