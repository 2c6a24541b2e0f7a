use Rattle.std.proofs.Common.{refl}
use Rattle.std.specs.Prelude.{slice_set}
use Rattle.loop_flows.specs.Passes.{amount_at}
use Rattle.loop_flow_counts.proofs.PassLemmas.{handed_by}
use Rattle.loop_flow_counts.proofs.pass.make.Goals as goal

pub returns-clause-handed : goal.returns-clause-handed
returns-clause-handed c = handed_by c.args.amounts.now (slice_set c.args.amounts.now c.args.step.at 0) c.add.new.counts c.args.step (amount_at c.args.amounts.now c.args.step.at) c.requires.0 refl refl c.add.ensures
