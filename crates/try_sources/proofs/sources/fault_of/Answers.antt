use Rattle.try_sources.proofs.Refusals.{refuses}
use Rattle.try_sources.proofs.sources.fault_of.Goals as goal

pub returns-in_default : goal.returns-in_default
returns-in_default c = λ source unread. record {
  refusal = c.args.refusal.now;
  refuses = refuses source c.args.refusal.now c.in_default.not-Memory unread;
}
