use Rattle.std.proofs.Common.{subst}
use Rattle.pass_common_subexpressions.specs.Making.{AreKnown}
use Rattle.pass_common_subexpressions.proofs.lists.leads_to.Goals as goal

pub returns : goal.returns
returns c = λ done. subst (AreKnown c.args.known.now) c.list_for.ensures (c.knows_all.ensures done)
