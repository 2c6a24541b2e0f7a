use Rattle.std.proofs.Common.{◌≡◌, ◌⊎◌, subst}
use Rattle.pass_common_subexpressions_law.specs.Facts.{Knows}
use Rattle.pass_common_subexpressions.specs.Making.{fact_of}
use Rattle.pass_common_subexpressions.proofs.Table.{added}
use Rattle.pass_common_subexpressions.proofs.known.Known.add.Goals as goal

pub returns : goal.returns
returns c = λ f knows.
    subst (λ k. Knows k f ⊎ (f ≡ fact_of c.args.fact)) c.self.view_is
    (added c.self.inside.facts.items c.set_fact.new.facts.items _ c.args.fact c.set_fact.ensures f knows)
