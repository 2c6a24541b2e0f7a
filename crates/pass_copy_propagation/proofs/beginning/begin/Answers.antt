use Rattle.std.proofs.Common.{subst, sym}
use Rattle.pass_copy_propagation.specs.Making.{Begins}
use Rattle.pass_copy_propagation.proofs.Begun.{begins_opened}
use Rattle.pass_copy_propagation.proofs.beginning.begin.Goals as goal

pub returns : goal.returns
returns c = λ done.
    let list = c.args.list.now in
    let before = c.args.known.now in
    c.count_on.ensures done before (subst (λ k. Begins list before k) (sym c.open.ensures) (begins_opened list before))
