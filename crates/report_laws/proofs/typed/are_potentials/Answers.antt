use Rattle.std.proofs.Common.{All, subst, pos}
use Rattle.std.proofs.lemmas.List.Elements.{All-more}
use Rattle.report_laws.specs.Typed.{IsWord}
use Rattle.report_laws.proofs.ListLemmas.{take_whole}
use Rattle.report_laws.proofs.typed.are_potentials.Goals as goal

pub loop-potential-preserved : goal.loop-potential-preserved
loop-potential-preserved c = All-more (λ t. IsWord t.0) c.args.potentials.now c.loop-potential.potential-index (0, pos 0) c.loop-potential-test.true c.loop-potential.invariant c.is_potential.ensures

pub returns : goal.returns
returns c = subst (All (λ t. IsWord t.0)) (take_whole c.args.potentials.now c.loop-potential.potential-index c.loop-potential-test.false) c.loop-potential.invariant
