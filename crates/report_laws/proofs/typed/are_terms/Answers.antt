use Rattle.std.proofs.Common.{All, subst, pos}
use Rattle.std.proofs.lemmas.List.Elements.{All-more}
use Rattle.report_laws.specs.Typed.{IsWord}
use Rattle.report_laws.proofs.ListLemmas.{take_whole}
use Rattle.report_laws.proofs.typed.are_terms.Goals as goal

pub loop-term-preserved : goal.loop-term-preserved
loop-term-preserved c = All-more (λ t. IsWord t.0) c.args.terms.now c.loop-term.term-index (0, pos 0) c.loop-term-test.true c.loop-term.invariant c.is_term.ensures

pub returns : goal.returns
returns c = subst (All (λ t. IsWord t.0)) (take_whole c.args.terms.now c.loop-term.term-index c.loop-term-test.false) c.loop-term.invariant
