use Rattle.std.proofs.Common.{All, subst}
use Rattle.std.proofs.lemmas.List.Elements.{All-more}
use Rattle.report_laws.specs.Typed.{IsWord}
use Rattle.report_laws.proofs.ListLemmas.{take_whole}
use Rattle.report_laws.proofs.typed.are_names.Goals as goal

pub loop-line-preserved : goal.loop-line-preserved
loop-line-preserved c = All-more (λ c. All IsWord c.places) c.args.lines.now c.loop-line.line-index c.line-item.result c.loop-line-test.true c.loop-line.invariant (subst (λ c. All IsWord c.places) c.line-item.is c.is_name.ensures)

pub returns : goal.returns
returns c = subst (All (λ c. All IsWord c.places)) (take_whole c.args.lines.now c.loop-line.line-index c.loop-line-test.false) c.loop-line.invariant
