use Rattle.std.proofs.Common.{All, subst}
use Rattle.std.proofs.lemmas.List.Elements.{All-more}
use Rattle.report_laws.specs.Typed.{IsTypedPart}
use Rattle.report_laws.proofs.ListLemmas.{take_whole}
use Rattle.report_laws.proofs.typed.are_parts.Goals as goal

pub loop-part-preserved : goal.loop-part-preserved
loop-part-preserved c = All-more IsTypedPart c.args.parts.now c.loop-part.part-index _ c.loop-part-test.true c.loop-part.invariant c.is_part.ensures

pub returns : goal.returns
returns c = subst (All IsTypedPart) (take_whole c.args.parts.now c.loop-part.part-index c.loop-part-test.false) c.loop-part.invariant
