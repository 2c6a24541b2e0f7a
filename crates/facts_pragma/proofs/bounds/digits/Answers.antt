use Rattle.std.proofs.Common.{ap, ◌∙◌, sym, arith, rules}
use Rattle.facts_definitions.specs.PragmaTexts.{at_most}
use Rattle.facts_pragma.proofs.Digits.{over}
use Rattle.facts_pragma.proofs.bounds.digits.Goals as goal

pub returns-then-value-from : goal.returns-then-value-from
returns-then-value-from c =
    sym (ap (at_most c.args.limit) c.loop-i.invariant.same ∙ over c.args.limit c.loop-i.value c.args.bytes.now c.loop-i.i c.loop-i-test.true (search rules) (omega arith))
