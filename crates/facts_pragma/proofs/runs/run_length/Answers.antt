use Rattle.std.proofs.Common.{◌∙◌, arith, rules}
use Rattle.facts_pragma.proofs.Cuts.{cut_at_blank, cut_at_class}
use Rattle.facts_pragma.proofs.runs.run_length.Goals as goal

pub returns-then-is_gap-clause-cut : goal.returns-then-is_gap-clause-cut
returns-then-is_gap-clause-cut c =
    c.loop-at.invariant ∙ cut_at_blank c.is_name_byte-named.result c.args.text.now c.loop-at.at c.loop-at-test.true (omega arith) (search rules)

pub returns-then-not-same_class-clause-cut : goal.returns-then-not-same_class-clause-cut
returns-then-not-same_class-clause-cut c =
    c.loop-at.invariant ∙ cut_at_class c.is_name_byte-named.result c.args.text.now c.loop-at.at c.loop-at-test.true (omega arith) (search rules) (search rules)
