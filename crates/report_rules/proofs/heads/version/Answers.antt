use Rattle.std.proofs.Common.{map, sym, ◌∙◌}
use Rattle.report_rules.proofs.KindLemmas.{two_line}
use Rattle.report_rules.proofs.heads.version.Goals as goal

pub returns-then-are_two-clause-ok : goal.returns-then-are_two-clause-ok
returns-then-are_two-clause-ok c = two_line c.args.before (map (λ w. w.now) c.args.words.now) (sym c.are_two.ensures ∙ c.if-are_two.true)
