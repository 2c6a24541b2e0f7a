use Rattle.std.proofs.Common.{◌∙◌, sym}
use Rattle.simplex_tables.proofs.ShapeLemmas.{ended_first, ended_second}
use Rattle.simplex_tables.proofs.running.ends.Goals as goal

pub returns-then-in_first-clause-ended : goal.returns-then-in_first-clause-ended
returns-then-in_first-clause-ended c = ended_first c.args.variables c.args.width c.args.table c.requires.shape c.requires.none (sym c.in_first.ensures ∙ c.if-in_first.true)

pub returns-clause-ended : goal.returns-clause-ended
returns-clause-ended c = ended_second c.args.variables c.args.width c.args.table c.requires.shape c.requires.none (sym c.in_first.ensures ∙ c.if-in_first.false)
