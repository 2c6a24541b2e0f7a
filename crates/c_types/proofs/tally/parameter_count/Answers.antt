use Rattle.std.proofs.Common.{sym, ◌∙◌}
use Rattle.c_types.proofs.Tallies.{parameter_count-list}
use Rattle.c_types.proofs.tally.parameter_count.Goals as goal

pub returns : goal.returns
returns c = sym (parameter_count-list c.args.params.now (sym c.is_no_list.ensures ∙ c.if-is_no_list.false))
