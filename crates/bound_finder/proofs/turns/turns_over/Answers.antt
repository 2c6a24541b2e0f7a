use Rattle.std.proofs.Common.{◌∙◌, sym, w64}
use Rattle.std.proofs.lemmas.Int.{to_z-of_z}
use Rattle.bound_finder.proofs.Quotients.{small_ahead}
use Rattle.bound_finder.proofs.turns.turns_over.Goals as goal

pub steps_over-requires-clause-small : goal.steps_over-requires-clause-small
steps_over-requires-clause-small c = small_ahead c.args.distance c.ahead.result c.ranges.distance (sym (to_z-of_z w64 c.args.distance c.ranges.distance) ∙ c.ahead.ensures)
