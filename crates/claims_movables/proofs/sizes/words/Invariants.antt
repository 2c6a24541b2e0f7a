use Rattle.std.proofs.Common.{◌≡◌}
use Rattle.claims_definition.specs.Movables.{words_at}
use Rattle.claims_movables.proofs.sizes.words.Given as goal

abbrev pub invariant-loop-number : goal.invariant-loop-number
invariant-loop-number l = l.words.items ≡ words_at l.at l.number
