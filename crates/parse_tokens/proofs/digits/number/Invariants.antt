use Rattle.std.proofs.Common.{◌≡◌, ◌≤◌}
use Rattle.c_tree.specs.Constants.{number}
use Rattle.parse_tokens.proofs.digits.number.Given as goal

abbrev pub invariant-loop-count : goal.invariant-loop-count
invariant-loop-count l = (l.value ≡ number l.base l.source l.at l.count) × (l.value ≤ 4294967295)
