use Rattle.std.proofs.Common.{◌<◌}
use Rattle.c_tree.specs.Bytes.{Each}
use Rattle.c_tree.specs.Constants.{digit}
use Rattle.parse_tokens.proofs.form.are_digits.Given as goal

abbrev pub invariant-loop-i : goal.invariant-loop-i
invariant-loop-i l = Each (λ b. digit b < l.base) l.source l.at l.i
