use Rattle.std.proofs.Common.{◌≡◌, ◌++◌, take, drop}
use Rattle.c_tree.specs.Pragmas.{before_gap}
use Rattle.parse_tokens.proofs.words.before_gap.Given as goal

abbrev pub invariant-loop-i : goal.invariant-loop-i
invariant-loop-i l = before_gap l.text ≡ take l.i l.text ++ before_gap (drop l.i l.text)
