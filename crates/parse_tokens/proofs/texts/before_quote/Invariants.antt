use Rattle.std.proofs.Common.{◌≡◌, false, ◌++◌, take, drop}
use Rattle.c_tree.specs.Pragmas.{before_quote}
use Rattle.parse_tokens.proofs.texts.before_quote.Given as goal

abbrev pub invariant-loop-at : goal.invariant-loop-at
invariant-loop-at l = before_quote false l.bytes ≡ take l.at l.bytes ++ before_quote l.escaped (drop l.at l.bytes)
