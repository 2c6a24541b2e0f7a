use Rattle.std.proofs.Common.{◌≡◌, ◌-◌, ◌≤◌, length}
use Rattle.wide_lexer.proofs.Cuts.{CutTo}
use Rattle.wide_lexer.proofs.lex.Given as goal

abbrev pub invariant-loop-at : goal.invariant-loop-at
invariant-loop-at l = record {
  within : l.at ≤ length l.source;
  source : l.tokens.source ≡ l.source;
  room : length l.tokens.list ≤ l.at;
  cut : CutTo l.source l.tokens.list l.at l.fresh;
}

abbrev pub decreases-loop-at : goal.decreases-loop-at
decreases-loop-at l = length l.source - l.at
