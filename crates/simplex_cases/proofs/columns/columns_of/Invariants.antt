use Rattle.std.proofs.Common.{All}
use Rattle.simplex_rounds.specs.Rounds.{IsColumnOf}
use Rattle.simplex_cases.proofs.columns.columns_of.Given as goal

abbrev pub invariant-loop-part : goal.invariant-loop-part
invariant-loop-part l = All (IsColumnOf l.facts) l.columns.items
