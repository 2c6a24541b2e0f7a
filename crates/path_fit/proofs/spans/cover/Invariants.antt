use Rattle.std.proofs.Common.{◌≡◌, ◌+◌, drop}
use Rattle.path_fit.proofs.CoverLemmas.{moves_held}
use Rattle.path_fit.proofs.spans.cover.Given as goal

abbrev pub invariant-loop-i : goal.invariant-loop-i
invariant-loop-i l = l.held + moves_held (drop l.i l.spans) l.moves ≡ moves_held l.spans l.moves
