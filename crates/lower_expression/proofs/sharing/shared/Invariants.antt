use Rattle.std.proofs.Common.{◌≡◌, drop}
use Rattle.lower_expression.specs.View.{shares_of}
use Rattle.lower_definition.specs.Values.{shared}
use Rattle.lower_expression.proofs.sharing.shared.Given as goal

abbrev pub invariant-loop-share : goal.invariant-loop-share
invariant-loop-share l = shared (shares_of (drop l.share-index l.shares)) l.variable l.scale ≡ shared (shares_of l.shares) l.variable l.scale
