use Rattle.std.proofs.Common.{subst, sym}
use Rattle.dual_check.specs.Rows.{FailsMissing}
use Rattle.dual_check.specs.Leasts.{IsLeastOf}
use Rattle.dual_check.proofs.MissingLemmas.{least_missing}
use Rattle.dual_check.proofs.missing.first_missing.Goals as goal

pub returns : goal.returns
returns c =
    subst (IsLeastOf (FailsMissing c.args.system.now c.args.cert.now)) (sym c.lesser.ensures)
    (least_missing c.args.system.now c.args.cert.now c.moves-moves.result.now c.as_slice-potentials.result.now c.first_ungiven.result c.first_unreached.result c.moves-moves.ensures.value c.as_slice-potentials.ensures c.first_ungiven.ensures c.first_unreached.ensures)
