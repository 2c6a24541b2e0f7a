use Rattle.std.proofs.Common.{subst, sym}
use Rattle.dual_check.specs.Rows.{FailsFlow}
use Rattle.dual_check.specs.Leasts.{IsLeastOf}
use Rattle.dual_check.proofs.FlowLemmas.{least_flow, flow_if_none}
use Rattle.dual_check.proofs.flows.first_flow_fault.Goals as goal

pub returns-clause-least : goal.returns-clause-least
returns-clause-least c =
    subst (IsLeastOf (FailsFlow c.args.system.now c.args.cert.now)) (sym c.lesser.ensures)
    (least_flow c.args.system.now c.args.cert.now c.moves-moves.result.now c.as_slice-parts.result.now c.first_strange-strange.result c.first_unbalanced-unbalanced.result c.moves-moves.ensures.valid c.moves-moves.ensures.value c.as_slice-parts.ensures c.first_strange-strange.ensures c.first_unbalanced-unbalanced.ensures)

pub returns-clause-none : goal.returns-clause-none
returns-clause-none c =
    let least = subst (IsLeastOf (FailsFlow c.args.system.now c.args.cert.now)) (sym c.lesser.ensures)
    (least_flow c.args.system.now c.args.cert.now c.moves-moves.result.now c.as_slice-parts.result.now c.first_strange-strange.result c.first_unbalanced-unbalanced.result c.moves-moves.ensures.valid c.moves-moves.ensures.value c.as_slice-parts.ensures c.first_strange-strange.ensures c.first_unbalanced-unbalanced.ensures) in
    λ e. flow_if_none c.args.system.now c.args.cert.now c.lesser.result c.moves-moves.ensures.valid least e
