use Rattle.std.proofs.Common.{sym, ap, ◌∙◌}
use Rattle.code_flow_lookup.proofs.RunLemmas.{same_test}
use Rattle.code_flow_lookup.proofs.LookLemmas.{has_number, number_here, no_number, has_move-those}
use Rattle.code_flow_lookup.proofs.moves.has_move.Goals as goal

pub returns-then-steps-i : goal.returns-then-steps-i
returns-then-steps-i c =
    sym (number_here c.moves_at-steps.result.now c.loop-i.i c.args.number _ c.loop-i-test.true (same_test _ _ c.if-steps-i.true))
    ∙ sym c.loop-i.invariant
    ∙ ap (λ ms. has_number ms c.args.number) c.moves_at-steps.ensures
    ∙ has_move-those c.args.moves.now c.args.at c.args.number

pub returns : goal.returns
returns c =
    sym (no_number c.moves_at-steps.result.now c.loop-i.i c.args.number c.loop-i-test.false)
    ∙ sym c.loop-i.invariant
    ∙ ap (λ ms. has_number ms c.args.number) c.moves_at-steps.ensures
    ∙ has_move-those c.args.moves.now c.args.at c.args.number
