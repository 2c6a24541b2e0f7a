use Rattle.std.proofs.Common.{All, ap, sym, subst, ◌∙◌}
use Rattle.code_flow_system.specs.Systems.{IsPlaced}
use Rattle.report_shares.specs.Shares.{moves_between}
use Rattle.report_shares.proofs.SpentLemmas.{between_all}
use Rattle.report_shares.proofs.sums.spent_between.Goals as goal

pub spent-requires-clause-placed : goal.spent-requires-clause-placed
spent-requires-clause-placed c =
    subst (All (λ m. IsPlaced m.at)) (sym (c.moves_between-moves.ensures ∙ ap (moves_between c.args.first c.args.end) c.moves.ensures.value))
    (between_all (λ m. IsPlaced m.at) c.args.first c.args.end c.args.system.now.moves c.moves.ensures.valid.placed)
