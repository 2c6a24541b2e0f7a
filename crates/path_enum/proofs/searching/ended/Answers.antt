use Rattle.std.proofs.Common.{◌≡◌, ◌+◌, sym, subst, IfOk}
use Rattle.std.proofs.lemmas.Result.{IfOk-weaker}
use Rattle.simplex_tables.specs.declared.running.Ended.{Ended}
use Rattle.simplex_tables.specs.Shapes.{HasEnded}
use Rattle.simplex_rounds.specs.Rounds.{round_over}
use Rattle.simplex_rounds.proofs.SideLemmas.{variables_are}
use Rattle.path_enum.specs.Steps.{HasFewRows}
use Rattle.path_enum.proofs.RoundLemmas.{round_few}
use Rattle.path_enum.proofs.searching.ended.Goals as goal

pub returns-clause-ended : goal.returns-clause-ended
returns-clause-ended c = subst (λ k. IfOk c.round.result (λ (r : Ended). HasEnded k (k + 3) r.ending)) (variables_are c.args.columns.now c.args.ops.now) c.round.ensures.ended

pub returns-clause-rows : goal.returns-clause-rows
returns-clause-rows c =
    IfOk-weaker c.round.result (λ (r : Ended). r ≡ round_over c.args.ops.now c.args.made c.args.columns.now) (λ (r : Ended). HasFewRows r.ending)
    (λ r e. subst (λ (x : Ended). HasFewRows x.ending) (sym e) (round_few c.args.ops.now c.args.made c.args.columns.now c.requires.few_ops)) c.round.ensures.value
