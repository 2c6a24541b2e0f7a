use Rattle.std.proofs.Common.{◌≡◌, ◌+◌, sym, subst, IfOk}
use Rattle.std.proofs.lemmas.Result.{IfOk-weaker}
use Rattle.simplex_tables.specs.declared.running.Ended.{Ended}
use Rattle.simplex_tables.specs.Shapes.{HasEnded}
use Rattle.simplex_rounds.specs.Rounds.{round_over}
use Rattle.simplex_rounds.proofs.SideLemmas.{variables_are}
use Rattle.simplex_laws.specs.RoundLaws.{EndsWell}
use Rattle.simplex_cases.proofs.rounds.ended.Goals as goal

pub returns-clause-ended : goal.returns-clause-ended
returns-clause-ended c = subst (λ k. IfOk c.round.result (λ (r : Ended). HasEnded k (k + 3) r.ending)) (variables_are c.args.columns.now c.args.ops.now) c.round.ensures.ended

pub returns-clause-well : goal.returns-clause-well
returns-clause-well c =
    let law = c.rounds_end_well.ensures c.args.columns.now c.args.ops.now c.args.made c.requires.some c.requires.columns in
    IfOk-weaker c.round.result (λ (r : Ended). r ≡ round_over c.args.ops.now c.args.made c.args.columns.now) (λ (r : Ended). EndsWell c.args.columns.now c.args.ops.now r.ending)
    (λ r e. subst (λ (x : Ended). EndsWell c.args.columns.now c.args.ops.now x.ending) (sym e) law) c.round.ensures.value
