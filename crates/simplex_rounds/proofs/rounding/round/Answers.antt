use Rattle.std.proofs.Common.{◌≡◌, ◌+◌, ◌-◌, ◌<◌, ◌∙◌, arith, sym, ap, subst, List, length, All, IfOk}
use Rattle.simplex_tables.specs.declared.running.Ended.{Ended}
use Rattle.simplex_tables.specs.Runs.{pivots, most_pivots}
use Rattle.simplex_tables.specs.Shapes.{HasEnded}
use Rattle.simplex_rounds.specs.declared.starting.Side.{Side}
use Rattle.simplex_rounds.specs.Starts.{started, variables}
use Rattle.simplex_rounds.proofs.StartShapes.{sides_in, sides_few}
use Rattle.simplex_rounds.proofs.rounding.round.Goals as goal

pub run-requires-clause-sides : goal.run-requires-clause-sides
run-requires-clause-sides c = subst (All (λ (s : Side). s.fact < length c.args.ops.now)) (sym (c.deref.ensures.value ∙ c.in_ok-sides.ensures)) (sides_in c.args.ops.now)

pub run-requires-clause-few : goal.run-requires-clause-few
run-requires-clause-few c =
    let e = ap length (c.deref.ensures.value ∙ c.in_ok-sides.ensures) in
    let f = sides_few 0 c.args.ops.now in
    let g = c.requires.few in omega (arith, e, f, g)

pub returns-clause-value : goal.returns-clause-value
returns-clause-value c = subst (λ (ss : List Side). IfOk c.run.result (λ (r : Ended). r ≡ pivots (most_pivots - c.args.made) (variables c.args.columns.now ss) c.args.made (started c.args.columns.now ss))) (c.deref.ensures.value ∙ c.in_ok-sides.ensures) c.run.ensures.value

pub returns-clause-ended : goal.returns-clause-ended
returns-clause-ended c = subst (λ (ss : List Side). IfOk c.run.result (λ (r : Ended). HasEnded (variables c.args.columns.now ss) (variables c.args.columns.now ss + 3) r.ending)) (c.deref.ensures.value ∙ c.in_ok-sides.ensures) c.run.ensures.ended
