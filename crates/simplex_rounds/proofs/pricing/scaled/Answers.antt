use Rattle.std.proofs.Common.{◌≡◌, ◌+◌, ◌∙◌, arith, ap, length}
use Rattle.std.proofs.lemmas.Result.{IfOk-weaker}
use Rattle.simplex_tables.specs.Rows.{reduced}
use Rattle.simplex_tables.proofs.RowLemmas.{reduced-long}
use Rattle.simplex_rounds.proofs.StepLemmas.{duals-long}
use Rattle.simplex_rounds.proofs.pricing.scaled.Goals as goal

pub returns-clause-long : goal.returns-clause-long
returns-clause-long c =
    let values = ap length (c.deref.ensures.value ∙ c.in_ok-values.ensures.value) in
    let many = duals-long (c.args.columns + 1) c.args.ops.now c.args.row.now in
    IfOk-weaker c.reduced.result (λ v. v.items ≡ reduced c.deref.result.now) (λ v. length v.items ≡ 1 + length c.args.ops.now) (λ v h. let e = ap length h in let r = reduced-long c.deref.result.now in omega (arith, e, r, values, many)) c.reduced.ensures
