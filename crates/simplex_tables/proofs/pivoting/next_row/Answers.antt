use Rattle.std.proofs.Common.{◌≡◌, ◌∙◌, ap, subst, length, IfSome}
use Rattle.simplex_tables.specs.Rows.{turned}
use Rattle.simplex_tables.proofs.RowLemmas.{turned-long}
use Rattle.simplex_tables.proofs.pivoting.next_row.Goals as goal

pub returns-in-Some-clause-long : goal.returns-in-Some-clause-long
returns-in-Some-clause-long c =
    let long = turned-long c.args.place c.args.base.now c.args.row.now c.requires.long in
    let is = subst (λ o. IfSome o (λ v. v.items ≡ turned c.args.place c.args.base.now c.args.row.now)) c.in-Some.is c.in_ok-turned.ensures.some in
    ap length (c.new-in-Some.ensures ∙ is) ∙ (long ∙ c.requires.long)
