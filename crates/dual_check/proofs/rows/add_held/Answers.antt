use Rattle.std.proofs.Common.{arith, ap, ◌∙◌, sym, ◌*ℤ◌}
use Rattle.std.proofs.lemmas.Int.{ints}
use Rattle.std.proofs.lemmas.Option.{IfSome_then}
use Rattle.frac128.specs.Terms.{int_sum_by}
use Rattle.code_flow_system.specs.Certificates.{limits, size_by}
use Rattle.code_flow_system.specs.Lookups.{by_at}
use Rattle.dual_check.proofs.LookupLemmas.{holding-those}
use Rattle.dual_check.proofs.rows.add_held.Goals as goal

pub returns-clause-none : goal.returns-clause-none
returns-clause-none c =
    let h = holding-those (limits c.args.system.now.claims c.args.cert.now) c.mentions.result.now c.args.at in
    let e = ap (size_by (λ m. by_at (limits c.args.system.now.claims c.args.cert.now) m.limit *ℤ m.coefficient)) c.mentions_at-here.ensures ∙ sym h.1 ∙ c.mentions.ensures.adds_up.sized c.args.cert.now c.args.at c.requires in
    let n = c.add_mentions.ensures.none in
    (λ i. let k = n.0 i in omega (arith, e), λ i. n.1 (omega (arith, e)))

pub returns-clause-total : goal.returns-clause-total
returns-clause-total c =
    let h = holding-those (limits c.args.system.now.claims c.args.cert.now) c.mentions.result.now c.args.at in
    let e = ap (int_sum_by (λ m. by_at (limits c.args.system.now.claims c.args.cert.now) m.limit *ℤ m.coefficient)) c.mentions_at-here.ensures ∙ sym h.0 ∙ c.mentions.ensures.adds_up.holds c.args.cert.now c.args.at c.requires in
    IfSome_then c.add_mentions.result c.add_mentions.ensures.total (λ r t. omega (arith, ints))

pub returns-clause-size : goal.returns-clause-size
returns-clause-size c =
    let h = holding-those (limits c.args.system.now.claims c.args.cert.now) c.mentions.result.now c.args.at in
    let e = ap (size_by (λ m. by_at (limits c.args.system.now.claims c.args.cert.now) m.limit *ℤ m.coefficient)) c.mentions_at-here.ensures ∙ sym h.1 ∙ c.mentions.ensures.adds_up.sized c.args.cert.now c.args.at c.requires in
    IfSome_then c.add_mentions.result c.add_mentions.ensures.size (λ r t. omega (arith, e))
