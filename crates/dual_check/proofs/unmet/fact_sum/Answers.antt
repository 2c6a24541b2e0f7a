use Rattle.std.proofs.Common.{arith, ap, refl, neg_ℤ, ◌*ℤ◌}
use Rattle.std.specs.Prelude.{is_some}
use Rattle.std.proofs.lemmas.Int.{ints}
use Rattle.std.proofs.lemmas.Option.{IfSome_then}
use Rattle.frac128.specs.Terms.{int_sum_by}
use Rattle.code_flow_system.specs.Certificates.{negated, size_by}
use Rattle.dual_check.specs.Rows.{counts}
use Rattle.dual_check.proofs.SumLemmas.{sum-append}
use Rattle.dual_check.proofs.ClaimLemmas.{negated_is}
use Rattle.dual_check.proofs.unmet.fact_sum.Goals as goal

pub returns-in_err-left-clause-none : goal.returns-in_err-left-clause-none
returns-in_err-left-clause-none c =
    let whole = sum-append (λ t. t.1 *ℤ counts c.args.system.now c.args.cert.now t.0) c.args.claim.now.left (negated c.args.claim.now.right) in
    let right = negated_is (counts c.args.system.now c.args.cert.now) c.args.claim.now.right in
    let size = whole.1 in
    let left = ap (size_by (λ t. t.1 *ℤ counts c.args.system.now c.args.cert.now t.0)) c.terms.ensures.all in
    let z = c.nothing.ensures.size in
    let wide = c.in_err-left.ensures.none.0 refl in
    (λ i. omega (arith, size, left, z, wide), λ i. ap is_some c.from_residual.ensures)

pub returns-clause-none : goal.returns-clause-none
returns-clause-none c =
    let whole = sum-append (λ t. t.1 *ℤ counts c.args.system.now c.args.cert.now t.0) c.args.claim.now.left (negated c.args.claim.now.right) in
    let right = negated_is (counts c.args.system.now c.args.cert.now) c.args.claim.now.right in
    let size = whole.1 in
    let left = ap (size_by (λ t. t.1 *ℤ counts c.args.system.now c.args.cert.now t.0)) c.terms.ensures.all in
    let other = ap (size_by (λ t. neg_ℤ t.1 *ℤ counts c.args.system.now c.args.cert.now t.0)) c.terms-2.ensures.all in
    let same = right.1 in
    let z = c.nothing.ensures.size in
    let t = c.in_ok-left.ensures.size in
    let n = c.add_right.ensures.none in
    (λ i. let k = n.0 i in omega (arith, size, left, other, same, z, t), λ i. n.1 (omega (arith, size, left, other, same, z, t)))

pub returns-clause-total : goal.returns-clause-total
returns-clause-total c =
    let whole = sum-append (λ t. t.1 *ℤ counts c.args.system.now c.args.cert.now t.0) c.args.claim.now.left (negated c.args.claim.now.right) in
    let right = negated_is (counts c.args.system.now c.args.cert.now) c.args.claim.now.right in
    let total = whole.0 in
    let left = ap (int_sum_by (λ t. t.1 *ℤ counts c.args.system.now c.args.cert.now t.0)) c.terms.ensures.all in
    let other = ap (int_sum_by (λ t. neg_ℤ t.1 *ℤ counts c.args.system.now c.args.cert.now t.0)) c.terms-2.ensures.all in
    let same = right.0 in
    let z = c.nothing.ensures.total in
    let t = c.in_ok-left.ensures.total in
    IfSome_then c.add_right.result c.add_right.ensures.total (λ r e. omega (arith, ints))
