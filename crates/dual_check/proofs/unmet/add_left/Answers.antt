use Rattle.std.proofs.Common.{arith, rules, get_or, pos, ◌*ℤ◌, FitsSigned}
use Rattle.std.specs.Int.{w128, w64}
use Rattle.std.proofs.lemmas.Int.{to_z-of_z}
use Rattle.dual_check.specs.Rows.{counts}
use Rattle.dual_check.proofs.SumLemmas.{added, ended}
use Rattle.dual_check.proofs.unmet.add_left.Goals as goal

pub loop-i-preserved : goal.loop-i-preserved
loop-i-preserved c =
    let f0 : FitsSigned w128 c.from.result = record { sfits = c.from.type_inv } in
    let e0 = to_z-of_z w128 c.from.result f0 in
    let g0 = c.from.ensures in
    let h : FitsSigned w64 (get_or c.args.terms.now c.loop-i.i (0, pos 0)).1 = search rules in
    let e1 = to_z-of_z w64 (get_or c.args.terms.now c.loop-i.i (0, pos 0)).1 h in
    added (λ t. t.1 *ℤ counts c.args.system.now c.args.cert.now t.0) c.args.terms.now c.loop-i.i (0, pos 0)
    c.loop-i.all.total c.in_ok-all.all.total c.args.sum.total c.loop-i.all.size c.in_ok-all.all.size c.args.sum.size c.loop-i-test.true (cc (e0, e1, g0, c.in_ok-all.ensures.total)) (cc (e0, e1, g0, c.in_ok-all.ensures.size)) c.loop-i.invariant

pub returns-clause-total : goal.returns-clause-total
returns-clause-total c =
    (ended (λ t. t.1 *ℤ counts c.args.system.now c.args.cert.now t.0) c.args.terms.now c.loop-i.i c.loop-i.all.total c.args.sum.total c.loop-i.all.size c.args.sum.size (omega (arith, c.loop-i-test.false)) c.loop-i.invariant).0

pub returns-clause-size : goal.returns-clause-size
returns-clause-size c =
    (ended (λ t. t.1 *ℤ counts c.args.system.now c.args.cert.now t.0) c.args.terms.now c.loop-i.i c.loop-i.all.total c.args.sum.total c.loop-i.all.size c.args.sum.size (omega (arith, c.loop-i-test.false)) c.loop-i.invariant).1
