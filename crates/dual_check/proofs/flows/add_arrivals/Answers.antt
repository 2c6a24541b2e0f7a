use Rattle.std.proofs.Common.{arith, neg_ℤ, FitsSigned}
use Rattle.std.specs.Int.{w128}
use Rattle.std.proofs.lemmas.Int.{ints, to_z-of_z}
use Rattle.code_flow_system.specs.Certificates.{listed}
use Rattle.code_flow_system.specs.Lookups.{amount_at}
use Rattle.dual_check.proofs.SumLemmas.{added}
use Rattle.dual_check.proofs.flows.add_arrivals.Goals as goal

pub loop-i-preserved : goal.loop-i-preserved
loop-i-preserved c =
    let f : FitsSigned w128 c.amount_at-number.result = record { sfits = c.amount_at-number.type_inv } in
    let e1 = to_z-of_z w128 c.amount_at-number.result f in
    let e2 = c.amount_at-number.ensures in
    let t = c.in_ok-all.ensures.total in
    let s = c.in_ok-all.ensures.size in
    added (λ r. neg_ℤ (amount_at (listed c.args.cert.now.flow.parts) c.args.system.now.moves r.place)) c.args.arrivals.now c.loop-i.i (record { to = 0; place = 0 })
    c.loop-i.all.total c.in_ok-all.all.total c.args.sum.total c.loop-i.all.size c.in_ok-all.all.size c.args.sum.size c.loop-i-test.true (omega (arith, ints)) (omega (arith, ints)) c.loop-i.invariant
