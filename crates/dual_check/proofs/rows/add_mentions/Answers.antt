use Rattle.std.proofs.Common.{pos, ◌*ℤ◌, get_or, rules, FitsSigned}
use Rattle.std.specs.Int.{w128}
use Rattle.std.proofs.lemmas.Int.{to_z-of_z}
use Rattle.code_flow_system.specs.Certificates.{limits}
use Rattle.code_flow_system.specs.Lookups.{by_at}
use Rattle.dual_check.proofs.SumLemmas.{added}
use Rattle.dual_check.proofs.rows.add_mentions.Goals as goal

pub loop-i-preserved : goal.loop-i-preserved
loop-i-preserved c =
    let f : FitsSigned w128 c.multiplier-by.result = record { sfits = c.multiplier-by.type_inv } in
    let g : FitsSigned w128 (get_or c.args.mentions.now c.loop-i.i (record { at = 0; limit = 0; coefficient = pos 0 })).coefficient = search rules in
    let e1 = to_z-of_z w128 c.multiplier-by.result f in
    let e2 = to_z-of_z w128 (get_or c.args.mentions.now c.loop-i.i (record { at = 0; limit = 0; coefficient = pos 0 })).coefficient g in
    let e3 = c.multiplier-by.ensures in
    added (λ m. by_at (limits c.args.system.now.claims c.args.cert.now) m.limit *ℤ m.coefficient) c.args.mentions.now c.loop-i.i (record { at = 0; limit = 0; coefficient = pos 0 })
    c.loop-i.all.total c.in_ok-all.all.total c.args.sum.total c.loop-i.all.size c.in_ok-all.all.size c.args.sum.size c.loop-i-test.true (cc (e1, e2, e3, c.in_ok-all.ensures.total)) (cc (e1, e2, e3, c.in_ok-all.ensures.size)) c.loop-i.invariant
