use Rattle.std.proofs.Common.{ℤ, arith, ap, ◌∙◌, pos, ◌*ℤ◌, unsigned_abs, FitsSigned}
use Rattle.std.specs.Int.{w128}
use Rattle.std.proofs.lemmas.Int.{ints, to_z-of_z}
use Rattle.std.proofs.lemmas.Option.{IfSome_then}
use Rattle.dual_check.specs.Rows.{counts}
use Rattle.dual_check.proofs.unmet.most.Goals as goal

pub returns-clause-none : goal.returns-clause-none
returns-clause-none c =
    let f : FitsSigned w128 c.whole-back.result = record { sfits = c.whole-back.type_inv } in
    let g : FitsSigned w128 c.difference-header.result = record { sfits = c.difference-header.type_inv } in
    let e1 = to_z-of_z w128 c.whole-back.result f ∙ c.whole-back.ensures ∙ ap (λ n. pos n) c.from.ensures in
    let e2 = to_z-of_z w128 c.difference-header.result g ∙ c.difference-header.ensures in
    let b = ap (λ (z : ℤ). unsigned_abs (z *ℤ counts c.args.system.now c.args.cert.now c.args.claim.now.back)) e1 in
    let h = ap (λ (z : ℤ). unsigned_abs (z *ℤ counts c.args.system.now c.args.cert.now c.args.claim.now.header)) e2 in
    let z = c.nothing.ensures.size in
    let t = c.in_ok-sum.ensures.size in
    let n = c.add_count-2.ensures.none in
    (λ i. let k = n.0 i in omega (arith, b, h, z, t), λ i. n.1 (omega (arith, b, h, z, t)))

pub returns-clause-total : goal.returns-clause-total
returns-clause-total c =
    let f : FitsSigned w128 c.whole-back.result = record { sfits = c.whole-back.type_inv } in
    let g : FitsSigned w128 c.difference-header.result = record { sfits = c.difference-header.type_inv } in
    let e1 = to_z-of_z w128 c.whole-back.result f ∙ c.whole-back.ensures ∙ ap (λ n. pos n) c.from.ensures in
    let e2 = to_z-of_z w128 c.difference-header.result g ∙ c.difference-header.ensures in
    let b = ap (λ (z : ℤ). z *ℤ counts c.args.system.now c.args.cert.now c.args.claim.now.back) e1 in
    let h = ap (λ (z : ℤ). z *ℤ counts c.args.system.now c.args.cert.now c.args.claim.now.header) e2 in
    let z = c.nothing.ensures.total in
    let t = c.in_ok-sum.ensures.total in
    IfSome_then c.add_count-2.result c.add_count-2.ensures.total (λ r e. omega (arith, ints))
