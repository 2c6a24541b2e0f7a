use Rattle.std.proofs.Common.{◌≡◌, ◌∙◌}
use Rattle.std.specs.Int.{w128, int_div_euclid}
use Rattle.std.specs.Ordering.{int_cmp}
use Rattle.std.proofs.lemmas.Int.{to_z-of_z}
use Rattle.frac128.proofs.OrderLemmas.{int_equal, int_rest_decides, int_wholes_decide}
use Rattle.frac128.proofs.order.compare_ratios.Goals as goal

pub returns-in-Equal : goal.returns-in-Equal
returns-in-Equal c =
    let a = to_z-of_z w128 c.args.a c.ranges.a in
    let b = to_z-of_z w128 c.args.b c.ranges.b in
    let n = to_z-of_z w128 c.args.c c.ranges.c in
    let d = to_z-of_z w128 c.args.d c.ranges.d in
    let p = to_z-of_z w128 c.div_euclid.result (record { sfits = c.div_euclid.type_inv }) in
    let q = to_z-of_z w128 c.div_euclid-2.result (record { sfits = c.div_euclid-2.type_inv }) in
    let e : c.cmp.result ≡ int_cmp (int_div_euclid c.args.a c.args.b) (int_div_euclid c.args.c c.args.d) = cc (a, b, n, d, p, q, c.div_euclid.ensures, c.div_euclid-2.ensures, c.cmp.ensures) in
    let same = int_equal (int_div_euclid c.args.a c.args.b) (int_div_euclid c.args.c c.args.d) c.cmp.result e c.in-Equal.is in
    c.compare_proper.ensures
    ∙ int_rest_decides c.args.a c.args.b c.args.c c.args.d _ _ _ _ (c.proper.ensures.den ∙ b) (c.proper-in-Equal.ensures.den ∙ d) c.requires.left c.requires.right (cc (c.proper.ensures.num, a, b)) (cc (c.proper-in-Equal.ensures.num, n, d)) same

pub returns-in_default : goal.returns-in_default
returns-in_default c =
    let a = to_z-of_z w128 c.args.a c.ranges.a in
    let b = to_z-of_z w128 c.args.b c.ranges.b in
    let n = to_z-of_z w128 c.args.c c.ranges.c in
    let d = to_z-of_z w128 c.args.d c.ranges.d in
    let p = to_z-of_z w128 c.div_euclid.result (record { sfits = c.div_euclid.type_inv }) in
    let q = to_z-of_z w128 c.div_euclid-2.result (record { sfits = c.div_euclid-2.type_inv }) in
    int_wholes_decide c.args.a c.args.b c.args.c c.args.d c.cmp.result c.requires.left c.requires.right (cc (a, b, n, d, p, q, c.div_euclid.ensures, c.div_euclid-2.ensures, c.cmp.ensures)) c.in_default.not-Equal
