use Rattle.std.proofs.Common.{◌≡◌, ◌<◌, ◌^◌, arith, ap, refl, ◌∙◌, pos, FitsSigned}
use Rattle.std.specs.Int.{w128}
use Rattle.std.proofs.lemmas.Int.{ints, to_z-of_z}
use Rattle.frac128.specs.Terms.{int_sum_by}
use Rattle.code_flow_system.specs.Counts.{amount}
use Rattle.code_flow_system.specs.Certificates.{listed, size_by}
use Rattle.code_flow_lookup.specs.Runs.{those_at}
use Rattle.dual_check.specs.Rows.{counts}
use Rattle.dual_check.proofs.FlowLemmas.{counts_sum}
use Rattle.dual_check.proofs.unmet.count.Goals as goal

pub returns-in-Some : goal.returns-in-Some
returns-in-Some c =
    let here = c.moves_at.ensures ∙ ap (those_at (λ m. m.at) c.args.at) c.moves.ensures.value in
    let all = ap (int_sum_by (λ m. amount (listed c.args.cert.now.flow.parts) m)) here ∙ (counts_sum c.args.system.now c.args.cert.now c.args.at).0 in
    let z = c.nothing.ensures.total in
    let t = c.in-Some.ensures.total in
    let within = c.in-Some.sum.within in
    let small : c.in-Some.sum.size < 2 ^ 126 = c.in-Some.sum.small in
    let fits : FitsSigned w128 c.in-Some.sum.total = omega (arith, ints) in
    let value : c.in-Some.sum.total ≡ counts c.args.system.now c.args.cert.now c.args.at = omega (arith, ints) in
    to_z-of_z w128 c.in-Some.sum.total fits ∙ value

pub returns-in-None : goal.returns-in-None
returns-in-None c =
    let here = c.moves_at.ensures ∙ ap (those_at (λ m. m.at) c.args.at) c.moves.ensures.value in
    let all = ap (λ n. pos n) (ap (size_by (λ m. amount (listed c.args.cert.now.flow.parts) m)) here) ∙ (counts_sum c.args.system.now c.args.cert.now c.args.at).1 in
    let z = c.nothing.ensures.size in
    let wide = c.in-None.ensures.none.0 refl in
    let narrow = (c.requires.flow c.args.at).balanced.narrow in
    absurd (omega (arith, ints))
