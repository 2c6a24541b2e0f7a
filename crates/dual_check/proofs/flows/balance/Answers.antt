use Rattle.std.proofs.Common.{◌≡◌, ◌+◌, ◌≤◌, ◌^◌, arith, ap, refl, ◌∙◌, pos, neg_ℤ, unsigned_abs, FitsSigned}
use Rattle.std.specs.Prelude.{is_some}
use Rattle.std.specs.Int.{w128}
use Rattle.std.proofs.lemmas.Int.{ints, to_z-of_z}
use Rattle.std.proofs.lemmas.Option.{IfSome_then}
use Rattle.frac128.specs.Terms.{int_sum_by, when_same}
use Rattle.code_flow_system.specs.Counts.{amount}
use Rattle.code_flow_system.specs.Lookups.{amount_at}
use Rattle.code_flow_system.specs.Certificates.{listed, size_by}
use Rattle.code_flow_lookup.specs.Runs.{those_at}
use Rattle.dual_check.specs.Rows.{counts}
use Rattle.dual_check.proofs.FlowLemmas.{adds_up, inflow_at, sizes_add, first_size, first_total}
use Rattle.dual_check.proofs.flows.balance.Goals as goal

pub returns-in_err-left-clause-none : goal.returns-in_err-left-clause-none
returns-in_err-left-clause-none c =
    let a = adds_up c.args.system.now c.args.cert.now c.arrivals.result.now c.args.at c.arrivals.ensures.adds_up in
    let here = c.moves_at-here.ensures ∙ ap (those_at (λ m. m.at) c.args.at) c.moves.ensures.value in
    let f : FitsSigned w128 c.unit_at.result = record { sfits = c.unit_at.type_inv } in
    let e1 = to_z-of_z w128 c.unit_at.result f ∙ c.unit_at.ensures in
    let left = ap (λ n. pos n) (ap (size_by (λ m. amount (listed c.args.cert.now.flow.parts) m)) here) ∙ a.leaves_size in
    let arrived = ap (λ n. pos n) (ap (size_by (λ r. neg_ℤ (amount_at (listed c.args.cert.now.flow.parts) c.args.system.now.moves r.place))) c.arrivals_at-there.ensures) ∙ a.arrives_size in
    let z = c.nothing.ensures.size in
    let s = c.in_ok-unit.ensures.size in
    let begun : c.in_ok-unit.unit.size ≡ unsigned_abs (when_same c.args.system.now.entry c.args.at (pos c.args.cert.now.flow.unit)) = s ∙ first_size c.nothing.result.size _ _ z e1 in
    let all = sizes_add (counts c.args.system.now c.args.cert.now c.args.at) (inflow_at c.args.system.now c.args.cert.now c.args.at) (when_same c.args.system.now.entry c.args.at (pos c.args.cert.now.flow.unit)) c.in_ok-unit.unit.size (size_by (λ m. amount (listed c.args.cert.now.flow.parts) m) c.moves_at-here.result.now) (size_by (λ r. neg_ℤ (amount_at (listed c.args.cert.now.flow.parts) c.args.system.now.moves r.place)) c.arrivals_at-there.result.now) begun left arrived a.unit in
    let wide = c.in_err-left.ensures.none.0 refl in
    let le : 2 ^ 126 ≤ unsigned_abs (counts c.args.system.now c.args.cert.now c.args.at) + unsigned_abs (inflow_at c.args.system.now c.args.cert.now c.args.at) = omega (arith, all, wide) in
    (λ i. le, λ i. ap is_some c.from_residual-in_err-left.ensures)

pub returns-clause-none : goal.returns-clause-none
returns-clause-none c =
    let a = adds_up c.args.system.now c.args.cert.now c.arrivals.result.now c.args.at c.arrivals.ensures.adds_up in
    let here = c.moves_at-here.ensures ∙ ap (those_at (λ m. m.at) c.args.at) c.moves.ensures.value in
    let f : FitsSigned w128 c.unit_at.result = record { sfits = c.unit_at.type_inv } in
    let e1 = to_z-of_z w128 c.unit_at.result f ∙ c.unit_at.ensures in
    let left = ap (λ n. pos n) (ap (size_by (λ m. amount (listed c.args.cert.now.flow.parts) m)) here) ∙ a.leaves_size in
    let arrived = ap (λ n. pos n) (ap (size_by (λ r. neg_ℤ (amount_at (listed c.args.cert.now.flow.parts) c.args.system.now.moves r.place))) c.arrivals_at-there.ensures) ∙ a.arrives_size in
    let z = c.nothing.ensures.size in
    let s = c.in_ok-unit.ensures.size in
    let begun : c.in_ok-unit.unit.size ≡ unsigned_abs (when_same c.args.system.now.entry c.args.at (pos c.args.cert.now.flow.unit)) = s ∙ first_size c.nothing.result.size _ _ z e1 in
    let all = sizes_add (counts c.args.system.now c.args.cert.now c.args.at) (inflow_at c.args.system.now c.args.cert.now c.args.at) (when_same c.args.system.now.entry c.args.at (pos c.args.cert.now.flow.unit)) c.in_ok-unit.unit.size (size_by (λ m. amount (listed c.args.cert.now.flow.parts) m) c.moves_at-here.result.now) (size_by (λ r. neg_ℤ (amount_at (listed c.args.cert.now.flow.parts) c.args.system.now.moves r.place)) c.arrivals_at-there.result.now) begun left arrived a.unit in
    let t = c.in_ok-left.ensures.size in
    let n = c.add_arrivals.ensures.none in
    (λ i. let k = n.0 i in omega (arith, all, t), λ i. n.1 (omega (arith, all, t)))

pub returns-clause-total : goal.returns-clause-total
returns-clause-total c =
    let a = adds_up c.args.system.now c.args.cert.now c.arrivals.result.now c.args.at c.arrivals.ensures.adds_up in
    let here = c.moves_at-here.ensures ∙ ap (those_at (λ m. m.at) c.args.at) c.moves.ensures.value in
    let f : FitsSigned w128 c.unit_at.result = record { sfits = c.unit_at.type_inv } in
    let e1 = to_z-of_z w128 c.unit_at.result f ∙ c.unit_at.ensures in
    let left = ap (int_sum_by (λ m. amount (listed c.args.cert.now.flow.parts) m)) here ∙ a.leaves in
    let arrived = ap (int_sum_by (λ r. neg_ℤ (amount_at (listed c.args.cert.now.flow.parts) c.args.system.now.moves r.place))) c.arrivals_at-there.ensures ∙ a.arrives in
    let z = c.nothing.ensures.total in
    let begun = c.in_ok-unit.ensures.total ∙ first_total c.nothing.result.total _ _ z e1 in
    let t = c.in_ok-left.ensures.total in
    IfSome_then c.add_arrivals.result c.add_arrivals.ensures.total (λ r e. omega (arith, ints))
