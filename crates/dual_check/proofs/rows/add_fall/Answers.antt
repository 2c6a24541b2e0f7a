use Rattle.std.proofs.Common.{arith, FitsSigned}
use Rattle.std.specs.Int.{w128}
use Rattle.std.specs.Option.{option_to_list}
use Rattle.std.proofs.lemmas.Int.{ints, to_z-of_z}
use Rattle.std.proofs.lemmas.Option.{IfSome_then}
use Rattle.code_flow_system.specs.Certificates.{potential}
use Rattle.dual_check.proofs.SumLemmas.{sum-append}
use Rattle.dual_check.proofs.rows.add_fall.Goals as goal

pub returns-clause-total : goal.returns-clause-total
returns-clause-total c =
    let h = sum-append (potential c.args.cert.now) (option_to_list c.args.step.now.to) (option_to_list c.args.step.now.behind) in
    let total = h.0 in
    let f : FitsSigned w128 c.potential_of.result = record { sfits = c.potential_of.type_inv } in
    let e1 = to_z-of_z w128 c.potential_of.result f in
    let t = c.in_ok-gone.ensures.total in
    let u = c.in_ok-left.ensures.total in
    IfSome_then c.add_arrival-2.result c.add_arrival-2.ensures.total (λ r e. omega (arith, ints))

pub returns-clause-none : goal.returns-clause-none
returns-clause-none c =
    let h = sum-append (potential c.args.cert.now) (option_to_list c.args.step.now.to) (option_to_list c.args.step.now.behind) in
    let size = h.1 in
    let f : FitsSigned w128 c.potential_of.result = record { sfits = c.potential_of.type_inv } in
    let e1 = to_z-of_z w128 c.potential_of.result f in
    let t = c.in_ok-gone.ensures.size in
    let u = c.in_ok-left.ensures.size in
    let n = c.add_arrival-2.ensures.none in
    (λ i. let k = n.0 i in omega (arith, ints), λ i. n.1 (omega (arith, ints)))
