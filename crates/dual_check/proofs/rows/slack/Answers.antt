use Rattle.std.proofs.Common.{arith, ap, ◌∙◌, ◌*◌, pos, FitsSigned}
use Rattle.std.specs.Int.{w128}
use Rattle.std.proofs.lemmas.Int.{ints, to_z-of_z}
use Rattle.std.proofs.lemmas.Option.{IfSome_then}
use Rattle.dual_check.proofs.rows.slack.Goals as goal

pub returns-clause-none : goal.returns-clause-none
returns-clause-none c =
    let f : FitsSigned w128 c.price-price.result = record { sfits = c.price-price.type_inv } in
    let e1 = to_z-of_z w128 c.price-price.result f ∙ c.price-price.ensures ∙ ap (λ n. pos (n * c.args.cert.now.scale)) c.move_cost.ensures.value in
    let a = c.in_ok-fall.ensures.size in
    let b = c.in_ok-held.ensures.size in
    let z = c.nothing.ensures.size in
    let n = c.add_term.ensures.none in
    (λ i. let k = n.0 i in omega (arith, ints), λ i. n.1 (omega (arith, ints)))

pub returns-clause-total : goal.returns-clause-total
returns-clause-total c =
    let f : FitsSigned w128 c.price-price.result = record { sfits = c.price-price.type_inv } in
    let e1 = to_z-of_z w128 c.price-price.result f ∙ c.price-price.ensures ∙ ap (λ n. pos (n * c.args.cert.now.scale)) c.move_cost.ensures.value in
    let a = c.in_ok-fall.ensures.total in
    let b = c.in_ok-held.ensures.total in
    let z = c.nothing.ensures.total in
    IfSome_then c.add_term.result c.add_term.ensures.total (λ r e. omega (arith, ints))
