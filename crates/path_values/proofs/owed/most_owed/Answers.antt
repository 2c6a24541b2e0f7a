use Rattle.std.proofs.Common.{arith, ◌<◌, ◌-◌, ◌∙◌, sym, ap, subst, All, Option, ℤ, length}
use Rattle.rv_core.specs.Table.{table_of}
use Rattle.code_flow_lookup.specs.Runs.{those_at}
use Rattle.code_flow_system.specs.declared.moves.Move.{Move}
use Rattle.code_flow_system.specs.Systems.{IsPlaced}
use Rattle.code_flow_system.specs.Certificates.{limits, potential, scaled_price}
use Rattle.path_values.specs.Owed.{larger_of}
use Rattle.path_values.proofs.OwedLemmas.{those_all, most_on}
use Rattle.path_values.proofs.owed.most_owed.Goals as goal

pub owed-requires-clause-placed : goal.owed-requires-clause-placed
owed-requires-clause-placed c =
    let e = c.moves_at-steps.ensures ∙ ap (λ ms. those_at (λ (m : Move). m.at) c.args.at ms) c.moves.ensures.value in
    let all = subst (λ ms. All (λ (m : Move). IsPlaced m.at) ms) (sym e) (those_all (λ (m : Move). m.at) c.args.at (λ (m : Move). IsPlaced m.at) c.args.system.now.moves c.moves.ensures.valid.placed) in
    let t = c.loop-k-test.true in
    let i = length c.moves_at-steps.result.now - 1 - c.loop-k.k in
    let lt : i < length c.moves_at-steps.result.now = omega (arith, t) in
    subst (λ (m : Move). IsPlaced m.at) (sym c.index-steps-steps.is) (all i c.index-steps-steps.result lt)

pub loop-k-preserved : goal.loop-k-preserved
loop-k-preserved c =
    let price = scaled_price (table_of c.args.costs.now) c.args.system.now c.args.plain.now in
    let p = potential c.args.plain.now in
    let ls = limits c.args.system.now.claims c.args.plain.now in
    let m = c.index-steps-steps.result in (
      most_on price p ls c.moves_at-steps.result.now c.loop-k.k m m c.loop-k.most c.larger_of-most.result c.loop-k-test.true c.index-steps-steps.is c.loop-k.invariant.0 (c.larger_of-most.ensures.value ∙ ap (λ (o : Option ℤ). larger_of o c.loop-k.most) c.owed.ensures.value),
      c.larger_of-most.ensures.small,
    )
