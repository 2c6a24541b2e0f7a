use Rattle.std.proofs.Common.{rules, sym, subst, ℤ, pos, get_or, FitsSigned}
use Rattle.std.specs.Int.{w128}
use Rattle.std.proofs.lemmas.Int.{to_z-of_z}
use Rattle.code_flow_system.specs.declared.claims.FactClaim.{FactClaim}
use Rattle.code_flow_system.specs.Certificates.{FitsSign}
use Rattle.path_fact_cases.proofs.AskLemmas.{signs_next, signs_end}
use Rattle.path_fact_cases.proofs.asking.have_signs.Goals as goal

pub loop-i-preserved : goal.loop-i-preserved
loop-i-preserved c =
    let fs = c.args.facts.now in
    let i = c.loop-i.i in
    let f = c.index-facts-i.result in
    let y = get_or c.args.multipliers.now i (pos 0) in
    let fits : FitsSigned w128 y = search rules in
    let listed = subst (λ (z : ℤ). FitsSign (get_or fs i f).op z) (to_z-of_z w128 y fits) (c.has_sign.ensures.0 c.if-not-has_sign.false) in
    let here = subst (λ (g : FactClaim). FitsSign g.op y) (sym c.index-facts-i.is) listed in
    signs_next fs c.args.multipliers.now i f c.index-facts-i.is c.loop-i-test.true c.requires here c.loop-i.invariant

pub returns : goal.returns
returns c = λ yes. signs_end c.args.facts.now c.args.multipliers.now c.loop-i.i c.loop-i-test.false c.loop-i.invariant
