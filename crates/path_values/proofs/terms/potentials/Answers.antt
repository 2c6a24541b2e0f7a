use Rattle.std.proofs.Common.{rules, FitsSigned, ◌++◌, ◌∙◌, sym, ap, pos, get_or, append-nil}
use Rattle.std.specs.Int.{w128}
use mir.Val.{to_z, of_z}
use Rattle.std.proofs.lemmas.Int.{to_z-of_z}
use Rattle.std.proofs.lemmas.List.{drop_all}
use Rattle.frac128.specs.Terms.{Terms}
use Rattle.path_places.specs.Duals.{potentials_of}
use Rattle.path_values.proofs.PotentialLemmas.{potential_added}
use Rattle.path_values.proofs.terms.potentials.Goals as goal

pub loop-i-init : goal.loop-i-init
loop-i-init c = ap (λ (xs : Terms). xs ++ potentials_of c.args.moves.now c.args.worths.now c.args.moves.now) c.new-potentials.ensures.items

pub loop-i-preserved : goal.loop-i-preserved
loop-i-preserved c =
    let z = get_or c.args.worths.now c.loop-i.i (pos 0) in
    let f : FitsSigned w128 z = search rules in
    potential_added c.args.moves.now c.args.worths.now c.loop-i.i c.index-moves-i.result (to_z w128 (of_z w128 z)) c.loop-i.potentials.items c.add_potential.new.potentials.items _ c.requires.ascending c.loop-i-test.true c.index-moves-i.is (to_z-of_z w128 z f) c.loop-i.invariant c.in_ok-add_potential.ensures

pub returns : goal.returns
returns c =
    let e = drop_all c.loop-i.i c.args.moves.now c.loop-i-test.false in
    sym (append-nil c.loop-i.potentials.items) ∙ (sym (ap (λ ms. c.loop-i.potentials.items ++ potentials_of c.args.moves.now c.args.worths.now ms) e) ∙ c.loop-i.invariant)
