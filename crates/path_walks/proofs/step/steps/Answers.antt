use Rattle.std.proofs.Common.{rules, arith, FitsSigned, ◌≡◌, ◌<◌, ◌++◌, ◌∙◌, sym, ap, subst, pos, List, length, drop, get_or, true, append-nil}
use mir.Val.{to_z, of_z}
use Rattle.std.specs.Int.{w128}
use Rattle.std.proofs.lemmas.Int.{to_z-of_z}
use Rattle.code_flow_system.specs.declared.moves.Move.{Move}
use Rattle.loop_walks.specs.declared.step.Step.{Step}
use Rattle.loop_worths.specs.Sizes.{HaveSmallPrices}
use Rattle.path_places.specs.Reached.{in_span}
use Rattle.path_places.specs.Places.{is_walked, steps_of}
use Rattle.path_walks.specs.Prices.{price_in}
use Rattle.path_walks.proofs.PointLemmas.{IsPoint}
use Rattle.path_walks.proofs.PriceLemmas.{priced_at}
use Rattle.path_walks.proofs.SoundLemmas.{shapes_rise}
use Rattle.path_walks.proofs.ListLemmas.{before_span, behind_span, within_span, outside, steps_skip, steps_none, step_small, step_added}
use Rattle.path_walks.proofs.step.steps.Goals as goal

pub add_step-requires-clause-headers : goal.add_step-requires-clause-headers
add_step-requires-clause-headers c = shapes_rise c.args.priced.system.now.claims c.args.priced.shapes.now c.moves-moves.ensures.valid.sound c.requires.loops.shapes

pub loop-i-init : goal.loop-i-init
loop-i-init c =
    let s = c.args.priced.system.now in
    let ls = c.args.priced.shapes.now in
    let price = price_in s.moves c.args.priced.prices.now in
    let n = c.place_of-first.result in
    let point = subst (λ ms. IsPoint (λ (m : Move). m.at) c.args.span.first ms n) c.moves-moves.ensures.value c.place_of-first.ensures.point in
    let e = steps_skip price s.moves c.args.worths.now (is_walked s.claims ls c.args.span) s.moves n (λ k d lt l. outside c.args.span s.claims ls (get_or s.moves k d).at (before_span c.args.span (get_or s.moves k d).at (point.0 k d (omega arith) lt))) in
    record {
      joined = ap (λ (xs : List Step). xs ++ steps_of price s.moves c.args.worths.now (is_walked s.claims ls c.args.span) (drop n s.moves)) c.new-steps.ensures.items ∙ e;
      small = subst HaveSmallPrices (sym e) c.requires.small;
    }

pub add_step-requires-clause-small : goal.add_step-requires-clause-small
add_step-requires-clause-small c =
    let s = c.args.priced.system.now in
    let ls = c.args.priced.shapes.now in
    let zs = c.args.priced.prices.now in
    let i = c.loop-i.i in
    let m = c.index-moves-i.result in
    let mv = c.moves-moves.ensures.value in
    let ml = ap length mv in
    let t = c.loop-i-test.true in
    let a = c.loop-i.auto.i in
    let b = c.place_of-end.ensures.bound in
    let lt : i < length s.moves = omega (arith, b, t, ml) in
    let is : m ≡ get_or s.moves i m = c.index-moves-i.is ∙ ap (λ ms. get_or ms i m) mv in
    let first = subst (λ ms. IsPoint (λ (k : Move). k.at) c.args.span.first ms c.place_of-first.result) mv c.place_of-first.ensures.point in
    let end = subst (λ ms. IsPoint (λ (k : Move). k.at) c.args.span.end ms c.place_of-end.result) mv c.place_of-end.ensures.point in
    let inside = subst (λ (k : Move). in_span c.args.span k.at ≡ true) (sym is) (within_span c.args.span (get_or s.moves i m).at (first.1 i m (omega (arith, a)) lt) (end.0 i m (omega arith) (omega (arith, t)))) in
    let f : FitsSigned w128 (get_or zs i (pos 0)) = search rules in
    let price = ap (price_in s.moves zs) is ∙ (priced_at s.moves zs c.moves-moves.ensures.valid.ascending c.requires.prices i m lt ∙ sym (to_z-of_z w128 (get_or zs i (pos 0)) f)) in
    λ walks. step_small (price_in s.moves zs) s.moves c.args.worths.now s.claims ls c.args.span s.moves i m (to_z w128 (of_z w128 (get_or zs i (pos 0)))) lt is inside price c.loop-i.steps.items _ c.loop-i.invariant walks

pub loop-i-preserved : goal.loop-i-preserved
loop-i-preserved c =
    let s = c.args.priced.system.now in
    let ls = c.args.priced.shapes.now in
    let zs = c.args.priced.prices.now in
    let i = c.loop-i.i in
    let m = c.index-moves-i.result in
    let mv = c.moves-moves.ensures.value in
    let ml = ap length mv in
    let t = c.loop-i-test.true in
    let a = c.loop-i.auto.i in
    let b = c.place_of-end.ensures.bound in
    let lt : i < length s.moves = omega (arith, b, t, ml) in
    let is : m ≡ get_or s.moves i m = c.index-moves-i.is ∙ ap (λ ms. get_or ms i m) mv in
    let first = subst (λ ms. IsPoint (λ (k : Move). k.at) c.args.span.first ms c.place_of-first.result) mv c.place_of-first.ensures.point in
    let end = subst (λ ms. IsPoint (λ (k : Move). k.at) c.args.span.end ms c.place_of-end.result) mv c.place_of-end.ensures.point in
    let inside = subst (λ (k : Move). in_span c.args.span k.at ≡ true) (sym is) (within_span c.args.span (get_or s.moves i m).at (first.1 i m (omega (arith, a)) lt) (end.0 i m (omega arith) (omega (arith, t)))) in
    let f : FitsSigned w128 (get_or zs i (pos 0)) = search rules in
    let price = ap (price_in s.moves zs) is ∙ (priced_at s.moves zs c.moves-moves.ensures.valid.ascending c.requires.prices i m lt ∙ sym (to_z-of_z w128 (get_or zs i (pos 0)) f)) in
    step_added (price_in s.moves zs) s.moves c.args.worths.now s.claims ls c.args.span s.moves i m (to_z w128 (of_z w128 (get_or zs i (pos 0)))) lt is inside price c.loop-i.steps.items _ c.loop-i.invariant c.add_step.new.steps.items c.in_ok-add_step.ensures

pub returns : goal.returns
returns c =
    let s = c.args.priced.system.now in
    let ls = c.args.priced.shapes.now in
    let price = price_in s.moves c.args.priced.prices.now in
    let i = c.loop-i.i in
    let f = c.loop-i-test.false in
    let end = subst (λ ms. IsPoint (λ (k : Move). k.at) c.args.span.end ms c.place_of-end.result) c.moves-moves.ensures.value c.place_of-end.ensures.point in
    let none = steps_none price s.moves c.args.worths.now (is_walked s.claims ls c.args.span) s.moves i (λ k d le lt. outside c.args.span s.claims ls (get_or s.moves k d).at (behind_span c.args.span (get_or s.moves k d).at (end.1 k d (omega (arith, f, le)) lt))) in
    sym (append-nil c.loop-i.steps.items) ∙ (sym (ap (λ (xs : List Step). c.loop-i.steps.items ++ xs) none) ∙ c.loop-i.invariant.joined)
