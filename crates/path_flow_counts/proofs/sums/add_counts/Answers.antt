use Rattle.std.proofs.Common.{arith, refl, ◌≡◌, ◌<◌, ◌∙◌, sym, ap, subst, length, get_or, true}
use Rattle.code_flow_system.specs.declared.moves.Move.{Move}
use Rattle.path_places.specs.Reached.{in_span}
use Rattle.path_places.specs.Places.{is_walked}
use Rattle.path_walks.specs.Opens.{is_open}
use Rattle.path_walks.proofs.PointLemmas.{IsPoint}
use Rattle.path_walks.proofs.SoundLemmas.{shapes_rise}
use Rattle.path_walks.proofs.ListLemmas.{before_span, behind_span, within_span, outside}
use Rattle.path_flow_counts.proofs.SumLemmas.{adds_start, adds_next, adds_end, walked_inside}
use Rattle.path_flow_counts.proofs.sums.add_counts.Goals as goal

pub add_move-used-requires-clause-headers : goal.add_move-used-requires-clause-headers
add_move-used-requires-clause-headers c = shapes_rise c.args.priced.system.now.claims c.args.priced.shapes.now c.moves-moves.ensures.valid.sound c.requires.loops.shapes

pub add_move-used-requires-clause-place : goal.add_move-used-requires-clause-place
add_move-used-requires-clause-place c =
    let t = c.loop-i-test.true in
    let b = c.place_of-end.ensures.bound in
    let ml = ap length c.moves-moves.ensures.value in
    let l = c.loop-i.invariant.0.long in
    omega (arith, t, b, ml, l)

pub add_move-used-requires-clause-long : goal.add_move-used-requires-clause-long
add_move-used-requires-clause-long c =
    let l = c.loop-i.invariant.2 in
    let r = c.requires.long in
    omega (arith, l, r)

pub loop-i-init : goal.loop-i-init
loop-i-init c =
    let s = c.args.priced.system.now in
    let ls = c.args.priced.shapes.now in
    let n = c.place_of-first.result in
    let point = subst (λ ms. IsPoint (λ (m : Move). m.at) c.args.span.first ms n) c.moves-moves.ensures.value c.place_of-first.ensures.point in
    let adds =
    adds_start s.moves (is_walked s.claims ls c.args.span) c.args.counts.now c.args.tally.now.amounts.now c.args.tally.now.starts.now n c.requires.amounts
    (λ k d lt l. outside c.args.span s.claims ls (get_or s.moves k d).at (before_span c.args.span (get_or s.moves k d).at (point.0 k d (omega arith) lt))) in
    (adds, refl, refl)

pub loop-i-preserved : goal.loop-i-preserved
loop-i-preserved c =
    let s = c.args.priced.system.now in
    let ls = c.args.priced.shapes.now in
    let i = c.loop-i.i in
    let m = c.index-moves-i.result in
    let mv = c.moves-moves.ensures.value in
    let ml = ap length mv in
    let t = c.loop-i-test.true in
    let a = c.loop-i.auto.i in
    let b = c.place_of-end.ensures.bound in
    let lt : i < length s.moves = omega (arith, b, t, ml) in
    let is : m ≡ get_or s.moves i m = c.index-moves-i.is ∙ ap (λ ms. get_or ms i m) mv in
    let first = subst (λ ms. IsPoint (λ (k : Move). k.at) c.args.span.first ms c.place_of-first.result) mv c.place_of-first.ensures.point in
    let end = subst (λ ms. IsPoint (λ (k : Move). k.at) c.args.span.end ms c.place_of-end.result) mv c.place_of-end.ensures.point in
    let inside = subst (λ (k : Move). in_span c.args.span k.at ≡ true) (sym is) (within_span c.args.span (get_or s.moves i m).at (first.1 i m (omega (arith, a)) lt) (end.0 i m (omega arith) (omega (arith, t)))) in
    let adds =
    adds_next s.moves (is_walked s.claims ls c.args.span) c.args.counts.now c.args.tally.now.amounts.now c.args.tally.now.starts.now c.loop-i.tally.amounts.now c.loop-i.tally.starts.now c.loop-i.used i m lt is c.loop-i.invariant.0
    (is_open s.claims ls m.at) (walked_inside c.args.span s.claims ls m.at inside) c.add_move-used.result c.add_move-used.new.tally.amounts.now c.add_move-used.new.tally.starts.now c.add_move-used.ensures.counted in
    (adds, c.add_move-used.ensures.room ∙ c.loop-i.invariant.1, c.add_move-used.ensures.long_starts ∙ c.loop-i.invariant.2)

pub returns : goal.returns
returns c =
    let s = c.args.priced.system.now in
    let ls = c.args.priced.shapes.now in
    let i = c.loop-i.i in
    let f = c.loop-i-test.false in
    let end = subst (λ ms. IsPoint (λ (k : Move). k.at) c.args.span.end ms c.place_of-end.result) c.moves-moves.ensures.value c.place_of-end.ensures.point in
    let both = adds_end s.moves (is_walked s.claims ls c.args.span) c.args.counts.now c.args.tally.now.amounts.now c.args.tally.now.starts.now c.loop-i.tally.amounts.now c.loop-i.tally.starts.now c.loop-i.used i
    (λ k d le lt. outside c.args.span s.claims ls (get_or s.moves k d).at (behind_span c.args.span (get_or s.moves k d).at (end.1 k d (omega (arith, f, le)) lt))) c.loop-i.invariant.0 in
    record {
      room = c.loop-i.invariant.1;
      long_amounts = c.loop-i.invariant.0.long ∙ sym c.requires.amounts;
      long_starts = c.loop-i.invariant.2;
      amounts = both.0;
      starts = both.1;
    }
