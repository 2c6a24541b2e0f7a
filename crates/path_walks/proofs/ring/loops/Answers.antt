use Rattle.std.proofs.Common.{arith, ◌<◌, ◌+◌, ◌++◌, ◌∙◌, sym, ap, List, [], ◌∷◌, None, length, drop, get_or, append-nil}
use Rattle.std.specs.Prelude.{if◌then◌else◌}
use Rattle.code_flow_system.specs.declared.claims.LoopClaim.{LoopClaim}
use Rattle.code_flow_system.specs.declared.shapes.LoopShape.{LoopShape}
use Rattle.code_flow_system.specs.Systems.{has_moves}
use Rattle.loop_walks.specs.declared.step.Loop.{Loop}
use Rattle.path_places.specs.Places.{loop_of, loops_of}
use Rattle.path_walks.specs.Prices.{price_in}
use Rattle.path_walks.proofs.SoundLemmas.{shapes_rise, shapes-long}
use Rattle.path_walks.proofs.ListLemmas.{before_span, behind_span, within_span, loops_skip, loops_none, loops_next, loop_added}
use Rattle.path_walks.proofs.ring.loops.Goals as goal

abbrev no_claim : LoopClaim
no_claim = record { source = 0; factor = 0; min = 0; max = 0; header = 0; back = 0 }

abbrev no_shape : LoopShape
no_shape = record { header = 0; back = 0; parent = None; first = 0; last = 0 }

pub loops_before-first-requires : goal.loops_before-first-requires
loops_before-first-requires c = shapes_rise c.args.priced.system.now.claims c.args.priced.shapes.now c.moves-moves.ensures.valid.sound c.requires.shapes

pub loops_before-end-requires : goal.loops_before-end-requires
loops_before-end-requires c = shapes_rise c.args.priced.system.now.claims c.args.priced.shapes.now c.moves-moves.ensures.valid.sound c.requires.shapes

pub bounds-claims-i : goal.bounds-claims-i
bounds-claims-i c =
    let e = ap length c.loops-claims.ensures.value in
    let f = ap (λ cs. length cs.loops) c.claims.ensures in
    let l = shapes-long c.args.priced.system.now.claims.loops c.args.priced.shapes.now c.requires.shapes in
    let b = c.loops_before-end.ensures.bound in
    let t = c.loop-i-test.true in
    omega (arith, e, f, l, b, t)

pub loop-i-init : goal.loop-i-init
loop-i-init c =
    let s = c.args.priced.system.now in
    let ls = c.args.priced.shapes.now in
    let price = price_in s.moves c.args.priced.prices.now in
    let n = c.loops_before-first.result in
    ap (λ (xs : List Loop). xs ++ loops_of price c.args.priced.low s.moves s.claims c.args.span c.args.steps.now (drop n s.claims.loops) (drop n ls)) c.new-loops.ensures.items
    ∙ loops_skip price c.args.priced.low s.moves s.claims c.args.span c.args.steps.now s.claims.loops ls n (shapes-long s.claims.loops ls c.requires.shapes)
    (λ k d lt l. before_span c.args.span (get_or ls k d).header (c.loops_before-first.ensures.point.0 k d (omega arith) lt))

pub loop-i-preserved : goal.loop-i-preserved
loop-i-preserved c =
    let s = c.args.priced.system.now in
    let ls = c.args.priced.shapes.now in
    let price = price_in s.moves c.args.priced.prices.now in
    let low = c.args.priced.low in
    let i = c.loop-i.i in
    let t = c.loop-i-test.true in
    let b = c.loops_before-end.ensures.bound in
    let a = c.loop-i.auto.i in
    let lt : i < length ls = omega (arith, b, t) in
    let l = shapes-long s.claims.loops ls c.requires.shapes in
    let lt' : i < length s.claims.loops = omega (arith, lt, l) in
    let inside = within_span c.args.span (get_or ls i no_shape).header (c.loops_before-first.ensures.point.1 i no_shape (omega (arith, a)) lt) (c.loops_before-end.ensures.point.0 i no_shape (omega arith) (omega (arith, t))) in
    let e = c.loops-claims.ensures.value ∙ ap (λ cs. cs.loops) c.claims.ensures in
    let x = get_or ls i no_shape in
    let rest = loops_of price low s.moves s.claims c.args.span c.args.steps.now (drop (i + 1) s.claims.loops) (drop (i + 1) ls) in
    let ring = loop_of price low s.moves s.claims c.args.span c.args.steps.now (get_or s.claims.loops i no_claim) x in
    loop_added c.loop-i.loops.items c.add_loop.new.loops.items rest (loops_of price low s.moves s.claims c.args.span c.args.steps.now s.claims.loops ls) ring (has_moves s.moves x.header)
    (ap (λ (xs : List Loop). c.loop-i.loops.items ++ xs) (sym (loops_next price low s.moves s.claims c.args.span c.args.steps.now s.claims.loops ls i no_claim no_shape lt' lt inside)) ∙ c.loop-i.invariant)
    (c.in_ok-add_loop.ensures ∙ ap (λ (cs : List LoopClaim). c.loop-i.loops.items ++ (if has_moves s.moves x.header then loop_of price low s.moves s.claims c.args.span c.args.steps.now (get_or cs i no_claim) x ∷ [] else [])) e)

pub returns : goal.returns
returns c =
    let s = c.args.priced.system.now in
    let ls = c.args.priced.shapes.now in
    let price = price_in s.moves c.args.priced.prices.now in
    let i = c.loop-i.i in
    let f = c.loop-i-test.false in
    let none = loops_none price c.args.priced.low s.moves s.claims c.args.span c.args.steps.now s.claims.loops ls i (λ k d le lt. behind_span c.args.span (get_or ls k d).header (c.loops_before-end.ensures.point.1 k d (omega (arith, f, le)) lt)) in
    sym (append-nil c.loop-i.loops.items) ∙ (sym (ap (λ (xs : List Loop). c.loop-i.loops.items ++ xs) none) ∙ c.loop-i.invariant)
