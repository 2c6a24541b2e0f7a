use Rattle.std.proofs.Common.{arith, ◌≡◌, ◌+◌, ◌-◌, ◌<◌, ◌∙◌, ap, subst, ℕ, length}
use Rattle.code_flow_system.specs.declared.shapes.Span.{Span}
use Rattle.std.proofs.lemmas.List.{length-replicate}
use Rattle.loop_walks.specs.Levels.{level_of}
use Rattle.loop_flows.proofs.TotalLemmas.{only-long}
use Rattle.path_places.specs.Places.{place_of}
use Rattle.path_walks.specs.Prices.{prices_of}
use Rattle.path_flow_counts.specs.Sums.{flowing}
use Rattle.path_flow_counts.proofs.FlowLemmas.{Going, final-long, going_start, level_before, function_fits, going_next, going_end}
use Rattle.path_flow_counts.proofs.system.add_functions.Goals as goal

pub loop-k-init : goal.loop-k-init
loop-k-init c =
    let s = c.args.priced.system.now in
    let ls = c.args.priced.shapes.now in
    let ps = c.args.spans.now in
    let q = prices_of s c.args.priced.prices.now c.args.priced.low in
    let all : length ps - 0 ≡ length ps = omega arith in
    let long = final-long s ls ps c.requires.whole q c.requires.small in (
      going_start s ls ps c.requires.whole q (level_of c.args.worths.now c.args.weights.now) (flowing c.args.tally.now.starts.now c.args.tally.now.amounts.now) (length ps - 0) all c.requires.level c.requires.flow,
      ap (λ v. length v.worths) c.requires.level ∙ long.0,
      ap (λ v. length v.weights) c.requires.level ∙ long.1,
      c.requires.room,
      ap (λ f. length f.starts) c.requires.flow ∙ only-long (length s.moves) (place_of s.moves s.entry) 1,
      ap (λ f. length f.amounts) c.requires.flow ∙ length-replicate (length s.moves) 0,
    )

pub unsettle-requires-clause-worths : goal.unsettle-requires-clause-worths
unsettle-requires-clause-worths c = let l = c.loop-k.invariant.1 in omega (arith, l)

pub unsettle-requires-clause-weights : goal.unsettle-requires-clause-weights
unsettle-requires-clause-weights c = let l = c.loop-k.invariant.2 in omega (arith, l)

pub add_function-requires-clause-function : goal.add_function-requires-clause-function
add_function-requires-clause-function c =
    let s = c.args.priced.system.now in
    let ls = c.args.priced.shapes.now in
    let ps = c.args.spans.now in
    let q = prices_of s c.args.priced.prices.now c.args.priced.low in
    let k = c.loop-k.k in
    let t = c.loop-k-test.true in
    let i = length ps - 1 - k in
    let j = length ps - k in
    let before : j ≡ i + 1 = omega (arith, t) in
    let lt : i < length ps = omega (arith, t) in
    let d : Span = record { first = 0; end = 0 } in
    let now = level_of c.loop-k.worths c.loop-k.weights in
    let f = flowing c.loop-k.tally.starts.now c.loop-k.tally.amounts.now in
    let level = level_of c.unsettle.new.worths c.unsettle.new.weights in
    let back = level_before s ls ps c.requires.whole q c.requires.small i j d before lt now f c.unsettle.new.worths c.unsettle.new.weights c.loop-k.invariant.0 c.unsettle.auto.worths c.unsettle.auto.weights c.unsettle.ensures.worths c.unsettle.ensures.weights in
    function_fits s ls ps c.requires.whole q c.requires.small i j d before lt level back

pub loop-k-preserved : goal.loop-k-preserved
loop-k-preserved c =
    let s = c.args.priced.system.now in
    let ls = c.args.priced.shapes.now in
    let ps = c.args.spans.now in
    let q = prices_of s c.args.priced.prices.now c.args.priced.low in
    let k = c.loop-k.k in
    let t = c.loop-k-test.true in
    let i = length ps - 1 - k in
    let j = length ps - k in
    let before : j ≡ i + 1 = omega (arith, t) in
    let lt : i < length ps = omega (arith, t) in
    let d : Span = record { first = 0; end = 0 } in
    let now = level_of c.loop-k.worths c.loop-k.weights in
    let f = flowing c.loop-k.tally.starts.now c.loop-k.tally.amounts.now in
    let level = level_of c.unsettle.new.worths c.unsettle.new.weights in
    let back = level_before s ls ps c.requires.whole q c.requires.small i j d before lt now f c.unsettle.new.worths c.unsettle.new.weights c.loop-k.invariant.0 c.unsettle.auto.worths c.unsettle.auto.weights c.unsettle.ensures.worths c.unsettle.ensures.weights in
    let g = flowing c.add_function.new.tally.starts.now c.add_function.new.tally.amounts.now in
    let done : i ≡ length ps - (k + 1) = omega arith in
    let going = going_next s ls ps c.requires.whole q c.requires.small i j d before lt now f g level c.add_function.new.worths c.add_function.new.weights c.unsettle-in-loop-k.new.worths c.unsettle-in-loop-k.new.weights c.loop-k.invariant.0 back
    c.in_ok-add_function.ensures.worths c.in_ok-add_function.ensures.weights c.unsettle-in-loop-k.auto.worths c.unsettle-in-loop-k.auto.weights c.unsettle-in-loop-k.ensures.worths c.unsettle-in-loop-k.ensures.weights c.in_ok-add_function.ensures.flow in
    let w = c.loop-k.invariant.1 in
    let w1 = c.unsettle.auto.worths in
    let w2 = c.add_function.auto.worths in
    let w3 = c.unsettle-in-loop-k.auto.worths in
    let v = c.loop-k.invariant.2 in
    let v1 = c.unsettle.auto.weights in
    let v2 = c.add_function.auto.weights in
    let v3 = c.unsettle-in-loop-k.auto.weights in
    let r = c.loop-k.invariant.3 in
    let r1 = c.in_ok-add_function.ensures.room in
    let x = c.loop-k.invariant.4 in
    let x1 = c.in_ok-add_function.ensures.starts in
    let y = c.loop-k.invariant.5 in
    let y1 = c.in_ok-add_function.ensures.amounts in
    (subst (λ (m : ℕ). Going s ls ps q (level_of c.unsettle-in-loop-k.new.worths c.unsettle-in-loop-k.new.weights) g m) done going, omega (arith, w, w1, w2, w3), omega (arith, v, v1, v2, v3), omega (arith, r, r1), omega (arith, x, x1), omega (arith, y, y1))

pub returns-clause-amounts : goal.returns-clause-amounts
returns-clause-amounts c =
    let n = length c.args.priced.system.now.moves in
    let a = c.loop-k.invariant.5 in
    let b = ap (λ f. length f.amounts) c.requires.flow in
    let d = length-replicate {A = ℕ} n 0 in
    omega (arith, a, b, d)

pub returns-clause-flow : goal.returns-clause-flow
returns-clause-flow c =
    let s = c.args.priced.system.now in
    let ls = c.args.priced.shapes.now in
    let ps = c.args.spans.now in
    let q = prices_of s c.args.priced.prices.now c.args.priced.low in
    let e = c.loop-k-test.false in
    let none : length ps - c.loop-k.k ≡ 0 = omega (arith, e) in
    going_end s ls ps c.requires.whole q (level_of c.loop-k.worths c.loop-k.weights) (flowing c.loop-k.tally.starts.now c.loop-k.tally.amounts.now) (length ps - c.loop-k.k) none c.loop-k.invariant.0
