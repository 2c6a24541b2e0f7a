use Rattle.std.proofs.Common.{rules, arith, FitsSigned, ◌≡◌, ◌+◌, ◌-◌, ◌<◌, ◌≤◌, ◌∙◌, sym, ap, subst, ℕ, ℤ, List, length}
use mir.Val.{to_z, of_z}
use Rattle.std.specs.Int.{w128}
use Rattle.std.specs.List.Sorted.{IsNonDecreasingBy}
use Rattle.std.proofs.lemmas.Int.{to_z-of_z}
use Rattle.code_flow_system.specs.declared.moves.Move.{Move}
use Rattle.loop_walks.specs.declared.step.Step.{Step}
use Rattle.loop_walks.specs.declared.step.Loop.{Loop}
use Rattle.loop_walks.specs.Levels.{level_of, ground}
use Rattle.loop_flows.specs.Passes.{spread}
use Rattle.loop_flows.specs.Turns.{is_tight, turnings}
use Rattle.loop_flow_counts.specs.Wraps.{wrapped}
use Rattle.loop_flow_counts.specs.Made.{HasTurned}
use Rattle.path_places.specs.Places.{place_of, loops_of}
use Rattle.path_places.specs.PlaceLaws.{function_steps}
use Rattle.path_places.specs.Driver.{function_loops}
use Rattle.path_walks.specs.Prices.{prices_of}
use Rattle.path_walks.proofs.PointLemmas.{steps_rise}
use Rattle.path_flow_counts.proofs.FlowLemmas.{counts_by}
use Rattle.path_flow_counts.proofs.function.steps_made.Goals as goal

pub loops-requires-clause-steps : goal.loops-requires-clause-steps
loops-requires-clause-steps c = subst (λ xs. IsNonDecreasingBy (λ (m : Step). m.at) xs) (sym (c.deref.ensures.value ∙ c.in_ok-steps.ensures)) (steps_rise (length c.args.priced.system.now.moves) _ c.requires.function.steps)

pub returns-clause-made : goal.returns-clause-made
returns-clause-made c =
    let s = c.args.priced.system.now in
    let ls = c.args.priced.shapes.now in
    let q = prices_of s c.args.priced.prices.now c.args.priced.low in
    let v = level_of c.args.worths.now c.args.weights.now in
    let p = c.args.span in
    let ms = function_steps s ls q.of v.worths p in
    let rs = function_loops s ls q v.worths p in
    let low = to_z w128 (of_z w128 c.args.priced.low) in
    let small : FitsSigned w128 c.args.priced.low = search rules in
    let room = c.copy.new.tally.room.now in
    let counts = c.in_ok-made.made.counts.items in
    let backs = c.in_ok-made.made.backs.items in
    let n = length c.args.worths.now - 1 in
    let places : n ≡ length s.moves = (let l = c.requires.function.long_worths in omega (arith, l)) in
    let steps_are : c.deref-2.result.now ≡ ms = c.deref-2.ensures.value ∙ c.in_ok-steps.ensures in
    let loops_are : c.deref-3.result.now ≡ rs = c.deref-3.ensures.value ∙ (c.in_ok-loops.ensures ∙ ap (λ (xs : List Step). loops_of q.of q.low s.moves s.claims p xs s.claims.loops ls) (c.deref.ensures.value ∙ c.in_ok-steps.ensures)) in
    let turned =
    subst (λ (k : ℕ). HasTurned k ms (spread (is_tight (ground q.low ms v rs)) room ms) (turnings q.low ms v.weights rs) counts backs) places
    (subst (λ (z : ℤ). HasTurned n ms (spread (is_tight (ground z ms v rs)) room ms) (turnings z ms v.weights rs) counts backs) (to_z-of_z w128 c.args.priced.low small)
    (subst (λ (xs : List Step). HasTurned n xs (spread (is_tight (ground low xs v rs)) room xs) (turnings low xs v.weights rs) counts backs) steps_are
    (subst (λ (ys : List Loop). HasTurned n c.deref-2.result.now (spread (is_tight (ground low c.deref-2.result.now v ys)) room c.deref-2.result.now) (turnings low c.deref-2.result.now v.weights ys) counts backs) loops_are c.in_ok-made.ensures.made))) in
    let mv = c.moves-moves.ensures.value in
    let first = c.place_of-first.ensures.value ∙ ap (λ (xs : List Move). place_of xs p.first) mv in
    let end = c.place_of-end.ensures.value ∙ ap (λ (xs : List Move). place_of xs p.end) mv in
    let long : length room ≡ length s.moves + 1 = c.copy.ensures.room ∙ c.requires.room in
    let both = counts_by s ls q v p c.requires.function room c.args.tally.now.starts.now counts backs long c.requires.starts
    (λ a ge lt. ap wrapped (c.copy.ensures.copied a (subst (λ (k : ℕ). k ≤ a) (sym first) ge) (subst (λ (k : ℕ). a < k) (sym end) lt))) turned in
    record { counts_are = both.0; backs_are = both.1 }
