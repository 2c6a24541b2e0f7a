-- All functions' numbers stay small, one after the other.
use Rattle.std.proofs.Common.{ℕ, ◌+◌, ◌≤◌, ◌<◌, ◌^◌, ℤ, pos, ◌+ℤ◌, ◌-ℤ◌, ◌≤ℤ◌, ◌<ℤ◌, arith, sym, subst, List, [], ◌∷◌, length}
use Rattle.std.proofs.lemmas.Int.{ints}
use Rattle.code_flow_system.specs.declared.shapes.LoopShape.{LoopShape}
use Rattle.code_flow_system.specs.declared.shapes.Span.{Span}
use Rattle.code_flow_system.specs.Systems.{System}
use Rattle.loop_walks.specs.Walks.{worth_at}
use Rattle.loop_walks.specs.Levels.{Level}
use Rattle.loop_ranges.specs.Reach.{AreBelow, reach}
use Rattle.loop_sizes.specs.Laws.{IsIn, IsSized}
use Rattle.loop_sizes.proofs.LevelSizes.{stay_small}
use Rattle.path_places.specs.PlaceLaws.{function_steps}
use Rattle.path_places.specs.Driver.{Prices, blank, function_loops, function_level}
use Rattle.path_places.proofs.DriverLemmas.{zero_at}
use Rattle.path_ranges.specs.Ranges.{IsLooseFunction, FunctionsAreLoose, loop_step}
use Rattle.path_ranges.proofs.CountLemmas.{kept, loops-kept, all_kept, all_kept_most, reach_least, reach-add, reach_grows}
use Rattle.path_ranges.proofs.WorthRanges.{AreAbove, step_positive, ground_below, function_below, function_above, blank_within}
use Rattle.path_ranges.proofs.SystemRanges.{walks_bounded}
use Rattle.path_sizes.specs.Sizes.{AllStaySmall, AllAreSized, NumbersFit}

small_of_sized : (s : System) (ls : List LoopShape) (q : Prices) (size : ℤ) (v : Level) (rs : List Span) → AllAreSized s ls q size v rs → AllStaySmall s ls q v rs
small_of_sized s ls q size v [] h = tt
small_of_sized s ls q size v (r ∷ rs) h = (h.0.small, small_of_sized s ls q size (function_level s ls q v r) rs h.1)

module _ (s : System) (ls : List LoopShape) (q : Prices) (most : ℤ) (starts : ℕ) (size : ℤ) (negative : q.low ≤ℤ pos 0) (positive : pos 0 ≤ℤ most) (fits : size <ℤ pos (2 ^ 124)) where
  one_sized : (v : Level) (p : Span) (bound : ℤ) → IsLooseFunction s ls q most starts v p → most ≤ℤ bound → AreBelow bound v.worths → AreAbove q.low v.worths → ((a : ℕ) → IsIn size (worth_at v.weights a)) →
      (reach (loop_step q most starts) bound (kept s.moves p s.claims.loops ls) +ℤ ((most -ℤ (q.low +ℤ q.low)) +ℤ pos starts)) ≤ℤ size → IsSized q.low size (function_steps s ls q.of v.worths p) v (function_loops s ls q v.worths p)
  one_sized v p bound f least below above weights enough =
      let n = loops-kept q.of q.low s.moves s.claims p (function_steps s ls q.of v.worths p) s.claims.loops ls in
      stay_small q.low most bound size starts (length s.moves) f.loose (function_steps s ls q.of v.worths p) v (function_loops s ls q v.worths p) f.turns f.code (record {
        bound_least = least;
        below = ground_below s ls q most starts negative positive v p f bound least below;
        above = above;
        weights = weights;
        steps = f.steps;
        backs = f.backs;
        enough = subst (λ k. (reach (loop_step q most starts) bound k +ℤ ((most -ℤ (q.low +ℤ q.low)) +ℤ pos starts)) ≤ℤ size) (sym n) enough;
        fits = fits;
      })

  sized_from : (v : Level) (rs : List Span) (bound : ℤ) → FunctionsAreLoose s ls q most starts v rs → most ≤ℤ bound → AreBelow bound v.worths → AreAbove q.low v.worths → ((a : ℕ) → IsIn size (worth_at v.weights a)) →
      (reach (loop_step q most starts) bound (all_kept s.moves rs s.claims.loops ls) +ℤ ((most -ℤ (q.low +ℤ q.low)) +ℤ pos starts)) ≤ℤ size → AllAreSized s ls q size v rs
  sized_from v [] bound f least below above weights enough = tt
  sized_from v (r ∷ rs) bound f least below above weights enough =
      let n = loops-kept q.of q.low s.moves s.claims r (function_steps s ls q.of v.worths r) s.claims.loops ls in
      let e = reach-add (loop_step q most starts) bound (kept s.moves r s.claims.loops ls) (all_kept s.moves rs s.claims.loops ls) in
      let up = step_positive s ls q most starts negative positive in
      let g = reach_least (loop_step q most starts) (reach (loop_step q most starts) bound (kept s.moves r s.claims.loops ls)) (all_kept s.moves rs s.claims.loops ls) up in
      let b = reach_least (loop_step q most starts) bound (kept s.moves r s.claims.loops ls) up in
      let one = one_sized v r bound f.0 least below above weights (omega (arith, ints)) in
      let next : AreBelow (reach (loop_step q most starts) bound (kept s.moves r s.claims.loops ls)) (function_level s ls q v r).worths = subst (λ k. AreBelow (reach (loop_step q most starts) bound k) (function_level s ls q v r).worths) n (function_below s ls q most starts negative positive v r f.0 bound least below) in
      (one, sized_from (function_level s ls q v r) rs (reach (loop_step q most starts) bound (kept s.moves r s.claims.loops ls)) f.1 (omega (arith, ints)) next (function_above s ls q most starts negative positive v r f.0 above) one.weights (omega (arith, ints)))

pub all_fit : (s : System) (ls : List LoopShape) (ps : List Span) → NumbersFit s ls ps
all_fit s ls ps q price most starts size b enough fits = (small_of_sized s ls q size (blank (length s.moves) q.low) ps sized, sized)
  where
    negative : q.low ≤ℤ pos 0
    negative = let a = b.apart in let p = b.positive in omega (arith, ints)

    up : pos 0 ≤ℤ loop_step q most starts
    up = step_positive s ls q most starts negative b.positive

    size_positive : pos 0 ≤ℤ size
    size_positive =
        let r = reach_least (loop_step q most starts) most (length s.claims.loops) up in
        let p = b.positive in let n = negative in let e = enough in omega (arith, ints)

    sized : AllAreSized s ls q size (blank (length s.moves) q.low) ps
    sized =
        let few = all_kept_most s.moves ps s.claims.loops ls b.whole.fits.apart in
        let g = reach_grows (loop_step q most starts) most (all_kept s.moves ps s.claims.loops ls) (length s.claims.loops) up few in
        let e = enough in
        sized_from s ls q most starts size negative b.positive fits (blank (length s.moves) q.low) ps most (walks_bounded s ls ps q price most starts b) (omega (arith, ints))
        (λ c. (blank_within q.low most (length s.moves) c negative b.positive).1) (λ c. (blank_within q.low most (length s.moves) c negative b.positive).0)
        (λ a. let z = zero_at (length s.moves + 1) a in let p = size_positive in (omega (arith, ints), omega (arith, ints))) (omega (arith, ints))
