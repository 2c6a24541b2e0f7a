-- No worth is below a block, nor above the greatest loose one and what all loops add.
use Rattle.std.proofs.Common.{◌≡◌, ◌≢◌, ℕ, zero, suc, ℤ, pos, ◌≤ℤ◌, arith, refl, sym, subst, List, [], ◌∷◌, ◌++◌, length, Bool, true, false}
use Rattle.std.specs.Prelude.{◌||◌, not}
use Rattle.std.proofs.Math.ListN.{replicate}
use Rattle.std.proofs.lemmas.Int.{ints}
use Rattle.code_flow_system.specs.declared.shapes.LoopShape.{LoopShape}
use Rattle.code_flow_system.specs.declared.shapes.Span.{Span}
use Rattle.code_flow_system.specs.Systems.{System}
use Rattle.code_flow_system.specs.Shapes.{is_back}
use Rattle.loop_walks.specs.Walks.{worth_at}
use Rattle.loop_walks.specs.Levels.{Level, weighed, ground}
use Rattle.loop_walks.specs.Rows.{Each}
use Rattle.loop_walks.proofs.EachLemmas.{steps_are}
use Rattle.loop_walks.proofs.WalkLemmas.{relaxed_other, relaxed_grows}
use Rattle.loop_walks.proofs.LevelLemmas.{settled_holds}
use Rattle.loop_ranges.specs.Reach.{AreBelow, reach}
use Rattle.loop_ranges.proofs.NearLemmas.{near_most}
use Rattle.loop_ranges.proofs.LevelsBelow.{worths_below}
use Rattle.path_places.specs.Places.{place_of, is_stop, is_walked}
use Rattle.path_places.specs.PlaceLaws.{function_steps}
use Rattle.path_places.proofs.LoopLemmas.{steps_each, has_of}
use Rattle.path_places.proofs.FunctionLemmas.{walked_in}
use Rattle.path_places.specs.Driver.{Prices, blank, function_loops, function_level, functions_level}
use Rattle.path_ranges.specs.Ranges.{IsLooseFunction, FunctionsAreLoose, loop_step, WorthsAreBounded}
use Rattle.path_ranges.proofs.FunctionRanges.{is_own_of, own_move, own_is}
use Rattle.path_ranges.proofs.SystemRanges.{walks_bounded}
use Rattle.path_ranges.proofs.CountLemmas.{kept, loops-kept, all_kept, all_kept_most, reach_least, reach-add, reach_grows}

abbrev pub AreAbove : ℤ → List ℤ → Type 0
AreAbove low ws = (a : ℕ) → low ≤ℤ worth_at ws a

module _ (s : System) (ls : List LoopShape) (q : Prices) (most : ℤ) (starts : ℕ) (negative : q.low ≤ℤ pos 0) (positive : pos 0 ≤ℤ most) where
  pub step_positive : pos 0 ≤ℤ loop_step q most starts
  step_positive = omega (arith, ints)

  module _ (v : Level) (p : Span) (f : IsLooseFunction s ls q most starts v p) where
    -- no step begins at a place that isn't the function's own
    pub none_begins : (a : ℕ) → is_own_of s.moves p a s.moves ≡ false → Each (λ m. m.at ≢ a) (function_steps s ls q.of v.worths p)
    none_begins a out = steps_each (λ m. m.at ≢ a) q.of s.moves v.worths (is_walked s.claims ls p) s.moves
        (λ m im w e. apart (is_own_of s.moves p a s.moves) out (subst (λ c. is_own_of s.moves p c s.moves ≡ true) e (own_move s.moves p s.moves m im (walked_in p (not (is_stop s.claims m.at || is_back ls m.at)) m.at w))))
      where
        apart : (t : Bool) → t ≡ false → t ≡ true → ⊥
        apart true e h = cc
        apart false e h = cc

    pub ground_below : (bound : ℤ) → most ≤ℤ bound → AreBelow bound v.worths → AreBelow bound (ground q.low (function_steps s ls q.of v.worths p) v (function_loops s ls q v.worths p)).worths
    ground_below bound le below a = by_own (is_own_of s.moves p a s.moves) refl
      where
        by_own : (t : Bool) → is_own_of s.moves p a s.moves ≡ t → worth_at (ground q.low (function_steps s ls q.of v.worths p) v (function_loops s ls q v.worths p)).worths a ≤ℤ bound
        by_own true e =
            let k = own_is s.moves p a s.moves (λ m i. i) e in
            let n = f.near k.move.at (has_of s.moves k.move k.among) k.inside in
            let u = near_most q.low (worth_at (ground q.low (function_steps s ls q.of v.worths p) v (function_loops s ls q v.worths p)).worths (place_of s.moves k.move.at)) (f.loose.worth (place_of s.moves k.move.at)) negative n in
            let w = (f.worths (place_of s.moves k.move.at)).1 in
            subst (λ c. worth_at (ground q.low (function_steps s ls q.of v.worths p) v (function_loops s ls q v.worths p)).worths c ≤ℤ bound) k.place (omega (arith, ints))
        by_own false e =
            let o = relaxed_other (weighed q.low (function_steps s ls q.of v.worths p) v.weights (function_loops s ls q v.worths p)) v.worths (function_steps s ls q.of v.worths p) a (none_begins a e) in
            let u = below a in omega (arith, ints)

    pub function_below : (bound : ℤ) → most ≤ℤ bound → AreBelow bound v.worths → AreBelow (reach (loop_step q most starts) bound (length (function_loops s ls q v.worths p))) (function_level s ls q v p).worths
    function_below bound le below = worths_below q.low most starts (length s.moves) f.loose (function_steps s ls q.of v.worths p) v (function_loops s ls q v.worths p) f.turns f.code bound (omega (arith, ints)) (ground_below bound le below)

    pub function_above : AreAbove q.low v.worths → AreAbove q.low (function_level s ls q v p).worths
    function_above above a =
        let c = f.code in
        let h = (settled_holds q.low (length s.moves) (function_steps s ls q.of v.worths p) v (function_loops s ls q v.worths p) c.blank.worths_long c.blank.weights_long c.steps c.loops c.blank.none).grows a in
        let g = relaxed_grows (weighed q.low (function_steps s ls q.of v.worths p) v.weights (function_loops s ls q v.worths p)) v.worths (length s.moves) (function_steps s ls q.of v.worths p) a c.blank.worths_long (steps_are (length s.moves) (function_steps s ls q.of v.worths p) c.steps) in
        let u = above a in omega (arith, ints)

  -- one function after the other
  bounded_from : (v : Level) (rs : List Span) (bound : ℤ) → FunctionsAreLoose s ls q most starts v rs → most ≤ℤ bound → AreBelow bound v.worths → AreAbove q.low v.worths →
      AreBelow (reach (loop_step q most starts) bound (all_kept s.moves rs s.claims.loops ls)) (functions_level s ls q v rs).worths × AreAbove q.low (functions_level s ls q v rs).worths
  bounded_from v [] bound f le below above = (below, above)
  bounded_from v (r ∷ rs) bound f le below above =
      let n = loops-kept q.of q.low s.moves s.claims r (function_steps s ls q.of v.worths r) s.claims.loops ls in
      let one : AreBelow (reach (loop_step q most starts) bound (kept s.moves r s.claims.loops ls)) (function_level s ls q v r).worths = subst (λ k. AreBelow (reach (loop_step q most starts) bound k) (function_level s ls q v r).worths) n (function_below v r f.0 bound le below) in
      let g = reach_least (loop_step q most starts) bound (kept s.moves r s.claims.loops ls) step_positive in
      let k = bounded_from (function_level s ls q v r) rs (reach (loop_step q most starts) bound (kept s.moves r s.claims.loops ls)) f.1 (omega (arith, ints)) one (function_above v r f.0 above) in
      (λ a. subst (λ (z : ℤ). worth_at (functions_level s ls q (function_level s ls q v r) rs).worths a ≤ℤ z) (sym (reach-add (loop_step q most starts) bound (kept s.moves r s.claims.loops ls) (all_kept s.moves rs s.claims.loops ls))) (k.0 a), k.1)

-- at first
pub blank_within : (low most : ℤ) (n a : ℕ) → low ≤ℤ pos 0 → pos 0 ≤ℤ most → (low ≤ℤ worth_at (replicate n low ++ pos 0 ∷ []) a) × (worth_at (replicate n low ++ pos 0 ∷ []) a ≤ℤ most)
blank_within low most zero zero h p = (h, p)
blank_within low most zero (suc a) h p = (h, p)
blank_within low most (suc n) zero h p = (omega (arith, ints), omega (arith, ints))
blank_within low most (suc n) (suc a) h p = blank_within low most n a h p

pub worths_bounded : (s : System) (ls : List LoopShape) (ps : List Span) → WorthsAreBounded s ls ps
worths_bounded s ls ps q price most starts b a =
    let apart = b.apart in let positive = b.positive in
    let negative : q.low ≤ℤ pos 0 = omega (arith, ints) in
    let k = bounded_from s ls q most starts negative b.positive (blank (length s.moves) q.low) ps most (walks_bounded s ls ps q price most starts b) (omega (arith, ints))
    (λ c. (blank_within q.low most (length s.moves) c negative b.positive).1) (λ c. (blank_within q.low most (length s.moves) c negative b.positive).0) in
    let few = all_kept_most s.moves ps s.claims.loops ls b.whole.fits.apart in
    let g = reach_grows (loop_step q most starts) most (all_kept s.moves ps s.claims.loops ls) (length s.claims.loops) (omega (arith, ints)) few in
    let up = k.0 a in (k.1 a, omega (arith, ints))
