-- There is a worth for each place.
use Rattle.std.proofs.Common.{◌≡◌, zero, suc, ◌<◌, ℤ, pos, ◌≤ℤ◌, arith, refl, ◌∙◌, List, [], ◌∷◌, length, Contains, length-append}
use Rattle.std.proofs.Math.ListN.{replicate, length-replicate}
use Rattle.code_flow_system.specs.declared.shapes.LoopShape.{LoopShape}
use Rattle.code_flow_system.specs.declared.shapes.Span.{Span}
use Rattle.code_flow_system.specs.Systems.{System}
use Rattle.loop_walks.specs.Levels.{Level}
use Rattle.path_places.specs.PlaceLaws.{IsReachedWhole, function_steps}
use Rattle.path_places.specs.Driver.{Prices, blank, function_loops, function_level, functions_level}
use Rattle.path_places.proofs.DriverLemmas.{fits_function}
use Rattle.path_places.specs.Duals.{final_level}
use Rattle.path_places.proofs.BlockedLemmas.{settled_long}

module _ (s : System) (ls : List LoopShape) (ps : List Span) (whole : IsReachedWhole s ls ps) (q : Prices) (negative : q.low ≤ℤ pos 0) where
  functions_long : (v : Level) (rs : List Span) → ((r : Span) → Contains rs r → Contains ps r) → length (functions_level s ls q v rs).worths ≡ length v.worths
  functions_long v [] i = refl
  functions_long v (r ∷ rs) i =
      functions_long (function_level s ls q v r) rs (λ p k. i p (suc k.0, (let j = k.1 in omega (arith, j)), k.2))
      ∙ settled_long q.low (length s.moves) (function_steps s ls q.of v.worths r) (fits_function s ls ps whole q v.worths r (i r (zero, omega arith, refl))).0 negative v (function_loops s ls q v.worths r)

  pub worths_long : length s.moves < length (final_level s ls ps q).worths
  worths_long =
      let e = functions_long (blank (length s.moves) q.low) ps (λ r k. k) in
      let a = length-append (replicate (length s.moves) q.low) (pos 0 ∷ []) in
      let b = length-replicate (length s.moves) q.low in omega (arith, e, a, b)
