-- The walks go by the prices of a system's own moves alone.
use Rattle.std.proofs.Common.{◌≡◌, ℕ, zero, suc, ℤ, pos, arith, refl, sym, ap, subst, ◌∙◌, List, [], ◌∷◌, length, get_or, map, Contains, Bool, cond, ◌+◌}
use Rattle.std.specs.Prelude.{◌==◌, ◌&&◌}
use Rattle.std.proofs.lemmas.List.{length-map, get_or-map}
use Rattle.code_flow_system.specs.declared.claims.LoopClaim.{LoopClaim}
use Rattle.code_flow_system.specs.declared.moves.Move.{Move}
use Rattle.code_flow_system.specs.declared.shapes.LoopShape.{LoopShape}
use Rattle.code_flow_system.specs.declared.shapes.Span.{Span}
use Rattle.code_flow_system.specs.Claims.{Claims}
use Rattle.code_flow_system.specs.Systems.{System, AreAscending, has_moves}
use Rattle.loop_walks.specs.declared.step.Step.{Step}
use Rattle.loop_walks.specs.declared.step.Loop.{Loop}
use Rattle.loop_walks.specs.declared.step.Pair.{Pair}
use Rattle.loop_walks.specs.Walks.{larger}
use Rattle.loop_walks.specs.Levels.{Level, settled, settled_pairs}
use Rattle.path_places.specs.Reached.{in_span}
use Rattle.path_places.specs.Places.{place_of, step_of, is_walked, steps_of, before, back_place, dearest_from, end_place, loop_of, loops_of}
use Rattle.path_places.specs.PlaceLaws.{function_steps}
use Rattle.path_places.specs.Driver.{Prices, blank, function_loops, function_level, function_pairs, functions_level}
use Rattle.path_places.specs.Duals.{dealt, no_pairs, pairs_from, final_level, final_pairs}
use Rattle.loop_worths.specs.Sizes.{StaysSmall}
use Rattle.path_walks.specs.Prices.{price_in}
use Rattle.path_walks.specs.Sizes.{AllStaySmall}
use Rattle.path_walks.proofs.PriceLemmas.{priced_at}

later : (x : Move) (xs : List Move) (m : Move) → Contains xs m → Contains (x ∷ xs) m
later x xs m (k, lt, e) = (suc k, omega (arith, lt), e)

first : (x : Move) (xs : List Move) → Contains (x ∷ xs) x
first x xs = (zero, omega arith, refl)

module _ (f g : Move → ℤ) where
  pub steps_same : (all : List Move) (ws : List ℤ) (walked : ℕ → Bool) (ms : List Move) → ((m : Move) → Contains ms m → f m ≡ g m) → steps_of f all ws walked ms ≡ steps_of g all ws walked ms
  steps_same all ws walked [] h = refl
  steps_same all ws walked (m ∷ ms) h =
      ap (λ (z : ℤ). cond (walked m.at) (step_of (λ k. z) all ws m ∷ steps_of f all ws walked ms) (steps_of f all ws walked ms)) (h m (first m ms))
      ∙ ap (λ (xs : List Step). cond (walked m.at) (step_of g all ws m ∷ xs) xs) (steps_same all ws walked ms (λ k i. h k (later m ms k i)))

  dear_same : (ms : List Move) (a : ℕ) (low : ℤ) → ((m : Move) → Contains ms m → f m ≡ g m) → dearest_from f ms a low ≡ dearest_from g ms a low
  dear_same [] a low h = refl
  dear_same (m ∷ ms) a low h =
      ap (λ (z : ℤ). cond (m.at == a) (larger z (dearest_from f ms a low)) (dearest_from f ms a low)) (h m (first m ms))
      ∙ ap (λ (z : ℤ). cond (m.at == a) (larger (g m) z) z) (dear_same ms a low (λ k i. h k (later m ms k i)))

  module _ (low : ℤ) (all : List Move) (h : (m : Move) → Contains all m → f m ≡ g m) where
    loop_same : (c : Claims) (p : Span) (ms : List Step) (claim : LoopClaim) (l : LoopShape) → loop_of f low all c p ms claim l ≡ loop_of g low all c p ms claim l
    loop_same c p ms claim l = ap ring (dear_same all l.back low h)
      where
        ring : ℤ → Loop
        ring z = record {
          header = place_of all l.header;
          end = end_place all l p;
          back = back_place all c l.back;
          price = z;
          head = before (place_of all l.header) ms;
          body = before (place_of all l.header + 1) ms;
          rest = before (end_place all l p) ms;
          min = claim.min;
          max = claim.max;
        }

    loops_same : (c : Claims) (p : Span) (ms : List Step) (cs : List LoopClaim) (ls : List LoopShape) → loops_of f low all c p ms cs ls ≡ loops_of g low all c p ms cs ls
    loops_same c p ms [] ls = refl
    loops_same c p ms (claim ∷ cs) [] = refl
    loops_same c p ms (claim ∷ cs) (l ∷ ls) =
        ap (λ (x : Loop). cond (in_span p l.header && has_moves all l.header) (x ∷ loops_of f low all c p ms cs ls) (loops_of f low all c p ms cs ls)) (loop_same c p ms claim l)
        ∙ ap (λ (xs : List Loop). cond (in_span p l.header && has_moves all l.header) (loop_of g low all c p ms claim l ∷ xs) xs) (loops_same c p ms cs ls)

module _ (s : System) (ls : List LoopShape) (f g : Move → ℤ) (low : ℤ) (h : (m : Move) → Contains s.moves m → f m ≡ g m) where
  abbrev by_f : Prices
  by_f = record { of = f; low = low }

  abbrev by_g : Prices
  by_g = record { of = g; low = low }

  pub loops_by : (ws : List ℤ) (p : Span) → function_loops s ls by_f ws p ≡ function_loops s ls by_g ws p
  loops_by ws p =
      loops_same f g low s.moves h s.claims p (function_steps s ls f ws p) s.claims.loops ls
      ∙ ap (λ (ms : List Step). loops_of g low s.moves s.claims p ms s.claims.loops ls) (steps_same f g s.moves ws (is_walked s.claims ls p) s.moves h)

  pub level_same : (v : Level) (p : Span) → function_level s ls by_f v p ≡ function_level s ls by_g v p
  level_same v p =
      ap (λ (ms : List Step). settled low ms v (function_loops s ls by_f v.worths p)) (steps_same f g s.moves v.worths (is_walked s.claims ls p) s.moves h)
      ∙ ap (λ (rs : List Loop). settled low (function_steps s ls g v.worths p) v rs) (loops_by v.worths p)

  pairs_same : (v : Level) (p : Span) → function_pairs s ls by_f v p ≡ function_pairs s ls by_g v p
  pairs_same v p =
      ap (λ (ms : List Step). settled_pairs low ms v (function_loops s ls by_f v.worths p)) (steps_same f g s.moves v.worths (is_walked s.claims ls p) s.moves h)
      ∙ ap (λ (rs : List Loop). settled_pairs low (function_steps s ls g v.worths p) v rs) (loops_by v.worths p)

  levels_same : (v : Level) (ps : List Span) → functions_level s ls by_f v ps ≡ functions_level s ls by_g v ps
  levels_same v [] = refl
  levels_same v (p ∷ ps) = ap (λ x. functions_level s ls by_f x ps) (level_same v p) ∙ levels_same (function_level s ls by_g v p) ps

  dealt_same : (v : Level) (ps : List Span) (known : List Pair) → pairs_from s ls by_f v ps known ≡ pairs_from s ls by_g v ps known
  dealt_same v [] known = refl
  dealt_same v (p ∷ ps) known =
      ap (λ x. pairs_from s ls by_f x ps (dealt s.moves p ls known (function_pairs s ls by_f v p))) (level_same v p)
      ∙ (ap (λ (new : List Pair). pairs_from s ls by_f (function_level s ls by_g v p) ps (dealt s.moves p ls known new)) (pairs_same v p)
      ∙ dealt_same (function_level s ls by_g v p) ps (dealt s.moves p ls known (function_pairs s ls by_g v p)))

  pub values_same : (ps : List Span) → (final_level s ls ps by_f ≡ final_level s ls ps by_g) × (final_pairs s ls ps by_f ≡ final_pairs s ls ps by_g)
  values_same ps = (levels_same (blank (length s.moves) low) ps, dealt_same (blank (length s.moves) low) ps (no_pairs ls))

  pub small_same : (v : Level) (ps : List Span) → AllStaySmall s ls by_g v ps → AllStaySmall s ls by_f v ps
  small_same v [] small = tt
  small_same v (p ∷ ps) small = (
    subst (λ (rs : List Loop). StaysSmall low (function_steps s ls f v.worths p) v rs) (sym (loops_by v.worths p))
        (subst (λ (ms : List Step). StaysSmall low ms v (function_loops s ls by_g v.worths p)) (sym (steps_same f g s.moves v.worths (is_walked s.claims ls p) s.moves h)) small.0),
    subst (λ x. AllStaySmall s ls by_f x ps) (sym (level_same v p)) (small_same (function_level s ls by_g v p) ps small.1),
  )

-- prices in a list beside the moves are those of a function
pub price_is : (ms : List Move) (zs : List ℤ) (g : Move → ℤ) → AreAscending ms → zs ≡ map g ms → (m : Move) → Contains ms m → price_in ms zs m ≡ g m
price_is ms zs g up e m (k, lt, is) =
    let long : length zs ≡ length ms = ap length e ∙ length-map ms g in
    sym (ap (price_in ms zs) is) ∙ (priced_at ms zs up long k m lt ∙ (ap (λ (ys : List ℤ). get_or ys k (pos 0)) e ∙ (get_or-map g ms k m (pos 0) lt ∙ ap g is)))
