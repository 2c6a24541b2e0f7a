-- The flow goes by the prices of a system's own moves alone.
use Rattle.std.proofs.Common.{◌≡◌, ℤ, refl, ap, ◌∙◌, List, [], ◌∷◌, length, Contains}
use Rattle.code_flow_system.specs.declared.moves.Move.{Move}
use Rattle.code_flow_system.specs.declared.shapes.LoopShape.{LoopShape}
use Rattle.code_flow_system.specs.declared.shapes.Span.{Span}
use Rattle.code_flow_system.specs.Systems.{System}
use Rattle.loop_walks.specs.declared.step.Step.{Step}
use Rattle.loop_walks.specs.declared.step.Loop.{Loop}
use Rattle.loop_walks.specs.Levels.{Level, ground}
use Rattle.loop_flows.specs.Passes.{spread}
use Rattle.loop_flows.specs.Flows.{counts_of, backs_of}
use Rattle.loop_flows.specs.Turns.{is_tight, turnings}
use Rattle.path_places.specs.Places.{is_walked}
use Rattle.path_places.specs.PlaceLaws.{function_steps}
use Rattle.path_places.specs.Driver.{Prices, blank, function_loops, function_level}
use Rattle.path_flows.specs.Flows.{Flowing, counted, turned_back, called, function_flow, flow_from, first_flow, amounts_of}
use Rattle.path_values.proofs.SameLemmas.{steps_same, loops_by, level_same}

module _ (s : System) (ls : List LoopShape) (f g : Move → ℤ) (low : ℤ) (h : (m : Move) → Contains s.moves m → f m ≡ g m) where
  abbrev by_f : Prices
  by_f = record { of = f; low = low }

  abbrev by_g : Prices
  by_g = record { of = g; low = low }

  -- what a function of these steps and loops adds
  abbrev flow_with : List Step → List Loop → Level → Span → Flowing → Flowing
  flow_with ms rs v p k =
      let ts = turnings low ms v.weights rs in
      let first = spread (is_tight (ground low ms v rs)) k.starts ms in
      let counts = counts_of (length s.moves) ms first ts in
      record {
        starts = called s.moves (is_walked s.claims ls p) s.moves counts k.starts;
        amounts = turned_back (counted (is_walked s.claims ls p) s.moves k.amounts counts) ts (backs_of (length s.moves) ms first ts);
      }

  function_same : (v : Level) (p : Span) (k : Flowing) → function_flow s ls by_f v p k ≡ function_flow s ls by_g v p k
  function_same v p k =
      ap (λ (ms : List Step). flow_with ms (function_loops s ls by_f v.worths p) v p k) (steps_same f g s.moves v.worths (is_walked s.claims ls p) s.moves h)
      ∙ ap (λ (rs : List Loop). flow_with (function_steps s ls g v.worths p) rs v p k) (loops_by s ls f g low h v.worths p)

  flow_same : (v : Level) (ps : List Span) (k : Flowing) → flow_from s ls by_f v ps k ≡ flow_from s ls by_g v ps k
  flow_same v [] k = refl
  flow_same v (p ∷ ps) k =
      ap (λ x. function_flow s ls by_f v p (flow_from s ls by_f x ps k)) (level_same s ls f g low h v p)
      ∙ (ap (λ x. function_flow s ls by_f v p x) (flow_same (function_level s ls by_g v p) ps k) ∙ function_same v p (flow_from s ls by_g (function_level s ls by_g v p) ps k))

  pub amounts_same : (ps : List Span) → amounts_of s ls ps (record { of = f; low = low }) ≡ amounts_of s ls ps (record { of = g; low = low })
  amounts_same ps = ap (λ x. x.amounts) (flow_same (blank (length s.moves) low) ps (first_flow s))
