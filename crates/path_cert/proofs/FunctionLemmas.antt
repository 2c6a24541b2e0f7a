-- The flow of one function is without slack at the worths after its loops are settled.
use Rattle.std.proofs.Common.{ℕ, ◌<◌, ℤ, pos, ◌≤ℤ◌, arith, refl, subst, List, [], ◌∷◌, length, Contains}
use Rattle.std.proofs.lemmas.Grind.{get_or-set_at}
use Rattle.code_flow_system.specs.declared.shapes.LoopShape.{LoopShape}
use Rattle.code_flow_system.specs.declared.shapes.Span.{Span}
use Rattle.code_flow_system.specs.Systems.{System}
use Rattle.loop_walks.specs.declared.step.Step.{Step}
use Rattle.loop_walks.specs.declared.step.Loop.{Loop}
use Rattle.loop_walks.specs.Walks.{worth_at}
use Rattle.loop_walks.specs.Turns.{gain}
use Rattle.loop_walks.specs.Multipliers.{first_weight}
use Rattle.loop_walks.specs.Levels.{weighed, Level}
use Rattle.loop_walks.specs.Rows.{AreLoops}
use Rattle.loop_walks.proofs.EachLemmas.{steps_are}
use Rattle.loop_walks.proofs.WalkLemmas.{relaxed_pays}
use Rattle.loop_walks.proofs.LevelLemmas.{Held, weighed-long}
use Rattle.loop_flows.specs.Opens.{EachMade}
use Rattle.loop_flows.proofs.OpenLemmas.{ends_made}
use Rattle.loop_flows.specs.Slack.{Tight, IsEven, AreBacksTight}
use Rattle.loop_flows.proofs.SlackLemmas.{HaveFirst, first_later, levels_weight, pairs_are, ends_tight, all_tight}
use Rattle.path_places.specs.PlaceLaws.{function_steps, IsReachedWhole}
use Rattle.path_places.specs.Driver.{Prices, function_loops, function_level, function_pairs}
use Rattle.path_places.proofs.DriverLemmas.{fits_function, none_yet, function_holds}
use Rattle.path_flows.specs.Flows.{function_ground, function_turnings, first_counts, function_counts, function_backs}
use Rattle.path_flows.specs.Opens.{CallsOpenly}
use Rattle.path_flows.proofs.PassLemmas.{IsReady, masked, masked_long, masked_same, same_first}

-- headers have their first weights when all loops are weighed
have_first : (low : ℤ) (n : ℕ) (ms : List Step) (weights : List ℤ) → n < length weights → (ls : List Loop) → AreLoops n ms ls → HaveFirst low ms weights (weighed low ms weights ls) ls
have_first low n ms weights long [] loops = tt
have_first low n ms weights long (l ∷ ls) loops = (
  get_or-set_at (weighed low ms weights ls) l.header l.header (first_weight low l (gain low (weighed low ms weights ls) l ms)) (pos 0) refl (let e = weighed-long low ms weights ls in let r = loops.0.range in let r0 = r.0 in let r1 = r.1 in omega (arith, e, r0, r1, long)),
  first_later low ms weights (weighed low ms weights ls) l.header (first_weight low l (gain low (weighed low ms weights ls) l ms)) ls loops.1 (have_first low n ms weights long ls loops.2),
)

tights : (weights : List ℤ) (w : Level) (ms : List Step) (us : List ℕ) → EachMade (IsEven weights w) ms us → EachMade (Tight w) ms us
tights weights w [] us h = tt
tights weights w (m ∷ ms) [] h = tt
tights weights w (m ∷ ms) (u ∷ us) h = ((λ lt. (h.0 lt).0), tights weights w ms us h.1)

module _ (s : System) (ls : List LoopShape) (ps : List Span) (whole : IsReachedWhole s ls ps) (q : Prices) (least : ℤ) (v : Level) (p : Span) (ip : Contains ps p) (us : List ℕ) (ready : IsReady s ls ps whole q least v p us) where
  abbrev ms : List Step
  ms = function_steps s ls q.of v.worths p

  abbrev los : List Loop
  los = function_loops s ls q v.worths p

  abbrev g : Level
  g = function_ground s ls q v p

  abbrev w : Level
  w = function_level s ls q v p

  held : Held q.low ms g w los (function_pairs s ls q v p)
  held = function_holds s ls ps whole q v p ip ready.long_worths ready.long_weights ready.fresh

  more : (a : ℕ) → least ≤ℤ worth_at g.weights a → worth_at g.weights a ≤ℤ worth_at w.weights a
  more a wide = levels_weight least q.low (length s.moves) ms v.weights ready.code.above g los (fits_function s ls ps whole q v.worths p ip).1
      (let e = weighed-long q.low ms v.weights los in let l = ready.long_weights in omega (arith, e, l)) (have_first q.low (length s.moves) ms v.weights ready.long_weights los (fits_function s ls ps whole q v.worths p ip).1) a wide

  first_tight : EachMade (IsEven g.weights w) ms (first_counts s ls q v p us)
  first_tight = subst (λ cs. EachMade (IsEven g.weights w) ms cs) (same_first s ls ps whole q least v p ip us ready)
      (ends_tight least q.low (CallsOpenly least s ls q v.worths p) (length s.moves) ms (fits_function s ls ps whole q v.worths p ip).0 v.weights g.weights ready.long_weights ready.code.above ready.code.nothing w held.paid more g.worths (masked s ls ps whole q least v p ip us ready)
      (let l = masked_long s ls ps whole q least v p ip us ready in omega (arith, l)) ready.code.steps (relaxed_pays g.weights v.worths (length s.moves) ms ready.long_worths (fits_function s ls ps whole q v.worths p ip).0) held.grows (masked_same s ls ps whole q least v p ip us ready))

  first_made : EachMade (λ k. (least ≤ℤ worth_at g.weights k.at) × CallsOpenly least s ls q v.worths p k) ms (first_counts s ls q v p us)
  first_made = subst (λ cs. EachMade (λ k. (least ≤ℤ worth_at g.weights k.at) × CallsOpenly least s ls q v.worths p k) ms cs) (same_first s ls ps whole q least v p ip us ready)
      (ends_made least (CallsOpenly least s ls q v.worths p) g (length s.moves) (masked s ls ps whole q least v p ip us ready) ms (let l = masked_long s ls ps whole q least v p ip us ready in omega (arith, l)) (steps_are (length s.moves) ms (fits_function s ls ps whole q v.worths p ip).0) ready.code.steps
      (λ a h. (masked_same s ls ps whole q least v p ip us ready a h).0))

  both : EachMade (IsEven g.weights w) ms (function_counts s ls q v p us) × AreBacksTight least w (function_turnings s ls q v p) (function_backs s ls q v p us) los (function_pairs s ls q v p)
  both = all_tight least q.low (CallsOpenly least s ls q v.worths p) (length s.moves) ms (fits_function s ls ps whole q v.worths p ip).0 v.weights g.weights ready.long_weights ready.code.above ready.code.nothing w held.paid more los (function_pairs s ls q v p) (first_counts s ls q v p us)
      (fits_function s ls ps whole q v.worths p ip).1 ready.code.turns (none_yet s ls ps whole q v p ms ready.fresh s.claims.loops ls) held.settled (pairs_are q.low ms v.weights g los) (λ a f. refl) first_made first_tight

  -- each step that is made costs all that the worth falls, and each jump back that is made is worth what its loop makes it
  pub function_tight : EachMade (Tight (function_level s ls q v p)) (function_steps s ls q.of v.worths p) (function_counts s ls q v p us) × AreBacksTight least (function_level s ls q v p) (function_turnings s ls q v p) (function_backs s ls q v p us) (function_loops s ls q v.worths p) (function_pairs s ls q v p)
  function_tight = (tights g.weights w ms (function_counts s ls q v p us) both.0, both.1)
