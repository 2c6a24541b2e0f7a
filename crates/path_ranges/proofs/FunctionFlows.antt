-- The loose walks of all functions: each worth is that of a flow, and so below the bound of loose flows.
use Rattle.std.proofs.Common.{◌≡◌, ℕ, zero, suc, ◌+◌, ◌<◌, ℤ, pos, ◌≤ℤ◌, arith, refl, List, [], ◌∷◌, length, Contains, All, inl, Option, Some, None}
use Rattle.std.proofs.Math.ListN.{replicate}
use Rattle.std.proofs.lemmas.Int.{ints}
use Rattle.std.proofs.lemmas.List.{length-replicate}
use Rattle.std.proofs.lemmas.List.Elements.{All-contains}
use Rattle.code_flow_system.specs.declared.moves.Move.{Move}
use Rattle.code_flow_system.specs.declared.shapes.LoopShape.{LoopShape}
use Rattle.code_flow_system.specs.declared.shapes.Span.{Span}
use Rattle.code_flow_system.specs.Systems.{System}
use Rattle.loop_walks.specs.declared.step.Loop.{Loop}
use Rattle.loop_walks.specs.Walks.{worth_at}
use Rattle.loop_walks.specs.Levels.{weighed}
use Rattle.loop_walks.specs.Rows.{AreSteps, AreLoops, HaveNone}
use Rattle.loop_walks.proofs.WalkLemmas.{relaxed-long}
use Rattle.path_places.specs.Places.{place_of, call_worth, is_walked}
use Rattle.path_places.specs.PlaceLaws.{IsReachedWhole}
use Rattle.path_places.proofs.LoopLemmas.{steps_each}
use Rattle.path_places.proofs.FunctionLemmas.{function_steps, function_loops, sound_ascend}
use Rattle.loop_ranges.specs.LooseWalk.{backed, IsLooseWalk}
use Rattle.loop_ranges.proofs.LooseLemmas.{backed-long, worths_positive}
use Rattle.loop_ranges.proofs.FlowLemmas.{worths_flow}
use Rattle.path_ranges.specs.Loosened.{loose_claims, loosened}
use Rattle.path_ranges.specs.LooseDriver.{no_worths, loose_start, loose_steps, loose_loops_of, loose_function, AreLooseBelow}
use Rattle.path_ranges.specs.LooseLaws.{LooseTotalsBelow, LooseWorthsAreTotals}
use Rattle.path_ranges.proofs.SystemLemmas.{loose_fits, loose_ascend}
use Rattle.path_ranges.proofs.PlaceFlows.{IsFrom, IsAround, IsWay}
use Rattle.path_ranges.proofs.LoopFlows.{steps_lead, some_flow}
use Rattle.path_ranges.proofs.EntryFlows.{flow_below}

pub zero_at : (k a : ℕ) → worth_at (replicate k (pos 0)) a ≡ pos 0
zero_at zero zero = refl
zero_at zero (suc a) = refl
zero_at (suc k) zero = refl
zero_at (suc k) (suc a) = zero_at k a

none_weigh : (k : ℕ) (ls : List Loop) → HaveNone (replicate k (pos 0)) ls
none_weigh k [] = tt
none_weigh k (l ∷ ls) = (zero_at k l.header, none_weigh k ls)

module _ (s : System) (ls : List LoopShape) (ps : List Span) (whole : IsReachedWhole s ls ps) (price : Move → ℤ) (prices : All (λ m. pos 0 ≤ℤ price m) s.moves) where
  call_positive : (ws : List ℤ) → ((a : ℕ) → pos 0 ≤ℤ worth_at ws a) → (to back : Option ℕ) → pos 0 ≤ℤ call_worth s.moves ws to back
  call_positive ws h None back = omega (arith, ints)
  call_positive ws h (Some t) None = omega (arith, ints)
  call_positive ws h (Some t) (Some b) = h (place_of s.moves t)

  module _ (ws : List ℤ) (long : length s.moves < length ws) (positive : (a : ℕ) → pos 0 ≤ℤ worth_at ws a) (flows : (i : ℕ) → IsFrom s ls ps whole price i (worth_at ws i)) (p : Span) (ip : Contains ps p) where
    loose_are : AreSteps (length s.moves) (loose_steps s ls price ws p) × AreLoops (length s.moves) (loose_steps s ls price ws p) (loose_loops_of s ls price ws p)
    loose_are = (
      function_steps (loosened s) ls ps (loose_fits s ls ps whole.fits) whole.filled whole.reached whole.system.ascending price (pos 0) ws p ip,
      function_loops (loosened s) ls ps (loose_fits s ls ps whole.fits) whole.filled whole.reached whole.system.ascending price (pos 0) ws p ip (loose_ascend s.claims.loops (sound_ascend s.claims whole.system.sound)),
    )

    pub loose_walk : IsLooseWalk (length s.moves) (loose_steps s ls price ws p) (loose_start s ws) (loose_loops_of s ls price ws p)
    loose_walk = record {
      steps = loose_are.0;
      loops = loose_are.1;
      blank = record {
        worths_long = long;
        weights_long = (let e = length-replicate (length s.moves + 1) (pos 0) in omega (arith, e));
        none = none_weigh (length s.moves + 1) (loose_loops_of s ls price ws p);
      };
      prices = steps_each (λ m. pos 0 ≤ℤ m.price) price s.moves ws (is_walked (loose_claims s.claims) ls p) s.moves
          (λ m im w. let a = All-contains (λ x. pos 0 ≤ℤ price x) s.moves m prices im in let b = call_positive ws positive m.to m.behind in omega (arith, ints));
      turns = (some_flow s ls ps whole price prices ws flows p ip s.claims.loops ls whole.fits.shapes (λ c h. h) (λ l h. h) loose_are.1).0;
      worths = positive;
      weights = λ a. let e = zero_at (length s.moves + 1) a in omega (arith, ints);
    }

    pub function_flows : (i : ℕ) → IsFrom s ls ps whole price i (worth_at (loose_function s ls price ws p).worths i)
    function_flows = worths_flow (IsFrom s ls ps whole price) (IsAround s ls ps whole price) (IsWay s ls ps whole price) (length s.moves) (loose_steps s ls price ws p) (loose_start s ws) (loose_loops_of s ls price ws p) loose_walk flows
        (λ a. inl (omega (arith, ints))) (λ a. inl (let e = zero_at (length s.moves + 1) a in omega (arith, ints)))
        (steps_lead s ls ps whole price prices ws flows p ip) (some_flow s ls ps whole price prices ws flows p ip s.claims.loops ls whole.fits.shapes (λ c h. h) (λ l h. h) loose_are.1).1

    pub function_positive : (a : ℕ) → pos 0 ≤ℤ worth_at (loose_function s ls price ws p).worths a
    function_positive = worths_positive (length s.moves) (loose_steps s ls price ws p) (loose_start s ws) (loose_loops_of s ls price ws p) loose_walk

    pub function_long : length s.moves < length (loose_function s ls price ws p).worths
    function_long =
        let e = relaxed-long (weighed (pos 0) (loose_steps s ls price ws p) (no_worths (length s.moves)) (loose_loops_of s ls price ws p)) (backed ws (loose_loops_of s ls price ws p)) (loose_steps s ls price ws p) in
        let f = backed-long ws (loose_loops_of s ls price ws p) in omega (arith, e, f, long)

  all_below : (bound : ℤ) → pos 0 ≤ℤ bound → LooseTotalsBelow s price bound → (ws : List ℤ) → length s.moves < length ws → ((a : ℕ) → pos 0 ≤ℤ worth_at ws a) → ((i : ℕ) → IsFrom s ls ps whole price i (worth_at ws i)) →
      (rs : List Span) → ((r : Span) → Contains rs r → Contains ps r) → AreLooseBelow s ls price bound ws rs
  all_below bound pb below ws long positive flows [] inside = tt
  all_below bound pb below ws long positive flows (r ∷ rs) inside =
      let ir = inside r (zero, omega arith, refl) in
      let f = function_flows ws long positive flows r ir in (
        λ a. flow_below s ls ps whole price prices bound pb below a (worth_at (loose_function s ls price ws r).worths a) (f a),
        all_below bound pb below (loose_function s ls price ws r).worths (function_long ws long positive flows r ir) (function_positive ws long positive flows r ir) f rs (λ q h. inside q (suc h.0, (let k = h.1 in omega (arith, k)), h.2)),
      )

  pub start_flows : (i : ℕ) → IsFrom s ls ps whole price i (worth_at (no_worths (length s.moves)) i)
  start_flows i = inl (let e = zero_at (length s.moves + 1) i in omega (arith, ints))

pub worths_below : (s : System) (ls : List LoopShape) (ps : List Span) → IsReachedWhole s ls ps → LooseWorthsAreTotals s ls ps
worths_below s ls ps whole price bound prices pb below = all_below s ls ps whole price prices bound pb below (no_worths (length s.moves))
    (let e = length-replicate (length s.moves + 1) (pos 0) in omega (arith, e)) (λ a. let e = zero_at (length s.moves + 1) a in omega (arith, ints)) (start_flows s ls ps whole price prices) ps (λ r h. h)
