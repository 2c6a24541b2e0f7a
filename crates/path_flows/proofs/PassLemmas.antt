-- The flow of one function of a system: what comes to its addresses leaves them, and what is made is open.
use Rattle.std.proofs.Common.{◌≡◌, ℕ, zero, suc, ◌+◌, ◌<◌, ℤ, pos, ◌≤ℤ◌, arith, refl, sym, ap, ◌∙◌, subst, List, length, Contains, All, inl, inr, ◌⊎◌, Bool, true, false, cond}
use Rattle.std.specs.Prelude.{◌||◌, not}
use Rattle.std.proofs.lemmas.Int.{ints}
use Rattle.std.proofs.lemmas.List.Elements.{All-contains}
use Rattle.code_flow_system.specs.declared.moves.Move.{Move}
use Rattle.code_flow_system.specs.declared.shapes.LoopShape.{LoopShape}
use Rattle.code_flow_system.specs.declared.shapes.Span.{Span}
use Rattle.code_flow_system.specs.Systems.{System, has_moves}
use Rattle.code_flow_system.specs.Shapes.{onward, is_back, IsInSpan, StaysIn}
use Rattle.loop_walks.specs.declared.step.Step.{Step}
use Rattle.loop_walks.specs.Walks.{worth_at}
use Rattle.loop_walks.specs.Levels.{Level, weighed}
use Rattle.loop_walks.specs.Rows.{AreSteps, Each}
use Rattle.loop_walks.proofs.EachLemmas.{steps_are}
use Rattle.loop_walks.proofs.WalkLemmas.{relaxed_other}
use Rattle.loop_flows.specs.Passes.{amount_at, spread, departed, arrived}
use Rattle.loop_flows.specs.Hands.{StandsOpen}
use Rattle.loop_flows.specs.Flows.{counts_of, backs_of, backs_from, backs_to, AreTurned}
use Rattle.loop_flows.specs.FlowLaws.{FlowsOn}
use Rattle.loop_flows.proofs.FlowLemmas.{flows_on}
use Rattle.loop_flows.specs.Turns.{is_tight}
use Rattle.loop_flows.proofs.TurnLemmas.{can_all_turn}
use Rattle.loop_flows.specs.Opens.{EachMade}
use Rattle.loop_flows.proofs.OpenLemmas.{ends_made, all_made}
use Rattle.loop_flows.proofs.EndLemmas.{begins, begins_each, begins_not, begins_has, is_open_at, BeginsLow, is_open, ends_lead, spread_same, only_in, only_in-long, only_in_at}
use Rattle.path_places.specs.Places.{place_of, on_place, is_stop, is_walked}
use Rattle.path_places.specs.PlaceLaws.{function_steps, IsReachedWhole}
use Rattle.path_places.proofs.PlaceLemmas.{place_below}
use Rattle.path_places.proofs.LoopLemmas.{has_of, steps_each, onward_arrives, first_or}
use Rattle.path_places.proofs.FunctionLemmas.{walked_in}
use Rattle.path_places.specs.Driver.{Prices, function_loops, function_level}
use Rattle.path_places.proofs.DriverLemmas.{fits_function, closed}
use Rattle.path_flows.specs.Flows.{function_ground, function_turnings, first_counts, function_counts, function_backs}
use Rattle.path_flows.specs.Opens.{CallsOpenly, IsOpenFunction}
use Rattle.path_flows.proofs.AtLemmas.{same_place}

module _ (s : System) (ls : List LoopShape) (ps : List Span) (whole : IsReachedWhole s ls ps) (q : Prices) (least : ℤ) where
  -- at places of a function where something starts, the worth is open; and no place of it is walked yet
  pub record IsReady (v : Level) (p : Span) (us : List ℕ) : Type 0 where
    pub code : IsOpenFunction least s ls q v p
    pub blank : (x : ℕ) → has_moves s.moves x ≡ true → IsInSpan p x → worth_at v.worths (place_of s.moves x) ≡ q.low
    pub fresh : (x : ℕ) → has_moves s.moves x ≡ true → IsInSpan p x → worth_at v.weights (place_of s.moves x) ≡ pos 0
    pub long : length us ≡ length s.moves + 1
    pub long_worths : length s.moves < length v.worths
    pub long_weights : length s.moves < length v.weights
    pub starts : (k : ℕ) → 0 < amount_at us k → (x : ℕ) × (has_moves s.moves x ≡ true) × (place_of s.moves x ≡ k) × (IsInSpan p x → (least ≤ℤ worth_at (function_ground s ls q v p).worths (place_of s.moves x)) × (worth_at (function_level s ls q v p).worths (place_of s.moves x) ≡ worth_at (function_ground s ls q v p).worths (place_of s.moves x)))

  module _ (v : Level) (p : Span) (ip : Contains ps p) (us : List ℕ) (ready : IsReady v p us) where
    abbrev pub ms : List Step
    ms = function_steps s ls q.of v.worths p

    abbrev pub g : Level
    g = function_ground s ls q v p

    abbrev pub n : ℕ
    n = length s.moves

    pub steps : AreSteps n ms
    steps = (fits_function s ls ps whole q v.worths p ip).0

    starts_low : Each (BeginsLow q.low n v.worths) ms
    starts_low = steps_each (BeginsLow q.low n v.worths) q.of s.moves v.worths (is_walked s.claims ls p) s.moves (λ m im w. (ready.blank m.at (has_of s.moves m im) (walked_in p (not (is_stop s.claims m.at || is_back ls m.at)) m.at w), on m im (walked_in p (not (is_stop s.claims m.at || is_back ls m.at)) m.at w)))
      where
        on : (m : Move) → Contains s.moves m → IsInSpan p m.at → (on_place s.moves (onward m) ≡ n) ⊎ (worth_at v.worths (on_place s.moves (onward m)) ≡ q.low)
        on m im inside = elim (first_or (onward m)) [
          | inl e ↦ inl (ap (on_place s.moves) e)
          | inr e ↦
              let id : Contains (onward m) e.0 = subst (λ ds. Contains ds e.0) (sym e.2) (zero, omega arith, refl) in
              let there = closed s ls ps whole q m e.0 im (onward_arrives m.to m.behind e.0 id) in
              let stays = All-contains (IsInSpan p) (onward m) e.0 (All-contains (StaysIn m) ps p (All-contains (λ (x : Move). All (StaysIn x) ps) s.moves m whole.fits.stays im) ip inside) id in
              inr (ap (λ ds. worth_at v.worths (on_place s.moves ds)) e.2 ∙ ready.blank e.0 there stays)
        ]

    -- each place of a step is that of an address of the function
    abbrev IsOwn : ℕ → Type 0
    IsOwn b = (y : ℕ) × (has_moves s.moves y ≡ true) × IsInSpan p y × (place_of s.moves y ≡ b)

    own : (a : ℕ) → begins ms a ≡ true → IsOwn a
    own a h = begins_has IsOwn ms a (steps_each (λ k. IsOwn k.at) q.of s.moves v.worths (is_walked s.claims ls p) s.moves (λ m im w. (m.at, has_of s.moves m im, walked_in p (not (is_stop s.claims m.at || is_back ls m.at)) m.at w, refl))) h

    abbrev pub masked : List ℕ
    masked = only_in (begins ms) 0 us

    pub masked_long : length masked ≡ n + 1
    masked_long = only_in-long (begins ms) 0 us ∙ ready.long

    masked_at : (a : ℕ) → amount_at masked a ≡ cond (begins ms a) (amount_at us a) 0
    masked_at a = let z : 0 + a ≡ a = omega arith in only_in_at (begins ms) 0 us a ∙ ap (λ k. cond (begins ms k) (amount_at us a) 0) z

    -- where something starts, the worth is open, and that after the loops are settled
    pub masked_same : (a : ℕ) → 0 < amount_at masked a → (least ≤ℤ worth_at g.worths a) × (worth_at (function_level s ls q v p).worths a ≡ worth_at g.worths a)
    masked_same a h = by_begins (begins ms a) refl (masked_at a)
      where
        by_begins : (t : Bool) → begins ms a ≡ t → amount_at masked a ≡ cond t (amount_at us a) 0 → (least ≤ℤ worth_at g.worths a) × (worth_at (function_level s ls q v p).worths a ≡ worth_at g.worths a)
        by_begins true e z =
            let x = ready.starts a (omega (arith, h, z)) in
            let y = own a e in
            let same = same_place s ls ps whole q y.0 x.0 y.1 x.1 (y.3 ∙ sym x.2) in
            subst (λ k. (least ≤ℤ worth_at g.worths k) × (worth_at (function_level s ls q v p).worths k ≡ worth_at g.worths k)) x.2 (x.3 (subst (λ b. IsInSpan p b) same y.2))
        by_begins false e z = absurd (omega (arith, h, z))

    masked_open : (a : ℕ) → 0 < amount_at masked a → least ≤ℤ worth_at g.worths a
    masked_open a h = (masked_same a h).0

    masked_begins : (a : ℕ) → 0 < amount_at masked a → begins ms a ≡ true
    masked_begins a h = by_begins (begins ms a) refl (masked_at a)
      where
        by_begins : (t : Bool) → begins ms a ≡ t → amount_at masked a ≡ cond t (amount_at us a) 0 → t ≡ true
        by_begins true e z = refl
        by_begins false e z = absurd (omega (arith, h, z))

    stands : StandsOpen masked (λ a. is_open_at least n ms g.worths a ≡ true)
    stands a h =
        let y = own a (masked_begins a h) in
        let low = subst (λ k. worth_at v.worths k ≡ q.low) y.3 (ready.blank y.0 y.1 y.2) in
        is_open least q.low (CallsOpenly least s ls q v.worths p) n ms steps (weighed q.low ms v.weights (function_loops s ls q v.worths p)) v.worths ready.long_worths ready.code.above ready.code.steps starts_low a low (masked_open a h)

    flows : FlowsOn n ms masked (function_turnings s ls q v p) (spread (is_tight g) masked ms)
    flows = flows_on n ms (is_tight g) (is_open_at least n ms g.worths) masked (function_turnings s ls q v p) steps (let l = masked_long in omega (arith, l))
        (ends_lead least q.low (CallsOpenly least s ls q v.worths p) n ms steps (weighed q.low ms v.weights (function_loops s ls q v.worths p)) v.worths ready.long_worths ready.code.above ready.code.steps starts_low)
        stands (can_all_turn q.low n ms v.weights (function_loops s ls q v.worths p) steps (fits_function s ls ps whole q v.worths p ip).1)

    -- other places are no matter
    pub same_first : spread (is_tight g) masked ms ≡ first_counts s ls q v p us
    same_first = spread_same (is_tight g) (begins ms) n masked us ms (let l = masked_long in omega (arith, l)) (let l = ready.long in omega (arith, l)) (steps_are n ms steps) (begins_each ms)
        (λ a is. masked_at a ∙ ap (λ t. cond t (amount_at us a) 0) is)

    abbrev counts : List ℕ
    counts = function_counts s ls q v p us

    abbrev backs : List ℕ
    backs = function_backs s ls q v p us

    -- what starts at an address of the function is at one of its steps
    starts_at : (a : ℕ) → has_moves s.moves a ≡ true → IsInSpan p a → amount_at masked (place_of s.moves a) ≡ amount_at us (place_of s.moves a)
    starts_at a there inside = by_begins (begins ms (place_of s.moves a)) refl (masked_at (place_of s.moves a))
      where
        nothing : begins ms (place_of s.moves a) ≡ false → (u : ℕ) → amount_at us (place_of s.moves a) ≡ u → u ≡ 0
        nothing e zero z = refl
        nothing e (suc u) z =
            let x = ready.starts (place_of s.moves a) (omega (arith, z)) in
            let same = same_place s ls ps whole q a x.0 there x.1 (sym x.2) in
            let wide = subst (λ k. least ≤ℤ worth_at g.worths k) x.2 (x.3 (subst (λ b. IsInSpan p b) same inside)).0 in
            let k = relaxed_other (weighed q.low ms v.weights (function_loops s ls q v.worths p)) v.worths ms (place_of s.moves a) (begins_not ms (place_of s.moves a) e) in
            let low = ready.blank a there inside in
            let above = ready.code.above in
            absurd (omega (arith, ints))

        by_begins : (t : Bool) → begins ms (place_of s.moves a) ≡ t → amount_at masked (place_of s.moves a) ≡ cond t (amount_at us (place_of s.moves a)) 0 → amount_at masked (place_of s.moves a) ≡ amount_at us (place_of s.moves a)
        by_begins true e z = z
        by_begins false e z = let k = nothing e (amount_at us (place_of s.moves a)) refl in omega (arith, z, k)

    -- what comes to an address of the function leaves it
    pub own_conserved : (a : ℕ) → has_moves s.moves a ≡ true → IsInSpan p a →
        departed ms counts (place_of s.moves a) + backs_from (function_turnings s ls q v p) backs (place_of s.moves a) ≡ amount_at us (place_of s.moves a) + (arrived ms counts (place_of s.moves a) + backs_to (function_turnings s ls q v p) backs (place_of s.moves a))
    own_conserved a there inside =
        let b = place_below s.moves a there in
        let c = flows.conserved (place_of s.moves a) (λ e. absurd (omega (arith, b, e))) in
        let z = starts_at a there inside in
        subst (λ cs. departed ms (counts_of n ms cs (function_turnings s ls q v p)) (place_of s.moves a) + backs_from (function_turnings s ls q v p) (backs_of n ms cs (function_turnings s ls q v p)) (place_of s.moves a) ≡ amount_at us (place_of s.moves a) + (arrived ms (counts_of n ms cs (function_turnings s ls q v p)) (place_of s.moves a) + backs_to (function_turnings s ls q v p) (backs_of n ms cs (function_turnings s ls q v p)) (place_of s.moves a))) same_first
        (omega (arith, c, z))

    -- each loop turns as often as it has to
    pub own_turned : AreTurned ms counts (function_turnings s ls q v p) backs
    own_turned = subst (λ cs. AreTurned ms (counts_of n ms cs (function_turnings s ls q v p)) (function_turnings s ls q v p) (backs_of n ms cs (function_turnings s ls q v p))) same_first flows.turned

    -- a step that is made has an open weight, and calls what is open
    pub own_made : EachMade (λ k. (least ≤ℤ worth_at g.weights k.at) × CallsOpenly least s ls q v.worths p k) ms counts
    own_made = all_made least (CallsOpenly least s ls q v.worths p) q.low n ms steps v.weights g.weights ready.long_weights ready.code.above ready.code.nothing (function_loops s ls q v.worths p) (fits_function s ls ps whole q v.worths p ip).1 ready.code.turns (λ a f. refl) (first_counts s ls q v p us)
        (subst (λ cs. EachMade (λ k. (least ≤ℤ worth_at g.weights k.at) × CallsOpenly least s ls q v.worths p k) ms cs) same_first
        (ends_made least (CallsOpenly least s ls q v.worths p) g n masked ms (let l = masked_long in omega (arith, l)) (steps_are n ms steps) ready.code.steps masked_open))
