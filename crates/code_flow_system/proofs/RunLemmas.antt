-- A finished run that keeps the claims is a flow.
use Rattle.std.proofs.Common.{◌≡◌, ◌≢◌, ℕ, zero, suc, ◌+◌, ◌≤◌, ℤ, pos, ◌≤ℤ◌, arith, refl, sym, ap, ◌∙◌, subst, List, [], ◌∷◌, All, Contains, true, false, Some, None}
use Rattle.std.proofs.Math.Path.{fun_ext}
use Rattle.std.proofs.lemmas.Int.{ints}
use Rattle.std.proofs.lemmas.List.{length-replicate}
use Rattle.std.proofs.lemmas.Bool.{or_parts}
use Rattle.std.proofs.lemmas.List.Elements.{All-head, All-tail, All-nil}
use Rattle.rv_core.specs.declared.row.Effect.TheVariants.{CallEnvironment}
use Rattle.rv_core.specs.Rows.{row_of}
use Rattle.rv_core.specs.Instructions.{Instruction}
use Rattle.rv_core.specs.Images.{Image}
use Rattle.rv_core.specs.Regions.{region_of}
use Rattle.rv_core.specs.Table.{Table}
use Rattle.rv_core.specs.Machine.{Ending, Running, Exited, Trapped, State, GoesTo, Leaves, performed, taken_by, is_taken, step_cycles, done}
use Rattle.rv_core.specs.Code.{instruction_at, instruction_before, instruction_in, word_in}
use Rattle.rv_core.specs.Runs.{Run, linkage, linkage_by, Stays, move_of, visit_of, places_after, recorded, advance, advance_from, setup, mrun}
use Rattle.code_flow_system.specs.declared.moves.Move.{Move}
use Rattle.code_flow_system.specs.Claims.{Claims, is_listed}
use Rattle.code_flow_system.specs.Moves.{Code, code_of, way_by, move, moves_on, fetch_before, moves_at, moves_by}
use Rattle.code_flow_system.specs.Reach.{IsReached, resolves, is_resolved, IsCode}
use Rattle.code_flow_system.specs.Systems.{System, moves_from, IsSystemOf}
use Rattle.code_flow_system.specs.Counts.{KeepsCounts}
use Rattle.code_flow_system.specs.MoveCosts.{may_touch, move_cost}
use Rattle.code_flow_system.specs.KeptRuns.{KeepsLine, KeepsClaims, RunsAsFlow, RunsAreFlows}
use Rattle.code_flow_system.proofs.TraceLemmas.{Traces, IsBalanced, balanced_start, tally_visits, tally_conserved, tally_value, trace_cost}
use Rattle.code_flow_system.proofs.StepLemmas.{leaves_by_call}
use Rattle.code_flow_system.proofs.CostLemmas.{access_paid, may_touch-kept}
use Rattle.code_flow_system.proofs.FieldLemmas.{decoded-rd}
use Rattle.code_flow_system.proofs.ReachLemmas.{from_moves}
use Rattle.code_flow_system.proofs.CourseLemmas.{IsFull, OnCourse, IsStep, step_stays, cost_is}
use Rattle.code_flow_system.proofs.OutcomeLemmas.{Outcome, IsTrapped, GoesOn, IsOver, outcome, advance_ended, mrun-last}

pub full_of : (image : Image) (s : System) → IsSystemOf image s.claims s → IsFull (code_of image s.claims) s
full_of image s h = record {
  code = subst (λ e. (a : ℕ) → IsReached (code_of image s.claims) e a → IsCode (code_of image s.claims) e a) (sym h.same_entry) h.code;
  own = subst (λ e. (a : ℕ) → IsReached (code_of image s.claims) e a → moves_from s.moves a ≡ moves_at (code_of image s.claims) a) (sym h.same_entry) h.own;
  ascending = h.ascending;
  small = λ a i e. decoded-rd (word_in image a) i e;
}

-- the last step

-- what is known of a step that exits
record IsExitStep (c : Code) (r : Run) (i : Instruction) (value : ℤ) : Type 0 where
  here : c.fetch r.state.pc ≡ Some i
  performs : performed i r.state ≡ Leaves value
  listed : c.exit r.state.pc ≡ true

abbrev exited : Table → Run → Instruction → ℤ → Run
exited t r i value = recorded (Some i) (done t i r.state (Leaves value)) r

last_flow : (c : Code) (t : Table) (s : System) (r : Run) (trace : List Move) (i : Instruction) (value : ℤ) → IsFull c s → OnCourse c t s r trace → IsExitStep c r i value → KeepsClaims s.claims (exited t r i value) → RunsAsFlow t s (exited t r i value)
last_flow c t s r trace i value full course step keeps =
    let effect : (row_of i.op).effect ≡ CallEnvironment = leaves_by_call (row_of i.op).effect i r.state value step.performs in
    let m : Move = move r.state.pc 0 i None None in
    let there : moves_at c r.state.pc ≡ move r.state.pc 0 i None None ∷ [] =
    ap (moves_by c r.state.pc) step.here
    ∙ (ap (λ b. moves_on (way_by (row_of i.op).effect b (fetch_before c r.state.pc) r.state.pc i) r.state.pc i) step.listed
    ∙ ap (λ e. moves_on (way_by e true (fetch_before c r.state.pc) r.state.pc i) r.state.pc i) effect) in
    let among : Contains s.moves (move r.state.pc 0 i None None) =
    from_moves s.moves r.state.pc (move r.state.pc 0 i None None) (subst (λ ms. Contains ms (move r.state.pc 0 i None None)) (sym (full.own r.state.pc course.reached ∙ there)) (0, omega arith, refl)) in
    let number : 0 ≡ move_of (is_taken i r.state) = sym (ap (λ e. move_of (taken_by e i r.state)) effect) in
    let traces : Traces s.moves (move r.state.pc 0 i None None ∷ trace) (exited t r i value).visits = (among, refl, number, course.traces) in
    let link : linkage r.state i ≡ Stays = ap (λ e. linkage_by e (instruction_before r.state.world.memory r.state.pc) i) effect in
    let none_left : r.places ≡ [] = ap (λ l. places_after l r.state.pc r.places) (sym link) ∙ keeps.none_left in
    let balanced : IsBalanced s.entry trace r.state.pc [] = subst (IsBalanced s.entry trace r.state.pc) none_left course.balanced in
    let conserved = tally_conserved s.entry s.moves trace (move r.state.pc 0 i None None) (exited t r i value).visits r.state.pc full.ascending traces balanced refl refl in
    let counts = fun_ext (tally_visits s.moves (move r.state.pc 0 i None None ∷ trace) (exited t r i value).visits full.ascending traces) in
    let worth = tally_value (move_cost t s) s.moves (move r.state.pc 0 i None None ∷ trace) (exited t r i value).visits full.ascending traces in
    let kept = All-head (λ v. All (KeepsLine v) s.claims.regions) (visit_of r.state i) r.visits keeps.accesses in
    let a = access_paid t i r.state (region_of r.state.pc) (is_taken i r.state) (may_touch s.claims.regions r.state.pc) (λ a q e in_region. may_touch-kept s.claims.regions (visit_of r.state i) a q kept e in_region) in
    let p = course.paid i step.here in
    let k = cost_is t s (move r.state.pc 0 i None None) r.state.pc (is_taken i r.state) i refl number refl in
    let cost : r.state.cycles + step_cycles t i r.state ≤ move_cost t s (move r.state.pc 0 i None None) + trace_cost (move_cost t s) trace = omega arith in
    record {
      flow = record { positive = omega arith; conserved = conserved; claims = subst (KeepsCounts s.claims) counts keeps.counts };
      cycles = subst (λ (z : ℤ). pos (exited t r i value).state.cycles ≤ℤ z) (sym worth) (at_most _ _ cost);
    }
  where
    at_most : (a b : ℕ) → a ≤ b → pos a ≤ℤ pos b
    at_most a b h = omega (arith, ints)

-- a run before its exit

-- no return has gone astray, no exit was visited, and accesses kept their lines
record IsClean (c : Claims) (r : Run) : Type 0 where
  straight : r.astray ≡ false
  no_exit : All (λ v. is_listed c.exits v.at ≡ false) r.visits
  kept : All (λ v. All (KeepsLine v) c.regions) r.visits

clean_recorded : (c : Claims) (i : Instruction) (after : State) (r : Run) → IsClean c (recorded (Some i) after r) → IsClean c r
clean_recorded c i after r h = record {
  straight = (or_parts r.astray _ h.straight).0;
  no_exit = All-tail (λ v. is_listed c.exits v.at ≡ false) (visit_of r.state i) r.visits h.no_exit;
  kept = All-tail (λ v. All (KeepsLine v) c.regions) (visit_of r.state i) r.visits h.kept;
}

clean_before : (c : Claims) (t : Table) (r : Run) → r.state.ending ≡ Running → ((k : ℕ) → (advance t r).state.ending ≢ Trapped k) → IsClean c (advance t r) → IsClean c r
clean_before c t r running untrapped h = elim (outcome t r running) [
  | IsTrapped k ends ↦ absurd (untrapped k ends)
  | GoesOn i to registers world here performs is ↦ clean_recorded c i (done t i r.state (GoesTo to registers world)) r (subst (IsClean c) is h)
  | IsOver i value here performs is ↦ clean_recorded c i (done t i r.state (Leaves value)) r (subst (IsClean c) is h)
]

clean_before_exit : (c : Claims) (t : Table) (r : Run) (i : Instruction) (value : ℤ) → KeepsClaims c (exited t r i value) → IsClean c r
clean_before_exit c t r i value keeps = record {
  straight = (or_parts r.astray _ keeps.returns).0;
  no_exit = keeps.exit.1;
  kept = All-tail (λ v. All (KeepsLine v) c.regions) (visit_of r.state i) r.visits keeps.accesses;
}

module _ (image : Image) (t : Table) (s : System) (input : List ℕ) (system : IsSystemOf image s.claims s)
    (same : (n a : ℕ) → instruction_at (mrun (setup image t input) n).state.world.memory a ≡ instruction_in image a) where
  abbrev at_step : ℕ → Run
  at_step n = mrun (setup image t input) n

  abbrev code : Code
  code = code_of image s.claims

  start_course : OnCourse code t s (at_step 0) []
  start_course = record {
    running = refl;
    reached = (0, sym system.same_entry);
    traces = tt;
    balanced = subst (λ e. IsBalanced s.entry [] e []) system.same_entry (balanced_start s.entry);
    returns = All-nil _;
    long = length-replicate {A = ℕ} 32 0;
    paired = λ i u is before_u resolved.
        let e : is_resolved (code_of image s.claims) image.entry ≡ true = ap (λ o. resolves o (instruction_in image image.entry)) before_u ∙ (ap (resolves (Some u)) is ∙ resolved) in
        absurd (((system.code image.entry (0, refl)).paired e).no_entry refl);
    paid = λ i is. omega arith;
  }

  course_next : (n : ℕ) (trace : List Move) → (at_step (suc n)).state.ending ≡ Running → IsClean s.claims (at_step (suc n)) → OnCourse code t s (at_step n) trace → (after : List Move) × OnCourse code t s (at_step (suc n)) after
  course_next n trace running clean course = elim (outcome t (at_step n) course.running) [
    | IsTrapped k ends ↦ absurd (no_trap (advance t (at_step n)).state.ending k ends (ap (λ (r : Run). r.state.ending) (sym (mrun-last (setup image t input) n)) ∙ running))
    | GoesOn i to registers world here performs is ↦
        let next : at_step (suc n) ≡ recorded (Some i) (done t i (at_step n).state (GoesTo to registers world)) (at_step n) = mrun-last (setup image t input) n ∙ is in
        let c = subst (IsClean s.claims) next clean in
        let step : IsStep code s (at_step n) i to registers world = record {
          same = same n;
          here = sym (same n (at_step n).state.pc) ∙ here;
          performs = performs;
          no_exit = All-head (λ v. is_listed s.claims.exits v.at ≡ false) (visit_of (at_step n).state i) (at_step n).visits c.no_exit;
          straight = c.straight;
          kept = All-head (λ v. All (KeepsLine v) s.claims.regions) (visit_of (at_step n).state i) (at_step n).visits c.kept;
        } in
        let further = step_stays code t s (full_of image s system) (at_step n) trace i to registers world course step in
        (further.made ∷ trace, subst (λ r. OnCourse code t s r (further.made ∷ trace)) (sym next) further.course)
    | IsOver i value here performs is ↦ absurd (no_exit (ap (λ (r : Run). r.state.ending) (sym (mrun-last (setup image t input) n ∙ is)) ∙ running))
  ]
    where
      no_trap : (e : Ending) (k : ℕ) → e ≡ Trapped k → e ≡ Running → ⊥
      no_trap e k h j = cc

      no_exit : {v : ℤ} → Exited v ≡ Running → ⊥
      no_exit h = cc

  -- each state of such a run is on course
  course_of : (n : ℕ) → (at_step n).state.ending ≡ Running → IsClean s.claims (at_step n) → (trace : List Move) × OnCourse code t s (at_step n) trace
  course_of zero running clean = ([], start_course)
  course_of (suc n) running clean = by_ending (at_step n).state.ending refl (course_of n)
    where
      stays : (e : Ending) → (at_step n).state.ending ≡ e → advance_from t e (at_step n) ≡ at_step n → Running ≡ e
      stays e is h = sym running ∙ (ap (λ (r : Run). r.state.ending) (mrun-last (setup image t input) n ∙ advance_ended t (at_step n) e is h) ∙ is)

      untrapped : (k : ℕ) → (advance t (at_step n)).state.ending ≢ Trapped k
      untrapped k h = let e = sym running ∙ (ap (λ (r : Run). r.state.ending) (mrun-last (setup image t input) n) ∙ h) in cc

      by_ending : (e : Ending) → (at_step n).state.ending ≡ e → ((at_step n).state.ending ≡ Running → IsClean s.claims (at_step n) → (trace : List Move) × OnCourse code t s (at_step n) trace) → (trace : List Move) × OnCourse code t s (at_step (suc n)) trace
      by_ending Running is before =
          let c = clean_before s.claims t (at_step n) is untrapped (subst (IsClean s.claims) (mrun-last (setup image t input) n) clean) in
          let earlier = before is c in
          course_next n earlier.0 running clean earlier.1
      by_ending (Exited v) is before = absurd (let e = stays (Exited v) is refl in cc)
      by_ending (Trapped k) is before = absurd (let e = stays (Trapped k) is refl in cc)

  finished_flow : (n : ℕ) → KeepsClaims s.claims (at_step n) → RunsAsFlow t s (at_step n)
  finished_flow zero keeps = absurd (let e = keeps.finished in cc)
  finished_flow (suc n) keeps = by_ending (at_step n).state.ending refl (finished_flow n)
    where
      next : at_step (suc n) ≡ advance t (at_step n)
      next = mrun-last (setup image t input) n

      ending_next : (advance t (at_step n)).state.ending ≡ Exited keeps.value
      ending_next = ap (λ (r : Run). r.state.ending) (sym next) ∙ keeps.finished

      by_outcome : (at_step n).state.ending ≡ Running → Outcome t (at_step n) → RunsAsFlow t s (at_step (suc n))
      by_outcome running (IsTrapped k ends) = absurd (let e = sym ending_next ∙ ends in cc)
      by_outcome running (GoesOn i to registers world here performs is) = absurd (let e = sym running ∙ (ap (λ (r : Run). r.state.ending) (sym is) ∙ ending_next) in cc)
      by_outcome running (IsOver i value here performs is) =
          let k = subst (KeepsClaims s.claims) (next ∙ is) keeps in
          let course = course_of n running (clean_before_exit s.claims t (at_step n) i value k) in
          let step : IsExitStep code (at_step n) i value = record { here = sym (same n (at_step n).state.pc) ∙ here; performs = performs; listed = k.exit.0 } in
          subst (RunsAsFlow t s) (sym (next ∙ is)) (last_flow code t s (at_step n) course.0 i value (full_of image s system) course.1 step k)

      stays : (e : Ending) → (at_step n).state.ending ≡ e → advance_from t e (at_step n) ≡ at_step n → at_step (suc n) ≡ at_step n
      stays e is h = next ∙ advance_ended t (at_step n) e is h

      by_ending : (e : Ending) → (at_step n).state.ending ≡ e → (KeepsClaims s.claims (at_step n) → RunsAsFlow t s (at_step n)) → RunsAsFlow t s (at_step (suc n))
      by_ending Running is before = by_outcome is (outcome t (at_step n) is)
      by_ending (Exited v) is before = subst (RunsAsFlow t s) (sym (stays (Exited v) is refl)) (before (subst (KeepsClaims s.claims) (stays (Exited v) is refl) keeps))
      by_ending (Trapped k) is before = absurd (let e = sym keeps.finished ∙ (ap (λ (r : Run). r.state.ending) (stays (Trapped k) is refl) ∙ is) in cc)

-- the law
pub runs_are_flows : (image : Image) (t : Table) (s : System) → IsSystemOf image s.claims s →
    ((u : Table) (input : List ℕ) (n a : ℕ) → instruction_at (mrun (setup image u input) n).state.world.memory a ≡ instruction_in image a) → RunsAreFlows image t s
runs_are_flows image t s system same input n keeps = finished_flow image t s input system (same t input) n keeps
