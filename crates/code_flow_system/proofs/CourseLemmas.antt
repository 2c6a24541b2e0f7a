-- A run that keeps the claims stays in the system: what holds of each of its states, and that a step keeps it.
use Rattle.std.proofs.Common.{◌≡◌, ◌≢◌, ℕ, suc, ◌+◌, ◌*◌, ◌/◌, ◌-◌, ◌<◌, ◌≤◌, arith, refl, sym, ap, ◌∙◌, subst, List, [], ◌∷◌, length, All, Contains, Bool, true, false, Option, Some, None, ◌⊎◌, inl, inr}
use Rattle.std.specs.Prelude.{◌==◌, ◌||◌, nat_le, if◌then◌else◌}
use Rattle.std.proofs.lemmas.Bool.{or_parts}
use Rattle.std.proofs.lemmas.List.Elements.{All-head, All-tail, All-cons}
use Rattle.rv_core.specs.declared.row.Effect.{Effect}
use Rattle.rv_core.specs.declared.row.Effect.TheVariants.{SetUpper, AddUpper, Link, LinkRegister, BranchIf, Read, Write, WithImmediate, WithRegister, CallEnvironment}
use Rattle.rv_core.specs.Rows.{row_of}
use Rattle.rv_core.specs.Instructions.{Instruction}
use Rattle.rv_core.specs.Arithmetic.{displaced}
use Rattle.rv_core.specs.Regions.{region_of}
use Rattle.rv_core.specs.Table.{Table, loads, accesses, wait_of}
use Rattle.rv_core.specs.Memory.{Block}
use Rattle.rv_core.specs.Machine.{State, World, Running, GoesTo, register_of, behind, address_of, performed, performed_by, is_taken, cost_at, wait_behind, step_cycles, done}
use Rattle.rv_core.specs.Code.{instruction_at, instruction_before}
use Rattle.rv_core.specs.Runs.{Run, linkage_by, linkage, move_of, visit_of, places_after, astray_after, recorded}
use Rattle.code_flow_system.specs.declared.moves.Move.{Move}
use Rattle.code_flow_system.specs.Moves.{Code, way_by, way_of, far_target, moves_on, fetch_before, moves_at, moves_by, destinations}
use Rattle.code_flow_system.specs.Reach.{GoesTo as Arrives, IsReached, resolves_by, resolves, is_resolved, IsCode}
use Rattle.code_flow_system.specs.Systems.{System, AreAscending, moves_from}
use Rattle.code_flow_system.specs.MoveCosts.{may_touch, access_price, instruction_among, wait_ahead, move_cost}
use Rattle.code_flow_system.specs.KeptRuns.{KeepsLine}
use Rattle.code_flow_system.proofs.TraceLemmas.{Traces, IsBalanced, Leads, balanced_step, trace_cost}
use Rattle.code_flow_system.proofs.StepLemmas.{Makes, step_makes, step_registers, upper_registers, read_next}
use Rattle.code_flow_system.proofs.CostLemmas.{is_read, loads_by, access_paid, may_touch-kept, wait_paid, first_instr, instruction_among-from, first_instr-moves_on}
use Rattle.code_flow_system.proofs.ReachLemmas.{in_destinations, from_moves, to_among, behind_among, pair_of, none_resolves, fetch_before-next, not_resolved, no_call_by_upper}

-- the system has the moves of all that is reached, and all of that is code
pub record IsFull (c : Code) (s : System) : Type 0 where
  pub code : (a : ℕ) → IsReached c s.entry a → IsCode c s.entry a
  pub own : (a : ℕ) → IsReached c s.entry a → moves_from s.moves a ≡ moves_at c a
  pub ascending : AreAscending s.moves
  pub small : (a : ℕ) (i : Instruction) → c.fetch a ≡ Some i → i.rd < 32

-- an address where a call is to return
pub record IsReturn (c : Code) (entry a : ℕ) : Type 0 where
  pub reached : IsReached c entry a
  pub other : is_resolved c a ≡ false

-- a run that goes on has made the moves of the trace
pub record OnCourse (c : Code) (t : Table) (s : System) (r : Run) (trace : List Move) : Type 0 where
  pub running : r.state.ending ≡ Running
  pub reached : IsReached c s.entry r.state.pc
  pub traces : Traces s.moves trace r.visits
  pub balanced : IsBalanced s.entry trace r.state.pc r.places
  pub returns : All (IsReturn c s.entry) r.places
  pub long : length r.state.registers ≡ 32
  pub paired : (i u : Instruction) → c.fetch r.state.pc ≡ Some i → fetch_before c r.state.pc ≡ Some u → resolves_by (row_of i.op).effect (Some u) i ≡ true → register_of r.state.registers i.rs1 ≡ displaced (r.state.pc - 4) u.imm
  pub paid : (i : Instruction) → c.fetch r.state.pc ≡ Some i → r.state.cycles + wait_behind t r.state.last i ≤ trace_cost (move_cost t s) trace

-- what is known of a step that goes on
pub record IsStep (c : Code) (s : System) (r : Run) (i : Instruction) (to : ℕ) (registers : List ℕ) (world : World) : Type 0 where
  pub same : (a : ℕ) → instruction_at r.state.world.memory a ≡ c.fetch a
  pub here : c.fetch r.state.pc ≡ Some i
  pub performs : performed i r.state ≡ GoesTo to registers world
  pub no_exit : c.exit r.state.pc ≡ false
  pub straight : (r.astray || astray_after (linkage r.state i) to r.places) ≡ false
  pub kept : All (KeepsLine (visit_of r.state i)) s.claims.regions

before_same : (c : Code) (memory : List Block) (pc : ℕ) → ((a : ℕ) → instruction_at memory a ≡ c.fetch a) → instruction_before memory pc ≡ fetch_before c pc
before_same c memory pc same = ap (λ o. if nat_le 4 pc then o else None) (same (pc - 4))

-- the moves of an address with this instruction
moves_here : (c : Code) (a : ℕ) (i : Instruction) → c.fetch a ≡ Some i → c.exit a ≡ false → moves_at c a ≡ moves_on (way_by (row_of i.op).effect false (fetch_before c a) a i) a i
moves_here c a i is no_exit = ap (moves_by c a) is ∙ ap (λ b. moves_on (way_by (row_of i.op).effect b (fetch_before c a) a i) a i) no_exit

far_is : (before : Option Instruction) (s : State) (i : Instruction) → ((u : Instruction) → before ≡ Some u → resolves_by (row_of i.op).effect (Some u) i ≡ true → register_of s.registers i.rs1 ≡ displaced (s.pc - 4) u.imm) →
    resolves_by (row_of i.op).effect before i ≡ true → address_of i s / 2 * 2 ≡ far_target before s.pc i
far_is None s i paired h = absurd (let e = none_resolves (row_of i.op).effect i in cc)
far_is (Some u) s i paired h = ap (λ n. displaced n i.imm / 2 * 2) (paired u refl h)

read_next_by : (e : Effect) (i : Instruction) (s : State) (to : ℕ) (registers : List ℕ) (world : World) → is_read e ≡ true → performed_by e i s ≡ GoesTo to registers world → behind s.pc ≡ to
read_next_by (Read w signed) i s to registers world h is = read_next w signed i s to registers world is
read_next_by SetUpper i s to registers world h is = cc
read_next_by AddUpper i s to registers world h is = cc
read_next_by Link i s to registers world h is = cc
read_next_by LinkRegister i s to registers world h is = cc
read_next_by (BranchIf c) i s to registers world h is = cc
read_next_by (Write w) i s to registers world h is = cc
read_next_by (WithImmediate f) i s to registers world h is = cc
read_next_by (WithRegister f) i s to registers world h is = cc
read_next_by CallEnvironment i s to registers world h is = cc

taken_is : (taken : Bool) → (move_of taken == 1) ≡ taken
taken_is true = refl
taken_is false = refl

-- where a move leads, is where it arrives, or a return place
record Lands (c : Code) (entry pc to : ℕ) (after : List ℕ) : Type 0 where
  goes : Arrives c pc to ⊎ IsReturn c entry to
  returns : All (IsReturn c entry) after

lands : (c : Code) (entry pc : ℕ) (to' back : Option ℕ) (stack : List ℕ) (to : ℕ) (after : List ℕ) → Leads to' back stack to after → All (IsReturn c entry) stack → ((d : ℕ) → to' ≡ Some d → Arrives c pc d) → ((b : ℕ) → back ≡ Some b → IsReturn c entry b) → Lands c entry pc to after
lands c entry pc (Some d) None stack to after (e, f) h arrives returns = record {
  goes = inl (subst (Arrives c pc) (sym e) (arrives d refl));
  returns = subst (All (IsReturn c entry)) (sym f) h;
}
lands c entry pc (Some d) (Some b) stack to after (e, f) h arrives returns = record {
  goes = inl (subst (Arrives c pc) (sym e) (arrives d refl));
  returns = subst (All (IsReturn c entry)) (sym f) (All-cons (IsReturn c entry) b stack (returns b refl) h);
}
lands c entry pc None None stack to after e h arrives returns =
    let k = subst (All (IsReturn c entry)) e h in record { goes = inr (All-head (IsReturn c entry) to after k); returns = All-tail (IsReturn c entry) to after k }
lands c entry pc None (Some b) stack to after e h arrives returns = absurd e

module _ (c : Code) (t : Table) (s : System) (full : IsFull c s) where
  -- the move that a step makes
  step_move : (r : Run) (trace : List Move) (i : Instruction) (to : ℕ) (registers : List ℕ) (world : World) → OnCourse c t s r trace → IsStep c s r i to registers world →
      Makes (moves_on (way_by (row_of i.op).effect false (fetch_before c r.state.pc) r.state.pc i) r.state.pc i) r.state.pc (move_of (is_taken i r.state)) i r.places to (places_after (linkage r.state i) r.state.pc r.places)
  step_move r trace i to registers world course step =
      let pc = r.state.pc in
      let effect = (row_of i.op).effect in
      let before = fetch_before c r.state.pc in
      let link : linkage r.state i ≡ linkage_by (row_of i.op).effect (fetch_before c r.state.pc) i = ap (λ o. linkage_by (row_of i.op).effect o i) (before_same c r.state.world.memory r.state.pc step.same) in
      let some : moves_on (way_by (row_of i.op).effect false (fetch_before c r.state.pc) r.state.pc i) r.state.pc i ≢ [] = λ none. (full.code r.state.pc course.reached).moves (moves_here c r.state.pc i step.here step.no_exit ∙ none) in
      let far = far_is (fetch_before c r.state.pc) r.state i (λ u e h. course.paired i u step.here e h) in
      let straight = (or_parts r.astray (astray_after (linkage r.state i) to r.places) step.straight).1 in
      let astray : astray_after (linkage_by (row_of i.op).effect (fetch_before c r.state.pc) i) to r.places ≡ false = ap (λ l. astray_after l to r.places) (sym link) ∙ straight in
      let m = step_makes (row_of i.op).effect (fetch_before c r.state.pc) i r.state r.places to registers world some far step.performs astray in
      subst (λ l. Makes (moves_on (way_by (row_of i.op).effect false (fetch_before c r.state.pc) r.state.pc i) r.state.pc i) r.state.pc (move_of (is_taken i r.state)) i r.places to (places_after l r.state.pc r.places)) (sym link) m

-- what holds behind a step
pub record Steps (c : Code) (t : Table) (s : System) (r : Run) (trace : List Move) : Type 0 where
  pub made : Move
  pub course : OnCourse c t s r (made ∷ trace)

-- the cost of a move by its parts
abbrev pub cost_by : Table → System → ℕ → Bool → Instruction → ℕ
cost_by t s a taken i =
    cost_at t i (region_of a) None taken
    + access_price t (accesses (row_of i.op).class) (may_touch s.claims.regions a)
    + wait_ahead t i (instruction_among s.moves (behind a))

pub cost_is : (t : Table) (s : System) (m : Move) (a : ℕ) (taken : Bool) (i : Instruction) → m.at ≡ a → m.number ≡ move_of taken → m.instr ≡ i → move_cost t s m ≡ cost_by t s a taken i
cost_is t s m a taken i at number instr =
    ap (λ b. cost_by t s b (m.number == 1) m.instr) at
    ∙ (ap (λ n. cost_by t s a (n == 1) m.instr) number
    ∙ (ap (λ b. cost_by t s a b m.instr) (taken_is taken)
    ∙ ap (cost_by t s a taken) instr))

module _ (c : Code) (t : Table) (s : System) (full : IsFull c s) where
  -- a reached address has its instruction in the system
  instruction_there : (a : ℕ) (j : Instruction) → IsReached c s.entry a → c.fetch a ≡ Some j → instruction_among s.moves a ≡ Some j
  instruction_there a j reached is =
      let there : moves_at c a ≡ moves_on (way_of (c.exit a) (fetch_before c a) a j) a j = ap (moves_by c a) is in
      let some : moves_on (way_of (c.exit a) (fetch_before c a) a j) a j ≢ [] = λ none. (full.code a reached).moves (there ∙ none) in
      instruction_among-from s.moves a ∙ (ap first_instr (full.own a reached ∙ there) ∙ first_instr-moves_on (way_of (c.exit a) (fetch_before c a) a j) a j some)

  step_paid : (r : Run) (trace : List Move) (i : Instruction) (to : ℕ) (registers : List ℕ) (world : World) → OnCourse c t s r trace → IsStep c s r i to registers world → (m : Move) → m.at ≡ r.state.pc → m.number ≡ move_of (is_taken i r.state) → m.instr ≡ i →
      (j : Instruction) → IsReached c s.entry to → c.fetch to ≡ Some j → (r.state.cycles + step_cycles t i r.state) + wait_of t i j ≤ move_cost t s m + trace_cost (move_cost t s) trace
  step_paid r trace i to registers world course step m at number instr j reached is =
      let a = access_paid t i r.state (region_of r.state.pc) (is_taken i r.state) (may_touch s.claims.regions r.state.pc) (λ a q e in_region. may_touch-kept s.claims.regions (visit_of r.state i) a q step.kept e in_region) in
      let next : loads (row_of i.op).class ≡ true → instruction_among s.moves (behind r.state.pc) ≡ Some j = λ h.
      ap (instruction_among s.moves) (read_next_by (row_of i.op).effect i r.state to registers world (sym (loads_by i.op) ∙ h) step.performs) ∙ instruction_there to j reached is in
      let w = wait_paid t i j (instruction_among s.moves (behind r.state.pc)) next in
      let p = course.paid i step.here in
      let k = cost_is t s m r.state.pc (is_taken i r.state) i at number instr in
      omega arith

  -- what the pair before a resolved JALR has put into its register
  step_pairs : (r : Run) (trace : List Move) (i : Instruction) (to : ℕ) (registers : List ℕ) (world : World) → OnCourse c t s r trace → IsStep c s r i to registers world → IsReached c s.entry to → Arrives c r.state.pc to ⊎ IsReturn c s.entry to →
      (j u : Instruction) → c.fetch to ≡ Some j → fetch_before c to ≡ Some u → resolves_by (row_of j.op).effect (Some u) j ≡ true → register_of registers j.rs1 ≡ displaced (to - 4) u.imm
  step_pairs r trace i to registers world course step reached way j u is_j before_u resolved =
      let e : is_resolved c to ≡ true = ap (λ o. resolves o (c.fetch to)) before_u ∙ (ap (resolves (Some u)) is_j ∙ resolved) in
      let near : r.state.pc + 4 ≡ to = elim way [ inl goes ↦ ((full.code to reached).paired e).alone r.state.pc course.reached goes | inr ret ↦ absurd (differ (is_resolved c to) e ret.other) ] in
      let before_i : fetch_before c to ≡ Some i = fetch_before-next c r.state.pc to near ∙ step.here in
      let same : i ≡ u = just i u (sym before_i ∙ before_u) in
      let pair = pair_of (row_of j.op).effect u j resolved in
      let here_u : c.fetch r.state.pc ≡ Some u = step.here ∙ ap Some same in
      let performs_u : performed_by (row_of u.op).effect u r.state ≡ GoesTo to registers world = subst (λ (x : Instruction). performed_by (row_of x.op).effect x r.state ≡ GoesTo to registers world) same step.performs in
      let performs : performed_by AddUpper u r.state ≡ GoesTo to registers world = subst (λ (f : Effect). performed_by f u r.state ≡ GoesTo to registers world) pair.upper performs_u in
      let few = full.small r.state.pc u here_u in
      let long = course.long in
      let set = upper_registers u r.state to registers world pair.some (omega arith) performs in
      let place : r.state.pc ≡ to - 4 = omega arith in
      ap (register_of registers) (sym pair.same) ∙ (set ∙ ap (λ n. displaced n u.imm) place)
    where
      differ : (b : Bool) → b ≡ true → b ≡ false → ⊥
      differ b h k = cc

      just : (x y : Instruction) → Some x ≡ Some y → x ≡ y
      just x y h = cc

  -- a step that goes on stays on course
  pub step_stays : (r : Run) (trace : List Move) (i : Instruction) (to : ℕ) (registers : List ℕ) (world : World) → OnCourse c t s r trace → IsStep c s r i to registers world →
      Steps c t s (recorded (Some i) (done t i r.state (GoesTo to registers world)) r) trace
  step_stays r trace i to registers world course step =
      let made = step_move c t s full r trace i to registers world course step in
      let m = made.made in
      let here = moves_here c r.state.pc i step.here step.no_exit in
      let at_pc : Contains (moves_at c r.state.pc) made.made = subst (λ ms. Contains ms made.made) (sym here) made.among in
      let among : Contains s.moves made.made = from_moves s.moves r.state.pc made.made (subst (λ ms. Contains ms made.made) (sym (full.own r.state.pc course.reached)) at_pc) in
      let arrives : (d : ℕ) → Contains (destinations made.made) d → Arrives c r.state.pc d = λ d h. in_destinations (moves_at c r.state.pc) made.made d at_pc h in
      let returns : (b : ℕ) → made.made.behind ≡ Some b → IsReturn c s.entry b = λ b e.
      let goes = arrives b (behind_among made.made.to made.made.behind b e) in
      record {
        reached = (suc course.reached.0, (r.state.pc, course.reached.1, goes));
        other = not_resolved c s.entry r.state.pc b i full.code course.reached goes step.here (no_call_by_upper (row_of i.op).effect false (fetch_before c r.state.pc) r.state.pc i made.made b made.among e);
      } in
      let l = lands c s.entry r.state.pc made.made.to made.made.behind r.places to (places_after (linkage r.state i) r.state.pc r.places) made.leads course.returns (λ d e. arrives d (to_among made.made.to made.made.behind d e)) returns in
      let reached : IsReached c s.entry to = elim l.goes [ inl goes ↦ (suc course.reached.0, (r.state.pc, course.reached.1, goes)) | inr ret ↦ ret.reached ] in
      record {
        made = made.made;
        course = record {
          running = course.running;
          reached = reached;
          traces = (among, made.at_is, made.number_is, course.traces);
          balanced = balanced_step s.entry trace r.state.pc to r.places (places_after (linkage r.state i) r.state.pc r.places) made.made course.balanced made.at_is made.leads;
          returns = l.returns;
          long = step_registers (row_of i.op).effect i r.state to registers world step.performs ∙ course.long;
          paired = step_pairs r trace i to registers world course step reached l.goes;
          paid = λ j is. step_paid r trace i to registers world course step made.made made.at_is made.number_is made.instr_is j reached is;
        };
      }
