-- One step of a machine that stands at an address of laid code.
use Rattle.std.proofs.Common.{◌≡◌, ℕ, suc, ◌<◌, ◌≤◌, Bool, true, false, List, [], ◌∷◌, ◌++◌, length, Option, Some, None, refl, sym, ap, ◌∙◌, subst, arith}
use Rattle.std.specs.Prelude.{All, ◌||◌}
use Rattle.std.proofs.lemmas.List.{append-nil}
use Rattle.std.proofs.lemmas.List.Elements.{All-cons}
use Rattle.rv_core.specs.declared.op.Op.{Op}
use Rattle.rv_core.specs.declared.op.Op.TheVariants.{Ecall}
use Rattle.rv_core.specs.Instructions.{Instruction}
use Rattle.rv_core.specs.Machine.{Running, GoesTo, access_of, performed}
use Rattle.rv_core.specs.Code.{instruction_in}
use Rattle.rv_core.specs.Runs.{Visit, Linkage, Stays, mrun, linkage, visit_of, places_after, astray_after}
use Rattle.rv_steps.specs.Steps.{Later}
use Rattle.rv_steps.proofs.LaterLemmas.{stepped}
use Rattle.rv_steps.proofs.StepLemmas.{steps_go}
use Rattle.low_ir.specs.declared.run.Began.{Began}
use Rattle.simulation_relation.specs.Noted.{Noted}
use Rattle.simulation_relation.specs.Layouts.{HasCode}
use Rattle.simulation_relation.specs.Positions.{seen, owed, Touches, Course}
use Rattle.simulation_steps.proofs.Given.{Given, run_of, state, At}
use Rattle.simulation_steps.proofs.Touching.{touches_none}
use Rattle.simulation_steps.proofs.Stepping.{owed-none}

-- the name of an instruction
abbrev pub op_of : Option Instruction → Op
op_of None = Ecall
op_of (Some i) = i.op

stays_straight : (b : Bool) → b ≡ false → (b || false) ≡ false
stays_straight false e = refl
stays_straight true e = e

module _ (g : Given) where
  -- the machine runs and has come to an address, where so many blocks have begun
  pub record Stood (n a : ℕ) (trace : List Began) (returns : List ℕ) : Type 0 where
    pub running : (state g n).ending ≡ Running
    pub count : length (state g n).registers ≡ 32
    pub here : (state g n).pc ≡ a
    pub events : seen g.layout (mrun (run_of g) n).visits ≡ trace
    pub returns_are : (mrun (run_of g) n).places ≡ returns
    pub straight : (mrun (run_of g) n).astray ≡ false
    pub inside : All (λ v. g.layout.code.exit v.at ≡ false) (mrun (run_of g) n).visits
    pub touches : All (Touches g.layout) (mrun (run_of g) n).visits

  pub record Moved (n m to : ℕ) (trace : List Began) (returns registers : List ℕ) : Type 0 where
    pub stood : Stood m to trace returns
    pub registers_are : (state g m).registers ≡ registers
    pub world : (state g m).world ≡ (state g n).world

  -- one step, by what it does to the return places
  pub step_linked : (P : ℕ → Type 0) (n a : ℕ) (trace : List Began) (returns : List ℕ) (i : Instruction) (to : ℕ) (registers : List ℕ) (link : Linkage) → Stood n a trace returns → g.layout.code.fetch a ≡ Some i → g.layout.code.exit a ≡ false → access_of i (state g n) ≡ None → linkage (state g n) i ≡ link
      → astray_after link to returns ≡ false → performed i (state g n) ≡ GoesTo to registers (state g n).world → length registers ≡ 32
      → ((m : ℕ) → Moved n m to (trace ++ g.layout.begins a) (places_after link a returns) registers → Later P m) → Later P n
  step_linked P n a trace returns i to registers link h fetched exit silent linked fine does count go =
      let l = g.layout in
      let s = state g n in
      let here : instruction_in g.image s.pc ≡ Some i = ap (instruction_in g.image) h.here ∙ sym (g.laid.fetches a) ∙ fetched in
      let w = steps_go g.image g.loadable g.table g.input n i to registers s.world h.running here does in
      let visits = (mrun (run_of g) n).visits in
      let places = (mrun (run_of g) n).places in
      let astray = (mrun (run_of g) n).astray in
      stepped P n
      (go (suc n)
      (record {
        stood =
            record {
              running = w.runs;
              count = ap (λ (r : List ℕ). length r) w.holds ∙ count;
              here = w.goes;
              events = ap (seen l) w.visits ∙ ap (λ t. t ++ l.begins s.pc) h.events ∙ ap (λ x. trace ++ l.begins x) h.here;
              returns_are = w.places ∙ ap (λ x. places_after x s.pc places) linked ∙ ap (λ x. places_after link x places) h.here ∙ ap (places_after link a) h.returns_are;
              straight =
                  w.astray
                  ∙ ap (λ x. astray || astray_after x to places) linked
                  ∙ ap (λ x. astray || astray_after link to x) h.returns_are
                  ∙ ap (λ x. astray || x) fine
                  ∙ stays_straight astray h.straight;
              inside = subst (λ v. All (λ (x : Visit). l.code.exit x.at ≡ false) v) (sym w.visits) (All-cons (λ (x : Visit). l.code.exit x.at ≡ false) (visit_of s i) visits (ap l.code.exit h.here ∙ exit) h.inside);
              touches = subst (λ v. All (Touches l) v) (sym w.visits) (All-cons (Touches l) (visit_of s i) visits (touches_none l s.pc (access_of i s) silent) h.touches);
            };
        registers_are = w.holds;
        world = w.has;
      }))

  -- one step, which is no call and no return
  pub step_to : (P : ℕ → Type 0) (n a : ℕ) (trace : List Began) (returns : List ℕ) (i : Instruction) (to : ℕ) (registers : List ℕ) → Stood n a trace returns → g.layout.code.fetch a ≡ Some i → g.layout.code.exit a ≡ false → access_of i (state g n) ≡ None → linkage (state g n) i ≡ Stays
      → performed i (state g n) ≡ GoesTo to registers (state g n).world → length registers ≡ 32 → ((m : ℕ) → Moved n m to (trace ++ g.layout.begins a) returns registers → Later P m) → Later P n
  step_to P n a trace returns i to registers h fetched exit silent stays does count go = step_linked P n a trace returns i to registers Stays h fetched exit silent stays refl does count go

  -- the machine that is to run an item stands at it
  pub stands_there : (k : Course) (n : ℕ) (x : Noted) (xs : List Noted) → At g k n (x ∷ xs) → Stood n (state g n).pc (seen g.layout (mrun (run_of g) n).visits) k.returns
  stands_there k n x xs h = record { running = h.running; count = h.count; here = refl; events = refl; returns_are = h.returns; straight = h.straight; inside = h.inside; touches = h.touches }

  -- and one that stands at the rest of a block is to run it
  pub to_run : (k : Course) (m a : ℕ) (xs : List Noted) → Stood m a k.trace k.returns → HasCode g.layout k.function k.stop a xs → ((b : ℕ) → a ≤ b → b < k.stop → g.layout.begins b ≡ []) → At g k m xs
  to_run k m a xs h code quiet =
      let l = g.layout in
      let there : HasCode l k.function k.stop (state g m).pc xs = subst (λ x. HasCode l k.function k.stop x xs) (sym h.here) code in
      let here = h.here in
      let none : owed l (state g m).pc xs ≡ [] = owed-none l k.function k.stop (state g m).pc xs there (λ less. quiet (state g m).pc (omega arith) less) in
      record {
        running = h.running;
        count = h.count;
        code = there;
        quiet = λ b past less. quiet b (omega arith) less;
        events = ap (λ t. t ++ owed l (state g m).pc xs) h.events ∙ ap (λ o. k.trace ++ o) none ∙ append-nil k.trace;
        returns = h.returns_are;
        straight = h.straight;
        inside = h.inside;
        touches = h.touches;
      }
