-- The start code ends the run.
use Rattle.std.proofs.Common.{◌≡◌, ℕ, suc, Bool, true, false, [], ◌∷◌, length, Some, pos, refl, sym, ap, ◌∙◌, subst, arith}
use Rattle.std.specs.Prelude.{All, ◌||◌}
use Rattle.std.proofs.lemmas.List.Elements.{All-cons}
use Rattle.rv_core.specs.Arithmetic.{signed}
use Rattle.rv_core.specs.Instructions.{addi, ecall}
use Rattle.rv_core.specs.Machine.{World, Leaves, calls}
use Rattle.rv_core.specs.Code.{instruction_in}
use Rattle.rv_core.specs.Runs.{mrun, visit_of}
use Rattle.asm_items.specs.declared.item.Item.TheVariants as items
use Rattle.asm_items.specs.Items.{words}
use Rattle.asm_items.specs.Standing.{HasWords, is_exit}
use Rattle.rv_steps.specs.Steps.{Later}
use Rattle.rv_steps.proofs.LaterLemmas.{now, stepped}
use Rattle.rv_steps.proofs.StepLemmas.{steps_leave}
use Rattle.low_ir.specs.Effects as effects
use Rattle.asm_program.specs.Numbers.{result, service}
use Rattle.simulation_relation.specs.Noted.{noted, single}
use Rattle.simulation_relation.specs.Positions.{seen, Touches, Course}
use Rattle.simulation_relation.specs.Waiting.{IsHome}
use Rattle.simulation_relation.specs.Following.{Exchanges, Ends}
use Rattle.simulation_steps.proofs.Given.{Given, run_of, state, reg, At}
use Rattle.simulation_steps.proofs.Moving.{add_immediate}
use Rattle.simulation_steps.proofs.Standing.{Stood, to_run}

stays_straight : (b : Bool) → b ≡ false → (b || false) ≡ false
stays_straight false e = refl
stays_straight true e = e

module _ (g : Given) where
  -- an exit with a value
  exits : (k : Course) (n v : ℕ) (u : effects.World) → At g k n (noted items.Exit ∷ []) → k.trace ≡ u.trace → k.returns ≡ [] → reg g n service ≡ 0 → reg g n result ≡ v → Exchanges g.layout (run_of g) u n → Ends g.layout (run_of g) v u (suc n)
  exits k n v u h trace returns none value exchanges =
      let l = g.layout in
      let s = state g n in
      let a = s.pc in
      let stands = h.code.1 in
      let like : stands.form ≡ items.Exit = stands.like in
      let words_are = subst (λ x. HasWords l.code a (words l.starts k.function a x)) like stands.words in
      let here : instruction_in g.image a ≡ Some ecall = sym (g.laid.fetches a) ∙ words_are.0 in
      let w = steps_leave g.image g.loadable g.table g.input n ecall (signed v) h.running here (ap (λ x. calls x s) none ∙ ap (λ x. Leaves (signed x)) value) in
      let visits = (mrun (run_of g) n).visits in
      record {
        ending = w.ends;
        output = ap (λ (x : World). x.output) w.has ∙ exchanges.output;
        events = ap (seen l) w.visits ∙ h.events ∙ trace;
        none_left = w.places ∙ h.returns ∙ returns;
        straight = w.astray ∙ stays_straight (mrun (run_of g) n).astray h.straight;
        last = visit_of s ecall;
        earlier = visits;
        visits = w.visits;
        exit = stands.exit ∙ ap is_exit like;
        inside = h.inside;
        touches = subst (λ x. All (Touches l) x) (sym w.visits) (All-cons (Touches l) (visit_of s ecall) visits tt h.touches);
      }

  -- the run has returned to the start code
  pub home_ends : (n at v : ℕ) (u : effects.World) → IsHome g.layout at → Stood g n at u.trace [] → reg g n result ≡ v → Exchanges g.layout (run_of g) u n → Later (Ends g.layout (run_of g) v u) n
  home_ends n at v u home stood value exchanges =
      let start = length g.layout.program.functions in
      let k : Course = record { function = start; stop = g.layout.stops start 0; trace = u.trace; returns = [] } in
      let goal = Ends g.layout (run_of g) v u in
      add_immediate g k goal n (noted items.Exit ∷ []) service 0 (pos 0) (omega arith) (omega arith) (to_run g k n at (single (addi service 0 (pos 0)) ∷ noted items.Exit ∷ []) stood home.code home.quiet)
      (λ m a.
      let kept : Exchanges g.layout (run_of g) u m = record { input = ap (λ (x : World). x.input) a.world ∙ exchanges.input; bytes = exchanges.bytes; output = ap (λ (x : World). x.output) a.world ∙ exchanges.output } in
      stepped goal m (now goal (suc m) (exits k m v u a.at refl refl (a.value ∙ omega arith) (a.others result (λ e. omega (arith, e)) ∙ value) kept)))
