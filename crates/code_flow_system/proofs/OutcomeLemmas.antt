-- The ways in which a step of a run can come out.
use Rattle.std.proofs.Common.{◌≡◌, ℕ, zero, suc, ℤ, refl, ap, ◌∙◌, List, Option, Some, None}
use Rattle.rv_core.specs.Instructions.{Instruction}
use Rattle.rv_core.specs.Words.{decode_of}
use Rattle.rv_core.specs.Table.{Table}
use Rattle.rv_core.specs.Machine.{Ending, Running, Trapped, State, World, Action, GoesTo, Leaves, Traps, fetched, performed, done, step, step_ending, step_word, step_instr}
use Rattle.rv_core.specs.Code.{decoded, instruction_at}
use Rattle.rv_core.specs.Runs.{Run, recorded, noted, advance, advance_from, advances, Setup, mrun}

-- a trap, a step that goes on, or an exit
pub data Outcome (t : Table) (r : Run) : Type 0 where
  IsTrapped : (k : ℕ) (ends : (advance t r).state.ending ≡ Trapped k) → Outcome t r
  GoesOn : (i : Instruction) (to : ℕ) (registers : List ℕ) (world : World) (here : instruction_at r.state.world.memory r.state.pc ≡ Some i) (performs : performed i r.state ≡ GoesTo to registers world)
      (is : advance t r ≡ recorded (Some i) (done t i r.state (GoesTo to registers world)) r) → Outcome t r
  IsOver : (i : Instruction) (value : ℤ) (here : instruction_at r.state.world.memory r.state.pc ≡ Some i) (performs : performed i r.state ≡ Leaves value)
      (is : advance t r ≡ recorded (Some i) (done t i r.state (Leaves value)) r) → Outcome t r

abbrev noted_at : Run → State → Run
noted_at r after = noted after.ending after r

advance_running : (t : Table) (r : Run) → r.state.ending ≡ Running → advance t r ≡ noted_at r (step_word t (fetched r.state.world.memory r.state.pc) r.state)
unfolding advance step
advance_running t r running = ap (λ e. advance_from t e r) running ∙ ap (λ e. noted_at r (step_ending t e r.state)) running

pub outcome : (t : Table) (r : Run) → r.state.ending ≡ Running → Outcome t r
outcome t r running = by_word (fetched r.state.world.memory r.state.pc) refl
  where
    by_action : (i : Instruction) (a : Action) → instruction_at r.state.world.memory r.state.pc ≡ Some i → performed i r.state ≡ a → advance t r ≡ noted_at r (done t i r.state a) → Outcome t r
    by_action i (GoesTo to registers world) here performs is = GoesOn i to registers world here performs (is ∙ ap (λ e. noted e (done t i r.state (GoesTo to registers world)) r) running)
    by_action i (Leaves value) here performs is = IsOver i value here performs is
    by_action i (Traps k) here performs is = IsTrapped k (ap (λ (x : Run). x.state.ending) is)

    by_instr : (o : Option Instruction) → instruction_at r.state.world.memory r.state.pc ≡ o → advance t r ≡ noted_at r (step_instr t o r.state) → Outcome t r
    by_instr None here is = IsTrapped 2 (ap (λ (x : Run). x.state.ending) is)
    by_instr (Some i) here is = by_action i (performed i r.state) here refl is

    by_word : (w : Option ℕ) → fetched r.state.world.memory r.state.pc ≡ w → Outcome t r
    by_word None e = IsTrapped 1 (ap (λ (x : Run). x.state.ending) (advance_running t r running ∙ ap (λ o. noted_at r (step_word t o r.state)) e))
    by_word (Some w) e = by_instr (decode_of w) (ap decoded e) (advance_running t r running ∙ ap (λ o. noted_at r (step_word t o r.state)) e)

-- a run that has ended stays as it is
pub advance_ended : (t : Table) (r : Run) (e : Ending) → r.state.ending ≡ e → advance_from t e r ≡ r → advance t r ≡ r
unfolding advance
advance_ended t r e is stays = ap (λ x. advance_from t x r) is ∙ stays

advances-last : (t : Table) (n : ℕ) (r : Run) → advances t (suc n) r ≡ advance t (advances t n r)
advances-last t zero r = refl
advances-last t (suc n) r = advances-last t n (advance t r)

pub mrun-last : (s : Setup) (n : ℕ) → mrun s (suc n) ≡ advance s.costs (mrun s n)
mrun-last s n = advances-last s.costs n _
