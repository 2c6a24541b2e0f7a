-- A running machine performs the instruction that its image has at its pc.
use Rattle.std.proofs.Common.{◌≡◌, ◌≢◌, ℕ, zero, suc, ◌<◌, List, length, Option, Some, None, refl, sym, ap, ◌∙◌, subst, arith}
use Rattle.std.proofs.lemmas.List.{get_or-set_same, get_or-set_other, length-set}
use Rattle.rv_core.specs.Images.{Image, AreLoadable}
use Rattle.rv_core.specs.Table.{Table}
use Rattle.rv_core.specs.Instructions.{Instruction}
use Rattle.rv_core.specs.Machine.{Running, State, Action, GoesTo, Leaves, register_of, with_register, fetched, performed, done, step_ending, step_word, step_instr, step}
use Rattle.rv_core.specs.Code.{decoded, instruction_at, instruction_in}
use Rattle.rv_core.specs.Runs.{Run, setup, mrun, recorded, noted, advance_from, advance, advances}
use Rattle.rv_core.proofs.Constancy.{mrun-fetched}
use Rattle.rv_steps.specs.Steps.{Went, Left, StepsGo, StepsLeave}

pub register-written : (registers : List ℕ) (rd v : ℕ) → 0 < rd → rd < length registers → register_of (with_register registers rd v) rd ≡ v
register-written registers zero v some less = absurd (omega arith)
register-written registers (suc n) v some less = get_or-set_same registers (suc n) v 0 less

pub register-other : (registers : List ℕ) (rd v q : ℕ) → q ≢ rd → register_of (with_register registers rd v) q ≡ register_of registers q
register-other registers zero v q other = refl
register-other registers (suc n) v zero other = refl
register-other registers (suc n) v (suc q) other = get_or-set_other registers (suc n) (suc q) v 0 other

pub length-written : (registers : List ℕ) (rd v : ℕ) → length (with_register registers rd v) ≡ length registers
length-written registers zero v = refl
length-written registers (suc n) v = length-set registers (suc n) v

abbrev noted_at : Run → State → Run
noted_at r after = noted after.ending after r

advances_last : (t : Table) (n : ℕ) (r : Run) → advances t (suc n) r ≡ advance t (advances t n r)
advances_last t zero r = refl
advances_last t (suc n) r = advances_last t n (advance t r)

-- a step of a run, by its instruction
advance_by : (t : Table) (r : Run) (i : Instruction) → r.state.ending ≡ Running → instruction_at r.state.world.memory r.state.pc ≡ Some i → advance t r ≡ noted_at r (done t i r.state (performed i r.state))
unfolding advance step
advance_by t r i running here =
    ap (λ e. advance_from t e r) running ∙ ap (λ e. noted_at r (step_ending t e r.state)) running ∙ by_word (fetched r.state.world.memory r.state.pc) refl
  where
    by_word : (w : Option ℕ) → fetched r.state.world.memory r.state.pc ≡ w → noted_at r (step_word t (fetched r.state.world.memory r.state.pc) r.state) ≡ noted_at r (done t i r.state (performed i r.state))
    by_word None e = absurd (let q : None ≡ Some i = sym (ap decoded e) ∙ here in cc)
    by_word (Some w) e =
        ap (λ o. noted_at r (step_word t o r.state)) e ∙ ap (λ o. noted_at r (step_instr t o r.state)) (sym (ap decoded e) ∙ here)

module _ (image : Image) (ok : AreLoadable image.segments) where
  next_is : (t : Table) (input : List ℕ) (n : ℕ) (i : Instruction) (a : Action) → (mrun (setup image t input) n).state.ending ≡ Running → instruction_in image (mrun (setup image t input) n).state.pc ≡ Some i
      → performed i (mrun (setup image t input) n).state ≡ a → mrun (setup image t input) (suc n) ≡ noted_at (mrun (setup image t input) n) (done t i (mrun (setup image t input) n).state a)
  next_is t input n i a running here does =
      let r = mrun (setup image t input) n in
      let there : instruction_at r.state.world.memory r.state.pc ≡ Some i = ap decoded (mrun-fetched (setup image t input) n r.state.pc ok) ∙ here in
      advances_last t n _ ∙ advance_by t r i running there ∙ ap (λ x. noted_at r (done t i r.state x)) does

  pub steps_go : StepsGo image
  steps_go t input n i to registers world running here does =
      let r = mrun (setup image t input) n in
      let s = done t i r.state (GoesTo to registers world) in
      let e : mrun (setup image t input) (suc n) ≡ recorded (Some i) s r = next_is t input n i (GoesTo to registers world) running here does ∙ ap (λ x. noted x s r) running in
      subst (λ x. Went r x i to registers world) (sym e) (record {
        runs = running;
        goes = refl;
        holds = refl;
        has = refl;
        visits = refl;
        places = refl;
        astray = refl;
      })

  pub steps_leave : StepsLeave image
  steps_leave t input n i value running here does =
      let r = mrun (setup image t input) n in
      let s = done t i r.state (Leaves value) in
      let e : mrun (setup image t input) (suc n) ≡ recorded (Some i) s r = next_is t input n i (Leaves value) running here does in
      subst (λ x. Left r x i value) (sym e) (record {
        ends = refl;
        has = refl;
        visits = refl;
        places = refl;
        astray = refl;
      })
