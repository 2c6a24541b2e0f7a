-- The run's states are the machine's steps.
use Rattle.std.proofs.Common.{◌≡◌, ℕ, zero, suc, ◌+◌, ◌<◌, ◌-◌, arith, Option, Some, None, refl, sym, ap, ◌∙◌, List, [], ◌∷◌, ◌++◌, length, true, false}
use Rattle.std.specs.Prelude.{replicate}
use Rattle.std.proofs.lemmas.Bool.Decides.{nat_tests}
use Rattle.std.proofs.lemmas.List.{append-nil}
use Rattle.rv_core.specs.declared.regions.Region.TheVariants.{Flash}
use Rattle.rv_core.specs.Instructions.{Instruction}
use Rattle.rv_core.specs.Table.{Table}
use Rattle.rv_core.specs.Regions.{region_of}
use Rattle.rv_core.specs.Memory.{loaded}
use Rattle.rv_core.specs.Machine.{Ending, Running, Exited, Trapped, State, start_of, step, step_ending, steps}
use Rattle.rv_core.specs.Runs.{Run, Setup, recorded, noted, advance, advance_from, advances, run_start, mrun}
use Rattle.rv_core.proofs.Stepping.{code_memory}

-- a machine that has ended stays as it is
pub step-ended : (t : Table) (s : State) (e : Ending) → s.ending ≡ e → step_ending t e s ≡ s → step t s ≡ s
unfolding step
step-ended t s e is stays = ap (λ x. step_ending t x s) is ∙ stays

recorded-state : (o : Option Instruction) (after : State) (r : Run) → (recorded o after r).state ≡ after
recorded-state None after r = refl
recorded-state (Some i) after r = refl

noted-state : (e : Ending) (after : State) (r : Run) → (noted e after r).state ≡ after
noted-state Running after r = recorded-state after.last after r
noted-state (Exited v) after r = recorded-state after.last after r
noted-state (Trapped k) after r = refl

advance_from-state : (t : Table) (e : Ending) (r : Run) → r.state.ending ≡ e → (advance_from t e r).state ≡ step t r.state
advance_from-state t Running r is = noted-state (step t r.state).ending (step t r.state) r
advance_from-state t (Exited v) r is = sym (step-ended t r.state (Exited v) is refl)
advance_from-state t (Trapped k) r is = sym (step-ended t r.state (Trapped k) is refl)

-- one step further, the run's state is the machine's next one
pub advance-state : (t : Table) (r : Run) → (advance t r).state ≡ step t r.state
unfolding advance
advance-state t r = advance_from-state t r.state.ending r refl

-- the same for n steps
pub advances-state : (t : Table) (n : ℕ) (r : Run) → (advances t n r).state ≡ steps t n r.state
advances-state t zero r = refl
advances-state t (suc n) r = advances-state t n (advance t r) ∙ ap (steps t n) (advance-state t r)

-- runs compose
pub steps-add : (t : Table) (m n : ℕ) (s : State) → steps t (m + n) s ≡ steps t n (steps t m s)
steps-add t zero n s = let e : zero + n ≡ n = omega arith in ap (λ k. steps t k s) e
steps-add t (suc m) n s = let e : suc m + n ≡ suc (m + n) = omega arith in ap (λ k. steps t k s) e ∙ steps-add t m n (step t s)

pub advances-add : (t : Table) (m n : ℕ) (r : Run) → advances t (m + n) r ≡ advances t n (advances t m r)
advances-add t zero n r = let e : zero + n ≡ n = omega arith in ap (λ k. advances t k r) e
advances-add t (suc m) n r = let e : suc m + n ≡ suc (m + n) = omega arith in ap (λ k. advances t k r) e ∙ advances-add t m n (advance t r)

-- the states of an image's run
pub mrun-state : (s : Setup) (n : ℕ) → (mrun s n).state ≡ steps s.costs n (start_of s.image s.input)
mrun-state s n = advances-state s.costs n (run_start s.image s.input)

pub mrun-next : (s : Setup) (n : ℕ) → (mrun s (suc n)).state ≡ step s.costs (mrun s n).state
mrun-next s n =
    let e : suc n ≡ n + 1 = omega arith in
    let start = start_of s.image s.input in
    mrun-state s (suc n)
    ∙ ap (λ k. steps s.costs k start) e
    ∙ steps-add s.costs n 1 start
    ∙ ap (step s.costs) (sym (mrun-state s n))

-- the low addresses are those of flash
pub region_of-flash : (at : ℕ) → at < 0x80_0000 → region_of at ≡ Some Flash
region_of-flash at low = grind (arith, nat_tests)

-- code that fills its segment, as it is loaded
pub loaded-code : (code : List ℕ) → loaded (record { at = 0; bytes = code; size = length code; read = true; write = false; exec = true } ∷ []) ≡ code_memory code
loaded-code code =
    let none : length code - length code ≡ 0 = omega arith in
    ap code_memory (ap (λ n. code ++ replicate n 0) none ∙ append-nil code)
