-- A store that a limit of cycles stops.
use Rattle.std.proofs.Common.{◌≡◌, ℕ, ◌≤◌, arith, Option, Some, None, refl, sym, ap, ◌∙◌, subst, length, true, false}
use Rattle.std.specs.Prelude.{nat_le}
use Rattle.std.proofs.lemmas.Bool.Decides.{nat_tests}
use Rattle.rv_core.specs.declared.row.Width.{Width}
use Rattle.rv_core.specs.Instructions.{Instruction}
use Rattle.rv_core.specs.Memory.{written_to}
use Rattle.rv_core.specs.Machine.{Running, State, writes, done}
use Rattle.rv_sim.specs.declared.blocks.Place.{Place}
use Rattle.rv_sim.specs.declared.ending.Ending.TheVariants.{CycleLimit}
use Rattle.rv_sim.specs.Simulation.{Simulation, Goes, answer_to, answer_by, fits}
use Rattle.rv_sim.specs.Limits.{passes, Moved, Limited, Pays}
use Rattle.rv_sim.specs.Lookups.{IsPlace}
use Rattle.rv_sim.proofs.Finding.{placed-written}

room-test : (a b : ℕ) → a ≤ b → nat_le a b ≡ true
room-test a b h = grind (arith, nat_tests)

stopped-by : (limit : Option ℕ) (m : Simulation) (next : State) → next.ending ≡ Running → nat_le (length next.world.output) m.room ≡ true → passes limit next.cycles ≡ true → Limited limit (answer_to next m) m m (Some CycleLimit)
stopped-by limit m next running room stops =
    let e : answer_to next m ≡ Goes next = ap (λ x. answer_by x next m.room m.state) running ∙ ap (λ b. fits b next) room in
    subst (λ a. Limited limit a m m (Some CycleLimit)) (sym e) (subst (λ b. Moved b m m next None (Some CycleLimit)) (sym stops) (refl, refl))

-- a store into a place that isn't paid isn't done
pub store-stopped : (limit : Option ℕ) (m new : Simulation) (i : Instruction) (w : Width) (at v : ℕ) (p : Place) → IsPlace w at m.state.world.memory p → m.state.ending ≡ Running → length m.state.world.output ≤ m.room → Pays limit i m new false
    → Limited limit (answer_to (done m.costs i m.state (writes (written_to w m.state.world.memory at v) m.state)) m) m new (Some CycleLimit)
store-stopped limit m new i w at v p found running room stops =
    let after = placed-written w m.state.world.memory p at v found in
    subst (λ x. Limited limit (answer_to (done m.costs i m.state (writes (written_to w m.state.world.memory at v) m.state)) m) m x (Some CycleLimit)) (sym stops.1)
    (subst (λ o. Limited limit (answer_to (done m.costs i m.state (writes o m.state)) m) m m (Some CycleLimit)) (sym after.1)
    (stopped-by limit m (done m.costs i m.state (writes (Some after.0) m.state)) running (room-test (length m.state.world.output) m.room room) stops.0))
