-- What the steps of running an image say together.
use Rattle.std.proofs.Common.{◌≡◌, ◌∙◌, ℕ, ℤ, ◌≤◌, List, refl, sym, ap, subst, inl, inr, arith}
use Rattle.elf_image.specs.Loading.{IsLoadable, image_of}
use Rattle.rv_core.specs.Images.{Image}
use Rattle.rv_core.specs.Runs.{Setup, setup}
use Rattle.rv_core.specs.Exits.{Finish, finish, limits, ExitsWithin}
use Rattle.rv_sim.specs.Simulation.{Simulation, RunsWithin, IsAt, HasExited, started}
use Rattle.rv_sim.specs.declared.ending.Ending.{Ending}
use Rattle.rv_sim.specs.declared.ending.Ending.TheVariants.{Exit, Trap, CycleLimit, OutputFull}
use Rattle.command_perform.specs.Outputs.{Outputs}
use Rattle.command_perform.specs.Ends.{IsEnd}
use Rattle.command_perform.specs.Running.{Job, run_of, start_of, Simulates, IsStop, run_status, ran_outputs, MakesExit, MakesStop, MakesOutput}

is_no_exit : (ending : Ending) (v : ℤ) → IsStop ending → ending ≡ Exit v → ⊥
is_no_exit (Exit w) v s e = s
is_no_exit (Trap at kind) v s e = absurd cc
is_no_exit CycleLimit v s e = absurd cc
is_no_exit OutputFull v s e = absurd cc

makes_stop : (output : List ℕ) (job : Job) (last : Simulation) (ending : Ending) (made : Outputs) → IsStop ending → Simulates job last ending → made ≡ ran_outputs output last ending → MakesOutput output job made
makes_stop output job last ending made i s e =
    let stop : MakesStop output job made = record {
      no_exit = λ f w. is_no_exit ending f.value i (s.finishes f w).exits;
      last = last;
      ending = ending;
      stops = i;
      runs = s.runs;
      made_is = e;
    } in
    record { loadable = s.loadable; made_by = inr stop }

-- an ending is made what it says
pub makes_output : (output : List ℕ) (job : Job) (last : Simulation) (ending : Ending) (made : Outputs) → Simulates job last ending → made ≡ ran_outputs output last ending → MakesOutput output job made
makes_output output job last (Exit v) made s e =
    let exit : MakesExit output job made = record {
      finish = finish last.state.world.output v last.state.cycles;
      exits = s.exits (finish last.state.world.output v last.state.cycles) record { exits = refl; output = refl; cycles = refl };
      made_is = e;
    } in
    record { loadable = s.loadable; made_by = inl exit }
makes_output output job last (Trap at kind) made s e = makes_stop output job last (Trap at kind) made tt s e
makes_output output job last CycleLimit made s e = makes_stop output job last CycleLimit made tt s e
makes_output output job last OutputFull made s e = makes_stop output job last OutputFull made tt s e

run_ends : (ending : Ending) (pc cycles : ℕ) → IsEnd (run_status ending pc cycles)
run_ends (Exit v) pc cycles = tt
run_ends (Trap at kind) pc cycles = tt
run_ends CycleLimit pc cycles = tt
run_ends OutputFull pc cycles = tt

pub ran_ends : (output : List ℕ) (last : Simulation) (ending : Ending) (made : Outputs) → made ≡ ran_outputs output last ending → IsEnd made.status
ran_ends output last ending made e = subst IsEnd (sym (ap (λ (o : Outputs). o.status) e)) (run_ends ending last.state.pc last.state.cycles)

-- a machine that was run from its start
pub simulates : (job : Job) (image : Image) (old new : Simulation) (ending : Ending)
    → IsLoadable job.image → image ≡ image_of job.image
    → old ≡ started image job.input job.costs 16_777_216 → IsAt old (setup image job.costs job.input) 0
    → RunsWithin job.cycles old new ending
    → ((s : Setup) (n : ℕ) → IsAt old s n → old.state.cycles ≤ job.cycles → (f : Finish) → HasExited new ending f → ExitsWithin s (limits job.cycles old.room) f)
    → ((s : Setup) (n : ℕ) → IsAt old s n → (f : Finish) → ExitsWithin s (limits job.cycles old.room) f → HasExited new ending f)
    → Simulates job new ending
simulates job image old new ending l i s a r x y =
    let e : old ≡ start_of job = s ∙ ap (λ (k : Image). started k job.input job.costs 16_777_216) i in
    let at : IsAt old (run_of job) 0 = subst (λ (k : Image). IsAt old (setup k job.costs job.input) 0) i a in
    let room : old.room ≡ 16_777_216 = ap (λ (m : Simulation). m.room) e in
    let low : old.state.cycles ≤ job.cycles = subst (λ (m : Simulation). m.state.cycles ≤ job.cycles) (sym e) (omega arith) in
    record {
      loadable = l;
      runs = subst (λ (m : Simulation). RunsWithin job.cycles m new ending) e r;
      exits = λ f h. subst (λ n. ExitsWithin (run_of job) (limits job.cycles n) f) room (x (run_of job) 0 at low f h);
      finishes = λ f w. y (run_of job) 0 at f (subst (λ n. ExitsWithin (run_of job) (limits job.cycles n) f) (sym room) w);
    }
