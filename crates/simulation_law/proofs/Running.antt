-- The machine follows a run over places.
use Rattle.std.proofs.Common.{◌≡◌, ℕ, zero, suc, List, [], ◌∷◌, refl, subst}
use Rattle.rv_steps.specs.Steps.{Later}
use Rattle.rv_steps.proofs.LaterLemmas.{now, and_then}
use Rattle.low_ir.specs.declared.places.Place.{Place}
use Rattle.low_ir.specs.Code.{Instr, Do, Call, End, Jump, Branch, Return}
use Rattle.low_ir.specs.Effects.{World}
use Rattle.low_ir.specs.Runs.{Going, Done, Bad, operand_value, at_end, at_code, step, run}
use Rattle.low_ir.specs.Places.{places}
use Rattle.simulation_relation.specs.Following.{PlacedRunning, PlacedRun}
use Rattle.simulation_steps.proofs.Given.{Given}
use Rattle.simulation_steps.proofs.Plains.{Runs, Going_at}
use Rattle.simulation_steps.proofs.Steps.{do_follows}
use Rattle.simulation_law.proofs.Ends.{jump_follows, branch_follows}
use Rattle.simulation_law.proofs.Leaving.{return_follows}
use Rattle.simulation_law.proofs.Follows.{call_follows}

module _ (g : Given) where
  end_follows : (r : PlacedRunning) (n : ℕ) (h : Going_at g r n) (end : End Place) → r.top.end ≡ end → r.top.code ≡ [] → Later (Runs g (at_end places g.layout.program r end)) n
  end_follows r n h (Jump t) is none = jump_follows g r n t h none is
  end_follows r n h (Branch c x y taken other) is none = branch_follows g r n c x y taken other h none is (operand_value places r.top.store x) (operand_value places r.top.store y) refl refl
  end_follows r n h (Return x) is none = return_follows g r n x h none is (operand_value places r.top.store x) refl

  code_follows : (r : PlacedRunning) (n : ℕ) (h : Going_at g r n) (code : List (Instr Place (List ℕ))) → r.top.code ≡ code → Later (Runs g (at_code places g.layout.program r code)) n
  code_follows r n h [] is = end_follows r n h r.top.end refl is
  code_follows r n h (Do i ∷ is) e = do_follows g r n i is h e
  code_follows r n h (Call d f args note ∷ is) e = call_follows g r n d f args note is h e

  -- one step of the run
  pub step_follows : (x : PlacedRun) (n : ℕ) → Runs g x n → Later (Runs g (step places g.layout.program x)) n
  step_follows (Going r) n h = code_follows r n h r.top.code refl
  step_follows (Done v u) n h = now (Runs g (Done v u)) n h
  step_follows Bad n h = now (Runs g Bad) n h

  -- many of them
  pub run_follows : (i : ℕ) (x : PlacedRun) (n : ℕ) → Runs g x n → Later (Runs g (run places g.layout.program i x)) n
  run_follows zero x n h = now (Runs g x) n h
  run_follows (suc i) x n h =
      and_then (Runs g (step places g.layout.program x)) (Runs g (run places g.layout.program (suc i) x)) n (step_follows x n h) (λ m z. run_follows i (step places g.layout.program x) m z)

  -- a run that has ended
  pub run_ends : (i : ℕ) (x : PlacedRun) (n v : ℕ) (u : World) → Runs g x n → run places g.layout.program i x ≡ Done v u → Later (Runs g (Done v u)) n
  run_ends i x n v u h e = subst (λ y. Later (Runs g y) n) e (run_follows i x n h)
