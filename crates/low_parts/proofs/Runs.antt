-- Runs over virtual registers, and the names that laws on passes have for their parts.
use Rattle.std.proofs.Common.{◌≡◌, ℕ, zero, suc, ◌+◌, List, ap, ◌∙◌, arith}
use Rattle.low_ir.specs.Code.{Instr, End, Function, Low, Note}
use Rattle.low_ir.specs.Runs.{Waiting, Running, Run, Bank, step, run, virtual}

abbrev pub LowRunning : Type 0
LowRunning = Running ℕ Note Bank

abbrev pub LowRun : Type 0
LowRun = Run ℕ Note Bank

abbrev pub LowWaiting : Type 0
LowWaiting = Waiting ℕ Note Bank

abbrev pub LowFunction : Type 0
LowFunction = Function ℕ Note

-- the same activation, world and trace with other code and another store
abbrev pub running : LowRunning → List (Instr ℕ Note) → End ℕ → Bank → List LowWaiting → LowRunning
running r code end t ws = record { top = record { func = r.top.func; code = code; end = end; store = t }; below = ws; world = r.world }

pub run_more : (q : Low) (j k : ℕ) (s : LowRun) → run virtual q j (run virtual q k s) ≡ run virtual q (k + j) s
run_more q j zero s = let e : j ≡ 0 + j = omega arith in ap (λ n. run virtual q n s) e
run_more q j (suc k) s = let e : suc (k + j) ≡ suc k + j = omega arith in run_more q j k (step virtual q s) ∙ ap (λ n. run virtual q n s) e
