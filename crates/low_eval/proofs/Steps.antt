-- The steps of a run over virtual registers.
use Rattle.std.proofs.Common.{◌≡◌, ℕ, zero, suc, ◌-◌, ◌≤◌, List, [], ◌∷◌, length, get_or, take, drop, Some, refl, sym, ap, ◌∙◌, arith}
use Rattle.std.specs.Prelude.{slice_get}
use Rattle.std.proofs.lemmas.List.{take_all}
use Rattle.low_ir.specs.Code.{Instr, Do, Call, Jump, Function, Low, Note}
use Rattle.low_ir.specs.Effects.{World, dest}
use Rattle.low_ir.specs.Runs.{Running, Run, Going, Done, Bad, Bank, virtual, write_all, enter, begin, first_in, finish, at_instr, at_end, at_code, step, run}
use Rattle.low_eval.specs.Progress.{instr_run}
use Rattle.low_eval.proofs.Effects.{effect-direct}

at_instr-run : (p : Low) (r : Running ℕ Note Bank) (i : Instr ℕ Note) (is : List (Instr ℕ Note)) → at_instr virtual p r i is ≡ instr_run p r i is
at_instr-run p r (Do i) is = ap (finish virtual r is (dest i)) (effect-direct virtual p.claims r.top.store i r.world)
at_instr-run p r (Call d f args note) is = refl

-- a step by the instruction that is next, and a step at the end of a block
pub step_instr : (p : Low) (r : Running ℕ Note Bank) (i : Instr ℕ Note) (is : List (Instr ℕ Note)) → r.top.code ≡ i ∷ is → step virtual p (Going r) ≡ instr_run p r i is
step_instr p r i is e = ap (at_code virtual p r) e ∙ at_instr-run p r i is

pub step_end : (p : Low) (r : Running ℕ Note Bank) → r.top.code ≡ [] → step virtual p (Going r) ≡ at_end virtual p r r.top.end
step_end p r e = ap (at_code virtual p r) e

-- a run that has ended stays as it is
pub run_done : (p : Low) (n v : ℕ) (u : World) → run virtual p n (Done v u) ≡ Done v u
run_done p zero v u = refl
run_done p (suc n) v u = run_done p n v u

pub run_bad : (p : Low) (n : ℕ) → run virtual p n Bad ≡ Bad
run_bad p zero = refl
run_bad p (suc n) = run_bad p n

-- one step of those that are left
pub run_step : (p : Low) (n m : ℕ) (r s : Run ℕ Note Bank) → n ≡ suc m → step virtual p r ≡ s → run virtual p n r ≡ run virtual p m s
run_step p n m r s e q = ap (λ k. run virtual p k r) e ∙ ap (run virtual p m) q

-- a run begins where its function takes nothing
pub begun_run : (u : World) (f : ℕ) (fn : Function ℕ Note) (s : Bank) (r : Run ℕ Note Bank) → write_all virtual (Some (virtual.empty fn.size)) fn.parameters [] ≡ Some s → enter (record { top = record { func = f; code = []; end = Jump 0; store = s }; below = []; world = u }) 0 (slice_get fn.blocks 0) ≡ r → first_in virtual u f (Some fn) ≡ r
begun_run u f fn s r written entered = ap (begin [] u f fn) written ∙ entered

-- the first of a list, and the others
pub first_and_rest : {A : Type 0} (xs : List A) (x : A) → 1 ≤ length xs → x ≡ get_or xs 0 x → xs ≡ x ∷ take (length xs - 1) (drop 1 xs)
first_and_rest [] x some read = absurd (omega (arith, some))
first_and_rest (y ∷ ys) x some read =
    let one : suc (length ys) - 1 ≡ length ys = omega arith in
    ap (λ z. z ∷ ys) (sym read) ∙ ap (λ zs. x ∷ zs) (sym (take_all (length ys) ys (omega arith))) ∙ ap (λ n. x ∷ take n ys) (sym one)
