-- The steps of a run over places.
use Rattle.std.proofs.Common.{◌≡◌, ℕ, zero, suc, true, List, [], ◌∷◌, Option, Some, Result, Ok, Err, IfOk, refl, sym, ap, ◌∙◌}
use Rattle.std.specs.Prelude.{nat_lt, slice_get}
use Rattle.low_ir.specs.declared.places.Place.{Place}
use Rattle.low_ir.specs.declared.run.Value.{Value}
use Rattle.low_ir.specs.Code.{Instr, Do, Call, Jump, Function}
use Rattle.low_ir.specs.Effects.{World, dest}
use Rattle.low_ir.specs.Places.{File, Placed, places}
use Rattle.low_ir.specs.Runs.{Run, Going, Done, Bad, write_all, enter, begin, call, only_where, waiting, first_in, finish, leaving, at_instr, at_end, at_code, step, run}
use Rattle.low_eval.proofs.Effects.{effect-direct}
use Rattle.register_eval.specs.Stands.{Stands, instr_run}

pub if_ok : {X E : Type 0} (r : Result X E) (P Q : X → Type 0) → IfOk r P → ((x : X) → P x → Q x) → IfOk r Q
if_ok (Ok x) P Q h f = f x h
if_ok (Err e) P Q h f = tt

at_instr-run : (p : Placed) (r : Stands) (i : Instr Place (List ℕ)) (is : List (Instr Place (List ℕ))) → at_instr places p r i is ≡ instr_run p r i is
at_instr-run p r (Do i) is = ap (finish places (leaving places i r) is (dest i)) (effect-direct places p.claims r.top.store i r.world)
at_instr-run p r (Call d f args note) is = refl

-- a step by the instruction that is next, and a step at the end of a block
pub step_instr : (p : Placed) (r : Stands) (i : Instr Place (List ℕ)) (is : List (Instr Place (List ℕ))) → r.top.code ≡ i ∷ is → step places p (Going r) ≡ instr_run p r i is
step_instr p r i is e = ap (at_code places p r) e ∙ at_instr-run p r i is

pub step_end : (p : Placed) (r : Stands) → r.top.code ≡ [] → step places p (Going r) ≡ at_end places p r r.top.end
step_end p r e = ap (at_code places p r) e

-- a run that has ended stays as it is
pub run_done : (p : Placed) (n v : ℕ) (u : World) → run places p n (Done v u) ≡ Done v u
run_done p zero v u = refl
run_done p (suc n) v u = run_done p n v u

pub run_bad : (p : Placed) (n : ℕ) → run places p n Bad ≡ Bad
run_bad p zero = refl
run_bad p (suc n) = run_bad p n

-- one step of those that are left
pub run_step : (p : Placed) (n m : ℕ) (r s : Run Place (List ℕ) File) → n ≡ suc m → step places p r ≡ s → run places p n r ≡ run places p m s
run_step p n m r s e q = ap (λ k. run places p k r) e ∙ ap (run places p m) q

-- a run begins where its function takes nothing
pub begun_run : (u : World) (f : ℕ) (fn : Function Place (List ℕ)) (s : File) (r : Run Place (List ℕ) File) → write_all places (Some (places.empty fn.size)) fn.parameters [] ≡ Some s → enter (record { top = record { func = f; code = []; end = Jump 0; store = s }; below = []; world = u }) 0 (slice_get fn.blocks 0) ≡ r → first_in places u f (Some fn) ≡ r
begun_run u f fn s r written entered = ap (begin [] u f fn) written ∙ entered

-- a call begins the function that it calls, above the activation that waits
pub called_run : (r s : Stands) (is : List (Instr Place (List ℕ))) (d : Option Place) (f : ℕ) (note : List ℕ) (o : Option (Function Place (List ℕ))) (os : Option (List Value)) (fn : Function Place (List ℕ)) (xs : List Value) (file : File) → o ≡ Some fn → os ≡ Some xs → nat_lt f r.top.func ≡ true → write_all places (Some (places.empty fn.size)) fn.parameters xs ≡ Some file → s.top ≡ record { func = f; code = []; end = Jump 0; store = file } → s.below ≡ waiting places r.top is d note ∷ r.below → s.world ≡ r.world → call places r is d f note o os ≡ enter s 0 (slice_get fn.blocks 0)
called_run r s is d f note o os fn xs file there valued lower written top below world =
    let b = slice_get fn.blocks 0 in
    let first = waiting places r.top is d note ∷ r.below in
    ap (λ o. call places r is d f note o os) there
    ∙ ap (call places r is d f note (Some fn)) valued
    ∙ ap (λ b. only_where b (begin first r.world f fn (write_all places (Some (places.empty fn.size)) fn.parameters xs))) lower
    ∙ ap (begin first r.world f fn) written
    ∙ sym (ap (λ t. enter (record { top = t; below = s.below; world = s.world }) 0 b) top
    ∙ ap (λ ws. enter (record { top = record { func = f; code = []; end = Jump 0; store = file }; below = ws; world = s.world }) 0 b) below
    ∙ ap (λ u. enter (record { top = record { func = f; code = []; end = Jump 0; store = file }; below = first; world = u }) 0 b) world)
