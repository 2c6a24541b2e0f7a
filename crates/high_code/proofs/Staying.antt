-- Variables that code does not assign.
use Rattle.std.proofs.Common.{◌≡◌, ℕ, zero, suc, ◌-◌, List, Bool, true, false, Option, Some, None, refl, sym, ◌∙◌}
use Rattle.std.specs.Prelude.{◌==◌, nat_lt, length, slice_index_or, slice_set}
use Rattle.std.proofs.lemmas.Bool.{eqb-false, or_parts}
use Rattle.std.proofs.lemmas.List.{get_or-set_other}
use Rattle.high_ir.specs.Tree.{Statement, Set, Put, Get, Keep, Mark, Seq, If, Loop, Block, Leave, Call, Return, Statements, End, Then}
use Rattle.high_ir.specs.Meaning.{Variables, World, State, Outcome, Goes, Leaves, Returns, Bad, Given, Calls, Labels, only_if, value_of, values_of, objects_of, keep, next_byte, got, put, with_value, choose, written, set_variables, set_world, pass, then_do, out_of_block, if_met, again, turns, after_call, run, run_all}
use Rattle.high_code.specs.Code.{assigns, assigns_any, assigns_into}

-- a variable has the value that it had in these variables, where the frame is still there
abbrev pub Stays : ℕ → Variables → Outcome → Type 0
Stays x vars (Goes st) = slice_index_or st.variables x None ≡ slice_index_or vars x None
Stays x vars (Leaves d st) = slice_index_or st.variables x None ≡ slice_index_or vars x None
Stays x vars (Returns v w t) = Unit {0}
Stays x vars Bad = Unit {0}

along : (x : ℕ) (before vars : Variables) (o : Outcome) → slice_index_or before x None ≡ slice_index_or vars x None → Stays x before o → Stays x vars o
along x before vars (Goes st) same h = h ∙ same
along x before vars (Leaves d st) same h = h ∙ same
along x before vars (Returns v w t) same h = tt
along x before vars Bad same h = tt

-- a write to another variable
written_stays : (b : Bool) (x y v : ℕ) (vars : Variables) (w : World) (t : List ℕ) → (y == x) ≡ false → Stays x vars (with_value (only_if b (Some (slice_set vars y (Some v)))) (λ vs. Goes (record { variables = vs; world = w; trace = t })))
written_stays false x y v vars w t other = tt
written_stays true x y v vars w t other = get_or-set_other vars y x (Some v) None (λ e. eqb-false y x other (sym e))

set_stays : (x y : ℕ) (st : State) (o : Option ℕ) → (y == x) ≡ false → Stays x st.variables (with_value o (λ v. with_value (written st.variables y v) (set_variables st)))
set_stays x y st None other = tt
set_stays x y st (Some v) other = written_stays (nat_lt y (length st.variables)) x y v st.variables st.world st.trace other

set_world_stays : (x : ℕ) (st : State) (o : Option World) → Stays x st.variables (with_value o (set_world st))
set_world_stays x st None = tt
set_world_stays x st (Some w) = refl

put_stays : (x : ℕ) (st : State) (o : Option ℕ) → Stays x st.variables (with_value o (λ v. set_world st (put st.world v)))
put_stays x st None = tt
put_stays x st (Some v) = refl

keep_stays : (x : ℕ) (st : State) (go : ℕ → ℕ → Option World) (i o : Option ℕ) → Stays x st.variables (with_value i (λ n. with_value o (λ v. with_value (go n v) (set_world st))))
keep_stays x st go None o = tt
keep_stays x st go (Some n) None = tt
keep_stays x st go (Some n) (Some v) = set_world_stays x st (go n v)

pass_stays : (x : ℕ) (st : State) (o : Option ℕ) → Stays x st.variables (pass o st)
pass_stays x st None = tt
pass_stays x st (Some m) = refl

return_stays : (x : ℕ) (st : State) (o : Option ℕ) → Stays x st.variables (with_value o (λ v. Returns v st.world st.trace))
return_stays x st None = tt
return_stays x st (Some v) = tt

taken_stays : (x : ℕ) (vars : Variables) (into : Option ℕ) (g : Given) → assigns_into x into ≡ false → Stays x vars (after_call vars into (Some g))
taken_stays x vars None g other = refl
taken_stays x vars (Some y) g other = written_stays (nat_lt y (length vars)) x y g.value vars g.world g.trace other

after_call_stays : (x : ℕ) (vars : Variables) (into : Option ℕ) (o : Option Given) → assigns_into x into ≡ false → Stays x vars (after_call vars into o)
after_call_stays x vars into None other = tt
after_call_stays x vars into (Some g) other = taken_stays x vars into g other

call_stays : (x : ℕ) (vars : Variables) (into : Option ℕ) (go : List ℕ → List ℕ → Option Given) (vs ns : Option (List ℕ)) → assigns_into x into ≡ false → Stays x vars (with_value vs (λ xs. with_value ns (λ ys. after_call vars into (go xs ys))))
call_stays x vars into go None ns other = tt
call_stays x vars into go (Some xs) None other = tt
call_stays x vars into go (Some xs) (Some ys) other = after_call_stays x vars into (go xs ys) other

choose_stays : (x v : ℕ) (vars : Variables) (first other : Outcome) → Stays x vars first → Stays x vars other → Stays x vars (choose v first other)
choose_stays x zero vars first other h k = k
choose_stays x (suc v) vars first other h k = h

if_stays : (x : ℕ) (vars : Variables) (o : Option ℕ) (first other : Outcome) → Stays x vars first → Stays x vars other → Stays x vars (with_value o (λ v. choose v first other))
if_stays x vars None first other h k = tt
if_stays x vars (Some v) first other h k = choose_stays x v vars first other h k

block_stays : (x : ℕ) (vars : Variables) (o : Outcome) → Stays x vars o → Stays x vars (out_of_block o)
block_stays x vars (Goes st) h = h
block_stays x vars (Leaves zero st) h = h
block_stays x vars (Leaves (suc d) st) h = h
block_stays x vars (Returns v w t) h = tt
block_stays x vars Bad h = tt

then_stays : (x : ℕ) (vars : Variables) (o : Outcome) (go : State → Outcome) → Stays x vars o → ((st : State) → Stays x st.variables (go st)) → Stays x vars (then_do o go)
then_stays x vars (Goes st) go h next = along x st.variables vars (go st) h (next st)
then_stays x vars (Leaves d st) go h next = h
then_stays x vars (Returns v w t) go h next = tt
then_stays x vars Bad go h next = tt

if_met_stays : (x owed : ℕ) (vars : Variables) (o : Outcome) → Stays x vars o → Stays x vars (if_met owed o)
if_met_stays x zero vars o h = h
if_met_stays x (suc owed) vars o h = tt

again_stays : (x owed : ℕ) (vars : Variables) (go : State → Outcome) (o : Outcome) → Stays x vars o → ((st : State) → Stays x st.variables (go st)) → Stays x vars (again owed go o)
again_stays x owed vars go (Goes st) h next = along x st.variables vars (go st) h (next st)
again_stays x owed vars go (Leaves d st) h next = if_met_stays x owed vars (Leaves d st) h
again_stays x owed vars go (Returns v w t) h next = if_met_stays x owed vars (Returns v w t) tt
again_stays x owed vars go Bad h next = tt

turns_stays : (x : ℕ) (body : State → Outcome) → ((st : State) → Stays x st.variables (body st)) → (left owed : ℕ) (st : State) → Stays x st.variables (turns left owed body st)
turns_stays x body h zero owed st = tt
turns_stays x body h (suc left) owed st = again_stays x (owed - 1) st.variables (turns left (owed - 1) body) (body st) (h st) (turns_stays x body h left (owed - 1))

module _ (label : Labels) (call : Calls) (passed : List ℕ) (x : ℕ) where
  mutual
    pub stays : (s : Statement) → assigns x s ≡ false → (st : State) → Stays x st.variables (run label call passed s st)
    stays (Set y e) other st = set_stays x y st (value_of passed st.variables st.world e) other
    stays (Put e) other st = put_stays x st (value_of passed st.variables st.world e)
    stays (Get y) other st = written_stays (nat_lt y (length st.variables)) x y (next_byte st.world.input) st.variables (got st.world) st.trace other
    stays (Keep array i e) other st = keep_stays x st (λ n v. keep passed st.world array n v) (value_of passed st.variables st.world i) (value_of passed st.variables st.world e)
    stays (Mark m) other st = pass_stays x st (label m)
    stays (Seq parts) other st = stays_all parts other st
    stays (If test first second) other st =
        let parts = or_parts (assigns x first) (assigns x second) other in
        if_stays x st.variables (value_of passed st.variables st.world test) (run label call passed first st) (run label call passed second st) (stays first parts.0 st) (stays second parts.1 st)
    stays (Loop id least most body) other st = turns_stays x (run label call passed body) (stays body other) most least st
    stays (Block body) other st = block_stays x st.variables (run label call passed body st) (stays body other st)
    stays (Leave d) other st = refl
    stays (Call f values arrays into) other st =
        call_stays x st.variables into (λ vs ns. call f vs ns st.world st.trace) (values_of passed st.variables st.world values) (objects_of passed arrays) other
    stays (Return e) other st = return_stays x st (value_of passed st.variables st.world e)

    -- a variable that code does not assign keeps its value
    pub stays_all : (parts : Statements) → assigns_any x parts ≡ false → (st : State) → Stays x st.variables (run_all label call passed parts st)
    stays_all End other st = refl
    stays_all (Then first rest) other st =
        let parts = or_parts (assigns x first) (assigns_any x rest) other in
        then_stays x st.variables (run label call passed first st) (run_all label call passed rest) (stays first parts.0 st) (stays_all rest parts.1)
