-- A folded program runs as it did.
use Rattle.std.proofs.Common.{◌≡◌, ℕ, zero, suc, ◌+◌, ◌-◌, List, [], ◌∷◌, length, map, Option, Some, None, refl, sym, ap, ◌∙◌}
use Rattle.std.specs.Prelude.{slice_get, slice_index_or}
use Rattle.high_ir.specs.declared.object.Array.{Array}
use Rattle.high_ir.specs.declared.object.Kind.TheVariants.{Unsigned8}
use Rattle.high_ir.specs.Meaning.{Bad, Calls, Goes, Labels, Leaves, Outcome, Returns, State, World, after_call, again, choose, keep, objects_of, out_of_block, pass, put, run, run_all, set_variables, set_world, then_do, turns, value_of, values_of, with_value, written}
use Rattle.high_ir.specs.Runs.{calls, enter, frame, given, hrun, only_good, rank_or, run_of, start, takes}
use Rattle.high_ir.specs.Tree.{Expr, Statement, Set, Put, Get, Keep, Mark, Seq, If, Loop, Block, Leave, Call, Return, Statements, End, Then, Function, Program}
use Rattle.high_folded.specs.Kept.{IsKept}
use Rattle.high_folded.proofs.Keeping.{CallsKeep, EndsKept, calls_keep, pass_kept, run_kept}
use Rattle.high_folded.proofs.Starting.{start_kept}
use Rattle.high_folded.proofs.Stores.{keep_converted, put_converted}
use Rattle.high_folded.specs.Folded.{constant_of, decided, folded, folded_all, folded_expr, folded_functions, folded_program, kept_loops, stored_expr}
use Rattle.high_folded.proofs.Values.{constant_value, value-folded, value-stored, values-folded}

-- what follows is the same for each value, and from each world in which arrays hold what their kinds keep
with_same : {A : Type 0} (o : Option A) (f g : A → Outcome) → ((v : A) → f v ≡ g v) → with_value o f ≡ with_value o g
with_same None f g h = refl
with_same (Some v) f g h = h v

abbrev AreSame : (f g : State → Outcome) → Type 0
AreSame f g = (st : State) → IsKept st.world → f st ≡ g st

then_same : (o : Outcome) (f g : State → Outcome) → EndsKept o → AreSame f g → then_do o f ≡ then_do o g
then_same (Goes st) f g h same = same st h
then_same (Leaves d st) f g h same = refl
then_same (Returns v w t) f g h same = refl
then_same Bad f g h same = refl

again_same : (owed : ℕ) (f g : State → Outcome) (o : Outcome) → EndsKept o → AreSame f g → again owed f o ≡ again owed g o
again_same owed f g (Goes st) h same = same st h
again_same owed f g (Leaves d st) h same = refl
again_same owed f g (Returns v w t) h same = refl
again_same owed f g Bad h same = refl

turns_same : (left owed : ℕ) (f g : State → Outcome) → AreSame f g → ((st : State) → IsKept st.world → EndsKept (g st)) → AreSame (turns left owed f) (turns left owed g)
turns_same zero owed f g same ends st h = refl
turns_same (suc left) owed f g same ends st h =
    ap (again (owed - 1) (turns left (owed - 1) f)) (same st h) ∙ again_same (owed - 1) (turns left (owed - 1) f) (turns left (owed - 1) g) (g st) (ends st h) (turns_same left (owed - 1) f g same ends)

-- calls that give the same from such worlds
pub record CallsSame (now before : Calls) : Type 0 where
  pub by : (f : ℕ) (values arrays : List ℕ) (w : World) (trace : List ℕ) → IsKept w → now f values arrays w trace ≡ before f values arrays w trace

module _ (label : Labels) (now before : Calls) (same : CallsSame now before) (keeps : CallsKeep before) (passed : List ℕ) where
  abbrev does : Statement → State → Outcome
  does s st = run label before passed s st

  abbrev does_now : Statement → State → Outcome
  does_now s st = run label now passed s st

  abbrev value : State → Expr → Option ℕ
  value st e = value_of passed st.variables st.world e

  same_value : (st : State) → IsKept st.world → (e : Expr) → value st (folded_expr e) ≡ value st e
  same_value st h e = value-folded passed st.variables st.world h e

  -- what follows a value
  abbrev set_to : ℕ → State → Option ℕ → Outcome
  set_to x st o = with_value o (λ v. with_value (written st.variables x v) (set_variables st))

  abbrev chosen : Option ℕ → Outcome → Outcome → Outcome
  chosen o first other = with_value o (λ v. choose v first other)

  abbrev stores : State → Array → ℕ → ℕ → Outcome
  stores st array k v = with_value (keep passed st.world array k v) (set_world st)

  -- a choice is made as the value of its test says
  choice_runs : (test : Expr) (first other first' other' other'' : Statement) (st : State) → IsKept st.world → does_now first' st ≡ does first st → does_now other' st ≡ does other st → does_now other'' st ≡ does other st →
      does_now (decided (constant_of (folded_expr test)) first' other' (If (folded_expr test) first' other'')) st ≡ does (If test first other) st
  choice_runs test first other first' other' other'' st h f o p = by_test (constant_of (folded_expr test)) refl
    where
      known : (word : ℕ) → constant_of (folded_expr test) ≡ Some word → value st test ≡ Some word
      known word is = sym (same_value st h test) ∙ constant_value passed st.variables st.world (folded_expr test) word is

      by_test : (c : Option ℕ) → constant_of (folded_expr test) ≡ c → does_now (decided c first' other' (If (folded_expr test) first' other'')) st ≡ does (If test first other) st
      by_test None is =
          ap (λ v. chosen v (does_now first' st) (does_now other'' st)) (same_value st h test)
          ∙ ap (λ a. chosen (value st test) a (does_now other'' st)) f
          ∙ ap (chosen (value st test) (does first st)) p
      by_test (Some zero) is = o ∙ sym (ap (λ v. chosen v (does first st) (does other st)) (known zero is))
      by_test (Some (suc n)) is = f ∙ sym (ap (λ v. chosen v (does first st) (does other st)) (known (suc n) is))

  mutual
    pub run-folded : (s : Statement) (n : ℕ) (st : State) → IsKept st.world → run label now passed (folded n s) st ≡ run label before passed s st
    run-folded (Set x e) n st h = ap (set_to x st) (same_value st h e)
    run-folded (Put e) n st h =
        value-stored passed st.variables st.world h Unsigned8 (λ v. set_world st (put st.world v)) (λ wide v t. ap (set_world st) (put_converted wide st.world v)) e
    run-folded (Get x) n st h = refl
    run-folded (Keep array i e) n st h =
        ap (λ o. with_value o (λ k. with_value (value st (stored_expr array.kind e)) (stores st array k))) (same_value st h i)
        ∙ with_same (value st i) (λ k. with_value (value st (stored_expr array.kind e)) (stores st array k)) (λ k. with_value (value st e) (stores st array k))
        (λ k. value-stored passed st.variables st.world h array.kind (stores st array k) (λ wide v t. ap (λ o. with_value o (set_world st)) (keep_converted passed st.world array wide k v t)) e)
    run-folded (Mark m) n st h = refl
    run-folded (Seq parts) n st h = run_all-folded parts n st h
    run-folded (If test first other) n st h =
        let m = n + length (kept_loops first) in
        choice_runs test first other (folded n first) (folded n other) (folded m other) st h (run-folded first n st h) (run-folded other n st h) (run-folded other m st h)
    run-folded (Loop id least most body) n st h =
        turns_same most least (run label now passed (folded (n + 1) body)) (run label before passed body) (run-folded body (n + 1)) (run_kept label before passed keeps body) st h
    run-folded (Block body) n st h = ap out_of_block (run-folded body n st h)
    run-folded (Leave d) n st h = refl
    run-folded (Call f values arrays into) n st h =
        ap (λ o. with_value o (λ vs. with_value (objects_of passed arrays) (λ ns. after_call st.variables into (now f vs ns st.world st.trace)))) (values-folded passed st.variables st.world h values)
        ∙ with_same (values_of passed st.variables st.world values) (λ vs. with_value (objects_of passed arrays) (λ ns. after_call st.variables into (now f vs ns st.world st.trace)))
        (λ vs. with_value (objects_of passed arrays) (λ ns. after_call st.variables into (before f vs ns st.world st.trace)))
        (λ vs. with_same (objects_of passed arrays) (λ ns. after_call st.variables into (now f vs ns st.world st.trace)) (λ ns. after_call st.variables into (before f vs ns st.world st.trace))
        (λ ns. ap (after_call st.variables into) (same.by f vs ns st.world st.trace h)))
    run-folded (Return e) n st h = ap (λ o. with_value o (λ v. Returns v st.world st.trace)) (same_value st h e)

    pub run_all-folded : (parts : Statements) (n : ℕ) (st : State) → IsKept st.world → run_all label now passed (folded_all n parts) st ≡ run_all label before passed parts st
    run_all-folded End n st h = refl
    run_all-folded (Then first rest) n st h =
        let m = n + length (kept_loops first) in
        ap (λ o. then_do o (run_all label now passed (folded_all m rest))) (run-folded first n st h)
        ∙ then_same (run label before passed first st) (run_all label now passed (folded_all m rest)) (run_all label before passed rest) (run_kept label before passed keeps first st h) (run_all-folded rest m)

enter-folded : (label : Labels) (now before : Calls) → CallsSame now before → CallsKeep before → (fs : List Function) (n f g : ℕ) (values arrays : List ℕ) (w : World) (trace : List ℕ) → IsKept w →
    enter label (slice_get (folded_functions n fs) f) now g values arrays w trace ≡ enter label (slice_get fs f) before g values arrays w trace
enter-folded label now before same keeps [] n f g values arrays w trace h = refl
enter-folded label now before same keeps (k ∷ fs) n zero g values arrays w trace h =
    let begun : State = record { variables = frame k values; world = w; trace = trace } in
    ap (λ o. given (only_good (takes k values arrays) o))
    (then_same (pass (label g) begun) (run label now arrays (folded n k.body)) (run label before arrays k.body) (pass_kept (label g) begun h) (run-folded label now before same keeps arrays k.body n))
enter-folded label now before same keeps (k ∷ fs) n (suc f) g values arrays w trace h = enter-folded label now before same keeps fs (n + length (kept_loops k.body)) f g values arrays w trace h

calls-folded : (label : Labels) (fs : List Function) (depth : ℕ) → CallsSame (calls label (folded_functions 0 fs) depth) (calls label fs depth)
calls-folded label fs zero = record { by = λ f values arrays w trace h. refl }
calls-folded label fs (suc depth) = record {
  by = λ f values arrays w trace h.
      enter-folded label (calls label (folded_functions 0 fs) depth) (calls label fs depth) (calls-folded label fs depth) (calls_keep label fs depth) fs 0 f f values arrays w trace h;
}

pub ranks-folded : (n : ℕ) (fs : List Function) → map (λ h. h.rank) (folded_functions n fs) ≡ map (λ h. h.rank) fs
ranks-folded n [] = refl
ranks-folded n (f ∷ fs) = ap (λ l. f.rank ∷ l) (ranks-folded (n + length (kept_loops f.body)) fs)

pub rank_or-folded : (fs : List Function) (f d : ℕ) → rank_or (folded_functions 0 fs) f d ≡ rank_or fs f d
rank_or-folded fs f d = ap (λ ranks. slice_index_or ranks f d) (ranks-folded 0 fs)

pub hrun-folded : (p : Program) (input : List ℕ) → hrun (folded_program p) input ≡ hrun p input
hrun-folded p input =
    ap (λ r. run_of (calls Some (folded_functions 0 p.functions) (suc r) p.main [] [] (start p.objects input) [])) (rank_or-folded p.functions p.main 0)
    ∙ ap run_of ((calls-folded Some p.functions (suc (rank_or p.functions p.main 0))).by p.main [] [] (start p.objects input) [] (start_kept p.objects input))
