-- A run keeps the elements of arrays as their kinds keep them.
use Rattle.std.proofs.Common.{◌≡◌, ◌≢◌, ℕ, zero, suc, ◌-◌, ◌<◌, Bool, true, false, List, length, Option, Some, None, refl, sym, ap, ◌∙◌, subst, ⊎_elim, arith, get_or-set_same, get_or-set_other, length-set}
use Rattle.std.specs.Prelude.{◌&&◌, nat_lt, slice_get, slice_index_or, slice_set}
use Rattle.std.proofs.lemmas.Bool.{and_parts, cases_eq, ltb-true}
use Rattle.std.proofs.lemmas.Option.{get_or_from_slice_get, none-some, same_Some, slice_get-get_or, slice_get_within}
use Rattle.high_ir.specs.declared.object.Array.{Array}
use Rattle.high_ir.specs.declared.object.Kind.{Kind}
use Rattle.high_ir.specs.declared.object.Kind.TheVariants.{Unsigned8, Signed8, Unsigned16, Signed16, Word}
use Rattle.high_ir.specs.Meaning.{Bad, Calls, Contents, Given, Goes, Labels, Leaves, Outcome, Returns, State, Variables, World, after_call, again, at_value, can_store, choose, element, got, if_met, keep, next_byte, object_number, objects_of, only_if, out_of_block, pass, put, run, run_all, set_variables, set_world, stored, taken, then_do, turns, value_of, values_of, with_array, with_value, written}
use Rattle.high_ir.specs.Runs.{calls, enter, frame, given, only_good, takes}
use Rattle.high_ir.specs.Tree.{Statement, Set, Put, Get, Keep, Mark, Seq, If, Loop, Block, Leave, Call, Return, Statements, End, Then, Function}
use Rattle.high_ir.specs.Words.{converted, same_kind}
use Rattle.high_folded.specs.Kept.{IsKept, IsOf}
use Rattle.high_folded.proofs.Fitting.{within_keeps}

-- what a kind keeps it keeps as it is
pub again_kept : (kind : Kind) (v : ℕ) → converted kind (converted kind v) ≡ converted kind v
again_kept Unsigned8 v = within_keeps Unsigned8 Unsigned8 v refl
again_kept Signed8 v = within_keeps Signed8 Signed8 v refl
again_kept Unsigned16 v = within_keeps Unsigned16 Unsigned16 v refl
again_kept Signed16 v = within_keeps Signed16 Signed16 v refl
again_kept Word v = within_keeps Word Word v refl

-- an array with an element stored
abbrev with_stored : Contents → ℕ → ℕ → Contents
with_stored c i v = record { kind = c.kind; storage = c.storage; elements = slice_set c.elements i (Some (converted c.kind v)) }

abbrev AllOf : Contents → Type 0
AllOf c = (i : ℕ) → IsOf c.kind (element c i)

stored_of : (c : Contents) (i v : ℕ) → i < length c.elements → AllOf c → AllOf (with_stored c i v)
stored_of c i v inside all j = ⊎_elim
    (λ (same : j ≡ i). subst (IsOf c.kind) (sym (ap (λ k. slice_index_or (slice_set c.elements i (Some (converted c.kind v))) k None) same ∙ get_or-set_same c.elements i (Some (converted c.kind v)) None inside)) (again_kept c.kind v))
    (λ (other : j ≢ i). subst (IsOf c.kind) (sym (get_or-set_other c.elements i j (Some (converted c.kind v)) None other)) (all j))
    (cases_eq j i)

-- a world with such an array in place of one
with_kept : (w : World) (n : ℕ) (c d : Contents) → slice_get w.objects n ≡ Some c → AllOf d → IsKept w → IsKept (with_array w n d)
with_kept w n c d there all h = record {
  by = λ m i e is. ⊎_elim
      (λ (same : m ≡ n).
      let within = slice_get_within w.objects n c there in
      let found : slice_get (slice_set w.objects n d) n ≡ Some e = subst (λ k. slice_get (slice_set w.objects n d) k ≡ Some e) same is in
      let one : d ≡ e = sym (get_or-set_same w.objects n d d within) ∙ get_or_from_slice_get (slice_set w.objects n d) n e d found in
      subst (λ (x : Contents). IsOf x.kind (element x i)) one (all i))
      (λ (other : m ≢ n).
      let len = length-set w.objects n d in
      let low = slice_get_within (slice_set w.objects n d) m e is in
      h.by m i e (slice_get-get_or w.objects m e (omega (arith, low, len)) ∙ ap Some (sym (get_or-set_other w.objects n m d e other) ∙ get_or_from_slice_get (slice_set w.objects n d) m e e is)))
      (cases_eq m n);
}

-- how a statement may end
abbrev pub EndsKept : Outcome → Type 0
EndsKept (Goes st) = IsKept st.world
EndsKept (Leaves d st) = IsKept st.world
EndsKept (Returns v w t) = IsKept w
EndsKept Bad = Unit {0}

abbrev GivesKept : Option Given → Type 0
GivesKept None = Unit {0}
GivesKept (Some g) = IsKept g.world

pub record CallsKeep (call : Calls) : Type 0 where
  pub by : (f : ℕ) (values arrays : List ℕ) (w : World) (trace : List ℕ) → IsKept w → GivesKept (call f values arrays w trace)

at_each : {A : Type 0} (o : Option A) (go : A → Outcome) → ((v : A) → o ≡ Some v → EndsKept (go v)) → EndsKept (with_value o go)
at_each None go h = tt
at_each (Some v) go h = h v refl

-- what the stores of an element come to
stored_cases : (c : Contents) (i v : ℕ) (b : Bool) → (can_store c.storage && nat_lt i (length c.elements)) ≡ b → (d : Contents) → only_if b (Some (with_stored c i v)) ≡ Some d → (i < length c.elements) × (with_stored c i v ≡ d)
stored_cases c i v false t d e = absurd (none-some d e)
stored_cases c i v true t d e =
    (ltb-true i (length c.elements) (and_parts (can_store c.storage) (nat_lt i (length c.elements)) t).1, same_Some (with_stored c i v) d e)

keep_stored : (w : World) (n : ℕ) (c : Contents) (i v : ℕ) → slice_get w.objects n ≡ Some c → IsKept w → (o : Option Contents) → stored c i v ≡ o → (st : State) → EndsKept (with_value (at_value o (λ d. Some (with_array w n d))) (set_world st))
keep_stored w n c i v there h None e st = tt
keep_stored w n c i v there h (Some d) e st =
    let parts = stored_cases c i v (can_store c.storage && nat_lt i (length c.elements)) refl d e in
    with_kept w n c d there (subst AllOf parts.1 (stored_of c i v parts.0 (λ j. h.by n j c there))) h

keep_kind : (w : World) (n : ℕ) (c : Contents) (i v : ℕ) → slice_get w.objects n ≡ Some c → IsKept w → (b : Bool) (st : State) → EndsKept (with_value (at_value (only_if b (Some c)) (λ c. at_value (stored c i v) (λ d. Some (with_array w n d)))) (set_world st))
keep_kind w n c i v there h false st = tt
keep_kind w n c i v there h true st = keep_stored w n c i v there h (stored c i v) refl st

keep_object : (w : World) (array : Array) (n i v : ℕ) → IsKept w → (o : Option Contents) → slice_get w.objects n ≡ o → (st : State) →
    EndsKept (with_value (at_value (at_value o (λ c. only_if (same_kind c.kind array.kind) (Some c))) (λ c. at_value (stored c i v) (λ d. Some (with_array w n d)))) (set_world st))
keep_object w array n i v h None there st = tt
keep_object w array n i v h (Some c) there st = keep_kind w n c i v there h (same_kind c.kind array.kind) st

keep_number : (w : World) (array : Array) (i v : ℕ) → IsKept w → (o : Option ℕ) (st : State) →
    EndsKept (with_value (at_value o (λ n. at_value (at_value o (λ m. at_value (slice_get w.objects m) (λ c. only_if (same_kind c.kind array.kind) (Some c)))) (λ c. at_value (stored c i v) (λ d. Some (with_array w n d))))) (set_world st))
keep_number w array i v h None st = tt
keep_number w array i v h (Some n) st = keep_object w array n i v h (slice_get w.objects n) refl st

keep_kept : (passed : List ℕ) (w : World) (array : Array) (i v : ℕ) (st : State) → IsKept w → EndsKept (with_value (keep passed w array i v) (set_world st))
keep_kept passed w array i v st h = keep_number w array i v h (object_number passed array.base) st

put_kept : (w : World) (v : ℕ) → IsKept w → IsKept (put w v)
put_kept w v h = record { by = h.by }

got_kept : (w : World) → IsKept w → IsKept (got w)
got_kept w h = record { by = h.by }

pub pass_kept : (o : Option ℕ) (st : State) → IsKept st.world → EndsKept (pass o st)
pass_kept None st h = tt
pass_kept (Some label) st h = h

pub then_kept : (o : Outcome) (next : State → Outcome) → EndsKept o → ((st : State) → IsKept st.world → EndsKept (next st)) → EndsKept (then_do o next)
then_kept (Goes st) next h k = k st h
then_kept (Leaves d st) next h k = h
then_kept (Returns v w t) next h k = h
then_kept Bad next h k = tt

block_kept : (o : Outcome) → EndsKept o → EndsKept (out_of_block o)
block_kept (Goes st) h = h
block_kept (Leaves zero st) h = h
block_kept (Leaves (suc d) st) h = h
block_kept (Returns v w t) h = h
block_kept Bad h = tt

met_kept : (owed : ℕ) (o : Outcome) → EndsKept o → EndsKept (if_met owed o)
met_kept zero o h = h
met_kept (suc n) o h = tt

again_ends : (owed : ℕ) (next : State → Outcome) (o : Outcome) → EndsKept o → ((st : State) → IsKept st.world → EndsKept (next st)) → EndsKept (again owed next o)
again_ends owed next (Goes st) h k = k st h
again_ends owed next (Leaves d st) h k = met_kept owed (Leaves d st) h
again_ends owed next (Returns v w t) h k = met_kept owed (Returns v w t) h
again_ends owed next Bad h k = tt

turns_kept : (left owed : ℕ) (body : State → Outcome) → ((st : State) → IsKept st.world → EndsKept (body st)) → (st : State) → IsKept st.world → EndsKept (turns left owed body st)
turns_kept zero owed body h st k = tt
turns_kept (suc left) owed body h st k = again_ends (owed - 1) (turns left (owed - 1) body) (body st) (h st k) (turns_kept left (owed - 1) body h)

choose_kept : (v : ℕ) (first other : Outcome) → EndsKept first → EndsKept other → EndsKept (choose v first other)
choose_kept zero first other h k = k
choose_kept (suc n) first other h k = h

after_kept : (vars : Variables) (into : Option ℕ) (o : Option Given) → GivesKept o → EndsKept (after_call vars into o)
after_kept vars into None h = tt
after_kept vars into (Some g) h = at_each (taken vars into g.value) (λ vs. Goes (record { variables = vs; world = g.world; trace = g.trace })) (λ vs is. h)

module _ (label : Labels) (call : Calls) (passed : List ℕ) (keeps : CallsKeep call) where
  mutual
    pub run_kept : (s : Statement) (st : State) → IsKept st.world → EndsKept (run label call passed s st)
    run_kept (Set x e) st h =
        at_each (value_of passed st.variables st.world e) (λ v. with_value (written st.variables x v) (set_variables st)) (λ v is. at_each (written st.variables x v) (set_variables st) (λ vs is'. h))
    run_kept (Put e) st h = at_each (value_of passed st.variables st.world e) (λ v. set_world st (put st.world v)) (λ v is. put_kept st.world v h)
    run_kept (Get x) st h =
        at_each (written st.variables x (next_byte st.world.input)) (λ vs. Goes (record { variables = vs; world = got st.world; trace = st.trace })) (λ vs is. got_kept st.world h)
    run_kept (Keep array i e) st h =
        at_each (value_of passed st.variables st.world i) (λ n. with_value (value_of passed st.variables st.world e) (λ v. with_value (keep passed st.world array n v) (set_world st)))
        (λ n is. at_each (value_of passed st.variables st.world e) (λ v. with_value (keep passed st.world array n v) (set_world st)) (λ v is'. keep_kept passed st.world array n v st h))
    run_kept (Mark m) st h = pass_kept (label m) st h
    run_kept (Seq parts) st h = run_all_kept parts st h
    run_kept (If test first other) st h =
        at_each (value_of passed st.variables st.world test) (λ v. choose v (run label call passed first st) (run label call passed other st))
        (λ v is. choose_kept v (run label call passed first st) (run label call passed other st) (run_kept first st h) (run_kept other st h))
    run_kept (Loop id least most body) st h = turns_kept most least (run label call passed body) (run_kept body) st h
    run_kept (Block body) st h = block_kept (run label call passed body st) (run_kept body st h)
    run_kept (Leave d) st h = h
    run_kept (Call f values arrays into) st h =
        at_each (values_of passed st.variables st.world values) (λ vs. with_value (objects_of passed arrays) (λ ns. after_call st.variables into (call f vs ns st.world st.trace)))
        (λ vs is. at_each (objects_of passed arrays) (λ ns. after_call st.variables into (call f vs ns st.world st.trace)) (λ ns is'. after_kept st.variables into (call f vs ns st.world st.trace) (keeps.by f vs ns st.world st.trace h)))
    run_kept (Return e) st h = at_each (value_of passed st.variables st.world e) (λ v. Returns v st.world st.trace) (λ v is. h)

    pub run_all_kept : (parts : Statements) (st : State) → IsKept st.world → EndsKept (run_all label call passed parts st)
    run_all_kept End st h = h
    run_all_kept (Then first rest) st h = then_kept (run label call passed first st) (run_all label call passed rest) (run_kept first st h) (run_all_kept rest)

-- calls
given_kept : (o : Outcome) → EndsKept o → GivesKept (given o)
given_kept (Goes st) h = tt
given_kept (Leaves d st) h = tt
given_kept (Returns v w t) h = h
given_kept Bad h = tt

good_kept : (b : Bool) (o : Outcome) → EndsKept o → EndsKept (only_good b o)
good_kept true o h = h
good_kept false o h = tt

enter_kept : (label : Labels) (o : Option Function) (call : Calls) → CallsKeep call → (f : ℕ) (values arrays : List ℕ) (w : World) (trace : List ℕ) → IsKept w → GivesKept (enter label o call f values arrays w trace)
enter_kept label None call keeps f values arrays w trace h = tt
enter_kept label (Some g) call keeps f values arrays w trace h =
    let opened = pass (label f) (record { variables = frame g values; world = w; trace = trace }) in
    let body = then_do opened (run label call arrays g.body) in
    given_kept (only_good (takes g values arrays) body)
    (good_kept (takes g values arrays) body (then_kept opened (run label call arrays g.body) (pass_kept (label f) (record { variables = frame g values; world = w; trace = trace }) h) (run_kept label call arrays keeps g.body)))

pub calls_keep : (label : Labels) (fs : List Function) (depth : ℕ) → CallsKeep (calls label fs depth)
calls_keep label fs zero = record { by = λ f values arrays w trace h. tt }
calls_keep label fs (suc depth) = record { by = λ f values arrays w trace h. enter_kept label (slice_get fs f) (calls label fs depth) (calls_keep label fs depth) f values arrays w trace h }
