-- Calls: the activation waits, and goes on with the value.
use Rattle.std.proofs.Common.{◌≡◌, ℕ, suc, ◌+◌, ◌<◌, ◌≤◌, ◌^◌, Bool, true, false, List, [], ◌∷◌, ◌++◌, length, Option, Some, None, refl, sym, ap, ◌∙◌, subst, arith, get_or-set_same, get_or-set_other, length-set}
use Rattle.std.specs.Prelude.{if◌then◌else◌, nat_lt, slice_get, slice_set}
use Rattle.std.proofs.lemmas.Bool.{ltb-true}
use Rattle.std.proofs.lemmas.List.{append-nil}
use Rattle.std.proofs.lemmas.Option.{same_Some}
use Rattle.high_ir.specs.declared.object.Base.{Base}
use Rattle.high_ir.specs.Meaning as high
use Rattle.high_ir.specs.Tree.{Expr}
use Rattle.high_ir.specs.Whole.{AreWordy}
use Rattle.low_ir.specs.declared.run.Began.{Began}
use Rattle.low_ir.specs.declared.run.Value.TheVariants.{Word}
use Rattle.low_ir.specs.declared.run.Value.{Value}
use Rattle.low_ir.specs.Code.{Operand, Return, Low, Note}
use Rattle.low_ir.specs.Code as code
use Rattle.low_ir.specs.Effects.{World}
use Rattle.low_ir.specs.Runs.{Frame, Run, Going, Waiting, Bank, virtual, values, waiting, begin, call, write_all, only_where, operand_value, write_to, goes_on, come_back, give_back, at_code, at_end, step}
use Rattle.low_ir.specs.Turns.{marks_passed}
use Rattle.lower_definition.specs.Operators.{Code, only}
use Rattle.lower_definition.specs.Values.{Scope, first_free, scaled_in_all, share_code, values_passed}
use Rattle.lower_definition.specs.Calls.{place_in}
use Rattle.lower_definition.specs.Statements.{call_code, into_there, shares_of}
use Rattle.lower_values.proofs.Writing.{write_inside}
use Rattle.lower_nesting.specs.Segments.{Quiet}
use Rattle.lower_nesting.proofs.Quiets.{quiet_wider}
use Rattle.lower_values.specs.Meeting.{MeetsFrame, MeetsWorld, passed_values}
use Rattle.lower_values.proofs.Elements.{from_value}
use Rattle.lower_values.proofs.Standing.{computed_then, stands_after}
use Rattle.lower_values.proofs.Values.{works}
use Rattle.lower_values.proofs.Shares.{begun, scaled_written_all}
use Rattle.lower_values.proofs.Passing.{values_free, values_pass}
use Rattle.lower_program.specs.Following.{Goer, Place, IsPlace, Activation, After, Answers, Meets, Onward, Enters, AreSmall, Serves}
use Rattle.lower_program.proofs.Steps.{after_map, and_then, step_to, steps_to, computed_runs}
use Rattle.lower_program.proofs.Steps as runs
use Rattle.lower_program.proofs.Plain.{Passes, frame_set}

-- values that a good run computes are words
values_small : (scope : Scope) (claims : List (List ℕ)) (u : World) (passed : List ℕ) (vars : high.Variables) (w : high.World) (s : Bank) → MeetsWorld scope w u → MeetsFrame scope claims passed vars s → (es : List Expr) (vs : List ℕ) → AreWordy es → high.values_of passed vars w es ≡ Some vs → AreSmall vs
values_small scope claims u passed vars w s meets frame [] vs wordy e = subst AreSmall (same_Some [] vs e) tt
values_small scope claims u passed vars w s meets frame (x ∷ xs) vs wordy e =
    let f = from_value (high.value_of passed vars w x) (λ v. high.at_value (high.values_of passed vars w xs) (λ rest. Some (v ∷ rest))) vs e in
    let g = from_value (high.values_of passed vars w xs) (λ rest. Some (f.value ∷ rest)) vs f.then_is in
    let k = works scope [] claims u passed vars w meets x wordy.0 f.value frame.words f.is in
    subst AreSmall (same_Some (f.value ∷ g.value) vs g.then_is) (k.small, values_small scope claims u passed vars w s meets frame xs g.value wordy.1 g.is)

-- the arrays that were passed are of the claims of the function
entered : (q : Low) (at : Place) (passed : List ℕ) (vars : high.Variables) (s : Bank) → MeetsFrame at.scope q.claims passed vars s → Enters q at passed
entered q at passed vars s frame j o e low = let p = frame.pointers j o e in p.claimed

-- a world that another function sees
world_of : (scope other : Scope) (w : high.World) (u : World) → other.objects ≡ scope.objects → MeetsWorld scope w u → MeetsWorld other w u
world_of scope other w u same h = record { objects = h.objects; count = h.count ∙ sym same; sound = h.sound; input = h.input; input_words = h.input_words; output = h.output }

module _ (q : Low) (at : Place) (is_place : IsPlace q at) (act : Activation) where
  -- what is behind a call
  abbrev pub call_state : high.Variables → high.Given → high.State
  call_state vars given = record { variables = vars; world = given.world; trace = given.trace }

  abbrev frame_of : Code → code.End ℕ → Bank → Frame ℕ Note Bank
  frame_of rest end s = record { func = at.number; code = rest; end = end; store = s }

  abbrev waits : Option ℕ → Code → code.End ℕ → Bank → Waiting ℕ Note Bank
  waits into rest end s = record { frame = frame_of rest end s; into = into }

  -- behind a call, in a state of which this is known
  record Back (st2 : high.State) (rest : Code) (last : code.End ℕ) (so_far : List Began) (x : Goer) : Type 0 where
    meets : Meets q at act st2 None x
    goes_on_at : x.top.code ≡ rest
    ends_as : x.top.end ≡ last
    began : x.world.trace ≡ so_far

  module _ (given : high.Given) (st : high.State) (rest : Code) (end : code.End ℕ) (s : Bank) (u : World) (frame : MeetsFrame at.scope q.claims act.passed st.variables s) (size : length s ≡ at.code.size) (room : first_free at.scope ≤ at.code.size) (small : given.value < 2 ^ 32) (world : MeetsWorld at.scope given.world u) (marks : marks_passed q u.trace ≡ given.trace) where
    -- a store that goes on
    goes_with : (o : Option ℕ) (vars2 : high.Variables) (s2 : Bank) → write_to virtual s o (Word given.value) ≡ Some s2 → length s2 ≡ at.code.size → MeetsFrame at.scope q.claims act.passed vars2 s2 → After q (come_back virtual u (waits o rest end s ∷ act.below) given.value) (Back (call_state vars2 given) rest end u.trace)
    goes_with o vars2 s2 e size2 frame2 =
        let x : Goer = record { top = frame_of rest end s2; below = act.below; world = u } in
        record {
          steps = 0;
          state = x;
          is = ap (goes_on (record { top = frame_of rest end s; below = act.below; world = u }) rest u) e;
          holds = record {
            meets = record { function = refl; below = refl; size = size2; world = world; frame = frame2; marks = marks ∙ sym (append-nil given.trace) };
            goes_on_at = refl;
            ends_as = refl;
            began = refl;
          };
        }

    -- the value comes back
    comes_back : (into : Option ℕ) (vars2 : high.Variables) → high.taken st.variables into given.value ≡ Some vars2 → After q (come_back virtual u (waits (into_there at.scope into) rest end s ∷ act.below) given.value) (Back (call_state vars2 given) rest end u.trace)
    comes_back None vars2 taken = goes_with None vars2 s refl size (subst (λ vs. MeetsFrame at.scope q.claims act.passed vs s) (same_Some st.variables vars2 taken) frame)
    comes_back (Some v) vars2 taken = by_test (nat_lt v (length st.variables)) refl taken
      where
        by_test : (b : Bool) → nat_lt v (length st.variables) ≡ b → high.only_if b (Some (slice_set st.variables v (Some given.value))) ≡ Some vars2 → After q (come_back virtual u (waits (into_there at.scope (Some v)) rest end s ∷ act.below) given.value) (Back (call_state vars2 given) rest end u.trace)
        by_test false t e = cc
        by_test true t e =
            let inside = ltb-true v (length st.variables) t in
            let count = frame.count in
            let known : nat_lt v at.scope.variables ≡ true = ap (λ m. nat_lt v m) (sym count) ∙ t in
            let is : into_there at.scope (Some v) ≡ Some v = ap (λ b. if b then Some v else None) known in
            let low : v < length s = omega (arith, inside, count, size, room) in
            let s2 = slice_set s v (Some (Word given.value)) in
            subst (λ o. After q (come_back virtual u (waits o rest end s ∷ act.below) given.value) (Back (call_state vars2 given) rest end u.trace)) (sym is)
            (goes_with (Some v) vars2 s2 (write_inside s v (Word given.value) low) (length-set s v (Some (Word given.value)) ∙ size)
            (subst (λ vs. MeetsFrame at.scope q.claims act.passed vs s2) (same_Some (slice_set st.variables v (Some given.value)) vars2 e)
            (frame_set at.scope q.claims act.passed st.variables s s2 v given.value frame inside small (get_or-set_same s v (Some (Word given.value)) None low) (λ i below other. get_or-set_other s v i (Some (Word given.value)) None other))))

  -- the step of a call
  call_step : (r : Goer) (rest : Code) (s : Bank) (st : high.State) (target : Option ℕ) (f : ℕ) (arguments : List (Operand ℕ)) (xs : List Value) (callee : Place) → IsPlace q callee → place_in at.scope.order f ≡ callee.number → nat_lt callee.number at.number ≡ true → Meets q at act st None r → values virtual s arguments ≡ Some xs → step virtual q (Going (runs.behind r (code.Call target (place_in at.scope.order f) arguments tt ∷ rest) s)) ≡ begin (waits target rest r.top.end s ∷ act.below) r.world callee.number callee.code (write_all virtual (Some (virtual.empty callee.code.size)) callee.code.parameters xs)
  call_step r rest s st target f arguments xs callee is_callee number lower h values_are =
      let z = runs.behind r (code.Call target (place_in at.scope.order f) arguments tt ∷ rest) s in
      let store = write_all virtual (Some (virtual.empty callee.code.size)) callee.code.parameters xs in
      let starts : List (Waiting ℕ Note Bank) → Run ℕ Note Bank = λ ws. begin ws r.world callee.number callee.code store in
      let test : nat_lt callee.number r.top.func ≡ true = ap (nat_lt callee.number) h.function ∙ lower in
      ap (λ n. call virtual z rest target n tt (slice_get q.functions n) (values virtual s arguments)) number
      ∙ ap (λ o. call virtual z rest target callee.number tt o (values virtual s arguments)) is_callee.function
      ∙ ap (call virtual z rest target callee.number tt (Some callee.code)) values_are
      ∙ ap (λ b. only_where b (starts (waiting virtual z.top rest target tt ∷ z.below))) test
      ∙ ap (λ (n : ℕ). starts (record { frame = record { func = n; code = rest; end = r.top.end; store = s }; into = target } ∷ r.below)) h.function
      ∙ ap (λ ws. starts (waits target rest r.top.end s ∷ ws)) h.below

  -- the step of a return
  return_step : (y : Goer) (x : Operand ℕ) (v : ℕ) → y.top.code ≡ [] → y.top.end ≡ Return x → operand_value virtual y.top.store x ≡ Some (Word v) → step virtual q (Going y) ≡ come_back virtual y.world y.below v
  return_step y x v c e value = ap (at_code virtual q y) c ∙ ap (at_end virtual q y) e ∙ ap (give_back virtual y) value

  -- a call of a function that serves
  pub call_passes : (sem : high.Calls) (f : ℕ) (es : List Expr) (bs : List Base) (into : Option ℕ) (t : ℕ) (vs ns : List ℕ) (given : high.Given) (vars2 : high.Variables) (st : high.State) → Serves q at sem f bs → AreWordy es → first_free at.scope ≤ t → high.values_of act.passed st.variables st.world es ≡ Some vs → high.objects_of act.passed bs ≡ Some ns → sem f vs ns st.world st.trace ≡ Some given → high.taken st.variables into given.value ≡ Some vars2 → (call_code at.scope f es bs into t).free ≤ at.code.size → Passes q at is_place act (call_code at.scope f es bs into t).code st (call_state vars2 given)
  call_passes sem f es bs into t vs ns given vars2 st serves wordy free is_vs is_ns is_given taken room rest r h has =
      let scope = at.scope in
      let shares = shares_of scope (scaled_in_all scope es) t in
      let n = t + length shares in
      let p = values_passed scope shares es bs n in
      let size = h.size in
      let up = values_free scope shares es bs n in
      let words = h.frame.words in
      let b = begun scope q.claims r.world act.passed st.variables (scaled_in_all scope es) r.top.store t h.frame free (scaled_written_all scope act.passed st.variables st.world es vs is_vs) (omega (arith, size, room, up)) in
      let size1 = b.size in
      let k = values_pass scope shares q.claims r.world act.passed st.variables st.world h.world words es bs vs ns b.store n wordy is_vs is_ns b.stands (omega (arith, size, size1, room)) in
      let s2 = k.store in
      let size2 = k.size in
      let stands = stands_after scope q.claims act.passed st.variables shares b.store s2 n n b.stands k.others (omega arith) in
      let callee = serves.callee in
      let target = into_there scope into in
      let own : Code = only (code.Call target (place_in scope.order f) p.arguments tt) in
      let z = runs.behind r (own ++ rest) s2 in
      let below = waits target rest r.top.end s2 ∷ act.below in
      let small = values_small scope q.claims r.world act.passed st.variables st.world r.top.store h.world h.frame es vs wordy is_vs in
      let enters = serves.claimed act.passed ns h.frame.arrays (entered q at act.passed st.variables r.top.store h.frame) is_ns in
      let marks = h.marks ∙ append-nil st.trace in
      let went = serves.does vs ns st.world st.trace given is_given small enters below r.world (world_of scope callee.scope st.world r.world serves.objects h.world) marks in
      steps_to q (length (share_code shares ++ p.code)) (Going r) (Going z) (Onward q at act (call_state vars2 given) rest r)
      (computed_runs q (share_code shares ++ p.code) (own ++ rest) r s2 (has ∙ runs.three (share_code shares) p.code own rest) (computed_then q.claims r.world (share_code shares) p.code r.top.store b.store s2 b.does k.does))
      (step_to q (Going z) (begin below r.world callee.number callee.code (write_all virtual (Some (virtual.empty callee.code.size)) callee.code.parameters (passed_values callee.scope.objects vs ns))) (Onward q at act (call_state vars2 given) rest r)
      (call_step r rest s2 st target f p.arguments (passed_values callee.scope.objects vs ns) callee serves.is_place serves.number serves.lower h (k.values_are ∙ ap (λ o. Some (passed_values o vs ns)) (sym serves.objects)))
      (and_then q (begin below r.world callee.number callee.code (write_all virtual (Some (virtual.empty callee.code.size)) callee.code.parameters (passed_values callee.scope.objects vs ns))) (Answers q callee (record { passed = ns; below = below }) given r.world.trace) (Onward q at act (call_state vars2 given) rest r) went
      (λ y answer.
      let ret = answer.returning in
      let lower = ltb-true callee.number at.number serves.lower in
      let world = world_of callee.scope scope given.world y.world (sym serves.objects) ret.world in
      step_to q (Going y) (come_back virtual y.world below given.value) (Onward q at act (call_state vars2 given) rest r)
      (return_step y ret.operand given.value ret.code ret.end ret.value ∙ ap (λ ws. come_back virtual y.world ws given.value) ret.below)
      (after_map q (come_back virtual y.world below given.value) (Back (call_state vars2 given) rest r.top.end y.world.trace) (Onward q at act (call_state vars2 given) rest r)
      (comes_back given st rest r.top.end s2 y.world stands.frame (size2 ∙ size1 ∙ size) (omega (arith, free, up, room)) ret.small world ret.marks into vars2 taken)
      (λ x back. record { meets = back.meets; code = back.goes_on_at; end = back.ends_as; quiet = subst (Quiet q at.number r.world.trace) (sym back.began) (quiet_wider q (suc callee.number) at.number r.world.trace y.world.trace (omega (arith, lower)) answer.quiet) })))))
