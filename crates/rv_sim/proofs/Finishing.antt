-- A run within a limit answers an exit exactly where the machine's steps come to one.
use Rattle.std.proofs.Common.{◌≡◌, ℕ, zero, suc, ◌+◌, ◌-◌, ◌<◌, ◌≤◌, arith, ℤ, refl, sym, ap, ◌∙◌, subst, length, Bool, true, false, ⊎_elim, inl, inr}
use Rattle.std.specs.Prelude.{nat_le, ◌⊎◌}
use Rattle.std.proofs.lemmas.Bool.Decides.{nat_tests, leb_tells}
use Rattle.rv_core.specs.Table.{Table}
use Rattle.rv_core.specs.Machine.{State, Running, Exited, Trapped, start_of, step, steps}
use Rattle.rv_core.specs.Machine.{Ending as HowEnded}
use Rattle.rv_core.proofs.Running.{step-ended, steps-add, mrun-state}
use Rattle.rv_sim.specs.declared.ending.Ending.{Ending}
use Rattle.rv_sim.specs.declared.ending.Ending.TheVariants.{Exit, OutputFull}
use Rattle.rv_sim.specs.Simulation.{Simulation, Answer, Goes, Exits as Leaves, Stays, fits, answer_by, answer_from, answer_of, with_state, Reaches, Ends, RunsWithin, IsAt, HasExited}
use Rattle.rv_core.proofs.Finishing.{steps-exited, mrun-exited, one-finish}
use Rattle.rv_core.specs.Runs.{Setup, mrun}
use Rattle.rv_core.specs.Exits.{Finish, finish, Exits as RunExits, limits, ExitsWithin}
use Rattle.rv_sim.proofs.Growing.{steps-grow}
use Rattle.rv_sim.proofs.Reaching.{goes-step}

either : (a b : ℕ) → (a < b) ⊎ (b ≤ a)
either a b = ⊎_elim (λ h. inl h.1) (λ h. let k = h.1 in inr (omega arith)) (leb_tells (suc a) b)

full : (a b : ℕ) → nat_le a b ≡ false → b < a
full a b h = grind (arith, nat_tests)

-- the machine has exited with this value, within a limit of cycles and with room for its output
record FinishesWithin (s : State) (value : ℤ) (limit room : ℕ) : Type 0 where
  exits : s.ending ≡ Exited value
  cycles : s.cycles ≤ limit
  output : length s.world.output ≤ room

-- so many steps lead from one machine to the other, which has exited with this value
record ExitsAt (old new : Simulation) (value : ℤ) : Type 0 where
  count : ℕ
  state : new.state ≡ steps old.costs count old.state
  exits : new.state.ending ≡ Exited value

steps-trapped : (t : Table) (n : ℕ) (s : State) (k : ℕ) → s.ending ≡ Trapped k → steps t n s ≡ s
steps-trapped t zero s k e = refl
steps-trapped t (suc n) s k e = ap (steps t n) (step-ended t s (Trapped k) e refl) ∙ steps-trapped t n s k e

-- ordinary steps are steps of the machine
record Came (old last : Simulation) (j : ℕ) : Type 0 where
  state : last.state ≡ steps old.costs j old.state
  costs : last.costs ≡ old.costs
  room : last.room ≡ old.room

came : (limit j : ℕ) (old last : Simulation) → Reaches limit j old last → Came old last j
came limit zero old last r = record { state = ap (λ (m : Simulation). m.state) r; costs = ap (λ (m : Simulation). m.costs) r; room = ap (λ (m : Simulation). m.room) r }
came limit (suc j) old last r =
    let c = came limit j (with_state old r.0) last r.3 in
    record { state = c.state ∙ ap (steps old.costs j) (goes-step old r.0 r.1); costs = c.costs; room = c.room }

-- the state behind d steps from the next state
finish-running : (e : HowEnded) (b : Bool) (limit d : ℕ) (v : ℤ) (t : Table) (next : State) (last new : Simulation) (result : Ending) → next.ending ≡ e → nat_le (length next.world.output) last.room ≡ b
    → Ends limit (answer_by e next last.room last.state) last new result → FinishesWithin (steps t d next) v limit last.room → result ≡ Exit v
finish-running Running true limit d v t next last new result is room ends f =
    let goes : Ends limit (Goes next) last new result = subst (λ x. Ends limit (fits x next) last new result) room ends in
    let g = (steps-grow t d next).cycles in
    let c = f.cycles in
    let l = goes.0 in
    absurd (omega arith)
finish-running Running false limit d v t next last new result is room ends f =
    let g = (steps-grow t d next).output in
    let o = f.output in
    let l = full (length next.world.output) last.room room in
    absurd (omega arith)
finish-running (Exited w) b limit d v t next last new result is room ends f =
    let same = steps-exited t d next w is in
    let value : Exited w ≡ Exited v = sym is ∙ sym (ap (λ (s : State). s.ending) same) ∙ f.exits in
    let within : next.cycles ≤ limit = subst (λ (s : State). s.cycles ≤ limit) same f.cycles in
    let answer = (ends.0 within).0 in
    cc
finish-running (Trapped k) b limit d v t next last new result is room ends f =
    let same = steps-trapped t d next k is in
    let other : Trapped k ≡ Exited v = sym is ∙ sym (ap (λ (s : State). s.ending) same) ∙ f.exits in
    absurd cc

finish-by : (e : HowEnded) (limit d : ℕ) (v : ℤ) (last new : Simulation) (result : Ending) → last.state.ending ≡ e → Ends limit (answer_from e last) last new result → FinishesWithin (steps last.costs (suc d) last.state) v limit last.room → result ≡ Exit v
finish-by Running limit d v last new result is ends f =
    let next = step last.costs last.state in
    finish-running next.ending (nat_le (length next.world.output) last.room) limit d v last.costs next last new result refl refl ends f
finish-by (Exited w) limit d v last new result is ends f =
    let same = steps-exited last.costs (suc d) last.state w is in
    let value : Exited w ≡ Exited v = sym is ∙ sym (ap (λ (s : State). s.ending) same) ∙ f.exits in
    let answer = ends.0 in
    cc
finish-by (Trapped k) limit d v last new result is ends f =
    let same = steps-trapped last.costs (suc d) last.state k is in
    let other : Trapped k ≡ Exited v = sym is ∙ sym (ap (λ (s : State). s.ending) same) ∙ f.exits in
    absurd cc

-- a machine that has exited answers its exit
ended-by : (limit : ℕ) (v : ℤ) (last new : Simulation) (result : Ending) → last.state.ending ≡ Exited v → Ends limit (answer_of last) last new result → result ≡ Exit v
ended-by limit v last new result is ends =
    let stays : Ends limit (Stays (Exit v)) last new result = subst (λ e. Ends limit (answer_from e last) last new result) is ends in
    stays.0

-- the states in which the steps come to an exit
finish-from : (limit j k : ℕ) (v : ℤ) (old last new : Simulation) (result : Ending) → Came old last j → Ends limit (answer_of last) last new result → FinishesWithin (steps old.costs k old.state) v limit old.room → ((j < k) ⊎ (k ≤ j)) → result ≡ Exit v
finish-from limit j k v old last new result c ends f cases =
    ⊎_elim
    (λ later.
    let d = k - suc j in
    let e : k ≡ j + suc d = omega arith in
    let there : steps old.costs k old.state ≡ steps last.costs (suc d) last.state =
    ap (λ n. steps old.costs n old.state) e ∙ steps-add old.costs j (suc d) old.state
    ∙ ap (steps old.costs (suc d)) (sym c.state) ∙ ap (λ t. steps t (suc d) last.state) (sym c.costs) in
    finish-by last.state.ending limit d v last new result refl ends
    (subst (λ r. FinishesWithin (steps last.costs (suc d) last.state) v limit r) (sym c.room) (subst (λ s. FinishesWithin s v limit old.room) there f)))
    (λ before.
    let d = j - k in
    let e : j ≡ k + d = omega arith in
    let there : last.state ≡ steps old.costs k old.state =
    c.state ∙ ap (λ n. steps old.costs n old.state) e ∙ steps-add old.costs k d old.state
    ∙ steps-exited old.costs d (steps old.costs k old.state) v f.exits in
    ended-by limit v last new result (ap (λ (s : State). s.ending) there ∙ f.exits) ends)
    cases

-- where the steps come to an exit within the limit and the room, it is answered
runs-finish : (limit : ℕ) (old new : Simulation) (result : Ending) → RunsWithin limit old new result → (k : ℕ) (v : ℤ) → FinishesWithin (steps old.costs k old.state) v limit old.room → result ≡ Exit v
runs-finish limit old new result r k v f = finish-from limit r.steps k v old r.last new result (came limit r.steps old r.last r.reaches) r.ends f (either r.steps k)

-- an exit that was answered
exit-next : (limit j : ℕ) (v : ℤ) (old last new : Simulation) (next : State) → Came old last j → next ≡ step last.costs last.state → next.ending ≡ Exited v → new ≡ with_state last next → ExitsAt old new v
exit-next limit j v old last new next c is exits new_is = record {
  count = j + 1;
  state =
      ap (λ (m : Simulation). m.state) new_is ∙ is ∙ ap (λ t. step t last.state) c.costs ∙ ap (step old.costs) c.state
      ∙ sym (steps-add old.costs j 1 old.state);
  exits = ap (λ (m : Simulation). m.state.ending) new_is ∙ exits;
}

exit-running : (e : HowEnded) (b : Bool) (limit j : ℕ) (v : ℤ) (old last new : Simulation) (next : State) (result : Ending) → Came old last j → next ≡ step last.costs last.state → next.ending ≡ e
    → Ends limit (answer_by e next last.room last.state) last new result → nat_le (length next.world.output) last.room ≡ b → result ≡ Exit v → ExitsAt old new v
exit-running Running true limit j v old last new next result c is ending ends room r =
    let goes : Ends limit (Goes next) last new result = subst (λ x. Ends limit (fits x next) last new result) room ends in
    let answer = goes.1 in absurd cc
exit-running Running false limit j v old last new next result c is ending ends room r =
    let stays : Ends limit (Stays OutputFull) last new result = subst (λ x. Ends limit (fits x next) last new result) room ends in
    let answer = stays.0 in absurd cc
exit-running (Exited w) b limit j v old last new next result c is ending ends room r =
    ⊎_elim
    (λ passes. let answer = (ends.1 passes).0 in absurd cc)
    (λ within.
    let answer = (ends.0 within).0 in
    let same : Exited w ≡ Exited v = cc in
    exit-next limit j v old last new next c is (ending ∙ same) (ends.0 within).1)
    (either limit next.cycles)
exit-running (Trapped k) b limit j v old last new next result c is ending ends room r = let answer = ends.0 in absurd cc

exit-by : (e : HowEnded) (limit j : ℕ) (v : ℤ) (old last new : Simulation) (result : Ending) → Came old last j → last.state.ending ≡ e → Ends limit (answer_from e last) last new result → result ≡ Exit v → ExitsAt old new v
exit-by Running limit j v old last new result c is ends r =
    let next = step last.costs last.state in
    exit-running next.ending (nat_le (length next.world.output) last.room) limit j v old last new next result c refl refl ends refl r
exit-by (Exited w) limit j v old last new result c is ends r =
    let answer = ends.0 in
    let same : Exited w ≡ Exited v = cc in
    record {
      count = j;
      state = ap (λ (m : Simulation). m.state) ends.1 ∙ c.state;
      exits = ap (λ (m : Simulation). m.state.ending) ends.1 ∙ is ∙ same;
    }
exit-by (Trapped k) limit j v old last new result c is ends r = let answer = ends.0 in absurd cc

-- an exit that is answered is one of the machine's steps
runs-exit : (limit : ℕ) (old new : Simulation) (result : Ending) → RunsWithin limit old new result → (v : ℤ) → result ≡ Exit v → ExitsAt old new v
runs-exit limit old new result r v e = exit-by r.last.state.ending limit r.steps v old r.last new result (came limit r.steps old r.last r.reaches) refl r.ends e

-- so many steps behind a state of a run
at-later : (m : Simulation) (s : Setup) (n k : ℕ) → IsAt m s n → steps m.costs k m.state ≡ (mrun s (n + k)).state
at-later m s n k a =
    ap (λ t. steps t k m.state) a.costs_are ∙ ap (steps s.costs k) (a.state_is ∙ mrun-state s n)
    ∙ sym (steps-add s.costs n k (start_of s.image s.input)) ∙ sym (mrun-state s (n + k))

-- an exit that is answered is the run's
run-exits : (limit : ℕ) (old new : Simulation) (result : Ending) (s : Setup) (n : ℕ) (v : ℤ) → RunsWithin limit old new result → IsAt old s n → result ≡ Exit v → RunExits s (finish new.state.world.output v new.state.cycles)
run-exits limit old new result s n v r a e =
    let x = runs-exit limit old new result r v e in
    let there : new.state ≡ (mrun s (n + x.count)).state = x.state ∙ at-later old s n x.count a in
    record {
      count = n + x.count;
      finishes = record {
        ends = sym (ap (λ (y : State). y.ending) there) ∙ x.exits;
        prints = sym (ap (λ (y : State). y.world.output) there);
        takes = sym (ap (λ (y : State). y.cycles) there);
      };
    }

-- ordinary steps don't pass the limit
reaches-within : (limit j : ℕ) (old last : Simulation) → Reaches limit j old last → old.state.cycles ≤ limit → last.state.cycles ≤ limit
reaches-within limit zero old last r le = subst (λ (m : Simulation). m.state.cycles ≤ limit) (sym r) le
reaches-within limit (suc j) old last r le = reaches-within limit j (with_state old r.0) last r.3 r.2

-- nor does an exit
ends-within : (limit : ℕ) (a : Answer) (v : ℤ) (last new : Simulation) (result : Ending) → Ends limit a last new result → result ≡ Exit v → last.state.cycles ≤ limit → new.state.cycles ≤ limit
ends-within limit (Goes next) v last new result ends e le = subst (λ (m : Simulation). m.state.cycles ≤ limit) (sym ends.2) le
ends-within limit (Leaves next w) v last new result ends e le =
    ⊎_elim
    (λ passes. subst (λ (m : Simulation). m.state.cycles ≤ limit) (sym (ends.1 passes).1) le)
    (λ within. subst (λ (m : Simulation). m.state.cycles ≤ limit) (sym (ends.0 within).1) within)
    (either limit next.cycles)
ends-within limit (Stays f) v last new result ends e le = subst (λ (m : Simulation). m.state.cycles ≤ limit) (sym ends.1) le

-- a run keeps its room
ends-room : (limit : ℕ) (a : Answer) (last new : Simulation) (result : Ending) → Ends limit a last new result → new.room ≡ last.room
ends-room limit (Goes next) last new result ends = ap (λ (m : Simulation). m.room) ends.2
ends-room limit (Leaves next v) last new result ends =
    ⊎_elim
    (λ passes. ap (λ (m : Simulation). m.room) (ends.1 passes).1)
    (λ within. ap (λ (m : Simulation). m.room) (ends.0 within).1)
    (either limit next.cycles)
ends-room limit (Stays f) last new result ends = ap (λ (m : Simulation). m.room) ends.1

runs-room : (limit : ℕ) (old new : Simulation) (result : Ending) → RunsWithin limit old new result → new.room ≡ old.room
runs-room limit old new result r = ends-room limit (answer_of r.last) r.last new result r.ends ∙ (came limit r.steps old r.last r.reaches).room

finish-of : (m : Simulation) (result : Ending) (f : Finish) → HasExited m result f → finish m.state.world.output f.value m.state.cycles ≡ f
finish-of m result f h = ap (λ x. finish x f.value m.state.cycles) h.output ∙ ap (finish f.output f.value) h.cycles

-- a run that answers an exit exits within the limits
pub exits-within : (limit : ℕ) (old new : Simulation) (result : Ending) → RunsWithin limit old new result → length new.state.world.output ≤ new.room → (s : Setup) (n : ℕ) → IsAt old s n → old.state.cycles ≤ limit → (f : Finish) → HasExited new result f → ExitsWithin s (limits limit old.room) f
exits-within limit old new result r room s n a le f h = record {
  exits = subst (RunExits s) (finish-of new result f h) (run-exits limit old new result s n f.value r a h.exits);
  in_cycles = subst (λ c. c ≤ limit) h.cycles (ends-within limit (answer_of r.last) f.value r.last new result r.ends h.exits (reaches-within limit r.steps old r.last r.reaches le));
  in_output = subst (λ o. length o ≤ old.room) h.output (subst (λ k. length new.state.world.output ≤ k) (runs-room limit old new result r) room);
}

-- where the run exits, the machine answers its exit
exit-answered : (limit : ℕ) (old new : Simulation) (result : Ending) (s : Setup) (n : ℕ) (f : Finish) → RunsWithin limit old new result → IsAt old s n → (e : ExitsWithin s (limits limit old.room) f) → ((n < e.exits.count) ⊎ (e.exits.count ≤ n)) → result ≡ Exit f.value
exit-answered limit old new result s n f r a e (inl later) =
    let x = e.exits.finishes in
    let k = e.exits.count - n in
    let sum : n + k ≡ e.exits.count = omega arith in
    let there : steps old.costs k old.state ≡ (mrun s e.exits.count).state = at-later old s n k a ∙ ap (λ j. (mrun s j).state) sum in
    runs-finish limit old new result r k f.value (subst (λ y. FinishesWithin y f.value limit old.room) (sym there)
    (record { exits = x.ends; cycles = subst (λ c. c ≤ limit) (sym x.takes) e.in_cycles; output = subst (λ o. length o ≤ old.room) (sym x.prints) e.in_output }))
exit-answered limit old new result s n f r a e (inr before) =
    let x = e.exits.finishes in
    let there : old.state ≡ (mrun s e.exits.count).state = a.state_is ∙ mrun-exited s e.exits.count n f.value x.ends before in
    runs-finish limit old new result r 0 f.value (subst (λ y. FinishesWithin y f.value limit old.room) (sym there)
    (record { exits = x.ends; cycles = subst (λ c. c ≤ limit) (sym x.takes) e.in_cycles; output = subst (λ o. length o ≤ old.room) (sym x.prints) e.in_output }))

pub within-exits : (limit : ℕ) (old new : Simulation) (result : Ending) → RunsWithin limit old new result → (s : Setup) (n : ℕ) → IsAt old s n → (f : Finish) → ExitsWithin s (limits limit old.room) f → HasExited new result f
within-exits limit old new result r s n a f e =
    let answer = exit-answered limit old new result s n f r a e (either n e.exits.count) in
    let same = one-finish s (finish new.state.world.output f.value new.state.cycles) f (run-exits limit old new result s n f.value r a answer) e.exits in
    record { exits = answer; output = ap (λ (g : Finish). g.output) same; cycles = ap (λ (g : Finish). g.cycles) same }
