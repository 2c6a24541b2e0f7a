-- Steps one after another, and the run that they follow.
use Rattle.std.proofs.Common.{◌≡◌, ℕ, zero, suc, ◌+◌, ◌<◌, ◌≤◌, arith, ℤ, Option, Some, None, refl, sym, ap, ◌∙◌, subst, length, Bool, true, false, ⊎_elim, inl, inr}
use Rattle.std.specs.Prelude.{nat_lt, nat_le, ◌⊎◌}
use Rattle.std.proofs.lemmas.Bool.Decides.{nat_tests, leb_tells}
use Rattle.rv_core.specs.Table.{Table}
use Rattle.rv_core.specs.Machine.{State, Running, Exited, Trapped, step}
use Rattle.rv_core.specs.Machine.{Ending as HowEnded}
use Rattle.rv_core.specs.Runs.{Setup}
use Rattle.rv_core.proofs.Running.{mrun-next}
use Rattle.rv_sim.specs.declared.ending.Ending.{Ending}
use Rattle.rv_sim.specs.declared.ending.Ending.TheVariants.{Exit}
use Rattle.rv_sim.specs.Simulation.{Simulation, Answer, Goes, Exits, Stays, fits, answer_by, answer_from, answer_of, with_state, Stepped, Reaches, Ends, RunsWithin, IsAt, Follows}
use Rattle.rv_sim.specs.Limits.{Moved, Limited}

-- an ordinary step within the limit
pub record GoesWithin (limit : ℕ) (a : Answer) (old new : Simulation) : Type 0 where
  pub next : State
  pub goes : a ≡ Goes next
  pub within : next.cycles ≤ limit
  pub new_is : new ≡ with_state old next

above : (a b : ℕ) → nat_lt a b ≡ true → a < b
above a b h = grind (arith, nat_tests)

within : (a b : ℕ) → nat_lt a b ≡ false → b ≤ a
within a b h = grind (arith, nat_tests)

moved-goes : (b : Bool) (limit : ℕ) (old new : Simulation) (next : State) → nat_lt limit next.cycles ≡ b → Moved b old new next None None → GoesWithin limit (Goes next) old new
moved-goes true limit old new next is m = let h = m.0 in cc
moved-goes false limit old new next is m = record { next = next; goes = refl; within = within limit next.cycles is; new_is = m.1 }

moved-exits : {T : Type 0} (b : Bool) (old new : Simulation) (next : State) (e : Ending) → Moved b old new next (Some e) None → T
moved-exits true old new next e m = let h = m.0 in absurd cc
moved-exits false old new next e m = let h = m.0 in absurd cc

-- without a result the step was an ordinary one
pub limited-goes : (limit : ℕ) (a : Answer) (old new : Simulation) → Limited (Some limit) a old new None → GoesWithin limit a old new
limited-goes limit (Goes next) old new m = moved-goes (nat_lt limit next.cycles) limit old new next refl m
limited-goes limit (Exits next v) old new m = moved-exits (nat_lt limit next.cycles) old new next (Exit v) m
limited-goes limit (Stays e) old new m = let h = m.0 in absurd cc

goes-ends : (b : Bool) (limit : ℕ) (old new : Simulation) (next : State) (e : Ending) → nat_lt limit next.cycles ≡ b → Moved b old new next None (Some e) → Ends limit (Goes next) old new e
goes-ends true limit old new next e is m = let h = m.0 in (above limit next.cycles is, cc, m.1)
goes-ends false limit old new next e is m = let h = m.0 in absurd cc

exits-ends : (b : Bool) (limit : ℕ) (old new : Simulation) (next : State) (v : ℤ) (e : Ending) → nat_lt limit next.cycles ≡ b → Moved b old new next (Some (Exit v)) (Some e) → Ends limit (Exits next v) old new e
exits-ends true limit old new next v e is m =
    let h = m.0 in let k = above limit next.cycles is in (λ le. absurd (omega arith), λ lt. (cc, m.1))
exits-ends false limit old new next v e is m =
    let h = m.0 in let k = within limit next.cycles is in (λ le. (cc, m.1), λ lt. absurd (omega arith))

-- with a result the run ends
pub limited-ends : (limit : ℕ) (a : Answer) (old new : Simulation) (e : Ending) → Limited (Some limit) a old new (Some e) → Ends limit a old new e
limited-ends limit (Goes next) old new e m = goes-ends (nat_lt limit next.cycles) limit old new next e refl m
limited-ends limit (Exits next v) old new e m = exits-ends (nat_lt limit next.cycles) limit old new next v e refl m
limited-ends limit (Stays f) old new e m = let h = m.0 in (cc, m.1)

-- a run that ends at once
pub runs-once : (limit : ℕ) (old new : Simulation) (e : Ending) → Limited (Some limit) (answer_of old) old new (Some e) → RunsWithin limit old new e
runs-once limit old new e m = record { steps = 0; last = old; reaches = refl; ends = limited-ends limit (answer_of old) old new e m }

-- a run with an ordinary step before it
pub runs-more : (limit : ℕ) (old mid new : Simulation) (e : Ending) → GoesWithin limit (answer_of old) old mid → RunsWithin limit mid new e → RunsWithin limit old new e
runs-more limit old mid new e g r = record {
  steps = suc r.steps;
  last = r.last;
  reaches = (g.next, g.goes, g.within, subst (λ m. Reaches limit r.steps m r.last) g.new_is r.reaches);
  ends = r.ends;
}

-- a next state is the machine's
record IsNext (s : State) (t : Table) (a : Answer) : Type 0 where
  goes : (next : State) → a ≡ Goes next → next ≡ step t s
  exits : (next : State) (v : ℤ) → a ≡ Exits next v → next ≡ step t s

fits-next : (b : Bool) (s : State) (t : Table) → IsNext s t (fits b (step t s))
fits-next true s t = record { goes = λ next e. cc; exits = λ next v e. cc }
fits-next false s t = record { goes = λ next e. cc; exits = λ next v e. cc }

answer_by-next : (e : HowEnded) (s : State) (t : Table) (room : ℕ) → IsNext s t (answer_by e (step t s) room s)
answer_by-next Running s t room = fits-next (nat_le (length (step t s).world.output) room) s t
answer_by-next (Exited v) s t room = record { goes = λ next e. cc; exits = λ next w e. cc }
answer_by-next (Trapped k) s t room = record { goes = λ next e. cc; exits = λ next w e. cc }

answer_from-next : (e : HowEnded) (m : Simulation) → IsNext m.state m.costs (answer_from e m)
answer_from-next Running m = answer_by-next (step m.costs m.state).ending m.state m.costs m.room
answer_from-next (Exited v) m = record { goes = λ next e. cc; exits = λ next w e. cc }
answer_from-next (Trapped k) m = record { goes = λ next e. cc; exits = λ next w e. cc }

-- an ordinary step goes to the machine's next state
pub goes-step : (m : Simulation) (next : State) → answer_of m ≡ Goes next → next ≡ step m.costs m.state
goes-step m next e = (answer_from-next m.state.ending m).goes next e

at-next : (m new : Simulation) (next : State) (s : Setup) (n : ℕ) → next ≡ step m.costs m.state → new ≡ with_state m next → IsAt m s n → IsAt new s (suc n)
at-next m new next s n is new_is a =
    subst (λ x. IsAt x s (suc n)) (sym new_is)
    (record { state_is = is ∙ ap (λ t. step t m.state) a.costs_are ∙ ap (step s.costs) a.state_is ∙ sym (mrun-next s n); costs_are = a.costs_are })

follows-by : (a : Answer) (old new : Simulation) (r : Option Ending) (z : Setup) (n : ℕ) → answer_of old ≡ a → Stepped a old new r → IsAt old z n → Follows a new z n
follows-by (Goes next) old new r z n is s a = at-next old new next z n ((answer_from-next old.state.ending old).goes next is) s.1 a
follows-by (Exits next v) old new r z n is s a = at-next old new next z n ((answer_from-next old.state.ending old).exits next v is) s.1 a
follows-by (Stays e) old new r z n is s a = subst (λ x. IsAt x z n) (sym s.1) a

-- a step follows the run
pub step-follows : (old new : Simulation) (r : Option Ending) → Stepped (answer_of old) old new r → (z : Setup) (n : ℕ) → IsAt old z n → Follows (answer_of old) new z n
step-follows old new r s z n a = follows-by (answer_of old) old new r z n refl s a

-- without a limit each step is taken
limited-stepped : (a : Answer) (old new : Simulation) (r : Option Ending) → Limited None a old new r → Stepped a old new r
limited-stepped (Goes next) old new r m = m
limited-stepped (Exits next v) old new r m = m
limited-stepped (Stays e) old new r m = m

pub unlimited-follows : (old new : Simulation) (r : Option Ending) → Limited None (answer_of old) old new r → (z : Setup) (n : ℕ) → IsAt old z n → Follows (answer_of old) new z n
unlimited-follows old new r m = step-follows old new r (limited-stepped (answer_of old) old new r m)

-- ordinary steps follow the run
reaches-at : (limit k : ℕ) (old last : Simulation) (z : Setup) (n : ℕ) → Reaches limit k old last → IsAt old z n → IsAt last z (n + k)
reaches-at limit zero old last z n r a =
    let e : n ≡ n + zero = omega arith in subst (λ x. IsAt x z (n + zero)) (sym r) (subst (λ k. IsAt old z k) e a)
reaches-at limit (suc k) old last z n r a =
    let e : suc n + k ≡ n + suc k = omega arith in
    let next = r.0 in
    subst (λ j. IsAt last z j) e
    (reaches-at limit k (with_state old next) last z (suc n) r.3
    (at-next old (with_state old next) next z n ((answer_from-next old.state.ending old).goes next r.1) refl a))

exit-at : (limit : ℕ) (last new : Simulation) (next : State) (v : ℤ) (e : Ending) (z : Setup) (n : ℕ) → answer_of last ≡ Exits next v → Ends limit (Exits next v) last new e → ((limit < next.cycles) ⊎ (next.cycles ≤ limit)) → IsAt last z n → (k : ℕ) × IsAt new z (n + k)
exit-at limit last new next v e z n is ends cases a =
    let plus_zero : n ≡ n + 0 = omega arith in
    let plus_one : suc n ≡ n + 1 = omega arith in
    ⊎_elim
    (λ lt. (0, subst (λ x. IsAt x z (n + 0)) (sym (ends.1 lt).1) (subst (λ k. IsAt last z k) plus_zero a)))
    (λ le. (1, subst (λ k. IsAt new z k) plus_one (at-next last new next z n ((answer_from-next last.state.ending last).exits next v is) (ends.0 le).1 a)))
    cases

either : (a b : ℕ) → (a < b) ⊎ (b ≤ a)
either a b = ⊎_elim (λ h. inl h.1) (λ h. let k = h.1 in inr (omega arith)) (leb_tells (suc a) b)

ends-at : (limit : ℕ) (answer : Answer) (last new : Simulation) (e : Ending) (z : Setup) (n : ℕ) → answer_of last ≡ answer → Ends limit answer last new e → IsAt last z n → (k : ℕ) × IsAt new z (n + k)
ends-at limit (Goes next) last new e z n is ends a =
    let plus_zero : n ≡ n + 0 = omega arith in
    (0, subst (λ x. IsAt x z (n + 0)) (sym ends.2) (subst (λ k. IsAt last z k) plus_zero a))
ends-at limit (Exits next v) last new e z n is ends a = exit-at limit last new next v e z n is ends (either limit next.cycles) a
ends-at limit (Stays f) last new e z n is ends a =
    let plus_zero : n ≡ n + 0 = omega arith in
    (0, subst (λ x. IsAt x z (n + 0)) (sym ends.1) (subst (λ k. IsAt last z k) plus_zero a))

-- a run within a limit follows the run
pub runs-follow : (limit : ℕ) (old new : Simulation) (e : Ending) → RunsWithin limit old new e → (z : Setup) (n : ℕ) → IsAt old z n → (k : ℕ) × IsAt new z (n + k)
runs-follow limit old new e r z n a =
    let there = reaches-at limit r.steps old r.last z n r.reaches a in
    let end = ends-at limit (answer_of r.last) r.last new e z (n + r.steps) refl r.ends there in
    let sum : n + r.steps + end.0 ≡ n + (r.steps + end.0) = omega arith in
    (r.steps + end.0, subst (λ k. IsAt new z k) sum end.1)
