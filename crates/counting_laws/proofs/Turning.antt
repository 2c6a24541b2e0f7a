-- A counting loop turns as often as its bounds say, whatever wider bounds it has.
use Rattle.std.proofs.Common.{◌≡◌, sym, ap, ◌∙◌, subst, ℕ, zero, suc, ◌-◌, ◌≤◌, Bool, true, arith, Ok}
use Rattle.meaning_semantics.specs.State.{State, Outcome, Fine, Stopped, choose, then_do}
use Rattle.meaning_semantics.specs.Statements.{Loop, again, left_with, turns}
use Rattle.meaning_semantics.specs.declared.outcome.Flow.{Flow}
use Rattle.meaning_semantics.specs.declared.outcome.Flow.TheVariants.{Onward, Break, Continue, Return}
use Rattle.meaning_semantics.specs.declared.outcome.Stop.TheVariants.{Broken}
use Rattle.types_value.specs.Operators.{computed}
use Rattle.types_value.specs.declared.kind.Kind.TheVariants.{Int}
use Rattle.plan_runs.specs.Meets.{Layout}
use Rattle.facts_loops.specs.Counting.{is_up}
use Rattle.facts_loops.specs.declared.form.Limit.{Limit}
use Rattle.counting_laws.proofs.Alike.{Alike, Comes, alike_then}
use Rattle.counting_laws.proofs.Arithmetic.{Ahead}
use Rattle.counting_laws.proofs.Counted.{Holds, Moved, moves, tested_word}
use Rattle.counting_laws.proofs.Objects.{Names, Stays, stays_same}
use Rattle.counting_laws.proofs.Settings.{Keeps, resumed}

none_left : (m : ℕ) → m ≤ 0 → m ≡ 0
none_left m le = omega (arith, le)

under : (a b : ℕ) → a ≤ b → b ≤ 0 → a ≡ 0
under a b le last = omega (arith, le, last)

last_one : (m : ℕ) → m ≤ 1 → m - 1 ≡ 0
last_one m le = omega (arith, le)

last_under : (a b : ℕ) → a ≤ b → b ≤ 1 → a - 1 ≡ 0
last_under a b le last = omega (arith, le, last)

one_fewer : (a n : ℕ) → a ≤ suc n → a - 1 ≤ n
one_fewer a n le = omega (arith, le)

both_fewer : (a b : ℕ) → a ≤ b → a - 1 ≤ b - 1
both_fewer a b le = omega (arith, le)

still_one : (m : ℕ) → m ≤ 1 → m - 1 ≤ 1
still_one m le = omega (arith, le)

fewer : (n room : ℕ) → suc n ≤ suc room → n ≤ room
fewer n room le = omega (arith, le)

no_room : (n : ℕ) → suc n ≤ 0 → ⊥
no_room n le = omega (arith, le)

-- a loop is left by its test
stops_here : (loop : Loop) (st : State) (owed room : ℕ) → loop.test st ≡ Fine 0 st → owed ≡ 0 → turns loop room owed st ≡ Fine Onward st
stops_here loop st owed zero is none =
    ap (λ o. then_do o (λ word st1. choose word (Stopped (Broken loop.at)) (left_with owed loop.at Onward st1))) is ∙ ap (λ m. left_with m loop.at Onward st) none
stops_here loop st owed (suc room) is none =
    ap (λ o. then_do o (λ word st1. choose word (then_do (loop.round st1) (again (owed - 1) loop.at (turns loop room (owed - 1)))) (left_with owed loop.at Onward st1))) is ∙ ap (λ m. left_with m loop.at Onward st) none

-- or starts its body
starts_here : (loop : Loop) (st : State) (owed room : ℕ) → loop.test st ≡ Fine 1 st → turns loop (suc room) owed st ≡ then_do (loop.round st) (again (owed - 1) loop.at (turns loop room (owed - 1)))
starts_here loop st owed room is =
    ap (λ o. then_do o (λ word st1. choose word (then_do (loop.round st1) (again (owed - 1) loop.at (turns loop room (owed - 1)))) (left_with owed loop.at Onward st1))) is

-- both end so
ends_so : {A : Type 0} (blamed : ℕ → Type 0) (to : A → State → Type 0) (a : A) (st : State) (narrow wide : Outcome A) → narrow ≡ Fine a st → wide ≡ Fine a st → to a st → Alike blamed to narrow wide
ends_so blamed to a st narrow wide n w h = record { same = w ∙ sym n; comes = subst (Comes blamed to) (sym n) h }

goes_so : {A : Type 0} (blamed : ℕ → Type 0) (to : A → State → Type 0) (narrow wide a b : Outcome A) → narrow ≡ a → wide ≡ b → Alike blamed to a b → Alike blamed to narrow wide
goes_so blamed to narrow wide a b n w h = subst (λ o. Alike blamed to o wide) (sym n) (subst (λ o. Alike blamed to a o) (sym w) h)

module _ (layout : Layout) (live : ℕ → Bool) (kept blamed : ℕ → Type 0) (object : ℕ) (limit : Limit) (by : ℕ) (left : Bool) (at : ℕ) where
  abbrev To : State → Flow → State → Type 0
  To st flow st1 = Stays layout live kept st st1

  -- behind one start of the body: the object has moved, or the loop is one that may be left before
  abbrev pub Turned : (v : ℕ) → Flow → State → Type 0
  Turned v Onward st = Moved object (is_up limit.operator) by v st
  Turned v Continue st = ⊥
  Turned v Break st = left ≡ true
  Turned v (Return word) st = left ≡ true

  abbrev pub Round : (v : ℕ) → State → Flow → State → Type 0
  Round v st flow st1 = Stays layout live kept st st1 × Turned v flow st1

  module _ (test other_test : State → Outcome ℕ) (round other_round : State → Outcome Flow)
      (tests : (v : ℕ) (st : State) → Holds object v st → test st ≡ Fine (tested_word limit v) st) (other_tests : (v : ℕ) (st : State) → Holds object v st → other_test st ≡ Fine (tested_word limit v) st)
      (rounds : (v : ℕ) (st : State) → Names layout live st.objects → Holds object v st → Alike blamed (Round v st) (round st) (other_round st)) where
    abbrev nl : Loop
    nl = record { at = at; test = test; round = round }

    abbrev wl : Loop
    wl = record { at = at; test = other_test; round = other_round }

    -- a loop that is left in its body
    leaves_so : (st st1 : State) (flow : Flow) (owed other_owed : ℕ) → Stays layout live kept st st1 → owed - 1 ≡ 0 → other_owed - 1 ≡ 0 → Alike blamed (To st) (left_with (owed - 1) at flow st1) (left_with (other_owed - 1) at flow st1)
    leaves_so st st1 flow owed other_owed s none other_none =
        ends_so blamed (To st) flow st1 (left_with (owed - 1) at flow st1) (left_with (other_owed - 1) at flow st1) (ap (λ m. left_with m at flow st1) none) (ap (λ m. left_with m at flow st1) other_none) s

    -- what follows a start
    after_round : (n room owed other_owed v : ℕ) → other_owed ≤ owed → (left ≡ true → owed ≤ 1) →
        ((r : ℕ) (st : State) → Ahead limit by n r → Names layout live st.objects → Holds object r st → Keeps layout live kept blamed st (turns nl n (owed - 1) st) (turns wl room (other_owed - 1) st)) →
        ((r : ℕ) → computed (moves (is_up limit.operator)) Int v by ≡ Ok r → Ahead limit by n r) → (st st1 : State) (flow : Flow) → Round v st flow st1 →
        Alike blamed (To st) (again (owed - 1) at (turns nl n (owed - 1)) flow st1) (again (other_owed - 1) at (turns wl room (other_owed - 1)) flow st1)
    after_round n room owed other_owed v narrower once next ahead st st1 Onward h =
        let m = h.1 in
        resumed layout live kept blamed st st1 (turns nl n (owed - 1) st1) (turns wl room (other_owed - 1) st1) h.0 (next m.0 st1 (ahead m.0 m.1) h.0.names m.2)
    after_round n room owed other_owed v narrower once next ahead st st1 Continue h = absurd h.1
    after_round n room owed other_owed v narrower once next ahead st st1 Break h = leaves_so st st1 Onward owed other_owed h.0 (last_one owed (once h.1)) (last_under other_owed owed narrower (once h.1))
    after_round n room owed other_owed v narrower once next ahead st st1 (Return word) h = leaves_so st st1 (Return word) owed other_owed h.0 (last_one owed (once h.1)) (last_under other_owed owed narrower (once h.1))

    pub turns_alike : (n room owed other_owed v : ℕ) → n ≤ room → owed ≤ n → other_owed ≤ owed → (left ≡ true → owed ≤ 1) → Ahead limit by n v → (st : State) → Names layout live st.objects → Holds object v st →
        Keeps layout live kept blamed st (turns nl n owed st) (turns wl room other_owed st)
    turns_alike zero room owed other_owed v wider owes narrower once ahead st names holds =
        ends_so blamed (To st) Onward st (turns nl zero owed st) (turns wl room other_owed st)
        (stops_here nl st owed zero (tests v st holds ∙ ap (λ w. Fine w st) ahead) (none_left owed owes))
        (stops_here wl st other_owed room (other_tests v st holds ∙ ap (λ w. Fine w st) ahead) (under other_owed owed narrower owes))
        (stays_same layout live kept st names)
    turns_alike (suc n) zero owed other_owed v wider owes narrower once ahead st names holds = absurd (no_room n wider)
    turns_alike (suc n) (suc room) owed other_owed v wider owes narrower once ahead st names holds =
        goes_so blamed (To st) (turns nl (suc n) owed st) (turns wl (suc room) other_owed st)
        (then_do (round st) (again (owed - 1) at (turns nl n (owed - 1)))) (then_do (other_round st) (again (other_owed - 1) at (turns wl room (other_owed - 1))))
        (starts_here nl st owed n (tests v st holds ∙ ap (λ w. Fine w st) ahead.0)) (starts_here wl st other_owed room (other_tests v st holds ∙ ap (λ w. Fine w st) ahead.0))
        (alike_then blamed (Round v st) (To st) (round st) (other_round st) (again (owed - 1) at (turns nl n (owed - 1))) (again (other_owed - 1) at (turns wl room (other_owed - 1))) (rounds v st names holds)
        (λ flow st1 h.
        after_round n room owed other_owed v narrower once
        (λ r st2 more names2 holds2. turns_alike n room (owed - 1) (other_owed - 1) r (fewer n room wider) (one_fewer owed n owes) (both_fewer other_owed owed narrower) (λ l. still_one owed (once l)) more st2 names2 holds2)
        ahead.1 st st1 flow h))
