-- How statements go on, and loops that are to blame for what they don't keep.
use Rattle.std.proofs.Common.{refl, ℕ, zero, suc, ◌-◌, Bool}
use Rattle.meaning_semantics.specs.State.{State, Outcome, Fine, Stopped, choose, then_do}
use Rattle.meaning_semantics.specs.Statements.{Loop, again, behind, if_onward, left_with, out_of_switch, turns}
use Rattle.meaning_semantics.specs.declared.outcome.Flow.{Flow}
use Rattle.meaning_semantics.specs.declared.outcome.Flow.TheVariants.{Onward, Break, Continue, Return}
use Rattle.meaning_semantics.specs.declared.outcome.Stop.TheVariants.{Broken}
use Rattle.plan_runs.specs.Meets.{Layout}
use Rattle.counting_laws.proofs.Objects.{Names}
use Rattle.counting_laws.proofs.Settings.{Keeps, keeps_then}
use Rattle.counting_laws.proofs.Steps.{choose_keeps, keeps_here}

module _ (layout : Layout) (live : ℕ → Bool) (kept blamed : ℕ → Type 0) where
  abbrev Named : State → Type 0
  Named st = Names layout live st.objects

  abbrev Both : {A : Type 0} → State → Outcome A → Outcome A → Type 0
  Both st a b = Keeps layout live kept blamed st a b

  here : (flow : Flow) (st : State) → Named st → Both st (Fine flow st) (Fine flow st)
  here flow st n = keeps_here layout live kept blamed flow st n

  pub behind_keeps : (next other : State → Outcome Flow) → ((st : State) → Named st → Both st (next st) (other st)) → (flow : Flow) (st : State) → Named st → Both st (behind next flow st) (behind other flow st)
  behind_keeps next other h Onward st n = h st n
  behind_keeps next other h Continue st n = h st n
  behind_keeps next other h Break st n = here Break st n
  behind_keeps next other h (Return word) st n = here (Return word) st n

  pub onward_keeps : (next other : State → Outcome Flow) → ((st : State) → Named st → Both st (next st) (other st)) → (flow : Flow) (st : State) → Named st → Both st (if_onward next flow st) (if_onward other flow st)
  onward_keeps next other h Onward st n = h st n
  onward_keeps next other h Continue st n = here Continue st n
  onward_keeps next other h Break st n = here Break st n
  onward_keeps next other h (Return word) st n = here (Return word) st n

  pub out_keeps : (flow : Flow) (st : State) → Named st → Both st (out_of_switch flow st) (out_of_switch flow st)
  out_keeps Onward st n = here Onward st n
  out_keeps Continue st n = here Continue st n
  out_keeps Break st n = here Onward st n
  out_keeps (Return word) st n = here (Return word) st n

  -- a loop at a place that is to blame
  module _ (at : ℕ) (to_blame : blamed at) where
    left_keeps : (owed : ℕ) (flow : Flow) (st : State) → Named st → Both st (left_with owed at flow st) (left_with owed at flow st)
    left_keeps zero flow st n = here flow st n
    left_keeps (suc owed) flow st n = record { same = refl; comes = to_blame }

    again_keeps : (owed : ℕ) (next other : State → Outcome Flow) → ((st : State) → Named st → Both st (next st) (other st)) → (flow : Flow) (st : State) → Named st → Both st (again owed at next flow st) (again owed at other flow st)
    again_keeps owed next other h Onward st n = h st n
    again_keeps owed next other h Continue st n = h st n
    again_keeps owed next other h Break st n = left_keeps owed Onward st n
    again_keeps owed next other h (Return word) st n = left_keeps owed (Return word) st n

    module _ (test other_test : State → Outcome ℕ) (round other_round : State → Outcome Flow) (tests : (st : State) → Named st → Both st (test st) (other_test st)) (rounds : (st : State) → Named st → Both st (round st) (other_round st)) where
      abbrev nl : Loop
      nl = record { at = at; test = test; round = round }

      abbrev wl : Loop
      wl = record { at = at; test = other_test; round = other_round }

      abbrev no_more : ℕ → ℕ → State → Outcome Flow
      no_more owed word st1 = choose word (Stopped (Broken at)) (left_with owed at Onward st1)

      abbrev one_more : Loop → (left owed : ℕ) → ℕ → State → Outcome Flow
      one_more loop left owed word st1 = choose word (then_do (loop.round st1) (again (owed - 1) at (turns loop left (owed - 1)))) (left_with owed at Onward st1)

      pub turns_keep : (left owed : ℕ) (st : State) → Named st → Both st (turns nl left owed st) (turns wl left owed st)
      turns_keep zero owed st n =
          keeps_then layout live kept blamed st (test st) (other_test st) (no_more owed) (no_more owed) (tests st n)
          (λ word st1 n1. choose_keeps layout live kept blamed word st1 (Stopped (Broken at)) (Stopped (Broken at)) (left_with owed at Onward st1) (left_with owed at Onward st1) (record { same = refl; comes = to_blame }) (left_keeps owed Onward st1 n1))
      turns_keep (suc left) owed st n =
          keeps_then layout live kept blamed st (test st) (other_test st) (one_more nl left owed) (one_more wl left owed) (tests st n)
          (λ word st1 n1.
          choose_keeps layout live kept blamed word st1 (then_do (round st1) (again (owed - 1) at (turns nl left (owed - 1)))) (then_do (other_round st1) (again (owed - 1) at (turns wl left (owed - 1))))
          (left_with owed at Onward st1) (left_with owed at Onward st1)
          (keeps_then layout live kept blamed st1 (round st1) (other_round st1) (again (owed - 1) at (turns nl left (owed - 1))) (again (owed - 1) at (turns wl left (owed - 1))) (rounds st1 n1)
          (λ flow st2 n2. again_keeps (owed - 1) (turns nl left (owed - 1)) (turns wl left (owed - 1)) (λ st3 n3. turns_keep left (owed - 1) st3 n3) flow st2 n2))
          (left_keeps owed Onward st1 n1))
