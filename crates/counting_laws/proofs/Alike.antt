-- Two runs that do the same, of which the first breaks no loop but one that is to blame.
use Rattle.std.proofs.Common.{◌≡◌, refl, sym, subst, ℕ}
use Rattle.meaning_semantics.specs.State.{State, Outcome, Fine, Stopped, then_do}
use Rattle.meaning_semantics.specs.declared.outcome.Stop.{Stop}
use Rattle.meaning_semantics.specs.declared.outcome.Stop.TheVariants.{Undefined, Broken}

-- where a run may stop
abbrev pub Stops : (blamed : ℕ → Type 0) → Stop → Type 0
Stops blamed (Undefined rule at) = Unit {0}
Stops blamed (Broken at) = blamed at

-- what a part of a run comes to
abbrev pub Comes : {A : Type 0} → (blamed : ℕ → Type 0) → (to : A → State → Type 0) → Outcome A → Type 0
Comes blamed to (Fine a st) = to a st
Comes blamed to (Stopped stop) = Stops blamed stop

pub record Alike {A : Type 0} (blamed : ℕ → Type 0) (to : A → State → Type 0) (narrow wide : Outcome A) : Type 0 where
  pub same : wide ≡ narrow
  pub comes : Comes blamed to narrow

pub alike_fine : {A : Type 0} (blamed : ℕ → Type 0) (to : A → State → Type 0) (a : A) (st : State) → to a st → Alike blamed to (Fine a st) (Fine a st)
alike_fine blamed to a st h = record { same = refl; comes = h }

pub alike_undefined : {A : Type 0} (blamed : ℕ → Type 0) (to : A → State → Type 0) (rule at : ℕ) → Alike blamed to (Stopped (Undefined rule at)) (Stopped (Undefined rule at))
alike_undefined blamed to rule at = record { same = refl; comes = tt }

-- both go on alike from where the first has come to
then_at : {A B : Type 0} (blamed : ℕ → Type 0) (to : A → State → Type 0) (next : B → State → Type 0) (o : Outcome A) (go other : A → State → Outcome B) →
    Comes blamed to o → ((a : A) (st : State) → to a st → Alike blamed next (go a st) (other a st)) → Alike blamed next (then_do o go) (then_do o other)
then_at blamed to next (Fine a st) go other c more = more a st c
then_at blamed to next (Stopped stop) go other c more = record { same = refl; comes = c }

pub alike_then : {A B : Type 0} (blamed : ℕ → Type 0) (to : A → State → Type 0) (next : B → State → Type 0) (narrow wide : Outcome A) (go other : A → State → Outcome B) →
    Alike blamed to narrow wide → ((a : A) (st : State) → to a st → Alike blamed next (go a st) (other a st)) → Alike blamed next (then_do narrow go) (then_do wide other)
alike_then blamed to next narrow wide go other h more =
    subst (λ o. Alike blamed next (then_do narrow go) (then_do o other)) (sym h.same) (then_at blamed to next narrow go other h.comes more)

comes_weaken : {A : Type 0} (blamed : ℕ → Type 0) (to next : A → State → Type 0) (o : Outcome A) → Comes blamed to o → ((a : A) (st : State) → to a st → next a st) → Comes blamed next o
comes_weaken blamed to next (Fine a st) c more = more a st c
comes_weaken blamed to next (Stopped stop) c more = c

pub alike_weaken : {A : Type 0} (blamed : ℕ → Type 0) (to next : A → State → Type 0) (narrow wide : Outcome A) → Alike blamed to narrow wide → ((a : A) (st : State) → to a st → next a st) → Alike blamed next narrow wide
alike_weaken blamed to next narrow wide h more = record { same = h.same; comes = comes_weaken blamed to next narrow h.comes more }

-- what is known of each end
abbrev pub Ends : {A : Type 0} → (to : A → State → Type 0) → Outcome A → Type 0
Ends to (Fine a st) = to a st
Ends to (Stopped stop) = Unit {0}

comes_and : {A : Type 0} (blamed : ℕ → Type 0) (to next : A → State → Type 0) (o : Outcome A) → Comes blamed to o → Ends next o → Comes blamed (λ a st. to a st × next a st) o
comes_and blamed to next (Fine a st) c e = (c, e)
comes_and blamed to next (Stopped stop) c e = c

pub alike_and : {A : Type 0} (blamed : ℕ → Type 0) (to next : A → State → Type 0) (narrow wide : Outcome A) → Alike blamed to narrow wide → Ends next narrow → Alike blamed (λ a st. to a st × next a st) narrow wide
alike_and blamed to next narrow wide h e = record { same = h.same; comes = comes_and blamed to next narrow h.comes e }

pub ends_then : {A B : Type 0} (to : A → State → Type 0) (next : B → State → Type 0) (o : Outcome A) (go : A → State → Outcome B) → Ends to o → ((a : A) (st : State) → to a st → Ends next (go a st)) → Ends next (then_do o go)
ends_then to next (Fine a st) go e more = more a st e
ends_then to next (Stopped stop) go e more = tt
