-- Runs of a function under narrower and wider bounds.
use Rattle.std.proofs.Common.{◌≡◌, ◌⊎◌, inl, inr, ⊎_elim, refl, ℕ, ◌<◌, ◌≤◌, Bool, true, false, List, [], ◌∷◌, Option}
use Rattle.std.specs.Prelude.{◌||◌}
use Rattle.std.proofs.lemmas.Bool.{or_parts}
use Rattle.meaning_semantics.specs.State.{State, Outcome, then_do}
use Rattle.meaning_semantics.specs.Values.{Calls}
use Rattle.plan_runs.specs.ExpressionFits.{Formal, OfWord, OfArray, Function, Signatures}
use Rattle.plan_runs.specs.Meets.{IsLayout, Layout, Untouched, home, is_own, is_passed}
use Rattle.plan_definition.specs.declared.home.Home.{Home}
use Rattle.plan_definition.specs.declared.home.Home.TheVariants.{Frame, Memory}
use Rattle.counting_laws.proofs.Alike.{Alike, alike_then, alike_weaken}
use Rattle.counting_laws.proofs.Objects.{Names, Stays, stays_then}

-- an array that was passed is a function's own, and what is no function's own was not passed
pub passed_own : (h : Home) → is_passed h ≡ true → is_own h ≡ true
passed_own (Frame x) e = refl
passed_own (Memory array) e = e

pub own_passed : (h : Home) → is_own h ≡ false → is_passed h ≡ false
own_passed (Frame x) e = refl
own_passed (Memory array) e = e

-- the words of a call name arrays where its parameters are arrays
abbrev pub HandedTo : Layout → List Formal → List ℕ → Type 0
HandedTo layout [] [] = Unit {0}
HandedTo layout [] (word ∷ words) = ⊥
HandedTo layout (formal ∷ formals) [] = ⊥
HandedTo layout (OfWord kind ∷ formals) (word ∷ words) = HandedTo layout formals words
HandedTo layout (OfArray kind constant ∷ formals) (word ∷ words) = (is_own (home layout word) ≡ false) × HandedTo layout formals words

-- calls of functions of a lower rank do the same, and leave what functions of a greater rank have of their own
pub record CallsAlike (layout : Layout) (signatures : Signatures) (blamed : ℕ → Type 0) (rank : ℕ) (narrow wide : Calls) : Type 0 where
  pub by : (g at : ℕ) (words : List ℕ) (st : State) → layout.rank g < rank → HandedTo layout (signatures.parameters g) words →
      Alike blamed (λ (result : Option ℕ) st1. Untouched layout (layout.rank g) st.objects st1.objects) (narrow g words at st) (wide g words at st)

-- a place of a function, with objects that its run keeps: they are its own, or those of functions of a rank that isn't lower
pub record IsRun (layout : Layout) (signatures : Signatures) (blamed kept : ℕ → Type 0) (f : Function) (narrow wide : Calls) : Type 0 where
  pub placed : IsLayout layout
  pub owned : (o : ℕ) → f.live o ≡ true → layout.owner o ≡ f.number
  pub falls : (g : ℕ) → f.callable g ≡ true → layout.rank g < layout.rank f.number
  pub own : (o : ℕ) → kept o → is_own (home layout o) ≡ true
  pub above : (o : ℕ) → kept o → layout.rank f.number ≤ layout.rank (layout.owner o)
  pub calls : CallsAlike layout signatures blamed (layout.rank f.number) narrow wide

-- what doesn't change the objects that are kept, unless they are those of functions of a greater rank
abbrev pub Spares : Layout → (kept : ℕ → Type 0) → Function → (changes : ℕ → Bool) → Type 0
Spares layout kept f changes = (o : ℕ) → kept o → (layout.rank f.number < layout.rank (layout.owner o)) ⊎ (changes o ≡ false)

module _ (layout : Layout) (kept : ℕ → Type 0) (f : Function) where
  pub spares_first : (a b : ℕ → Bool) → Spares layout kept f (λ o. a o || b o) → Spares layout kept f a
  spares_first a b sp o k = ⊎_elim (λ (up : layout.rank f.number < layout.rank (layout.owner o)). inl up) (λ (none : (a o || b o) ≡ false). inr (or_parts (a o) (b o) none).0) (sp o k)

  pub spares_second : (a b : ℕ → Bool) → Spares layout kept f (λ o. a o || b o) → Spares layout kept f b
  spares_second a b sp o k = ⊎_elim (λ (up : layout.rank f.number < layout.rank (layout.owner o)). inl up) (λ (none : (a o || b o) ≡ false). inr (or_parts (a o) (b o) none).1) (sp o k)

module _ (layout : Layout) (live : ℕ → Bool) (kept blamed : ℕ → Type 0) where
  -- both do the same, and what they come to stays as it is
  abbrev pub Keeps : {A : Type 0} → State → Outcome A → Outcome A → Type 0
  Keeps st narrow wide = Alike blamed (λ a st1. Stays layout live kept st st1) narrow wide

  -- from a later state on
  pub resumed : {A : Type 0} (st st1 : State) (narrow wide : Outcome A) → Stays layout live kept st st1 → Keeps st1 narrow wide → Keeps st narrow wide
  resumed st st1 narrow wide s h =
      alike_weaken blamed (λ a st2. Stays layout live kept st1 st2) (λ a st2. Stays layout live kept st st2) narrow wide h (λ a st2 t. stays_then layout live kept st st1 st2 s t)

  pub keeps_then : {A B : Type 0} (st : State) (narrow wide : Outcome A) (go other : A → State → Outcome B) → Keeps st narrow wide → ((a : A) (st1 : State) → Names layout live st1.objects → Keeps st1 (go a st1) (other a st1)) →
      Keeps st (then_do narrow go) (then_do wide other)
  keeps_then st narrow wide go other h more =
      alike_then blamed (λ a st1. Stays layout live kept st st1) (λ b st2. Stays layout live kept st st2) narrow wide go other h (λ a st1 s. resumed st st1 (go a st1) (other a st1) s (more a st1 s.names))
