-- What becomes of objects where one of them is replaced.
use Rattle.std.proofs.Common.{◌≡◌, ⊎_elim, refl, sym, ap, ◌∙◌, ℕ, zero, suc, Bool, true, false, List, [], ◌∷◌, length, replicate, Option, Some, None}
use Rattle.std.specs.Prelude.{◌||◌, slice_get, slice_set}
use Rattle.std.proofs.lemmas.Bool.{cases_eq, or_cases, or_left}
use Rattle.std.proofs.lemmas.Option.{none-some, same_Some}
use Rattle.meaning_semantics.specs.State.{State, unwritten, unwritten_in, with_objects}
use Rattle.plan_runs.specs.Cells.{Cells}
use Rattle.plan_runs.specs.Meets.{Layout, home, is_own, is_passed}
use Rattle.plan_runs.proofs.Cells.{slice_get-set_other}

-- the elements of an object
abbrev pub Row : Type 0
Row = List (Option ℕ)

-- the word that stands first
abbrev pub Begins : Row → ℕ → Type 0
Begins row word = slice_get row 0 ≡ Some (Some word)

-- the array parameters that live hold numbers of arrays
pub record Names (layout : Layout) (live : ℕ → Bool) (objects : Cells) : Type 0 where
  pub by : (o q : ℕ) (row : Row) → is_passed (home layout o) ≡ true → live o ≡ true → slice_get objects o ≡ Some row → Begins row q → is_own (home layout q) ≡ false

-- an object without a word
abbrev pub Blank : (object : ℕ) → Cells → Type 0
Blank object objects = (row : Row) (word : ℕ) → slice_get objects object ≡ Some row → Begins row word → ⊥

set_row : {A : Type 0} (xs : List A) (i : ℕ) (x y : A) → slice_get (slice_set xs i x) i ≡ Some y → y ≡ x
set_row [] i x y e = absurd (none-some y e)
set_row (z ∷ zs) zero x y e = sym (same_Some x y e)
set_row (z ∷ zs) (suc i) x y e = set_row zs i x y e

no_word : (n q : ℕ) → Begins (replicate n None) q → ⊥
no_word zero q e = none-some (Some q) e
no_word (suc n) q e = none-some q (same_Some None (Some q) e)

module _ (layout : Layout) where
  pub names_set : (live : ℕ → Bool) (objects : Cells) (p : ℕ) (new : Row) → Names layout live objects → (is_passed (home layout p) ≡ true → live p ≡ true → (q : ℕ) → Begins new q → is_own (home layout q) ≡ false) →
      Names layout live (slice_set objects p new)
  names_set live objects p new n fits = record {
    by = λ o q row passed lives there begins. ⊎_elim
        (λ (same : o ≡ p).
        let row_is : row ≡ new = set_row objects p new row (ap (slice_get (slice_set objects p new)) (sym same) ∙ there) in
        fits (ap (λ i. is_passed (home layout i)) (sym same) ∙ passed) (ap live (sym same) ∙ lives) q (ap (λ r. slice_get r 0) (sym row_is) ∙ begins))
        (λ (other : o ≡ p → ⊥). n.by o q row passed lives (sym (slice_get-set_other objects p o new other) ∙ there) begins)
        (cases_eq o p);
  }

  -- where more objects live that hold nothing, and where fewer do
  pub names_more : (live more : ℕ → Bool) (objects : Cells) → Names layout live objects → ((o : ℕ) → more o ≡ true → Blank o objects) → Names layout (λ o. live o || more o) objects
  names_more live more objects n blank = record {
    by = λ o q row passed lives there begins. ⊎_elim
        (λ (old : live o ≡ true). n.by o q row passed old there begins)
        (λ (new : more o ≡ true). absurd (blank o new row q there begins))
        (or_cases (live o) (more o) lives);
  }

  pub names_fewer : (live more : ℕ → Bool) (objects : Cells) → Names layout (λ o. live o || more o) objects → Names layout live objects
  names_fewer live more objects n = record { by = λ o q row passed lives there begins. n.by o q row passed (or_left (live o) (more o) lives) there begins }

  -- array parameters still name arrays, and the objects that are kept are as they were
  pub record Stays (live : ℕ → Bool) (kept : ℕ → Type 0) (st st1 : State) : Type 0 where
    pub names : Names layout live st1.objects
    pub same : (o : ℕ) → kept o → slice_get st1.objects o ≡ slice_get st.objects o

  module _ (live : ℕ → Bool) (kept : ℕ → Type 0) where
    pub stays_same : (st : State) → Names layout live st.objects → Stays live kept st st
    stays_same st n = record { names = n; same = λ o k. refl }

    pub stays_then : (st st1 st2 : State) → Stays live kept st st1 → Stays live kept st1 st2 → Stays live kept st st2
    stays_then st st1 st2 a b = record { names = b.names; same = λ o k. b.same o k ∙ a.same o k }

    pub stays_set : (st : State) (p : ℕ) (new : Row) → Names layout live st.objects → ((o : ℕ) → kept o → o ≡ p → ⊥) → (is_passed (home layout p) ≡ true → live p ≡ true → (q : ℕ) → Begins new q → is_own (home layout q) ≡ false) →
        Stays live kept st (with_objects st (slice_set st.objects p new))
    stays_set st p new n free fits = record { names = names_set live st.objects p new n fits; same = λ o k. slice_get-set_other st.objects p o new (free o k) }

-- unwriting replaces an object by one without words, or does nothing where there is none
unwritten_cases : (C : State → Type 0) (o : ℕ) (st : State) → (slice_get st.objects o ≡ None → C st) → ((n : ℕ) → C (with_objects st (slice_set st.objects o (replicate n None)))) → C (unwritten o st)
unwritten_cases C o st nothing replaced = of (slice_get st.objects o) refl
  where
    of : (row : Option Row) → slice_get st.objects o ≡ row → C (unwritten_in row o st)
    of None e = nothing e
    of (Some row) e = replaced (length row)

pub stays_unwritten : (layout : Layout) (live : ℕ → Bool) (kept : ℕ → Type 0) (o : ℕ) (st : State) → Names layout live st.objects → ((p : ℕ) → kept p → p ≡ o → ⊥) → Stays layout live kept st (unwritten o st)
stays_unwritten layout live kept o st n free = unwritten_cases (λ st1. Stays layout live kept st st1) o st
    (λ e. stays_same layout live kept st n)
    (λ m. stays_set layout live kept st o (replicate m None) n free (λ passed lives q b. absurd (no_word m q b)))

replaced_blank : (objects : Cells) (o n : ℕ) → Blank o (slice_set objects o (replicate n None))
replaced_blank objects o n row q there begins = no_word n q (ap (λ r. slice_get r 0) (sym (set_row objects o (replicate n None) row there)) ∙ begins)

pub blank_here : (o : ℕ) (st : State) → Blank o (unwritten o st).objects
blank_here o st = unwritten_cases (λ st1. Blank o st1.objects) o st (λ e row q there begins. none-some row (sym e ∙ there)) (λ n. replaced_blank st.objects o n)

pub blank_still : (o p : ℕ) (st : State) → Blank p st.objects → Blank p (unwritten o st).objects
blank_still o p st blank = unwritten_cases (λ st1. Blank p st1.objects) o st (λ e. blank)
    (λ n row q there begins. ⊎_elim
    (λ (same : p ≡ o). replaced_blank st.objects o n row q (ap (slice_get (slice_set st.objects o (replicate n None))) (sym same) ∙ there) begins)
    (λ (other : p ≡ o → ⊥). blank row q (sym (slice_get-set_other st.objects o p (replicate n None) other) ∙ there) begins)
    (cases_eq p o))
