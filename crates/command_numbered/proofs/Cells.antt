-- Objects of one element: what a read gives and a write leaves.
use Rattle.std.proofs.Common.{◌≡◌, ◌≢◌, ◌⊎◌, inl, inr, ℕ, zero, suc, List, [], ◌∷◌, Option, Some, None, refl, sym, ap, subst, ◌∙◌, arith}
use Rattle.std.specs.Prelude.{slice_get, slice_set}
use Rattle.std.proofs.lemmas.Option.{none-some}
use Rattle.meaning_semantics.specs.State.{State, Fine, element, held, read, stored, unwritten, unwritten_in, with_objects, write}
use Rattle.meaning_semantics.specs.declared.outcome.Found.{Found}

abbrev pub found_at : (object at : ℕ) → Found
found_at object at = record { object = object; index = 0; at = at }

-- the one element of an object
abbrev pub Cell : (object : ℕ) → Option ℕ → State → Type 0
Cell object x st = slice_get st.objects object ≡ Some (x ∷ [])

abbrev pub IsOne : (object : ℕ) → State → Type 0
IsOne object st = (x : Option ℕ) × Cell object x st

abbrev pub put : (object : ℕ) → Option ℕ → State → State
put object x st = with_objects st (slice_set st.objects object (x ∷ []))

set_there : {A : Type 0} (xs : List A) (i : ℕ) (x y : A) → slice_get xs i ≡ Some x → slice_get (slice_set xs i y) i ≡ Some y
set_there [] i x y e = absurd (none-some x e)
set_there (z ∷ zs) zero x y e = refl
set_there (z ∷ zs) (suc i) x y e = set_there zs i x y e

set_other : {A : Type 0} (xs : List A) (i j : ℕ) (y : A) → j ≢ i → slice_get (slice_set xs i y) j ≡ slice_get xs j
set_other [] i j y n = refl
set_other (z ∷ zs) zero zero y n = absurd (n refl)
set_other (z ∷ zs) zero (suc j) y n = refl
set_other (z ∷ zs) (suc i) zero y n = refl
set_other (z ∷ zs) (suc i) (suc j) y n = set_other zs i j y (λ e. n (ap suc e))

module _ (object : ℕ) (st : State) (one : IsOne object st) where
  pub put_there : (x : Option ℕ) → Cell object x (put object x st)
  put_there x = set_there st.objects object (one.0 ∷ []) (x ∷ []) one.1

  pub put_one : (x : Option ℕ) → IsOne object (put object x st)
  put_one x = (x, put_there x)

  pub writes : (at w : ℕ) → write (found_at object at) w st ≡ Fine w (put object (Some w) st)
  writes at w = ap (λ o. stored o (found_at object at) w st) one.1

  pub forgets : unwritten object st ≡ put object None st
  forgets = ap (λ o. unwritten_in o object st) one.1

pub put_other : (object other : ℕ) (x : Option ℕ) (st : State) → other ≢ object → slice_get (put object x st).objects other ≡ slice_get st.objects other
put_other object other x st n = set_other st.objects object other (x ∷ []) n

pub reads : (object at w : ℕ) (st : State) → Cell object (Some w) st → read (found_at object at) st ≡ Fine w st
reads object at w st h = ap (λ o. held (element o 0) at st) h

-- a cell where another is written
pub cell_kept : (object other : ℕ) (x y : Option ℕ) (st : State) → other ≢ object → Cell other y st → Cell other y (put object x st)
cell_kept object other x y st n h = put_other object other x st n ∙ h

pub same_or_not : (a b : ℕ) → (a ≡ b) ⊎ (a ≢ b)
same_or_not a b = grind arith

pub one_kept : (object other : ℕ) (x : Option ℕ) (st : State) → IsOne object st → IsOne other st → IsOne other (put object x st)
one_kept object other x st own one = elim (same_or_not other object) [
  | inl e ↦ subst (λ o. IsOne o (put object x st)) (sym e) (put_one object st own x)
  | inr n ↦ (one.0, cell_kept object other x one.0 st n one.1)
]
