-- The words of objects behind a write.
use Rattle.std.proofs.Common.{◌≡◌, ◌⊎◌, inl, inr, ⊎_elim, ℕ, zero, suc, ◌<◌, ◌≤◌, List, [], ◌∷◌, length, Some, None, refl, sym, ap, ◌∙◌, subst, arith}
use Rattle.std.specs.Prelude.{slice_get, slice_index_or, slice_set}
use Rattle.std.proofs.lemmas.Bool.{cases_eq, cases_lt}
use Rattle.std.proofs.lemmas.List.{get_or-set_same, get_or-set_other, get_or_past, length-set}
use Rattle.std.proofs.lemmas.Option.{same_Some, slice_get-get_or}
use Rattle.plan_runs.specs.Cells.{Cells, cell, size, put_cell}

none_below : (i : ℕ) → i < 0 → ⊥
none_below i lt = omega (arith, lt)

-- an object with elements is there
inside : (objects : Cells) (o i : ℕ) → i < size objects o → o < length objects
inside objects o i lt = ⊎_elim (λ (h : o < length objects). h) (λ (past : length objects ≤ o). absurd (none_below i (subst (λ row. i < length row) (get_or_past objects o [] past) lt))) (cases_lt o (length objects))

row_put : (objects : Cells) (o i w : ℕ) → i < size objects o → slice_index_or (put_cell objects o i w) o [] ≡ slice_set (slice_index_or objects o []) i (Some w)
row_put objects o i w lt = get_or-set_same objects o (slice_set (slice_index_or objects o []) i (Some w)) [] (inside objects o i lt)

row_other : (objects : Cells) (o i w p : ℕ) → (p ≡ o → ⊥) → slice_index_or (put_cell objects o i w) p [] ≡ slice_index_or objects p []
row_other objects o i w p other = get_or-set_other objects o p (slice_set (slice_index_or objects o []) i (Some w)) [] other

pub cell-put_same : (objects : Cells) (o i w : ℕ) → i < size objects o → cell (put_cell objects o i w) o i ≡ Some w
cell-put_same objects o i w lt = ap (λ row. slice_index_or row i None) (row_put objects o i w lt) ∙ get_or-set_same (slice_index_or objects o []) i (Some w) None lt

pub cell-put_beside : (objects : Cells) (o i w j : ℕ) → i < size objects o → (j ≡ i → ⊥) → cell (put_cell objects o i w) o j ≡ cell objects o j
cell-put_beside objects o i w j lt other = ap (λ row. slice_index_or row j None) (row_put objects o i w lt) ∙ get_or-set_other (slice_index_or objects o []) i j (Some w) None other

pub cell-put_other : (objects : Cells) (o i w p j : ℕ) → (p ≡ o → ⊥) → cell (put_cell objects o i w) p j ≡ cell objects p j
cell-put_other objects o i w p j other = ap (λ row. slice_index_or row j None) (row_other objects o i w p other)

-- a word behind a write is the one that was written, or was there before
pub cell_put : (objects : Cells) (o i w p j v : ℕ) → i < size objects o → cell (put_cell objects o i w) p j ≡ Some v → ((p ≡ o) × (v ≡ w)) ⊎ (cell objects p j ≡ Some v)
cell_put objects o i w p j v lt is = ⊎_elim at_object (λ (other : p ≡ o → ⊥). inr (sym (cell-put_other objects o i w p j other) ∙ is)) (cases_eq p o)
  where
    at_object : p ≡ o → ((p ≡ o) × (v ≡ w)) ⊎ (cell objects p j ≡ Some v)
    at_object same =
        let is_o : cell (put_cell objects o i w) o j ≡ Some v = ap (λ q. cell (put_cell objects o i w) q j) (sym same) ∙ is in
        ⊎_elim
        (λ (e : j ≡ i). inl (same, same_Some v w (sym is_o ∙ ap (λ m. cell (put_cell objects o i w) o m) e ∙ cell-put_same objects o i w lt)))
        (λ (beside : j ≡ i → ⊥). inr (ap (λ q. cell objects q j) same ∙ sym (cell-put_beside objects o i w j lt beside) ∙ is_o))
        (cases_eq j i)

pub size-put : (objects : Cells) (o i w p : ℕ) → i < size objects o → size (put_cell objects o i w) p ≡ size objects p
size-put objects o i w p lt = ⊎_elim
    (λ (same : p ≡ o). ap (size (put_cell objects o i w)) same ∙ ap length (row_put objects o i w lt) ∙ length-set (slice_index_or objects o []) i (Some w) ∙ ap (size objects) (sym same))
    (λ (other : p ≡ o → ⊥). ap length (row_other objects o i w p other))
    (cases_eq p o)

pub slice_get-set_same : {A : Type 0} (xs : List A) (i : ℕ) (x : A) → i < length xs → slice_get (slice_set xs i x) i ≡ Some x
slice_get-set_same xs i x lt = slice_get-get_or (slice_set xs i x) i x (subst (λ n. i < n) (sym (length-set xs i x)) lt) ∙ ap Some (get_or-set_same xs i x x lt)

pub slice_get-set_other : {A : Type 0} (xs : List A) (i j : ℕ) (x : A) → (j ≡ i → ⊥) → slice_get (slice_set xs i x) j ≡ slice_get xs j
slice_get-set_other [] i j x other = refl
slice_get-set_other (y ∷ ys) zero zero x other = absurd (other refl)
slice_get-set_other (y ∷ ys) zero (suc j) x other = refl
slice_get-set_other (y ∷ ys) (suc i) zero x other = refl
slice_get-set_other (y ∷ ys) (suc i) (suc j) x other = slice_get-set_other ys i j x (λ e. other (ap suc e))

pub slice_get-put_other : (objects : Cells) (o i w p : ℕ) → (p ≡ o → ⊥) → slice_get (put_cell objects o i w) p ≡ slice_get objects p
slice_get-put_other objects o i w p other = slice_get-set_other objects o p (slice_set (slice_index_or objects o []) i (Some w)) other
