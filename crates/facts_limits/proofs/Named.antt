-- A name that is counted has its place among the functions and markers.
use Rattle.std.proofs.Common.{◌≡◌, ℕ, suc, ◌+◌, ◌<◌, inl, inr, ◌⊎◌, Bool, true, false, List, [], ◌∷◌, ◌++◌, length, map, refl, sym, ◌∙◌, arith}
use Rattle.std.specs.Prelude.{if◌then◌else◌, nat_eq}
use Rattle.std.proofs.lemmas.Bool.{eq-eqb, eqb-true, false≢true, or_cases}
use Rattle.c_tree.specs.declared.expression.NameId.{NameId}
use Rattle.facts_definitions.specs.FlowFacts.{is_among, name_id}
use Rattle.flow_facts.specs.Translating.{index_in}

-- a name has its place in a list of names
abbrev pub IsPlaced : List NameId → ℕ → Type 0
IsPlaced ids id = index_in ids id < length ids

step_placed : (b : Bool) (place size : ℕ) → place < size → (if b then 0 else place + 1) < suc size
step_placed true place size h = omega arith
step_placed false place size h = omega (arith, h)

pub among_placed : (ids : List ℕ) (id : ℕ) → is_among id ids ≡ true → IsPlaced (map name_id ids) id
among_placed [] id h = absurd (false≢true h)
among_placed (n ∷ ids) id h = of (nat_eq n id) refl (or_cases (nat_eq id n) (is_among id ids) h) (λ more. among_placed ids id more)
  where
    of : (b : Bool) → nat_eq n id ≡ b → (nat_eq id n ≡ true) ⊎ (is_among id ids ≡ true) → (is_among id ids ≡ true → IsPlaced (map name_id ids) id) → (if b then 0 else index_in (map name_id ids) id + 1) < suc (length (map name_id ids))
    of true e o rest = omega arith
    of false e (inl same) rest = absurd (false≢true (sym e ∙ eq-eqb n id (sym (eqb-true id n same))))
    of false e (inr more) rest = step_placed false (index_in (map name_id ids) id) (length (map name_id ids)) (rest more)

pub placed_before : (xs ys : List NameId) (id : ℕ) → IsPlaced xs id → IsPlaced (xs ++ ys) id
placed_before [] ys id h = absurd (omega (arith, h))
placed_before (x ∷ xs) ys id h = of (nat_eq x.0 id) h (placed_before xs ys id)
  where
    of : (b : Bool) → (if b then 0 else index_in xs id + 1) < suc (length xs) → (IsPlaced xs id → IsPlaced (xs ++ ys) id) → (if b then 0 else index_in (xs ++ ys) id + 1) < suc (length (xs ++ ys))
    of true h more = omega arith
    of false h more = step_placed false (index_in (xs ++ ys) id) (length (xs ++ ys)) (more (omega (arith, h)))

pub placed_behind : (xs ys : List NameId) (id : ℕ) → IsPlaced ys id → IsPlaced (xs ++ ys) id
placed_behind [] ys id h = h
placed_behind (x ∷ xs) ys id h = step_placed (nat_eq x.0 id) (index_in (xs ++ ys) id) (length (xs ++ ys)) (placed_behind xs ys id h)
