-- A text that stands within a source is a piece where it has the form of one and what follows doesn't go on with it.
use Rattle.std.proofs.Common.{◌≡◌, ◌⊎◌, inl, inr, ℕ, zero, suc, ◌+◌, ◌≤◌, List, [], ◌∷◌, ◌++◌, length, take, drop, refl, sym, ap, subst, ◌∙◌, arith}
use Rattle.std.specs.Prelude.{slice_index, slice_range}
use Rattle.std.proofs.lemmas.List.{get_or-drop}
use Rattle.c_tree.specs.Bytes.{Each, Stands}
use Rattle.c_lexer.proofs.TextLemmas.{text_spans, text_taken}

take_front : (xs ys : List ℕ) → take (length xs) (xs ++ ys) ≡ xs
take_front [] ys = refl
take_front (x ∷ xs) ys = ap (λ zs. x ∷ zs) (take_front xs ys)

-- these bytes stand there, and then those
module _ (source : List ℕ) (at : ℕ) (inside : at ≤ length source) (bytes rest : List ℕ) (there : drop at source ≡ bytes ++ rest) where
  taken : Stands source at bytes × (at + length bytes ≤ length source)
  taken = text_taken bytes source at inside (ap (take (length bytes)) there ∙ take_front bytes rest)

  pub stands : Stands source at bytes
  stands = taken.0

  pub ends_inside : at + length bytes ≤ length source
  ends_inside = taken.1

  pub range_is : slice_range source at (at + length bytes) ≡ bytes
  range_is = text_spans bytes source at (at + length bytes) ends_inside (stands, refl)

drop_front : (xs ys : List ℕ) → drop (length xs) (xs ++ ys) ≡ ys
drop_front [] ys = refl
drop_front (x ∷ xs) ys = drop_front xs ys

drop_none : (n : ℕ) → drop {A = ℕ} n [] ≡ []
drop_none zero = refl
drop_none (suc n) = refl

drop_more : (n m : ℕ) (xs : List ℕ) → drop (n + m) xs ≡ drop m (drop n xs)
drop_more zero m xs = ap (λ k. drop k xs) (omega arith)
drop_more (suc n) m [] = drop_none (suc n + m) ∙ sym (drop_none m)
drop_more (suc n) m (x ∷ xs) = let e : suc n + m ≡ suc (n + m) = omega arith in ap (λ k. drop k (x ∷ xs)) e ∙ drop_more n m xs

-- what stands behind these bytes
pub rest_is : (source : List ℕ) (at : ℕ) (bytes rest : List ℕ) → drop at source ≡ bytes ++ rest → drop (at + length bytes) source ≡ rest
rest_is source at bytes rest there = drop_more at (length bytes) source ∙ ap (drop (length bytes)) there ∙ drop_front bytes rest

pub next_is : (source : List ℕ) (at : ℕ) (bytes rest : List ℕ) → drop at source ≡ bytes ++ rest → slice_index source (at + length bytes) ≡ slice_index rest 0
next_is source at bytes rest there =
    ap (slice_index source) (omega arith) ∙ sym (get_or-drop (at + length bytes) source 0 0) ∙ ap (λ xs. slice_index xs 0) (rest_is source at bytes rest there)

-- a text of bytes that all have a property has it there
abbrev pub Have : (ℕ → Type 0) → List ℕ → Type 0
Have P [] = Unit {0}
Have P (b ∷ bytes) = P b × Have P bytes

pub each_there : (P : ℕ → Type 0) (bytes source : List ℕ) (at : ℕ) → Have P bytes → Stands source at bytes → Each P source at (at + length bytes)
each_there P [] source at h stands i after before = absurd (omega (arith, after, before))
each_there P (b ∷ bytes) source at h stands i after before = elim (here i at after) [
  | inl k ↦ subst P (sym stands.0 ∙ ap (slice_index source) (sym k)) h.0
  | inr k ↦ each_there P bytes source (at + 1) h.1 stands.1 i k (omega (arith, before))
]
  where
    here : (j at : ℕ) → at ≤ j → (j ≡ at) ⊎ (at + 1 ≤ j)
    here j at le = grind arith
