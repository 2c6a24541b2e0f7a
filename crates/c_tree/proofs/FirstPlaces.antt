-- The place of the first item.
use Rattle.std.proofs.Common.{◌≡◌, ℕ, List, [], ◌∷◌, Option, Some, None, slice_get, ap, ◌∙◌}
use Rattle.c_tree.specs.declared.external.External as externals
use Rattle.c_tree.specs.Formed.{IsFirstPlace, external_place}
use Rattle.c_tree.specs.Tree.{Row, Nothing, Then, External}
use Rattle.c_tree.specs.View.{external_of, row_of}

first_kept : (at : ℕ) (front : Row (External ℕ)) (middle : External ℕ) (xs : List externals.External) → IsFirstPlace at (Then front middle) → IsFirstPlace at (row_of external_of (Then front middle) xs)
first_kept at front middle [] h = h
first_kept at front middle (x ∷ xs) h = first_kept at (Then front middle) (external_of x) xs h

pub first_place : (xs : List externals.External) (x : externals.External) (at : ℕ) → Some x ≡ slice_get xs 0 → at ≡ external_place (external_of x) → IsFirstPlace at (row_of external_of Nothing xs)
first_place [] x at e h = absurd (no_first e)
  where
    no_first : ◌≡◌ {A = Option externals.External} (Some x) None → ⊥
    no_first e = cc
first_place (y ∷ ys) x at e h = first_kept at Nothing (external_of y) ys (h ∙ ap (λ z. external_place (external_of z)) (same e))
  where
    same : ◌≡◌ {A = Option externals.External} (Some x) (Some y) → x ≡ y
    same e = cc
