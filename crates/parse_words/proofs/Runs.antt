-- Runs of letters and digits in a text, byte by byte.
use Rattle.std.proofs.Common.{◌≡◌, ℕ, ◌+◌, ◌-◌, ◌<◌, ◌≤◌, Bool, true, false, List, [], ◌∷◌, ◌++◌, length, drop, take, refl, sym, ap, ◌∙◌, arith, add-one, drop-cons, length-drop}
use Rattle.std.specs.Prelude.{if◌then◌else◌, slice_index, slice_range}
use Rattle.std.proofs.lemmas.List.{get_or-drop, take_more}
use Rattle.c_tree.specs.Bytes.{is_letter, is_name_byte}
use Rattle.c_tree.specs.Names.{with_names}
use Rattle.c_tree.specs.Pragmas.{names_from, with_run}

-- a run that is taken in, and then those behind it
with_run-split : (names : List (List ℕ)) (run : List ℕ) (more : List (List ℕ)) → with_names names (with_run run more) ≡ with_names (with_names names (with_run run [])) more
with_run-split names [] more = refl
with_run-split names (b ∷ bytes) more = by (is_letter b)
  where
    by : (letter : Bool) → with_names names (if letter then (b ∷ bytes) ∷ more else more) ≡ with_names (with_names names (if letter then (b ∷ bytes) ∷ [] else [])) more
    by true = refl
    by false = refl

module _ (rest : List ℕ) (from at : ℕ) (names : List (List ℕ)) (ordered : from ≤ at) (within : at < length rest) where
  byte : drop at rest ≡ slice_index rest at ∷ drop (at + 1) rest
  byte = rw add-one (drop-cons rest at 0 within)

  -- the run with one byte more
  longer : slice_range rest from (at + 1) ≡ slice_range rest from at ++ slice_index rest at ∷ []
  longer =
      let size : at + 1 - from ≡ at - from + 1 = omega arith in
      let place : from + (at - from) ≡ at = omega arith in
      ap (λ n. take n (drop from rest)) size
      ∙ take_more (drop from rest) (at - from) 0 (omega (arith, length-drop from rest))
      ∙ ap (λ b. slice_range rest from at ++ b ∷ []) (get_or-drop from rest (at - from) 0 ∙ ap (slice_index rest) place)

  by_test : (test : Bool) → is_name_byte (slice_index rest at) ≡ test → names_from (slice_range rest from at) (drop at rest) ≡ (if test then names_from (slice_range rest from at ++ slice_index rest at ∷ []) (drop (at + 1) rest) else with_run (slice_range rest from at) (names_from [] (drop (at + 1) rest)))
  by_test test e = rw (byte, e) refl

  pub goes_on : is_name_byte (slice_index rest at) ≡ true → with_names names (names_from (slice_range rest from (at + 1)) (drop (at + 1) rest)) ≡ with_names names (names_from (slice_range rest from at) (drop at rest))
  goes_on e = ap (with_names names) (ap (λ run. names_from run (drop (at + 1) rest)) longer ∙ sym (by_test true e))

  pub ends : is_name_byte (slice_index rest at) ≡ false → with_names (with_names names (with_run (slice_range rest from at) [])) (names_from (slice_range rest (at + 1) (at + 1)) (drop (at + 1) rest)) ≡ with_names names (names_from (slice_range rest from at) (drop at rest))
  ends e =
      let none : slice_range rest (at + 1) (at + 1) ≡ [] = let size : at + 1 - (at + 1) ≡ 0 = omega arith in ap (λ n. take n (drop (at + 1) rest)) size in
      ap (λ run. with_names (with_names names (with_run (slice_range rest from at) [])) (names_from run (drop (at + 1) rest))) none
      ∙ sym (with_run-split names (slice_range rest from at) (names_from [] (drop (at + 1) rest)))
      ∙ ap (with_names names) (sym (by_test false e))
