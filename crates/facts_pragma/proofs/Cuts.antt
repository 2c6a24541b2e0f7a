-- Where a run ends.
use Rattle.std.proofs.Common.{◌≡◌, refl, ap, sym, ◌∙◌, ℕ, ◌<◌, suc, List, [], ◌∷◌, ◌++◌, length, take, drop, get_or, arith, Bool, true, false}
use Rattle.std.proofs.Math.Seq.{drop-cons}
use Rattle.std.proofs.lemmas.List.{length-take}
use Rattle.std.specs.Prelude.{if◌then◌else◌}
use Rattle.facts_definitions.specs.PragmaTexts.{runs, runs_from, same_class, with_run}
use Rattle.c_tree.specs.Bytes.{is_name_byte}
use Rattle.c_tree.specs.Pragmas.{is_gap}

-- one byte before others
abbrev step : (gap class named : Bool) (run : List ℕ) (b : ℕ) (bytes : List ℕ) → List (List ℕ)
step gap class named run b bytes =
    if gap then with_run run (runs_from named [] bytes)
    else (if same_class named class then runs_from named (run ++ b ∷ []) bytes
    else with_run run (runs_from class (b ∷ []) bytes))

any_class : (n m : Bool) (bytes : List ℕ) → runs_from n [] bytes ≡ runs_from m [] bytes
any_class n m [] = refl
any_class n m (b ∷ bytes) = by (is_gap b) (is_name_byte b) n m (any_class n m bytes)
  where
    by : (gap class n m : Bool) → runs_from n [] bytes ≡ runs_from m [] bytes → step gap class n [] b bytes ≡ step gap class m [] b bytes
    by true class n m h = h
    by false true true true h = refl
    by false true true false h = refl
    by false true false true h = refl
    by false true false false h = refl
    by false false true true h = refl
    by false false true false h = refl
    by false false false true h = refl
    by false false false false h = refl

with_some : (run : List ℕ) (more : List (List ℕ)) → 0 < length run → with_run run more ≡ run ∷ more
with_some [] more h = absurd (omega (arith, h))
with_some (b ∷ run) more h = refl

-- a run begins with its first byte
pub begins : (b : ℕ) (bytes : List ℕ) → is_gap b ≡ false → runs (b ∷ bytes) ≡ runs_from (is_name_byte b) (b ∷ []) bytes
begins b bytes e = rw e (by (is_name_byte b))
  where
    by : (class : Bool) → step false class true [] b bytes ≡ runs_from class (b ∷ []) bytes
    by true = refl
    by false = refl

pub goes_on : (named : Bool) (run : List ℕ) (b : ℕ) (bytes : List ℕ) → is_gap b ≡ false → same_class named (is_name_byte b) ≡ true → runs_from named run (b ∷ bytes) ≡ runs_from named (run ++ b ∷ []) bytes
goes_on named run b bytes e f = rw (e, f) refl

pub ends_at_blank : (named : Bool) (run : List ℕ) (b : ℕ) (bytes : List ℕ) → is_gap b ≡ true → 0 < length run → runs_from named run (b ∷ bytes) ≡ run ∷ runs (b ∷ bytes)
ends_at_blank named run b bytes e h = rw e (with_some run (runs_from named [] bytes) h ∙ ap (λ more. run ∷ more) (any_class named true bytes))

pub ends_at_class : (named : Bool) (run : List ℕ) (b : ℕ) (bytes : List ℕ) → is_gap b ≡ false → same_class named (is_name_byte b) ≡ false → 0 < length run → runs_from named run (b ∷ bytes) ≡ run ∷ runs (b ∷ bytes)
ends_at_class named run b bytes e f h =
    let first : runs_from named run (b ∷ bytes) ≡ with_run run (runs_from (is_name_byte b) (b ∷ []) bytes) = rw (e, f) refl in
    first ∙ with_some run (runs_from (is_name_byte b) (b ∷ []) bytes) h ∙ ap (λ more. run ∷ more) (sym (begins b bytes e))

pub ends_at_end : (named : Bool) (run : List ℕ) → 0 < length run → runs_from named run [] ≡ run ∷ runs []
ends_at_end named run h = with_some run [] h

module _ (named : Bool) (text : List ℕ) (at : ℕ) (within : at < length text) (some : 0 < at) where
  taken : 0 < length (take at text)
  taken = let size = length-take at text in omega (arith, within, some, size)

  pub cut_at_blank : is_gap (get_or text at 0) ≡ true → runs_from named (take at text) (drop at text) ≡ take at text ∷ runs (drop at text)
  cut_at_blank e = rw (drop-cons text at 0 within) (ends_at_blank named (take at text) (get_or text at 0) (drop (suc at) text) e taken)

  pub cut_at_class : is_gap (get_or text at 0) ≡ false → same_class named (is_name_byte (get_or text at 0)) ≡ false → runs_from named (take at text) (drop at text) ≡ take at text ∷ runs (drop at text)
  cut_at_class e f = rw (drop-cons text at 0 within) (ends_at_class named (take at text) (get_or text at 0) (drop (suc at) text) e f taken)
