-- Parameters, by where they live and what a call hands over.
use Rattle.std.proofs.Common.{◌≡◌, ⊎_elim, ℕ, zero, suc, ◌+◌, ◌<◌, ◌≤◌, true, List, [], ◌∷◌, ◌++◌, length, map, replicate, Option, Some, None, sym, ap, ◌∙◌, arith}
use Rattle.std.specs.Prelude.{◌==◌, ◌&&◌, nat_le, nat_lt, slice_get, slice_index_or}
use Rattle.std.proofs.lemmas.Bool.{and_parts, cases_eq, eq-eqb, leb-true, ltb-true}
use Rattle.std.proofs.lemmas.List.{length-append, length-map, length-replicate}
use Rattle.std.proofs.lemmas.Option.{none-some}
use Rattle.high_ir.specs.Tree as high
use Rattle.high_ir.specs.Runs.{frame, takes}
use Rattle.plan_definition.specs.declared.home.Home.{Home}
use Rattle.plan_definition.specs.declared.home.Home.TheVariants.{Frame, Memory}
use Rattle.plan_runs.specs.Claims.{Handed}
use Rattle.plan_runs.specs.ExpressionFits.{Formal, OfWord, OfArray}
use Rattle.plan_runs.specs.Meets.{Layout, home}
use Rattle.plan_runs.proofs.Stores.{no_array}
use Rattle.plan_runs.specs.Serves.{AreParameters, are_from, arrays_in, words_in}

-- an object among others, by their numbers
pub from_parts : (first count o : ℕ) → are_from first count o ≡ true → (first ≤ o) × (o < first + count)
from_parts first count o h = let parts = and_parts (nat_le first o) (nat_lt o (first + count)) h in (leb-true first o parts.0, ltb-true o (first + count) parts.1)

-- what is handed over, as often as it is asked
pub handed_values : (layout : Layout) (formals : List Formal) (words vs ns : List ℕ) → Handed layout formals words vs ns → length vs ≡ words_in formals
handed_values layout [] [] vs ns h = ap length h.0
handed_values layout [] (w ∷ words) vs ns h = absurd h
handed_values layout (formal ∷ formals) [] vs ns h = absurd h
handed_values layout (OfWord kind ∷ formals) (w ∷ words) vs ns h = ap length h.1 ∙ one_more (length h.0) (words_in formals) (handed_values layout formals words h.0 ns h.3)
  where
    one_more : (a b : ℕ) → a ≡ b → suc a ≡ b + 1
    one_more a b e = omega (arith, e)
handed_values layout (OfArray kind constant ∷ formals) (w ∷ words) vs ns h = handed_values layout formals words vs h.1 h.4

pub handed_arrays : (layout : Layout) (formals : List Formal) (words vs ns : List ℕ) → Handed layout formals words vs ns → length ns ≡ arrays_in formals
handed_arrays layout [] [] vs ns h = ap length h.1
handed_arrays layout [] (w ∷ words) vs ns h = absurd h
handed_arrays layout (formal ∷ formals) [] vs ns h = absurd h
handed_arrays layout (OfWord kind ∷ formals) (w ∷ words) vs ns h = handed_arrays layout formals words h.0 ns h.3
handed_arrays layout (OfArray kind constant ∷ formals) (w ∷ words) vs ns h = ap length h.2 ∙ one_more (length h.1) (arrays_in formals) (handed_arrays layout formals words vs h.1 h.4)
  where
    one_more : (a b : ℕ) → a ≡ b → suc a ≡ b + 1
    one_more a b e = omega (arith, e)

-- a parameter in a variable stands among the first of them
pub parameter_below : (layout : Layout) (formals : List Formal) (first variable parameter : ℕ) → AreParameters layout first variable parameter formals → (o x : ℕ) → first ≤ o → o < first + length formals → home layout o ≡ Frame x → x < variable + words_in formals
parameter_below layout [] first variable parameter are o x le lt lives = absurd (nothing first o le lt)
  where
    nothing : (a b : ℕ) → a ≤ b → b < a + 0 → ⊥
    nothing a b le lt = omega (arith, le, lt)
parameter_below layout (OfWord kind ∷ formals) first variable parameter are o x le lt lives = ⊎_elim
    (λ (same : o ≡ first). here x variable (words_in formals) (frame_number x variable (sym lives ∙ ap (home layout) same ∙ are.0)))
    (λ (other : o ≡ first → ⊥). there x variable (words_in formals) (parameter_below layout formals (first + 1) (variable + 1) parameter are.2 o x (above first o le other) (behind first o (length formals) lt) lives))
    (cases_eq o first)
  where
    frame_number : (a b : ℕ) → Frame a ≡ Frame b → a ≡ b
    frame_number a b e = ap number e
      where
        number : Home → ℕ
        number (Frame n) = n
        number (Memory array) = 0

    here : (x v n : ℕ) → x ≡ v → x < v + (n + 1)
    here x v n e = omega (arith, e)

    there : (x v n : ℕ) → x < v + 1 + n → x < v + (n + 1)
    there x v n lt = omega (arith, lt)

    above : (a b : ℕ) → a ≤ b → (b ≡ a → ⊥) → a + 1 ≤ b
    above a b le other = omega (arith, le, other)

    behind : (a b n : ℕ) → b < a + suc n → b < a + 1 + n
    behind a b n lt = omega (arith, lt)
parameter_below layout (OfArray kind constant ∷ formals) first variable parameter are o x le lt lives = ⊎_elim
    (λ (same : o ≡ first). absurd (no_array x are.0.array (sym lives ∙ ap (home layout) same ∙ are.0.lives)))
    (λ (other : o ≡ first → ⊥). parameter_below layout formals (first + 1) variable (parameter + 1) are.3 o x (above first o le other) (behind first o (length formals) lt) lives)
    (cases_eq o first)
  where
    above : (a b : ℕ) → a ≤ b → (b ≡ a → ⊥) → a + 1 ≤ b
    above a b le other = omega (arith, le, other)

    behind : (a b n : ℕ) → b < a + suc n → b < a + 1 + n
    behind a b n lt = omega (arith, lt)

-- a frame at a call
pub frame_holds : (vs : List ℕ) (locals i u : ℕ) → slice_get vs i ≡ Some u → slice_index_or (map Some vs ++ replicate locals None) i None ≡ Some u
frame_holds [] locals i u is = absurd (none-some u is)
frame_holds (v ∷ vs) locals zero u is = is
frame_holds (v ∷ vs) locals (suc i) u is = frame_holds vs locals i u is

abbrev unwritten : Option ℕ
unwritten = None

pub frame_length : (h : high.Function) (vs : List ℕ) → length vs ≡ h.values → length (frame h vs) ≡ h.values + h.locals
frame_length h vs e =
    length-append (map Some vs) (replicate h.locals unwritten)
    ∙ sums (length (map Some vs)) h.values (length (replicate h.locals unwritten)) h.locals (length-map vs Some ∙ e) (length-replicate h.locals unwritten)
  where
    sums : (a b c d : ℕ) → a ≡ b → c ≡ d → a + c ≡ b + d
    sums a b c d e f = omega (arith, e, f)

pub takes_is : (h : high.Function) (vs ns : List ℕ) → length vs ≡ h.values → length ns ≡ h.arrays → takes h vs ns ≡ true
takes_is h vs ns a b = ap (λ t. t && (length ns == h.arrays)) (eq-eqb (length vs) h.values a) ∙ eq-eqb (length ns) h.arrays b
