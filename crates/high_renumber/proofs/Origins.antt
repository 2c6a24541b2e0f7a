-- Which marks the marks of a renumbered program are copies of.
use Rattle.std.proofs.Common.{◌≡◌, ℕ, zero, suc, ◌+◌, ◌<◌, List, [], ◌∷◌, ◌++◌, length, map, Option, Some, None, refl, sym, ap, ◌∙◌, subst, arith}
use Rattle.std.specs.Prelude.{slice_get}
use Rattle.std.specs.List.{range_with_len}
use Rattle.std.proofs.lemmas.List.{map-append}
use Rattle.std.proofs.lemmas.List.FromFn.{length-range_with_len}
use Rattle.std.proofs.lemmas.Option.{slice_get_within}
use Rattle.high_ir.specs.Meaning.{Labels, World}
use Rattle.high_ir.specs.Runs.{calls, rank_or}
use Rattle.high_ir.specs.Standing.{loops_of, marks_in, marks_of}
use Rattle.high_ir.specs.Tree.{Function}
use Rattle.high_renumber.specs.Numbered.{functions_numbered, mark_origins}
use Rattle.high_renumber.proofs.Following.{LabelsFollow}
use Rattle.high_renumber.proofs.Running.{Labelled, calls-numbered}

-- a mark of the new program has the label of its origin
abbrev pub by_origin : List ℕ → Labels
by_origin os k = slice_get os k

-- the trace by the marks themselves, and by their origins
abbrev pub Marked : List ℕ → List ℕ → List ℕ → Type 0
Marked os s t = map Some s ≡ map (slice_get os) t

pub marked_follows : (os : List ℕ) (k : ℕ) (o : Option ℕ) → slice_get os k ≡ o → LabelsFollow (Marked os) o (Some k)
marked_follows os k None e = tt
marked_follows os k (Some x) e = (k, refl, λ s t r. map-append Some s (x ∷ []) ∙ ap (λ l. l ++ Some x ∷ []) r ∙ ap (λ o. map (slice_get os) t ++ o ∷ []) (sym e) ∙ sym (map-append (slice_get os) t (k ∷ [])))

-- the origins label the marks as they stand
module _ (os : List ℕ) where
  labels_from : (m : ℕ) (ks : List ℕ) → ((i x : ℕ) → slice_get ks i ≡ Some x → slice_get os (m + i) ≡ Some x) → Labelled Some (by_origin os) m ks
  labels_from m [] h = tt
  labels_from m (k ∷ ks) h =
      let z : m + 0 ≡ m = omega arith in
      (subst (λ n. slice_get os n ≡ Some k) z (h 0 k refl), labels_from (m + 1) ks (λ i x e. let y : m + suc i ≡ m + 1 + i = omega arith in subst (λ n. slice_get os n ≡ Some x) y (h (suc i) x e)))

slice_get-append_back : {A : Type 0} (xs ys : List A) (i : ℕ) → slice_get (xs ++ ys) (length xs + i) ≡ slice_get ys i
slice_get-append_back [] ys i = let z : 0 + i ≡ i = omega arith in ap (slice_get ys) z
slice_get-append_back (x ∷ xs) ys i = let z : length (x ∷ xs) + i ≡ suc (length xs + i) = omega arith in ap (slice_get (x ∷ (xs ++ ys))) z ∙ slice_get-append_back xs ys i

slice_get-append_front : {A : Type 0} (xs ys : List A) (i : ℕ) (x : A) → slice_get xs i ≡ Some x → slice_get (xs ++ ys) i ≡ Some x
slice_get-append_front [] ys i x e = cc
slice_get-append_front (y ∷ xs) ys zero x e = e
slice_get-append_front (y ∷ xs) ys (suc i) x e = slice_get-append_front xs ys i x e

slice_get-range : (a n i : ℕ) → i < n → slice_get (range_with_len a n) i ≡ Some (a + i)
slice_get-range a zero i lt = absurd (omega (arith, lt))
slice_get-range a (suc n) zero lt = let z : a ≡ a + 0 = omega arith in ap Some z
slice_get-range a (suc n) (suc i) lt = let z : a + 1 + i ≡ a + suc i = omega arith in slice_get-range (a + 1) n i (omega (arith, lt)) ∙ ap Some z

module _ (fs : List Function) where
  abbrev os : List ℕ
  os = mark_origins fs

  -- an opening mark is its own origin
  pub opening_origin : (f : ℕ) → f < length fs → slice_get os f ≡ Some f
  opening_origin f lt =
      let z : 0 + f ≡ f = omega arith in
      slice_get-append_front (range_with_len 0 (length fs)) (marks_in fs) f f (slice_get-range 0 (length fs) f lt ∙ ap Some z)

  pub other_origin : (i x : ℕ) → slice_get (marks_in fs) i ≡ Some x → slice_get os (length fs + i) ≡ Some x
  other_origin i x e =
      ap (λ n. slice_get os (n + i)) (sym (length-range_with_len 0 (length fs)))
      ∙ slice_get-append_back (range_with_len 0 (length fs)) (marks_in fs) i ∙ e

  pub labels_of : Labelled Some (by_origin os) (length fs) (marks_in fs)
  labels_of = labels_from os (length fs) (marks_in fs) other_origin

  -- the numbered functions, by the origins, do what the functions do
  pub numbered_calls : (depth f : ℕ) (values arrays : List ℕ) (w : World) (t : List ℕ) → calls (by_origin os) (functions_numbered (length fs) 0 fs) depth f values arrays w t ≡ calls Some fs depth f values arrays w t
  numbered_calls depth f values arrays w t =
      calls-numbered Some (by_origin os) fs (length fs) 0 labels_of
      (λ g h found. opening_origin g (slice_get_within fs g h found)) depth f values arrays w t

-- ranks are kept
pub rank_or-numbered : (m n : ℕ) (fs : List Function) (f d : ℕ) → rank_or (functions_numbered m n fs) f d ≡ rank_or fs f d
rank_or-numbered m n [] f d = refl
rank_or-numbered m n (h ∷ fs) zero d = refl
rank_or-numbered m n (h ∷ fs) (suc f) d = rank_or-numbered (m + length (marks_of h.body)) (n + length (loops_of h.body)) fs f d
