-- Which objects are in a claim, by object.
use Rattle.std.proofs.Common.{◌≡◌, ℕ, ◌+◌, ◌<◌, inl, inr, get_or, take, List, [], ◌∷◌, ◌++◌, length, Bool, true, false, refl, sym, ap, ◌∙◌, subst, arith}
use Rattle.std.specs.Prelude.{◌==◌, ◌≢◌, ◌⊎◌, if◌then◌else◌, slice_index_or, slice_set}
use Rattle.std.proofs.lemmas.Bool.{cases_eq}
use Rattle.std.proofs.lemmas.Bool.Decides.{nat_tests}
use Rattle.std.proofs.lemmas.List.{get_or-set_same, get_or-set_other, length-set, take_more}
use Rattle.low_ir.specs.Effects.{is_member}
use Rattle.low_make.specs.Marks.{Marks}

member_append : (xs ys : List ℕ) (o : ℕ) → is_member (xs ++ ys) o ≡ (if is_member xs o then true else is_member ys o)
member_append [] ys o = refl
member_append (x ∷ xs) ys o = by_test (x == o) (member_append xs ys o)
  where
    by_test : (b : Bool) → is_member (xs ++ ys) o ≡ (if is_member xs o then true else is_member ys o) →
        (if b then true else is_member (xs ++ ys) o) ≡ (if (if b then true else is_member xs o) then true else is_member ys o)
    by_test true e = refl
    by_test false e = e

or_true : (b : Bool) → (if b then true else true) ≡ true
or_true true = refl
or_true false = refl

or_false : (b : Bool) → (if b then true else false) ≡ b
or_false true = refl
or_false false = refl

same_test : (x o : ℕ) → x ≡ o → (x == o) ≡ true
same_test x o e = grind (arith, nat_tests, e)

other_test : (x o : ℕ) → x ≢ o → (x == o) ≡ false
other_test x o e = grind (arith, nat_tests, e)

-- one object more is marked
pub marks_more : (seen : List Bool) (claim : List ℕ) (x : ℕ) → Marks seen claim → Marks (slice_set seen x true) (claim ++ x ∷ [])
marks_more seen claim x marks o within = by_cases (cases_eq x o)
  where
    inside : o < length seen
    inside = subst (λ n. o < n) (length-set seen x true) within

    by_cases : (x ≡ o) ⊎ (x ≢ o) → slice_index_or (slice_set seen x true) o false ≡ is_member (claim ++ x ∷ []) o
    by_cases (inl e) =
        subst (λ y. slice_index_or (slice_set seen y true) o false ≡ true) (sym e) (get_or-set_same seen o true false inside)
        ∙ sym (member_append claim (x ∷ []) o ∙ ap (λ b. if is_member claim o then true else (if b then true else false)) (same_test x o e) ∙ or_true (is_member claim o))
    by_cases (inr n) =
        get_or-set_other seen x o true false (λ e. n (sym e))
        ∙ marks o inside
        ∙ sym (member_append claim (x ∷ []) o ∙ ap (λ b. if is_member claim o then true else (if b then true else false)) (other_test x o n) ∙ or_false (is_member claim o))

pub marks_pushed : (seen new : List Bool) (claim now : List ℕ) (x : ℕ) → new ≡ slice_set seen x true → now ≡ claim ++ x ∷ [] → Marks seen claim → Marks new now
marks_pushed seen new claim now x marked pushed marks =
    subst (λ s. Marks s now) (sym marked) (subst (Marks (slice_set seen x true)) (sym pushed) (marks_more seen claim x marks))

pub marks_at : (seen new : List Bool) (claim : List ℕ) (i : ℕ) → i < length claim → new ≡ slice_set seen (get_or claim i 0) true → Marks seen (take i claim) → Marks new (take (i + 1) claim)
marks_at seen new claim i lt marked marks = marks_pushed seen new (take i claim) (take (i + 1) claim) (get_or claim i 0) marked (take_more claim i 0 lt) marks
