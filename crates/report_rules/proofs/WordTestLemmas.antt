-- Words that are compared, and the forms and ranges of the words at a place.
use Rattle.std.proofs.Common.{◌≡◌, ℕ, zero, suc, ◌<◌, ◌==◌, ◌&&◌, List, [], ◌∷◌, length, map, get_or, Bool, true, false, refl, ap, subst, ◌∙◌, arith}
use Rattle.std.proofs.lemmas.Bool.{false≢true}
use borrow.Author.Tests.{eq-eqb, eqb-true}
use Rattle.std.specs.Str.{all_ascii_digits}
use Rattle.report_words.specs.Words.{Word}
use Rattle.report_words.specs.declared.shapes.Shape.{Shape}
use Rattle.report_words.specs.Shapes.{has_form, is_in_range, fit, are_in_range}
use Rattle.report_words.specs.Numbers.{is_address, is_number}
use Rattle.report_words.proofs.NumberLemmas.{digits_of_number}
use Rattle.report_rules.specs.WordTests.{word_at, same_word}

and_first : (a b : Bool) → (a && b) ≡ true → a ≡ true
and_first true b e = refl
and_first false b e = e

and_second : (a b : Bool) → (a && b) ≡ true → b ≡ true
and_second true b e = e
and_second false b e = absurd (false≢true e)

same_self : (w : Word) → same_word w w ≡ true
same_self [] = refl
same_self (x ∷ xs) = rw (eq-eqb x x refl) (same_self xs)

pub same_word_same : (v w : Word) → v ≡ w → same_word v w ≡ true
same_word_same v w e = subst (λ x. same_word v x ≡ true) e (same_self v)

pub same_is : (v w : Word) → same_word v w ≡ true → v ≡ w
same_is [] [] e = refl
same_is [] (y ∷ ys) e = absurd (false≢true e)
same_is (x ∷ xs) [] e = absurd (false≢true e)
same_is (x ∷ xs) (y ∷ ys) e =
    ap (λ b. b ∷ xs) (eqb-true x y (and_first (x == y) (same_word xs ys) e)) ∙ ap (λ w. y ∷ w) (same_is xs ys (and_second (x == y) (same_word xs ys) e))

pub same_word_other : (v w : Word) → (v ≡ w → ⊥) → same_word v w ≡ false
same_word_other v w other = by (same_word v w) (same_is v w)
  where
    by : (t : Bool) → (t ≡ true → v ≡ w) → t ≡ false
    by true is = absurd (other (is refl))
    by false is = refl

-- the word at a place of a list

pub word_there : {X : Type 0} → (f : X → Word) (xs : List X) (i : ℕ) → is_address (word_at i (map f xs)) ≡ true → i < length xs
word_there f [] i e = absurd (false≢true e)
word_there f (x ∷ xs) zero e = omega arith
word_there f (x ∷ xs) (suc i) e = omega (arith, word_there f xs i e)

pub number_there : {X : Type 0} → (f : X → Word) (xs : List X) (i : ℕ) → is_number (word_at i (map f xs)) ≡ true → i < length xs
number_there f [] i e = absurd (false≢true e)
number_there f (x ∷ xs) zero e = omega arith
number_there f (x ∷ xs) (suc i) e = omega (arith, number_there f xs i e)

pub word_here : {X : Type 0} → (f : X → Word) (xs : List X) (i : ℕ) (d : X) → i < length xs → word_at i (map f xs) ≡ f (get_or xs i d)
word_here f [] i d lt = absurd (omega arith)
word_here f (x ∷ xs) zero d lt = refl
word_here f (x ∷ xs) (suc i) d lt = word_here f xs i d (omega arith)

pub digits_here : {X : Type 0} → (f : X → Word) (xs : List X) (i : ℕ) (d : X) → is_number (word_at i (map f xs)) ≡ true → all_ascii_digits (f (get_or xs i d)) ≡ true
digits_here f xs i d e = digits_of_number (f (get_or xs i d)) (subst (λ w. is_number w ≡ true) (word_here f xs i d (number_there f xs i e)) e)

-- words that fit have the forms, and where they are in range each is

pub fit_at : (ss : List Shape) (ws : List Word) (i : ℕ) (d : Shape) → i < length ss → fit ss ws ≡ true → has_form (get_or ss i d) (word_at i ws) ≡ true
fit_at [] ws i d lt e = absurd (omega arith)
fit_at (s ∷ ss) [] i d lt e = absurd (false≢true e)
fit_at (s ∷ ss) (w ∷ ws) zero d lt e = and_first (has_form s w) (fit ss ws) e
fit_at (s ∷ ss) (w ∷ ws) (suc i) d lt e = fit_at ss ws i d (omega arith) (and_second (has_form s w) (fit ss ws) e)

pub range_at : (ss : List Shape) (ws : List Word) (i : ℕ) (d : Shape) → i < length ss → fit ss ws ≡ true → are_in_range ss ws ≡ true → is_in_range (get_or ss i d) (word_at i ws) ≡ true
range_at [] ws i d lt e r = absurd (omega arith)
range_at (s ∷ ss) [] i d lt e r = absurd (false≢true e)
range_at (s ∷ ss) (w ∷ ws) zero d lt e r = and_first (is_in_range s w) (are_in_range ss ws) r
range_at (s ∷ ss) (w ∷ ws) (suc i) d lt e r = range_at ss ws i d (omega arith) (and_second (has_form s w) (fit ss ws) e) (and_second (is_in_range s w) (are_in_range ss ws) r)
