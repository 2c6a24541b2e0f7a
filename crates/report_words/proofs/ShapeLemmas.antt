-- Words that fit shapes, by index.
use Rattle.std.proofs.Common.{◌≡◌, ℕ, zero, suc, ◌<◌, ◌&&◌, List, [], ◌∷◌, length, map, drop, get_or, Bool, true, false, refl, arith}
use Rattle.std.proofs.lemmas.Bool.{false≢true}
use Rattle.report_words.specs.Words.{Word}
use Rattle.report_words.specs.declared.shapes.Shape.{Shape}
use Rattle.report_words.specs.Shapes.{has_form, fit}

and_first : (a b : Bool) → (a && b) ≡ true → a ≡ true
and_first true b e = refl
and_first false b e = e

false_and : (a b : Bool) → false ≡ b → false ≡ (a && b)
false_and true b e = e
false_and false b e = refl

-- not as many words as shapes
pub unlike_lengths : {X : Type 0} → (f : X → Word) (ss : List Shape) (xs : List X) → (length ss ≡ length xs → ⊥) → false ≡ fit ss (map f xs)
unlike_lengths f [] [] other = absurd (other refl)
unlike_lengths f [] (x ∷ xs) other = refl
unlike_lengths f (s ∷ ss) [] other = refl
unlike_lengths f (s ∷ ss) (x ∷ xs) other = false_and (has_form s (f x)) (fit ss (map f xs)) (unlike_lengths f ss xs (λ e. other (omega (arith, e))))

none_left : (ss : List Shape) (i : ℕ) → fit (drop i ss) [] ≡ true → i < length ss → ⊥
none_left [] i h lt = omega arith
none_left (s ∷ ss) zero h lt = false≢true h
none_left (s ∷ ss) (suc i) h lt = none_left ss i h (omega arith)

pub word_there : {X : Type 0} → (f : X → Word) (ss : List Shape) (xs : List X) (i : ℕ) → fit (drop i ss) (map f (drop i xs)) ≡ true → i < length ss → i < length xs
word_there f [] xs i h lt = absurd (omega arith)
word_there f (s ∷ ss) [] zero h lt = absurd (false≢true h)
word_there f (s ∷ ss) [] (suc i) h lt = absurd (none_left (s ∷ ss) (suc i) h lt)
word_there f (s ∷ ss) (x ∷ xs) zero h lt = omega arith
word_there f (s ∷ ss) (x ∷ xs) (suc i) h lt = omega (arith, word_there f ss xs i h (omega arith))

pub form_there : {X : Type 0} → (f : X → Word) (ss : List Shape) (xs : List X) (i : ℕ) (d : Shape) (e : X) → fit (drop i ss) (map f (drop i xs)) ≡ true → i < length ss → has_form (get_or ss i d) (f (get_or xs i e)) ≡ true
form_there f [] xs i d e h lt = absurd (omega arith)
form_there f (s ∷ ss) [] zero d e h lt = absurd (false≢true h)
form_there f (s ∷ ss) [] (suc i) d e h lt = absurd (none_left (s ∷ ss) (suc i) h lt)
form_there f (s ∷ ss) (x ∷ xs) zero d e h lt = and_first (has_form s (f x)) (fit ss (map f xs)) h
form_there f (s ∷ ss) (x ∷ xs) (suc i) d e h lt = form_there f ss xs i d e h (omega arith)
