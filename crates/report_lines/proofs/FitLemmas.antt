-- Words that fit are as many as the shapes, and each has its form.
use Rattle.std.proofs.Common.{◌≡◌, ◌&&◌, List, [], ◌∷◌, length, map, Bool, true, false, refl, arith}
use Rattle.std.proofs.lemmas.Bool.{false≢true}
use Rattle.report_words.specs.Words.{Word}
use Rattle.report_words.specs.declared.shapes.Shape.{Shape}
use Rattle.report_words.specs.Shapes.{has_form, fit}
use Rattle.report_lines.specs.LineShapes.{unit_shapes}

and_second : (a b : Bool) → (a && b) ≡ true → b ≡ true
and_second true b e = e
and_second false b e = absurd (false≢true e)

pub fit_length : {X : Type 0} → (f : X → Word) (ss : List Shape) (xs : List X) → fit ss (map f xs) ≡ true → length xs ≡ length ss
fit_length f [] [] e = refl
fit_length f [] (x ∷ xs) e = absurd (false≢true e)
fit_length f (s ∷ ss) [] e = absurd (false≢true e)
fit_length f (s ∷ ss) (x ∷ xs) e = omega (arith, fit_length f ss xs (and_second (has_form s (f x)) (fit ss (map f xs)) e))

pub last_of_four : (a b c d : Bool) → (a && (b && (c && (d && true)))) ≡ true → d ≡ true
last_of_four true true true true e = refl
last_of_four true true true false e = e
last_of_four true true false d e = absurd (false≢true e)
last_of_four true false c d e = absurd (false≢true e)
last_of_four false b c d e = absurd (false≢true e)

pub front_of_eight : (a b c d r : Bool) → (a && (b && (c && (d && r)))) ≡ true → (a && (b && (c && (d && true)))) ≡ true
front_of_eight true true true true r e = refl
front_of_eight true true true false r e = absurd (false≢true e)
front_of_eight true true false d r e = absurd (false≢true e)
front_of_eight true false c d r e = absurd (false≢true e)
front_of_eight false b c d r e = absurd (false≢true e)

pub back_of_eight : (a b c d r : Bool) → (a && (b && (c && (d && r)))) ≡ true → r ≡ true
back_of_eight true true true true r e = e
back_of_eight true true true false r e = absurd (false≢true e)
back_of_eight true true false d r e = absurd (false≢true e)
back_of_eight true false c d r e = absurd (false≢true e)
back_of_eight false b c d r e = absurd (false≢true e)

pub third_of_four : (a b c d : Bool) → (a && (b && (c && (d && true)))) ≡ true → c ≡ true
third_of_four true true true d e = refl
third_of_four true true false d e = absurd (false≢true e)
third_of_four true false c d e = absurd (false≢true e)
third_of_four false b c d e = absurd (false≢true e)

pub unit_length : {X : Type 0} → (f : X → Word) (greatest : Bool) (xs : List X) → fit (unit_shapes greatest) (map f xs) ≡ true → length xs ≡ 1
unit_length f true xs e = fit_length f (unit_shapes true) xs e
unit_length f false xs e = fit_length f (unit_shapes false) xs e

pub and_true : (a b : Bool) → a ≡ (b && true) → a ≡ b
and_true a true e = e
and_true a false e = e
