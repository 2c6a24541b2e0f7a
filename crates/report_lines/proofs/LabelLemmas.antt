-- A label that isn't `-` is a name.
use Rattle.std.proofs.Common.{◌≡◌, ◌==◌, ◌&&◌, ◌||◌, [], ◌∷◌, Bool, true, false, refl, ap, codes}
use Rattle.std.proofs.lemmas.Bool.{false≢true}
use borrow.Author.Tests.{eqb-true}
use Rattle.report_words.specs.Words.{Word, is_name}
use Rattle.report_words.specs.Shapes.{is_dash}

dash_by : (t u : Bool) (b : Word) → (t && u) ≡ true → (t ≡ true) × (u ≡ true)
dash_by true true b e = (refl, refl)
dash_by true false b e = absurd (false≢true e)
dash_by false u b e = absurd (false≢true e)

dash_is : (w : Word) → is_dash w ≡ true → w ≡ codes "-"
dash_is [] e = absurd (false≢true e)
dash_is (b ∷ []) e = ap (λ c. c ∷ []) (eqb-true b 45 (dash_by (b == 45) true [] e).0)
dash_is (b ∷ c ∷ cs) e = absurd (false≢true (dash_by (b == 45) false [] e).1)

pub named_else : (w : Word) → (is_dash w || is_name w) ≡ true → (w ≡ codes "-" → ⊥) → is_name w ≡ true
named_else w e other = by (is_dash w) (dash_is w) e
  where
    by : (t : Bool) → (t ≡ true → w ≡ codes "-") → (t || is_name w) ≡ true → is_name w ≡ true
    by true is e = absurd (other (is refl))
    by false is e = e
