-- Texts of lines and words, one behind the other.
use Rattle.std.proofs.Common.{◌≡◌, ℕ, List, [], ◌∷◌, ◌++◌, refl, sym, ap, ◌∙◌}
use Rattle.std.proofs.lemmas.List.{append_assoc, append-nil}
use Rattle.report_words.specs.Words.{Word, Line, spaced, line_text, lines_text}

pub spaced-append : (xs ys : List Word) → spaced (xs ++ ys) ≡ spaced xs ++ spaced ys
spaced-append [] ys = refl
spaced-append (x ∷ xs) ys = ap (λ t. 32 ∷ (x ++ t)) (spaced-append xs ys) ∙ ap (λ t. 32 ∷ t) (sym (append_assoc x (spaced xs) (spaced ys)))

pub lines_text-append : (xs ys : List Line) → lines_text (xs ++ ys) ≡ lines_text xs ++ lines_text ys
lines_text-append [] ys = refl
lines_text-append (x ∷ xs) ys = ap (λ t. line_text x ++ t) (lines_text-append xs ys) ∙ sym (append_assoc (line_text x) (lines_text xs) (lines_text ys))

-- a text that was lengthened twice
pub more : (t0 t1 t a rest : List ℕ) → t1 ≡ t0 ++ a → t ≡ t1 ++ rest → t ≡ t0 ++ (a ++ rest)
more t0 t1 t a rest first then = then ∙ ap (λ u. u ++ rest) first ∙ append_assoc t0 a rest

pub sides : (l r : List Word) (w : Word) → spaced (l ++ w ∷ r) ≡ spaced l ++ ((32 ∷ w) ++ spaced r)
sides l r w = spaced-append l (w ∷ r)

pub lines3 : (a b c : List Line) → lines_text (a ++ (b ++ c)) ≡ lines_text a ++ (lines_text b ++ lines_text c)
lines3 a b c = lines_text-append a (b ++ c) ∙ ap (λ t. lines_text a ++ t) (lines_text-append b c)

pub lines5 : (a b c d e : List Line) → lines_text (a ++ (b ++ (c ++ (d ++ e)))) ≡ lines_text a ++ (lines_text b ++ (lines_text c ++ (lines_text d ++ lines_text e)))
lines5 a b c d e = lines_text-append a (b ++ (c ++ (d ++ e))) ∙ ap (λ t. lines_text a ++ t) (lines_text-append b (c ++ (d ++ e)) ∙ ap (λ t. lines_text b ++ t) (lines3 c d e))

pub lines7 : (a b c d e f : List Line) (g : Line) → lines_text (a ++ (b ++ (c ++ (d ++ (e ++ (f ++ g ∷ [])))))) ≡ lines_text a ++ (lines_text b ++ (lines_text c ++ (lines_text d ++ (lines_text e ++ (lines_text f ++ line_text g)))))
lines7 a b c d e f g =
    lines_text-append a (b ++ (c ++ (d ++ (e ++ (f ++ g ∷ [])))))
    ∙ ap (λ t. lines_text a ++ t) (lines5 b c d e (f ++ g ∷ [])
    ∙ ap (λ t. lines_text b ++ (lines_text c ++ (lines_text d ++ (lines_text e ++ t)))) (lines_text-append f (g ∷ []) ∙ ap (λ t. lines_text f ++ t) (append-nil (line_text g))))

pub ends4 : (s u : Line) (p f : List Line) → lines_text (s ∷ (p ++ u ∷ f)) ≡ line_text s ++ (lines_text p ++ (line_text u ++ lines_text f))
ends4 s u p f = ap (λ t. line_text s ++ t) (lines_text-append p (u ∷ f))
