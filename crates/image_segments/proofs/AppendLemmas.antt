-- Segments that are put one behind the other, where they aren't empty.
use Rattle.std.proofs.Common.{◌≡◌, Bool, true, false, List, [], ◌∷◌, ◌++◌, refl, sym, ap, ◌∙◌, append_assoc, if◌then◌else◌}
use Rattle.std.specs.Prelude.{◌==◌}
use Rattle.rv_core.specs.declared.image.Segment.{Segment}
use Rattle.image_segments.specs.Segments.{present}

present-append : (xs ys : List Segment) → present (xs ++ ys) ≡ present xs ++ present ys
present-append [] ys = refl
present-append (x ∷ xs) ys = by (x.size == 0) (present-append xs ys)
  where
    by : (b : Bool) → present (xs ++ ys) ≡ present xs ++ present ys → (if b then present (xs ++ ys) else x ∷ present (xs ++ ys)) ≡ (if b then present xs else x ∷ present xs) ++ present ys
    by true h = h
    by false h = ap (λ ss. x ∷ ss) h

-- those of two lists, one behind the other
pub put_more : (a b c : List Segment) (xs ys : List Segment) → b ≡ a ++ present xs → c ≡ b ++ present ys → c ≡ a ++ present (xs ++ ys)
put_more a b c xs ys first second = second ∙ (ap (λ l. l ++ present ys) first ∙ (append_assoc a (present xs) (present ys) ∙ ap (λ l. a ++ l) (sym (present-append xs ys))))
