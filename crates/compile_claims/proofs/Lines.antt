-- One copy line more.
use Rattle.std.proofs.Common.{◌≡◌, ℕ, zero, suc, ◌+◌, ◌<◌, List, [], ◌∷◌, ◌++◌, length, take, get_or, refl, sym, ap, ◌∙◌, subst, arith}
use Rattle.std.proofs.lemmas.List.{take_more}
use Rattle.c_tree.specs.declared.expression.NameId.{NameId}
use Rattle.high_pass.specs.Listing.{MarkEntry}
use Rattle.report_text.specs.declared.entries.CopyLine.{CopyLine}
use Rattle.compile_claims.specs.CopyLines.{AreLinesOf, IsLineOf}

module _ (names : List (List ℕ)) (places : List (List ℕ)) where
  push : (ids : List NameId) (es : List MarkEntry) (cs : List CopyLine) (id : NameId) (e : MarkEntry) (c : CopyLine)
      → length ids ≡ length es → AreLinesOf names places ids es cs → IsLineOf names places id e.new c → AreLinesOf names places (ids ++ id ∷ []) (es ++ e ∷ []) (cs ++ c ∷ [])
  push [] [] [] id e c same h line = (line, tt)
  push [] [] (x ∷ cs) id e c same h line = absurd h
  push [] (y ∷ es) cs id e c same h line = absurd (omega (arith, same))
  push (i ∷ ids) [] cs id e c same h line = absurd (omega (arith, same))
  push (i ∷ ids) (y ∷ es) [] id e c same h line = absurd h
  push (i ∷ ids) (y ∷ es) (x ∷ cs) id e c same h line = (h.0, push ids es cs id e c (omega (arith, same)) h.1 line)

  taken : {A B : Type 0} (xs : List A) (ys : List B) (n : ℕ) → length xs ≡ length ys → length (take n xs) ≡ length (take n ys)
  taken xs ys zero same = refl
  taken [] [] (suc n) same = refl
  taken [] (y ∷ ys) (suc n) same = absurd (omega (arith, same))
  taken (x ∷ xs) [] (suc n) same = absurd (omega (arith, same))
  taken (x ∷ xs) (y ∷ ys) (suc n) same = ap suc (taken xs ys n (omega (arith, same)))

  pub one_more : (ids : List NameId) (es : List MarkEntry) (cs : List CopyLine) (n : ℕ) (id : NameId) (e : MarkEntry) (c : CopyLine)
      → length ids ≡ length es → n < length ids → id ≡ get_or ids n id → e ≡ get_or es n e → AreLinesOf names places (take n ids) (take n es) cs → IsLineOf names places id e.new c
      → AreLinesOf names places (take (n + 1) ids) (take (n + 1) es) (cs ++ c ∷ [])
  one_more ids es cs n id e c same lt is_id is_e h line =
      let more_ids = ap (λ z. take n ids ++ z ∷ []) is_id ∙ sym (take_more ids n id lt) in
      let more_es = ap (λ z. take n es ++ z ∷ []) is_e ∙ sym (take_more es n e (omega (arith, same, lt))) in
      subst (λ l. AreLinesOf names places l (take (n + 1) es) (cs ++ c ∷ [])) more_ids
      (subst (λ l. AreLinesOf names places (take n ids ++ id ∷ []) l (cs ++ c ∷ [])) more_es (push (take n ids) (take n es) cs id e c (taken ids es n same) h line))
