-- A list that is made element by element, where one may be missing.
use Rattle.std.proofs.Common.{◌≡◌, ℕ, suc, ◌+◌, ◌<◌, List, [], ◌∷◌, ◌++◌, length, get_or, drop, drop-cons, Option, Some, None, refl, sym, ap, ◌∙◌, arith}
use Rattle.std.proofs.lemmas.List.{append_assoc}
use Rattle.high_ir.specs.Meaning.{at_value}

-- a list behind what is made already
abbrev pub behind : List ℕ → Option (List ℕ) → Option (List ℕ)
behind made None = None
behind made (Some xs) = Some (made ++ xs)

pub behind-nil : (o : Option (List ℕ)) → behind [] o ≡ o
behind-nil None = refl
behind-nil (Some xs) = refl

-- one more is made
behind_more : (made : List ℕ) (x : ℕ) (o : Option (List ℕ)) → behind made (at_value o (λ xs. Some (x ∷ xs))) ≡ behind (made ++ x ∷ []) o
behind_more made x None = refl
behind_more made x (Some xs) = ap Some (sym (append_assoc made (x ∷ []) xs))

drop_item : {A : Type 0} (xs : List A) (i : ℕ) (x : A) → i < length xs → x ≡ get_or xs i x → drop i xs ≡ x ∷ drop (i + 1) xs
drop_item xs i x lt read =
    let e : i + 1 ≡ suc i = omega arith in
    drop-cons xs i x lt ∙ ap (λ y. y ∷ drop (suc i) xs) (sym read) ∙ ap (λ n. x ∷ drop n xs) (sym e)

module _ {A : Type 0} (value : A → Option ℕ) (all : List A → Option (List ℕ)) (more : (x : A) (xs : List A) → all (x ∷ xs) ≡ at_value (value x) (λ v. at_value (all xs) (λ vs. Some (v ∷ vs)))) where
  pub none_missing : (xs : List A) (i : ℕ) (x : A) (made : List ℕ) (v : ℕ) → i < length xs → x ≡ get_or xs i x → value x ≡ Some v → behind made (all (drop i xs)) ≡ behind (made ++ v ∷ []) (all (drop (i + 1) xs))
  none_missing xs i x made v lt read has =
      ap (λ l. behind made (all l)) (drop_item xs i x lt read) ∙ ap (behind made) (more x (drop (i + 1) xs))
      ∙ ap (λ o. behind made (at_value o (λ v. at_value (all (drop (i + 1) xs)) (λ vs. Some (v ∷ vs))))) has
      ∙ behind_more made v (all (drop (i + 1) xs))

  pub one_missing : (xs : List A) (i : ℕ) (x : A) (made : List ℕ) → i < length xs → x ≡ get_or xs i x → value x ≡ None → behind made (all (drop i xs)) ≡ None
  one_missing xs i x made lt read lacks =
      ap (λ l. behind made (all l)) (drop_item xs i x lt read) ∙ ap (behind made) (more x (drop (i + 1) xs))
      ∙ ap (λ o. behind made (at_value o (λ v. at_value (all (drop (i + 1) xs)) (λ vs. Some (v ∷ vs))))) lacks
