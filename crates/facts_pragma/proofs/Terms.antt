-- Terms that are read.
use Rattle.std.proofs.Common.{◌≡◌, refl, ap, ◌∙◌, sym, ℕ, List, [], ◌∷◌, ◌++◌, append_assoc, true}
use Rattle.std.specs.Prelude.{Option, Some, None, codes}
use Rattle.facts_definitions.specs.FlowFacts.{id_in, name_id, term_of}
use Rattle.facts_definitions.specs.PragmaTexts.{WrittenSum, WrittenTerm, at_most, behind_term, is_name, number, same_bytes, sum, with_term}
use Rattle.facts_definitions.specs.declared.facts.Term.{Term}
use Rattle.c_tree.specs.declared.expression.NameId.{NameId}
use Rattle.facts_pragma.specs.Reading.{NumberedSum, before, numbered}

with_first : (names : List (List ℕ)) (t : WrittenTerm) (o : Option WrittenSum) → numbered names (with_term (Some t) o) ≡ before (term_of names t ∷ []) (numbered names o)
with_first names t None = refl
with_first names t (Some s) = refl

-- a term and what stands behind it
pub term_reads : (names all : List (List ℕ)) (coef star name : List ℕ) (rest : List (List ℕ)) (n : ℕ) (id : NameId) → all ≡ coef ∷ star ∷ name ∷ rest → at_most 1000000 (number coef) ≡ Some n → same_bytes star (codes "*") ≡ true → is_name name ≡ true → id.0 ≡ id_in names name → numbered names (sum all) ≡ before (record { coef = n; name = id } ∷ []) (numbered names (behind_term rest))
term_reads names all coef star name rest n id e f g h k =
    let t : WrittenTerm = record { coef = n; name = name } in
    let first : numbered names (sum all) ≡ numbered names (with_term (Some t) (behind_term rest)) = rw (e, f, g, h) refl in
    first ∙ with_first names t (behind_term rest) ∙ ap (λ (i : ℕ). before (record { coef = n; name = name_id i } ∷ []) (numbered names (behind_term rest))) (sym k)

-- terms before terms
pub before-before : (xs ys : List Term) (o : Option NumberedSum) → before xs (before ys o) ≡ before (xs ++ ys) o
before-before xs ys None = refl
before-before xs ys (Some s) = ap (λ terms. Some (record { terms = terms; rest = s.rest })) (sym (append_assoc xs ys s.terms))
