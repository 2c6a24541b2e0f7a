-- Restrictions over places: each name is replaced by the sum of its places (Kirner 2003).
use Rattle.std.specs.Prelude.{◌≡◌, ℕ, ℤ, pos, nat_eq, nat_lt, ◌+◌, if◌then◌else◌, List, [], ◌∷◌, ◌++◌, length, map}
use Rattle.std.proofs.Math.ListN.{get_or}
use Rattle.facts_definitions.specs.declared.facts.Facts.{Facts}
use Rattle.facts_definitions.specs.declared.facts.Restriction.{Restriction}
use Rattle.facts_definitions.specs.declared.facts.Term.{Term}
use Rattle.c_tree.specs.declared.expression.NameId.{NameId}
use Rattle.flow_facts.specs.declared.places.AddressFact.{AddressFact}
use Rattle.flow_facts.specs.declared.places.Places.{Places}
use Rattle.frac128.specs.Terms.{Terms, coefficient}

-- where a name stands in a list of names, or the list's length
abbrev pub index_in : List NameId → ℕ → ℕ
index_in [] id = 0
index_in (name ∷ rest) id = if nat_eq name.0 id then 0 else index_in rest id + 1

-- the places of the function or marker of this name
abbrev pub places_of : Facts → Places → ℕ → List ℕ
places_of facts places id =
    if nat_lt (index_in facts.functions id) (length facts.functions) then get_or places.of_functions (index_in facts.functions id) []
    else get_or places.of_markers (index_in facts.markers id) []

-- each place of a term's name, with the coefficient
abbrev pub term_places : Facts → Places → Term → List (ℕ × ℕ)
term_places facts places term = map (λ place. (place, term.coef)) (places_of facts places term.name.0)

abbrev pub terms_places : Facts → Places → List Term → List (ℕ × ℕ)
terms_places facts places [] = []
terms_places facts places (term ∷ rest) = term_places facts places term ++ terms_places facts places rest

abbrev pub as_term : ℕ × ℕ → ℕ × ℤ
as_term t = (t.0, pos t.1)

-- a sum of counts, as a sum over places
abbrev pub sum_places : Facts → Places → List Term → Terms
sum_places facts places terms = map as_term (terms_places facts places terms)

-- equal places on one side are added
pub record IsTranslated (facts : Facts) (places : Places) (r : Restriction) (a : AddressFact) : Type 0 where
  pub left : (q : ℕ) → coefficient a.left q ≡ coefficient (sum_places facts places r.left) q
  pub op : a.op ≡ r.op
  pub right : (q : ℕ) → coefficient a.right q ≡ coefficient (sum_places facts places r.right) q
  pub at : a.at ≡ r.at

-- each restriction, in source order
abbrev pub AreTranslated : Facts → Places → List Restriction → List AddressFact → Type 0
AreTranslated facts places [] [] = Unit {0}
AreTranslated facts places [] (a ∷ rest) = ⊥
AreTranslated facts places (r ∷ rs) [] = ⊥
AreTranslated facts places (r ∷ rs) (a ∷ rest) = IsTranslated facts places r a × AreTranslated facts places rs rest
