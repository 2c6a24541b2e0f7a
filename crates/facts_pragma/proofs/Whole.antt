-- Restrictions that are read, sum by sum.
use Rattle.std.proofs.Common.{◌≡◌, refl, ap, ◌∙◌, sym, ℕ, suc, ◌+◌, List, [], ◌∷◌, length, map, Bool, true, false}
use Rattle.std.specs.Prelude.{Option, Some, None, nat_le, if◌then◌else◌}
use Rattle.facts_definitions.specs.FlowFacts.{numbered_restriction, term_of}
use Rattle.facts_definitions.specs.PragmaTexts.{WrittenSum, WrittenTerm, behind_left, compare, compared, sum, with_left, with_op, with_right}
use Rattle.facts_definitions.specs.declared.facts.Restriction.{Restriction}
use Rattle.facts_definitions.specs.declared.facts.Term.{Term}
use Rattle.facts_pragma.specs.Reading.{NumberedSum, numbered, restricted}
use Rattle.wcc_base.specs.declared.compare.Compare.{Compare}

abbrev from_end : (at : ℕ) → (left : List Term) → Compare → (right : List Term) → List (List ℕ) → Option Restriction
from_end at left op right [] = restricted left op right at
from_end at left op right (run ∷ rest) = None

abbrev from_right : (at : ℕ) → (left : List Term) → Compare → Option NumberedSum → Option Restriction
from_right at left op None = None
from_right at left op (Some right) = from_end at left op right.terms right.rest

abbrev from_op : List (List ℕ) → (at : ℕ) → (left : List Term) → Option Compare → List (List ℕ) → Option Restriction
from_op names at left None rest = None
from_op names at left (Some op) rest = from_right at left op (numbered names (sum rest))

abbrev from_sign : List (List ℕ) → (at : ℕ) → (left : List Term) → List (List ℕ) → Option Restriction
from_sign names at left [] = None
from_sign names at left (sign ∷ rest) = from_op names at left (compare sign) rest

abbrev from_left : List (List ℕ) → (at : ℕ) → Option NumberedSum → Option Restriction
from_left names at None = None
from_left names at (Some left) = from_sign names at left.terms left.rest

length_terms : (names : List (List ℕ)) (ts : List WrittenTerm) → length (map (term_of names) ts) ≡ length ts
length_terms names [] = refl
length_terms names (t ∷ ts) = ap suc (length_terms names ts)

limited : (names : List (List ℕ)) (at : ℕ) (left : List WrittenTerm) (op : Compare) (right : List WrittenTerm) (b : Bool) → numbered_restriction names at (if b then Some (record { left = left; op = op; right = right }) else None) ≡ (if b then Some (record { left = map (term_of names) left; op = op; right = map (term_of names) right; at = at }) else None)
limited names at left op right true = refl
limited names at left op right false = refl

at_end : (names : List (List ℕ)) (at : ℕ) (left : List WrittenTerm) (op : Compare) (right : List WrittenTerm) (rest : List (List ℕ)) → numbered_restriction names at (compared left op right rest) ≡ from_end at (map (term_of names) left) op (map (term_of names) right) rest
at_end names at left op right [] =
    limited names at left op right (nat_le (length left + length right) 64)
    ∙ ap (λ (n : ℕ). if nat_le n 64 then Some (record { left = map (term_of names) left; op = op; right = map (term_of names) right; at = at }) else None)
    (sym (ap (λ n. n + length (map (term_of names) right)) (length_terms names left) ∙ ap (λ n. length left + n) (length_terms names right)))
at_end names at left op right (run ∷ rest) = refl

at_right : (names : List (List ℕ)) (at : ℕ) (left : List WrittenTerm) (op : Compare) (o : Option WrittenSum) → numbered_restriction names at (with_right left op o) ≡ from_right at (map (term_of names) left) op (numbered names o)
at_right names at left op None = refl
at_right names at left op (Some right) = at_end names at left op right.terms right.rest

at_op : (names : List (List ℕ)) (at : ℕ) (left : List WrittenTerm) (o : Option Compare) (rest : List (List ℕ)) → numbered_restriction names at (with_op left o rest) ≡ from_op names at (map (term_of names) left) o rest
at_op names at left None rest = refl
at_op names at left (Some op) rest = at_right names at left op (sum rest)

at_sign : (names : List (List ℕ)) (at : ℕ) (left : List WrittenTerm) (rest : List (List ℕ)) → numbered_restriction names at (behind_left left rest) ≡ from_sign names at (map (term_of names) left) rest
at_sign names at left [] = refl
at_sign names at left (sign ∷ rest) = at_op names at left (compare sign) rest

at_left : (names : List (List ℕ)) (at : ℕ) (o : Option WrittenSum) → numbered_restriction names at (with_left o) ≡ from_left names at (numbered names o)
at_left names at None = refl
at_left names at (Some left) = at_sign names at left.terms left.rest

module _ (names : List (List ℕ)) (at : ℕ) (all rest : List (List ℕ)) (left : NumberedSum) (sign : List ℕ) (op : Compare) (e : numbered names (sum all) ≡ Some left) (f : left.rest ≡ sign ∷ rest) (g : compare sign ≡ Some op) where
  to_right : numbered_restriction names at (with_left (sum all)) ≡ from_right at left.terms op (numbered names (sum rest))
  to_right =
      at_left names at (sum all) ∙ ap (from_left names at) e ∙ ap (from_sign names at left.terms) f ∙ ap (λ o. from_op names at left.terms o rest) g

  pub no_right : numbered names (sum rest) ≡ None → numbered_restriction names at (with_left (sum all)) ≡ None
  no_right h = to_right ∙ ap (from_right at left.terms op) h

  pub whole : (right : NumberedSum) → numbered names (sum rest) ≡ Some right → right.rest ≡ [] → numbered_restriction names at (with_left (sum all)) ≡ restricted left.terms op right.terms at
  whole right h k = to_right ∙ ap (from_right at left.terms op) h ∙ ap (from_end at left.terms op right.terms) k

  pub too_long : (right : NumberedSum) (run : List ℕ) (more : List (List ℕ)) → numbered names (sum rest) ≡ Some right → right.rest ≡ run ∷ more → numbered_restriction names at (with_left (sum all)) ≡ None
  too_long right run more h k = to_right ∙ ap (from_right at left.terms op) h ∙ ap (from_end at left.terms op right.terms) k
