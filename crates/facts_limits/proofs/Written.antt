-- A restriction that can be read has at most 64 terms, with numbers up to a million.
use Rattle.std.proofs.Common.{ℕ, ◌+◌, ◌≤◌, Bool, true, false, List, [], ◌∷◌, length, Option, Some, None, ◌≡◌, refl}
use Rattle.std.specs.Prelude.{◌&&◌, if◌then◌else◌, codes, nat_le}
use Rattle.std.proofs.lemmas.Bool.{leb-true}
use Rattle.facts_definitions.specs.PragmaTexts.{Written, WrittenSum, WrittenTerm, at_most, behind_left, behind_term, compare, compared, is_name, number, pragma_runs, restriction, same_bytes, sum, term, with_left, with_op, with_right, with_term}
use Rattle.wcc_base.specs.declared.compare.Compare.{Compare}

-- numbers up to a million
abbrev pub AreSmall : List WrittenTerm → Type 0
AreSmall [] = Unit {0}
AreSmall (t ∷ ts) = (t.coef ≤ 1000000) × AreSmall ts

-- where there is a term, a sum, a comparison
abbrev SmallTerm : Option WrittenTerm → Type 0
SmallTerm None = Unit {0}
SmallTerm (Some t) = t.coef ≤ 1000000

abbrev SmallSum : Option WrittenSum → Type 0
SmallSum None = Unit {0}
SmallSum (Some s) = AreSmall s.terms

abbrev pub IsSmall : Option Written → Type 0
IsSmall None = Unit {0}
IsSmall (Some w) = (length w.left + length w.right ≤ 64) × AreSmall w.left × AreSmall w.right

number_small : (o : Option ℕ) (star name : List ℕ) → SmallTerm (term (at_most 1000000 o) star name)
number_small None star name = tt
number_small (Some n) star name = of (nat_le n 1000000) refl
  where
    named : (b : Bool) → n ≤ 1000000 → SmallTerm (if b then Some (record { coef = n; name = name }) else None)
    named true h = h
    named false h = tt

    of : (b : Bool) → nat_le n 1000000 ≡ b → SmallTerm (term (if b then Some n else None) star name)
    of true e = named (same_bytes star (codes "*") && is_name name) (leb-true n 1000000 e)
    of false e = tt

joined_small : (t : Option WrittenTerm) (s : Option WrittenSum) → SmallTerm t → SmallSum s → SmallSum (with_term t s)
joined_small None s h k = tt
joined_small (Some t) None h k = tt
joined_small (Some t) (Some s) h k = (h, k)

mutual
  sum_small : (runs : List (List ℕ)) → SmallSum (sum runs)
  sum_small [] = tt
  sum_small (n ∷ []) = tt
  sum_small (n ∷ star ∷ []) = tt
  sum_small (n ∷ star ∷ name ∷ rest) = joined_small (term (at_most 1000000 (number n)) star name) (behind_term rest) (number_small (number n) star name) (rest_small rest)

  rest_small : (runs : List (List ℕ)) → SmallSum (behind_term runs)
  rest_small [] = tt
  rest_small (sign ∷ rest) = of (same_bytes sign (codes "+")) (sum_small rest)
    where
      of : (b : Bool) → SmallSum (sum rest) → SmallSum (if b then sum rest else Some (record { terms = []; rest = sign ∷ rest }))
      of true h = h
      of false h = tt

module _ (left : List WrittenTerm) (small : AreSmall left) where
  compared_small : (op : Compare) (right : List WrittenTerm) (rest : List (List ℕ)) → AreSmall right → IsSmall (compared left op right rest)
  compared_small op right (run ∷ rest) h = tt
  compared_small op right [] h = of (nat_le (length left + length right) 64) refl
    where
      of : (b : Bool) → nat_le (length left + length right) 64 ≡ b → IsSmall (if b then Some (record { left = left; op = op; right = right }) else None)
      of true e = (leb-true (length left + length right) 64 e, small, h)
      of false e = tt

  right_small : (op : Compare) (right : Option WrittenSum) → SmallSum right → IsSmall (with_right left op right)
  right_small op None h = tt
  right_small op (Some right) h = compared_small op right.terms right.rest h

  op_small : (op : Option Compare) (rest : List (List ℕ)) → IsSmall (with_op left op rest)
  op_small None rest = tt
  op_small (Some op) rest = right_small op (sum rest) (sum_small rest)

  behind_small : (rest : List (List ℕ)) → IsSmall (behind_left left rest)
  behind_small [] = tt
  behind_small (sign ∷ rest) = op_small (compare sign) rest

left_small : (left : Option WrittenSum) → SmallSum left → IsSmall (with_left left)
left_small None h = tt
left_small (Some left) h = behind_small left.terms h left.rest

pub restriction_small : (text : List ℕ) → IsSmall (restriction text)
restriction_small text = left_small (sum (pragma_runs text)) (sum_small (pragma_runs text))
