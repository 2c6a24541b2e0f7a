-- The grammar of the three pragmas, in which blanks are spaces and tabs, and may be left out around signs.
use Rattle.std.specs.Prelude.{ℕ, ◌+◌, ◌*◌, ◌-◌, nat_eq, nat_le, Bool, true, false, ◌&&◌, if◌then◌else◌, List, [], ◌∷◌, ◌++◌, length, codes, Option, Some, None}
use Rattle.std.specs.Cmp.Lexicographic.{pointwise}
use Rattle.facts_definitions.specs.declared.facts.Bounds.{Bounds}
use Rattle.c_tree.specs.Bytes.{is_letter, is_name_byte}
use Rattle.c_tree.specs.Pragmas.{behind_first_word, is_gap}
use Rattle.wcc_base.specs.declared.compare.Compare.{Compare}
use Rattle.wcc_base.specs.declared.compare.Compare.TheVariants.{AtMost, AtLeast, Equal}

-- a run of bytes, where there is one, before others
abbrev pub with_run : List ℕ → List (List ℕ) → List (List ℕ)
with_run [] runs = runs
with_run (b ∷ bytes) runs = (b ∷ bytes) ∷ runs

abbrev pub same_class : Bool → Bool → Bool
same_class true b = b
same_class false true = false
same_class false false = true

-- the longest runs of bytes of names, and the longest runs of others that are no blanks; the first goes on from what
-- has begun
abbrev pub runs_from : (named : Bool) (begun : List ℕ) → List ℕ → List (List ℕ)
runs_from named begun [] = with_run begun []
runs_from named begun (b ∷ bytes) =
    if is_gap b then with_run begun (runs_from named [] bytes)
    else (if same_class named (is_name_byte b) then runs_from named (begun ++ b ∷ []) bytes
    else with_run begun (runs_from (is_name_byte b) (b ∷ []) bytes))

-- the runs of a text
abbrev pub runs : List ℕ → List (List ℕ)
runs text = runs_from true [] text

-- those behind the first word of a pragma's text
abbrev pub pragma_runs : List ℕ → List (List ℕ)
pragma_runs text = runs (behind_first_word false text)

abbrev pub same_bytes : List ℕ → List ℕ → Bool
same_bytes a b = pointwise nat_eq a b

abbrev pub is_digit : ℕ → Bool
is_digit b = nat_le 48 b && nat_le b 57

-- the number of these digits behind a number
abbrev pub digits : ℕ → List ℕ → Option ℕ
digits n [] = Some n
digits n (b ∷ bytes) = if is_digit b then digits (n * 10 + (b - 48)) bytes else None

-- a decimal number without a leading zero, or 0
abbrev pub number : List ℕ → Option ℕ
number [] = None
number (b ∷ []) = digits 0 (b ∷ [])
number (b ∷ c ∷ bytes) = if nat_eq b 48 then None else digits 0 (b ∷ c ∷ bytes)

-- a number that is at most so great
abbrev pub at_most : ℕ → Option ℕ → Option ℕ
at_most limit None = None
at_most limit (Some n) = if nat_le n limit then Some n else None

abbrev pub all_name_bytes : List ℕ → Bool
all_name_bytes [] = true
all_name_bytes (b ∷ bytes) = is_name_byte b && all_name_bytes bytes

-- letters, digits and `_`, the first no digit
abbrev pub is_name : List ℕ → Bool
is_name [] = false
is_name (b ∷ bytes) = is_letter b && all_name_bytes bytes

-- A and B, where A is at most B
abbrev pub bounded : Option ℕ → Option ℕ → Option Bounds
bounded (Some a) (Some b) = if nat_le a b then Some (record { min = a; max = b }) else None
bounded _ _ = None

abbrev pub bounds_among : List (List ℕ) → Option Bounds
bounds_among (min ∷ a ∷ max ∷ b ∷ []) =
    if same_bytes min (codes "min") && same_bytes max (codes "max")
    then bounded (at_most 2147483647 (number a)) (at_most 2147483647 (number b)) else None
bounds_among _ = None

-- `loopbound min A max B`
abbrev pub loop_bounds : List ℕ → Option Bounds
loop_bounds text = bounds_among (pragma_runs text)

abbrev pub name_among : List (List ℕ) → Option (List ℕ)
name_among (name ∷ []) = if is_name name then Some name else None
name_among _ = None

-- `marker NAME`
abbrev pub marker_name : List ℕ → Option (List ℕ)
marker_name text = name_among (pragma_runs text)

-- NUMBER*NAME
pub record WrittenTerm : Type 0 where
  pub coef : ℕ
  pub name : List ℕ

-- a sum, and what stands behind it
pub record WrittenSum : Type 0 where
  pub terms : List WrittenTerm
  pub rest : List (List ℕ)

abbrev pub term : (coef : Option ℕ) (star name : List ℕ) → Option WrittenTerm
term None star name = None
term (Some coef) star name = if same_bytes star (codes "*") && is_name name then Some (record { coef = coef; name = name }) else None

abbrev pub with_term : Option WrittenTerm → Option WrittenSum → Option WrittenSum
with_term (Some t) (Some sum) = Some (record { terms = t ∷ sum.terms; rest = sum.rest })
with_term _ _ = None

abbrev mutual
  -- a term, and those that are joined to it by `+`
  pub sum : List (List ℕ) → Option WrittenSum
  sum [] = None
  sum (n ∷ []) = None
  sum (n ∷ star ∷ []) = None
  sum (n ∷ star ∷ name ∷ rest) = with_term (term (at_most 1000000 (number n)) star name) (behind_term rest)

  pub behind_term : List (List ℕ) → Option WrittenSum
  behind_term [] = Some (record { terms = []; rest = [] })
  behind_term (sign ∷ rest) = if same_bytes sign (codes "+") then sum rest else Some (record { terms = []; rest = sign ∷ rest })

abbrev pub compare : List ℕ → Option Compare
compare sign =
    if same_bytes sign (codes "<=") then Some AtMost
    else (if same_bytes sign (codes ">=") then Some AtLeast
    else (if same_bytes sign (codes "=") then Some Equal else None))

-- a comparison of two sums
pub record Written : Type 0 where
  pub left : List WrittenTerm
  pub op : Compare
  pub right : List WrittenTerm

-- the sum on the right side is all that is left, and there are at most 64 terms in all
abbrev pub compared : (left : List WrittenTerm) → Compare → (right : List WrittenTerm) → (rest : List (List ℕ)) → Option Written
compared left op right [] = if nat_le (length left + length right) 64 then Some (record { left = left; op = op; right = right }) else None
compared left op right (run ∷ rest) = None

abbrev pub with_right : List WrittenTerm → Compare → Option WrittenSum → Option Written
with_right left op None = None
with_right left op (Some right) = compared left op right.terms right.rest

abbrev pub with_op : List WrittenTerm → Option Compare → (rest : List (List ℕ)) → Option Written
with_op left None rest = None
with_op left (Some op) rest = with_right left op (sum rest)

abbrev pub behind_left : List WrittenTerm → (rest : List (List ℕ)) → Option Written
behind_left left [] = None
behind_left left (sign ∷ rest) = with_op left (compare sign) rest

abbrev pub with_left : Option WrittenSum → Option Written
with_left None = None
with_left (Some left) = behind_left left.terms left.rest

-- `flowrestriction SUM OP SUM`
abbrev pub restriction : List ℕ → Option Written
restriction text = with_left (sum (pragma_runs text))
