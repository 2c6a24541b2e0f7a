-- The rows of the moves: none fails exactly where all are covered.
use Rattle.std.proofs.Common.{◌≡◌, ℕ, ◌≤◌, ◌<◌, ◌^◌, ℤ, pos, ◌+ℤ◌, ◌-ℤ◌, ◌≤ℤ◌, arith, refl, ap, subst, List, [], ◌∷◌, All, Bool, true, false, Option, Some, None, ◌⊎◌, inl, inr}
use Rattle.std.specs.Prelude.{nat_le, int_lt, if◌then◌else◌}
use Rattle.std.proofs.lemmas.Int.{ints}
use Rattle.std.proofs.lemmas.Bool.Decides.{nat_tests}
use Rattle.std.proofs.lemmas.List.Elements.{All-head, All-tail, All-cons, All-nil}
use Rattle.code_flow_system.specs.declared.moves.Move.{Move as Step}
use Rattle.code_flow_system.specs.Certificates.{Limit, held, fall, row_size, IsNarrow, IsCovered}
use Rattle.dual_check.specs.declared.row.Row.{Row}
use Rattle.dual_check.specs.declared.row.Row.TheVariants.{Missing, Sign, Wide, Move, Value, Flow, Unmet, Greatest, Empty}
use Rattle.dual_check.specs.Rows.{earlier, move_fault, first_move_fault}
use Rattle.dual_check.proofs.SignLemmas.{earlier_none, none_of_both}

-- a row of a move
abbrev pub IsMoveRow : Row → Type 0
IsMoveRow (Wide a) = Unit {0}
IsMoveRow (Move a k) = Unit {0}
IsMoveRow (Missing a) = ⊥
IsMoveRow (Sign n) = ⊥
IsMoveRow Value = ⊥
IsMoveRow (Flow a) = ⊥
IsMoveRow (Unmet n) = ⊥
IsMoveRow Greatest = ⊥
IsMoveRow Empty = ⊥

tells : (n : ℕ) (k r : ℤ) (x y : Row) → (if nat_le (2 ^ 126) n then Some x else if int_lt r k then Some y else None) ≡ None → (n < 2 ^ 126) × (k ≤ℤ r)
tells n k r x y e = (grind (arith, nat_tests), grind (arith, ints, nat_tests))

tells_none : (n : ℕ) (k r : ℤ) (x y : Row) → n < 2 ^ 126 → k ≤ℤ r → (if nat_le (2 ^ 126) n then Some x else if int_lt r k then Some y else None) ≡ None
tells_none n k r x y h le = grind (arith, ints, nat_tests)

module _ (price : Step → ℤ) (p : ℕ → ℤ) (ls : List Limit) where
  pub all_covered : (ms : List Step) → first_move_fault price p ls ms ≡ None → All (λ m. IsNarrow (row_size price p ls m)) ms × All (IsCovered price p ls) ms
  all_covered [] e = (All-nil _, All-nil _)
  all_covered (m ∷ ms) e =
      let b = earlier_none (move_fault price p ls m) (first_move_fault price p ls ms) e in
      let h = tells (row_size price p ls m) (price m) (fall p m +ℤ held ls m.at) (Wide m.at) (Move m.at m.number) b.0 in
      let r = all_covered ms b.1 in
      (All-cons (λ m. IsNarrow (row_size price p ls m)) m ms h.0 r.0, All-cons (IsCovered price p ls) m ms h.1 r.1)

  pub no_fault : (ms : List Step) → All (λ m. IsNarrow (row_size price p ls m)) ms → All (IsCovered price p ls) ms → first_move_fault price p ls ms ≡ None
  no_fault [] n h = refl
  no_fault (m ∷ ms) n h = none_of_both _ _
      (tells_none (row_size price p ls m) (price m) (fall p m +ℤ held ls m.at) (Wide m.at) (Move m.at m.number) (All-head (λ m. IsNarrow (row_size price p ls m)) m ms n) (All-head (IsCovered price p ls) m ms h))
      (no_fault ms (All-tail (λ m. IsNarrow (row_size price p ls m)) m ms n) (All-tail (IsCovered price p ls) m ms h))

  pub move_row : (ms : List Step) (r : Row) → first_move_fault price p ls ms ≡ Some r → IsMoveRow r
  move_row [] r e = cc
  move_row (m ∷ ms) r e = of_first (nat_le (2 ^ 126) (row_size price p ls m)) (int_lt (fall p m +ℤ held ls m.at) (price m)) (first_move_fault price p ls ms) (move_row ms r) e
    where
      same : (x y : Row) → IsMoveRow x → Some x ≡ Some y → IsMoveRow y
      same x y h e = subst IsMoveRow (inner e) h
        where
          inner : Some x ≡ Some y → x ≡ y
          inner e = cc

      of_first : (b c : Bool) (o : Option Row) → (o ≡ Some r → IsMoveRow r) → earlier (if b then Some (Wide m.at) else if c then Some (Move m.at m.number) else None) o ≡ Some r → IsMoveRow r
      of_first true c o later e = same (Wide m.at) r tt e
      of_first false true o later e = same (Move m.at m.number) r tt e
      of_first false false o later e = later e

-- what is left when the price is paid
pub row_by : (n : ℕ) (k r left : ℤ) (x y : Row) → n < 2 ^ 126 → left ≡ r -ℤ k → (if int_lt left (pos 0) then Some y else None) ≡ (if nat_le (2 ^ 126) n then Some x else if int_lt r k then Some y else None)
row_by n k r left x y h e = by_tests (nat_le (2 ^ 126) n) (int_lt left (pos 0)) (int_lt r k) (narrow n h) (same_tests left r k e)
  where
    narrow : (n : ℕ) → n < 2 ^ 126 → nat_le (2 ^ 126) n ≡ false
    narrow n h = grind (arith, nat_tests)

    same_tests : (left r k : ℤ) → left ≡ r -ℤ k → int_lt left (pos 0) ≡ int_lt r k
    same_tests left r k e = grind (arith, ints)

    by_tests : (b c d : Bool) → b ≡ false → c ≡ d → (if c then Some y else None) ≡ (if b then Some x else if d then Some y else None)
    by_tests true c d e f = cc
    by_tests false c d e f = ap (λ (b : Bool). if b then Some y else None) f

pub row_wide : (n : ℕ) (x : Row) (o : Option Row) → 2 ^ 126 ≤ n → Some x ≡ (if nat_le (2 ^ 126) n then Some x else o)
row_wide n x o h = by_test (nat_le (2 ^ 126) n) (wide n h)
  where
    wide : (n : ℕ) → 2 ^ 126 ≤ n → nat_le (2 ^ 126) n ≡ true
    wide n h = grind (arith, nat_tests)

    by_test : (b : Bool) → b ≡ true → Some x ≡ (if b then Some x else o)
    by_test true e = refl
    by_test false e = cc

pub narrow_of : (n : ℕ) → (2 ^ 126 ≤ n → true ≡ false) → n < 2 ^ 126
narrow_of n h = by_order (order (2 ^ 126) n)
  where
    order : (m n : ℕ) → (m ≤ n) ⊎ (n < m)
    order m n = grind arith

    by_order : (2 ^ 126 ≤ n) ⊎ (n < 2 ^ 126) → n < 2 ^ 126
    by_order (inl le) = let e = h le in cc
    by_order (inr lt) = lt
