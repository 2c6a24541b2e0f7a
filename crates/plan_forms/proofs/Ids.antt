-- The numbers of the loops in pieces of code that are put together.
use Rattle.std.proofs.Common.{◌≡◌, ℕ, zero, suc, ◌+◌, List, [], ◌∷◌, ◌++◌, map, refl, sym, ap, ◌∙◌, arith}
use Rattle.std.specs.List.{range_with_len}
use Rattle.std.proofs.lemmas.List.{map-append}
use Rattle.high_ir.specs.Standing.{Bounded, loops_of, loops_of_all}
use Rattle.high_ir.specs.Tree.{Statement, Statements, End, Then}
use Rattle.high_code.specs.Code.{joined}

abbrev pub id_of : Bounded → ℕ
id_of l = l.id

-- of a statement, and of statements
abbrev pub ids : Statement → List ℕ
ids s = map id_of (loops_of s)

abbrev pub ids_of : Statements → List ℕ
ids_of code = map id_of (loops_of_all code)

pub append_nil : (xs : List ℕ) → xs ++ [] ≡ xs
append_nil [] = refl
append_nil (x ∷ xs) = ap (λ l. x ∷ l) (append_nil xs)

append_assoc : (xs ys zs : List ℕ) → (xs ++ ys) ++ zs ≡ xs ++ (ys ++ zs)
append_assoc [] ys zs = refl
append_assoc (x ∷ xs) ys zs = ap (λ l. x ∷ l) (append_assoc xs ys zs)

pub ids-then : (s : Statement) (rest : Statements) → ids_of (Then s rest) ≡ ids s ++ ids_of rest
ids-then s rest = map-append id_of (loops_of s) (loops_of_all rest)

pub ids-joined : (a b : Statements) → ids_of (joined a b) ≡ ids_of a ++ ids_of b
ids-joined End b = refl
ids-joined (Then first rest) b =
    ids-then first (joined rest b)
    ∙ (ap (λ l. ids first ++ l) (ids-joined rest b)
    ∙ (sym (append_assoc (ids first) (ids_of rest) (ids_of b))
    ∙ ap (λ l. l ++ ids_of b) (sym (ids-then first rest))))

-- the numbers from one on, so many
pub range-append : (from m n : ℕ) → range_with_len from (m + n) ≡ range_with_len from m ++ range_with_len (from + m) n
range-append from zero n = ap (λ k. range_with_len from k) (none n) ∙ ap (λ a. range_with_len a n) (start from)
  where
    none : (n : ℕ) → 0 + n ≡ n
    none n = omega arith

    start : (a : ℕ) → a ≡ a + 0
    start a = omega arith
range-append from (suc m) n =
    ap (λ k. range_with_len from k) (later m n)
    ∙ ap (λ l. from ∷ l) (range-append (from + 1) m n ∙ ap (λ a. range_with_len (from + 1) m ++ range_with_len a n) (moved from m))
  where
    later : (m n : ℕ) → suc m + n ≡ suc (m + n)
    later m n = omega arith

    moved : (a m : ℕ) → a + 1 + m ≡ a + suc m
    moved a m = omega arith

-- code whose loops have the numbers from one on
abbrev pub Counts : Statements → (from loops : ℕ) → Type 0
Counts code from loops = ids_of code ≡ range_with_len from loops

pub counts-joined : (a b : Statements) (from m n : ℕ) → Counts a from m → Counts b (from + m) n → Counts (joined a b) from (m + n)
counts-joined a b from m n h k = ids-joined a b ∙ (ap (λ l. l ++ ids_of b) h ∙ (ap (λ l. range_with_len from m ++ l) k ∙ sym (range-append from m n)))

pub counts-same : (code : Statements) (a b m n : ℕ) → a ≡ b → m ≡ n → Counts code a m → Counts code b n
counts-same code a b m n e f h = h ∙ (ap (λ x. range_with_len x m) e ∙ ap (λ x. range_with_len b x) f)
