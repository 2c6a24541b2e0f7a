-- Terms that are added behind others.
use Rattle.std.proofs.Common.{◌≡◌, ◌≢◌, ℕ, ◌<◌, ℤ, pos, ◌+ℤ◌, [], ◌∷◌, ◌++◌, length, ap, ◌∙◌, arith, ⊎_elim}
use Rattle.std.proofs.lemmas.Bool.{cases_lt}
use Rattle.std.proofs.lemmas.Int.{ints}
use Rattle.std.proofs.lemmas.List.{length-append}
use Rattle.std.proofs.lemmas.List.Elements.{All-append, All-cons, All-nil}
use Rattle.std.proofs.Math.ListN.{get_or-append}
use Rattle.std.proofs.Math.Seq.{get_or-append_seam}
use Rattle.frac128.specs.Terms.{Terms, coefficient, when_same}
use Rattle.frac128.specs.Sum.{IsSum, AddsTerm, address_at}
use Rattle.frac128.proofs.SumLemmas.{IsSum-same, coefficient-AddsTerm}
use Rattle.frac128.proofs.TermsLemmas.{coefficient-append}

at_front : (ts : Terms) (t : ℕ × ℤ) (i : ℕ) → i < length ts → address_at (ts ++ t ∷ []) i ≡ address_at ts i
at_front ts t i lt = ap (λ p. p.0) (get_or-append ts (t ∷ []) (0, pos 0) i lt)

at_end : (ts : Terms) (t : ℕ × ℤ) → address_at (ts ++ t ∷ []) (length ts) ≡ t.0
at_end ts t = ap (λ p. p.0) (get_or-append_seam ts t [] (0, pos 0))

ascending_more : (ts : Terms) (a : ℕ) (n : ℤ) → IsSum ts → ((i : ℕ) → i < length ts → address_at ts i < a) → (i j : ℕ) → i < j → j < length (ts ++ (a, n) ∷ []) → address_at (ts ++ (a, n) ∷ []) i < address_at (ts ++ (a, n) ∷ []) j
ascending_more ts a n s behind i j lt within = ⊎_elim
    (λ inside. omega (arith, at_front ts (a, n) i (omega (arith, lt, inside)), at_front ts (a, n) j inside, s.ascending i j lt inside))
    (λ outside.
    let end : j ≡ length ts = omega (arith, within, outside, length-append ts ((a, n) ∷ [])) in
    let last : address_at (ts ++ (a, n) ∷ []) j ≡ a = ap (λ k. address_at (ts ++ (a, n) ∷ []) k) end ∙ at_end ts (a, n) in
    let first : i < length ts = omega (arith, lt, end) in
    omega (arith, last, at_front ts (a, n) i first, behind i first))
    (cases_lt j (length ts))

pub sum_more : (ts : Terms) (a : ℕ) (n : ℤ) → IsSum ts → ((i : ℕ) → i < length ts → address_at ts i < a) → n ≢ pos 0 → IsSum (ts ++ (a, n) ∷ [])
sum_more ts a n s behind some = record {
  ascending = ascending_more ts a n s behind;
  no_zero = All-append (λ t. t.1 ≢ pos 0) ts ((a, n) ∷ []) s.no_zero (All-cons (λ t. t.1 ≢ pos 0) (a, n) [] some (All-nil (λ t. t.1 ≢ pos 0)));
}

same_coefficients : (old new : Terms) (a : ℕ) (n : ℤ) → AddsTerm old new a n → (q : ℕ) → coefficient new q ≡ coefficient (old ++ (a, n) ∷ []) q
same_coefficients old new a n adds q =
    let first : coefficient new q ≡ (when_same a q n +ℤ coefficient old q) = coefficient-AddsTerm old new a n adds q in
    let second : coefficient (old ++ (a, n) ∷ []) q ≡ (coefficient old q +ℤ (when_same a q n +ℤ pos 0)) = coefficient-append old ((a, n) ∷ []) q in
    sums (coefficient new q) (coefficient (old ++ (a, n) ∷ []) q) (when_same a q n) (coefficient old q) first second
  where
    sums : (x y u v : ℤ) → x ≡ (u +ℤ v) → y ≡ (v +ℤ (u +ℤ pos 0)) → x ≡ y
    sums x y u v e f = omega (arith, ints, e, f)

-- a term of a greater address goes to the end
pub added : (old new : Terms) (a : ℕ) (n : ℤ) → IsSum old → IsSum new → AddsTerm old new a n → ((i : ℕ) → i < length old → address_at old i < a) → n ≢ pos 0 → new ≡ old ++ (a, n) ∷ []
added old new a n s t adds behind some = IsSum-same new (old ++ (a, n) ∷ []) t (sum_more old a n s behind some) (same_coefficients old new a n adds)
