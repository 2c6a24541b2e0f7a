-- Sums of counts modulo 2^128.
use Rattle.std.proofs.Common.{◌≡◌, ℕ, zero, suc, ◌+◌, ◌*◌, ◌%◌, ◌^◌, arith, refl, sym, ap, ◌∙◌, List, [], ◌∷◌, ◌++◌, length}
use Rattle.std.specs.Prelude.{slice_set}
use Rattle.std.proofs.Math.Nat.{add-mod}
use Rattle.std.proofs.lemmas.Nat.{mul-mod}
use Rattle.loop_flows.specs.Passes.{amount_at}
use Rattle.loop_flows.specs.Flows.{together}
use Rattle.loop_flow_counts.specs.Wraps.{wrapped, all_wrapped, SameCounts}

pub sum_same : (a b c d : ℕ) → wrapped a ≡ wrapped b → wrapped c ≡ wrapped d → wrapped (a + c) ≡ wrapped (b + d)
sum_same a b c d e f = add-mod a c (2 ^ 128) ∙ (ap (λ x. (x + c % 2 ^ 128) % 2 ^ 128) e ∙ (ap (λ x. (b % 2 ^ 128 + x) % 2 ^ 128) f ∙ sym (add-mod b d (2 ^ 128))))

pub product_same : (k a b : ℕ) → wrapped a ≡ wrapped b → wrapped (k * a) ≡ wrapped (k * b)
product_same k a b e = mul-mod k a (2 ^ 128) ∙ (ap (λ x. (k % 2 ^ 128 * x) % 2 ^ 128) e ∙ sym (mul-mod k b (2 ^ 128)))

pub at_wrapped : (us : List ℕ) (a : ℕ) → amount_at (all_wrapped us) a ≡ wrapped (amount_at us a)
at_wrapped [] zero = refl
at_wrapped [] (suc a) = refl
at_wrapped (u ∷ us) zero = refl
at_wrapped (u ∷ us) (suc a) = at_wrapped us a

pub at_same : (us vs : List ℕ) (a : ℕ) → SameCounts us vs → wrapped (amount_at us a) ≡ wrapped (amount_at vs a)
at_same us vs a e = sym (at_wrapped us a) ∙ (ap (λ x. amount_at x a) e ∙ at_wrapped vs a)

pub set_wrapped : (us : List ℕ) (a x : ℕ) → all_wrapped (slice_set us a x) ≡ slice_set (all_wrapped us) a (wrapped x)
set_wrapped [] zero x = refl
set_wrapped [] (suc a) x = refl
set_wrapped (u ∷ us) zero x = refl
set_wrapped (u ∷ us) (suc a) x = ap (λ ws. wrapped u ∷ ws) (set_wrapped us a x)

pub set_same : (us vs : List ℕ) (a x y : ℕ) → SameCounts us vs → wrapped x ≡ wrapped y → SameCounts (slice_set us a x) (slice_set vs a y)
set_same us vs a x y e f = set_wrapped us a x ∙ (ap (λ ws. slice_set ws a (wrapped x)) e ∙ (ap (λ z. slice_set (all_wrapped vs) a z) f ∙ sym (set_wrapped vs a y)))

pub cons_same : (u v : ℕ) (us vs : List ℕ) → wrapped u ≡ wrapped v → SameCounts us vs → SameCounts (u ∷ us) (v ∷ vs)
cons_same u v us vs e f = ap (λ x. x ∷ all_wrapped us) e ∙ ap (λ ws. wrapped v ∷ ws) f

pub append_wrapped : (us vs : List ℕ) → all_wrapped (us ++ vs) ≡ all_wrapped us ++ all_wrapped vs
append_wrapped [] vs = refl
append_wrapped (u ∷ us) vs = ap (λ ws. wrapped u ∷ ws) (append_wrapped us vs)

pub append_same : (us us' vs vs' : List ℕ) → SameCounts us us' → SameCounts vs vs' → SameCounts (us ++ vs) (us' ++ vs')
append_same us us' vs vs' e f = append_wrapped us vs ∙ (ap (λ ws. ws ++ all_wrapped vs) e ∙ (ap (λ ws. all_wrapped us' ++ ws) f ∙ sym (append_wrapped us' vs')))

pub wrapped-long : (us : List ℕ) → length (all_wrapped us) ≡ length us
wrapped-long [] = refl
wrapped-long (u ∷ us) = ap suc (wrapped-long us)

pub same-long : (us vs : List ℕ) → SameCounts us vs → length us ≡ length vs
same-long us vs e = sym (wrapped-long us) ∙ (ap length e ∙ wrapped-long vs)

pub twice : (u : ℕ) → wrapped (wrapped u) ≡ wrapped u
twice u = let e = add-mod u 0 (2 ^ 128) in omega arith

pub wrapped_same : (us : List ℕ) → SameCounts (all_wrapped us) us
wrapped_same [] = refl
wrapped_same (u ∷ us) = cons_same (wrapped u) u (all_wrapped us) us (twice u) (wrapped_same us)

together_wrapped : (us vs : List ℕ) → SameCounts (together us vs) (together (all_wrapped us) (all_wrapped vs))
together_wrapped [] vs = refl
together_wrapped (u ∷ us) [] = refl
together_wrapped (u ∷ us) (v ∷ vs) = cons_same (u + v) (wrapped u + wrapped v) (together us vs) (together (all_wrapped us) (all_wrapped vs)) (sum_same u (wrapped u) v (wrapped v) (sym (twice u)) (sym (twice v))) (together_wrapped us vs)

pub together_same : (us us' vs vs' : List ℕ) → SameCounts us us' → SameCounts vs vs' → SameCounts (together us vs) (together us' vs')
together_same us us' vs vs' e f = together_wrapped us vs ∙ (ap (λ x. all_wrapped (together x (all_wrapped vs))) e ∙ (ap (λ x. all_wrapped (together (all_wrapped us') x)) f ∙ sym (together_wrapped us' vs')))
