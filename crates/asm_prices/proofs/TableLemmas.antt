-- Numbers at addresses, given by rows of words that share none.
use Rattle.std.proofs.Common.{◌≡◌, ◌≢◌, ◌⊎◌, ⊎_elim, inl, inr, ℕ, zero, suc, ◌+◌, ◌*◌, ◌<◌, ◌≤◌, pos, ◌≤ℤ◌, List, [], ◌∷◌, ◌++◌, length, All, refl, sym, ap, ◌∙◌, arith}
use Rattle.std.proofs.lemmas.Bool.{cases_eq}
use Rattle.std.proofs.lemmas.Int.{ints}
use Rattle.std.proofs.lemmas.List.Elements.{All-nil, All-cons, All-append}
use Rattle.frac128.specs.Terms.{Terms, coefficient}
use Rattle.frac128.proofs.TermsLemmas.{when_same-here, when_same-elsewhere, coefficient-append}
use Rattle.asm_prices.proofs.RowLemmas.{pay}

-- the numbers of the words from an address on
abbrev pub row_terms : ℕ → List ℕ → Terms
row_terms at [] = []
row_terms at (v ∷ vs) = (at, pos v) ∷ row_terms (at + 4) vs

pub row_none : (vs : List ℕ) (at a : ℕ) → (a < at) ⊎ (at + 4 * length vs ≤ a) → coefficient (row_terms at vs) a ≡ pos 0
row_none [] at a h = refl
row_none (v ∷ vs) at a h =
    let apart : at ≢ a = λ e. ⊎_elim (λ (u : a < at). let k : ⊥ = omega arith in k) (λ (u : at + 4 * length (v ∷ vs) ≤ a). let k : ⊥ = omega arith in k) h in
    let e = when_same-elsewhere at a (pos v) (λ q. apart (sym q)) in
    let r = row_none vs (at + 4) a (⊎_elim (λ (u : a < at). inl (omega arith)) (λ (u : at + 4 * length (v ∷ vs) ≤ a). inr (omega arith)) h) in
    omega (arith, ints)

pub row_at : (vs : List ℕ) (at k : ℕ) → k < length vs → coefficient (row_terms at vs) (at + 4 * k) ≡ pos (pay vs k)
row_at [] at k h = absurd (omega arith)
row_at (v ∷ vs) at zero h =
    let e : at + 4 * 0 ≡ at = omega arith in
    let s = when_same-here at (pos v) in
    let r = row_none vs (at + 4) at (inl (omega arith)) in
    ap (coefficient (row_terms at (v ∷ vs))) e ∙ omega (arith, ints)
row_at (v ∷ vs) at (suc k) h =
    let e : at + 4 * suc k ≡ at + 4 + 4 * k = omega arith in
    let s = when_same-elsewhere at (at + 4 * suc k) (pos v) (λ q. omega arith) in
    let r = row_at vs (at + 4) k (omega arith) in
    let q = ap (coefficient (row_terms (at + 4) vs)) e in omega (arith, ints)

pub row_positive : (vs : List ℕ) (at : ℕ) → All (λ t. pos 0 ≤ℤ t.1) (row_terms at vs)
row_positive [] at = All-nil (λ t. pos 0 ≤ℤ t.1)
row_positive (v ∷ vs) at = All-cons (λ t. pos 0 ≤ℤ t.1) (at, pos v) (row_terms (at + 4) vs) (omega (arith, ints)) (row_positive vs (at + 4))

-- n lists of terms, from number b on
abbrev pub tabled : (ℕ → Terms) → ℕ → ℕ → Terms
tabled rows b zero = []
tabled rows b (suc n) = rows b ++ tabled rows (suc b) n

pub tabled_none : (rows : ℕ → Terms) (b n a : ℕ) → ((d : ℕ) → b ≤ d → d < b + n → coefficient (rows d) a ≡ pos 0) → coefficient (tabled rows b n) a ≡ pos 0
tabled_none rows b zero a h = refl
tabled_none rows b (suc n) a h =
    let e = coefficient-append (rows b) (tabled rows (suc b) n) a in
    let f = h b (omega arith) (omega arith) in
    let r = tabled_none rows (suc b) n a (λ d p q. h d (omega arith) (omega arith)) in omega (arith, ints)

pub tabled_at : (rows : ℕ → Terms) (b n d a : ℕ) → b ≤ d → d < b + n → ((e : ℕ) → b ≤ e → e < b + n → e ≢ d → coefficient (rows e) a ≡ pos 0) → coefficient (tabled rows b n) a ≡ coefficient (rows d) a
tabled_at rows b zero d a p q h = absurd (omega arith)
tabled_at rows b (suc n) d a p q h =
    let s = coefficient-append (rows b) (tabled rows (suc b) n) a in
    ⊎_elim
    (λ (e : b ≡ d).
    let r = tabled_none rows (suc b) n a (λ k u v. h k (omega arith) (omega arith) (λ z. omega arith)) in
    let t = ap (λ k. coefficient (rows k) a) e in omega (arith, ints))
    (λ (e : b ≢ d).
    let f = h b (omega arith) (omega arith) e in
    let r = tabled_at rows (suc b) n d a (omega arith) (omega arith) (λ k u v z. h k (omega arith) (omega arith) z) in omega (arith, ints))
    (cases_eq b d)

pub tabled_positive : (rows : ℕ → Terms) (b n : ℕ) → ((d : ℕ) → All (λ t. pos 0 ≤ℤ t.1) (rows d)) → All (λ t. pos 0 ≤ℤ t.1) (tabled rows b n)
tabled_positive rows b zero h = All-nil (λ t. pos 0 ≤ℤ t.1)
tabled_positive rows b (suc n) h = All-append (λ t. pos 0 ≤ℤ t.1) (rows b) (tabled rows (suc b) n) (h b) (tabled_positive rows (suc b) n h)
