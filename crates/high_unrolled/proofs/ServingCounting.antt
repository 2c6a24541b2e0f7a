-- Counts from what runs noted.
use Rattle.std.proofs.Common.{◌≡◌, ℕ, ◌+◌, ◌==◌, cond, List, [], ◌∷◌, map, Option, Some, None, refl, sym, ap, ◌∙◌, ⊎_elim, arith}
use Rattle.std.specs.Prelude.{sum_by}
use Rattle.std.proofs.lemmas.Bool.{cases_eq, cond-false, cond-true, eq-eqb, ne_eqb}
use Rattle.std.proofs.lemmas.List.Sums.{sum_by-cons}
use Rattle.high_ir.specs.Meaning.{Labels}
use Rattle.high_ir.specs.Runs.{count_of}
use Rattle.high_pass.specs.Listing.{MarkEntry}
use Rattle.high_unrolled.specs.Standing.{IsGroup, hits}

-- 1 where two numbers are equal
abbrev pub hit : ℕ → ℕ → ℕ
hit j k = cond (j == k) 1 0

pub count-cons : (k j : ℕ) (t : List ℕ) → count_of k (j ∷ t) ≡ hit j k + count_of k t
count-cons k j t = sum_by-cons (λ x. cond (x == k) 1 0) j t

pub hit-turned : (j k : ℕ) → hit j k ≡ hit k j
hit-turned j k = ⊎_elim
    (λ (same : j ≡ k). cond-true {A = ℕ} (j == k) 1 0 (eq-eqb j k same) ∙ sym (cond-true {A = ℕ} (k == j) 1 0 (eq-eqb k j (sym same))))
    (λ (other : j ≡ k → ⊥). cond-false {A = ℕ} (j == k) 1 0 (ne_eqb j k other) ∙ sym (cond-false {A = ℕ} (k == j) 1 0 (ne_eqb k j (λ e. other (sym e)))))
    (cases_eq j k)

-- how often one mark more is counted by a list of marks
counts-more : (j : ℕ) (t ks : List ℕ) → sum_by (λ k. count_of k (j ∷ t)) ks ≡ count_of j ks + sum_by (λ k. count_of k t) ks
counts-more j t [] = refl
counts-more j t (k ∷ ks) =
    let a = sum_by-cons (λ x. count_of x (j ∷ t)) k ks in
    let b = sum_by-cons (λ x. count_of x t) k ks in
    let c = counts-more j t ks in
    let d = count-cons k j t in
    let e = count-cons j k ks in
    let f = hit-turned j k in
    omega (arith, a, b, c, d, e, f)

counts-none : (ks : List ℕ) → sum_by (λ k. count_of k []) ks ≡ 0
counts-none [] = refl
counts-none (k ∷ ks) = let a = sum_by-cons (λ x. count_of x []) k ks in let b = counts-none ks in let c : count_of k [] ≡ 0 = refl in omega (arith, a, b, c)

first_same : (a b : Option ℕ) (xs ys : List (Option ℕ)) → a ∷ xs ≡ b ∷ ys → a ≡ b
first_same a b xs ys e = cc

rest_same : (a b : Option ℕ) (xs ys : List (Option ℕ)) → a ∷ xs ≡ b ∷ ys → xs ≡ ys
rest_same a b xs ys e = cc

none_same : (a : Option ℕ) (xs : List (Option ℕ)) → a ∷ xs ≡ [] → ⊥
none_same a xs e = cc

-- a mark's count is the sum of the counts of its copies
pub counts_of_copies : (m : Labels) (e : MarkEntry) → IsGroup m e → (s t : List ℕ) → map Some s ≡ map m t → count_of e.old s ≡ sum_by (λ k. count_of k t) e.new
counts_of_copies m e group [] [] same = sym (counts-none e.new)
counts_of_copies m e group [] (j ∷ t) same = absurd (none_same (m j) (map m t) (sym same))
counts_of_copies m e group (x ∷ s) [] same = absurd (none_same (Some x) (map Some s) same)
counts_of_copies m e group (x ∷ s) (j ∷ t) same =
    let label : Some x ≡ m j = first_same (Some x) (m j) (map Some s) (map m t) same in
    let ih = counts_of_copies m e group s t (rest_same (Some x) (m j) (map Some s) (map m t) same) in
    let here : count_of j e.new ≡ hit x e.old = group j ∙ ap (λ o. hits o e.old) (sym label) in
    let a = count-cons e.old x s in
    let b = counts-more j t e.new in
    omega (arith, ih, here, a, b)

no_label : (o : Option ℕ) (x : ℕ) → o ≡ None → Some x ≡ o → ⊥
no_label o x none some = cc

-- a mark without a label is never passed
pub counts_of_nevers : (m : Labels) (v : ℕ) → m v ≡ None → (s t : List ℕ) → map Some s ≡ map m t → count_of v t ≡ 0
counts_of_nevers m v none s [] same = refl
counts_of_nevers m v none [] (j ∷ t) same = absurd (none_same (m j) (map m t) (sym same))
counts_of_nevers m v none (x ∷ s) (j ∷ t) same =
    let label : Some x ≡ m j = first_same (Some x) (m j) (map Some s) (map m t) same in
    let ih = counts_of_nevers m v none s t (rest_same (Some x) (m j) (map Some s) (map m t) same) in
    let a = count-cons v j t in
    let other : hit j v ≡ 0 = ⊎_elim
    (λ (e : j ≡ v). absurd (no_label (m j) x (ap m e ∙ none) label))
    (λ (e : j ≡ v → ⊥). cond-false {A = ℕ} (j == v) 1 0 (ne_eqb j v e))
    (cases_eq j v) in
    omega (arith, ih, a, other)
