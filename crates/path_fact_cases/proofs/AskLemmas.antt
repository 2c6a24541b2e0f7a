-- Numbers and signs, one more at a time.
use Rattle.std.proofs.Common.{◌≡◌, ℕ, ◌+◌, ◌≤◌, ◌<◌, ℤ, pos, arith, sym, ap, ◌∙◌, subst, List, ◌∷◌, length, drop, get_or, add-one, drop-cons, All}
use Rattle.std.proofs.Math.ListN.{drop_of_length-le}
use Rattle.std.proofs.lemmas.List.Elements.{All-cons, All-nil}
use Rattle.code_flow_system.specs.declared.claims.FactClaim.{FactClaim}
use Rattle.code_flow_system.specs.Certificates.{fact_limits, FitsSign, IsSigned}

pub numbers_next : (P : ℤ → Type 0) (zs : List ℤ) (i : ℕ) → i < length zs → P (get_or zs i (pos 0)) → (All P (drop i zs) → All P zs) → All P (drop (i + 1) zs) → All P zs
numbers_next P zs i lt p h rest =
    let e : drop i zs ≡ get_or zs i (pos 0) ∷ drop (i + 1) zs = rw add-one (drop-cons zs i (pos 0) lt) in
    h (subst (All P) (sym e) (All-cons P (get_or zs i (pos 0)) (drop (i + 1) zs) p rest))

pub numbers_end : (P : ℤ → Type 0) (zs : List ℤ) (i : ℕ) → length zs ≤ i → (All P (drop i zs) → All P zs) → All P zs
numbers_end P zs i at h = h (subst (All P) (sym (drop_of_length-le zs at)) (All-nil P))

pub signs_next : (fs : List FactClaim) (ys : List ℤ) (i : ℕ) (f : FactClaim) → f ≡ get_or fs i f → i < length fs → length ys ≡ length fs → FitsSign f.op (get_or ys i (pos 0)) →
    (All IsSigned (fact_limits (drop i fs) (drop i ys)) → All IsSigned (fact_limits fs ys)) → All IsSigned (fact_limits (drop (i + 1) fs) (drop (i + 1) ys)) → All IsSigned (fact_limits fs ys)
signs_next fs ys i f is lt long sign h rest = h (subst (All IsSigned) (sym both) (All-cons IsSigned _ _ sign rest))
  where
    facts : drop i fs ≡ get_or fs i f ∷ drop (i + 1) fs
    facts = rw add-one (drop-cons fs i f lt)

    multipliers : drop i ys ≡ get_or ys i (pos 0) ∷ drop (i + 1) ys
    multipliers = rw add-one (drop-cons ys i (pos 0) (omega (arith, lt, long)))

    both : fact_limits (drop i fs) (drop i ys) ≡ fact_limits (f ∷ drop (i + 1) fs) (get_or ys i (pos 0) ∷ drop (i + 1) ys)
    both = ap (λ (gs : List FactClaim). fact_limits gs (drop i ys)) (facts ∙ ap (λ (g : FactClaim). g ∷ drop (i + 1) fs) (sym is)) ∙ ap (λ (zs : List ℤ). fact_limits (f ∷ drop (i + 1) fs) zs) multipliers

pub signs_end : (fs : List FactClaim) (ys : List ℤ) (i : ℕ) → length fs ≤ i → (All IsSigned (fact_limits (drop i fs) (drop i ys)) → All IsSigned (fact_limits fs ys)) → All IsSigned (fact_limits fs ys)
signs_end fs ys i at h = h (subst (λ (gs : List FactClaim). All IsSigned (fact_limits gs (drop i ys))) (sym (drop_of_length-le fs at)) (All-nil IsSigned))
