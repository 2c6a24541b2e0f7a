-- Multipliers that are listed one after the other have their signs.
use Rattle.std.proofs.Common.{◌≡◌, ℕ, zero, suc, ◌+◌, ◌*◌, ◌/◌, ◌≤◌, ◌<◌, ◌^◌, ℤ, arith, refl, sym, ap, ◌∙◌, subst, List, [], ◌∷◌, ◌++◌, length, take, get_or, All, unsigned_abs, length-append, length-take-le}
use Rattle.std.proofs.lemmas.List.{take_more}
use Rattle.std.proofs.lemmas.List.Elements.{All-cons, All-nil, All-append}
use Rattle.wcc_base.specs.declared.compare.Compare.{Compare}
use Rattle.std.proofs.Math.Nat.{le-div_iff_mul-le}
use Rattle.path_cutting_planes.specs.Guesses.{IsGuess}
use Rattle.simplex_laws.specs.RoundLaws.{HasSign, HaveSigns}

pub signs_more : (os : List Compare) (ys : List ℤ) (o : Compare) (y : ℤ) → HaveSigns os ys → length ys ≡ length os → HasSign o y → HaveSigns (os ++ o ∷ []) (ys ++ y ∷ [])
signs_more [] [] o y h e s = (s, tt)
signs_more [] (z ∷ ys) o y h e s = absurd (omega (arith, e))
signs_more (p ∷ os) [] o y h e s = absurd h
signs_more (p ∷ os) (z ∷ ys) o y h e s = (h.0, signs_more os ys o y h.1 (omega (arith, e)) s)

pub signs_next : (os : List Compare) (i : ℕ) (d : Compare) (ys : List ℤ) (y : ℤ) → i < length os → HaveSigns (take i os) ys → length ys ≡ length (take i os) → HasSign (get_or os i d) y → HaveSigns (take (i + 1) os) (ys ++ y ∷ [])
signs_next os i d ys y lt h e s = subst (λ xs. HaveSigns xs (ys ++ y ∷ [])) (sym (take_more os i d lt)) (signs_more (take i os) ys (get_or os i d) y h e s)

pub all_more : {X : Type 0} (P : X → Type 0) (xs : List X) (x : X) → All P xs → P x → All P (xs ++ x ∷ [])
all_more P xs x h p = All-append P xs (x ∷ []) h (All-cons P x [] p (All-nil P))

-- a number that is at most a quotient
pub within_limit : (z n : ℕ) → 0 < n → z ≤ (2 ^ 44) / n → z * n ≤ 2 ^ 44
within_limit z n some h = (le-div_iff_mul-le some).0 h

pub over_next : (os : List Compare) (i n : ℕ) (d : Compare) (ys new : List ℤ) (y z : ℤ) → 0 < n → i < length os → new ≡ ys ++ y ∷ [] → y ≡ z → HasSign (get_or os i d) z → unsigned_abs z ≤ (2 ^ 44) / n →
    (length ys ≡ i) × All (λ u. unsigned_abs u * n ≤ 2 ^ 44) ys × HaveSigns (take i os) ys →
    (length new ≡ i + 1) × All (λ u. unsigned_abs u * n ≤ 2 ^ 44) new × HaveSigns (take (i + 1) os) new
over_next os i n d ys new y z some lt e same sign small h =
    let one : length (ys ++ y ∷ []) ≡ length ys + 1 = length-append ys (y ∷ []) in
    let long : length ys ≡ length (take i os) = h.0 ∙ sym (length-take-le i os (omega (arith, lt))) in (
      ap length e ∙ (one ∙ ap (λ k. k + 1) h.0),
      subst (All (λ u. unsigned_abs u * n ≤ 2 ^ 44)) (sym e) (all_more (λ u. unsigned_abs u * n ≤ 2 ^ 44) ys y h.1 (subst (λ (u : ℤ). unsigned_abs u * n ≤ 2 ^ 44) (sym same) (within_limit (unsigned_abs z) n some small))),
      subst (HaveSigns (take (i + 1) os)) (sym e) (signs_next os i d ys y lt h.2 long (subst (HasSign (get_or os i d)) (sym same) sign)),
    )

-- all of them
pub taken_all : {X : Type 0} (xs : List X) (k : ℕ) → length xs ≤ k → take k xs ≡ xs
taken_all [] zero h = refl
taken_all [] (suc k) h = refl
taken_all (x ∷ xs) zero h = absurd (omega (arith, h))
taken_all (x ∷ xs) (suc k) h = ap (λ ys. x ∷ ys) (taken_all xs k (omega (arith, h)))

pub over_done : (os : List Compare) (i n scale : ℕ) (ys : List ℤ) → 0 < scale → scale * n ≤ 2 ^ 44 → i ≡ length os → (length ys ≡ i) × All (λ u. unsigned_abs u * n ≤ 2 ^ 44) ys × HaveSigns (take i os) ys → IsGuess os n (record { scale = scale; facts = ys })
over_done os i n scale ys some scaled e h = record {
  some = some;
  scaled = scaled;
  count = h.0 ∙ e;
  facts = h.1;
  signs = subst (λ xs. HaveSigns xs ys) (taken_all os i (omega (arith, e))) h.2;
}
