-- Sets of registers, as tables and as lists.
use Rattle.std.proofs.Common.{◌≡◌, ◌≢◌, ◌⊎◌, inl, inr, ℕ, zero, suc, ◌<◌, ◌≤◌, Bool, true, false, List, [], ◌∷◌, ◌++◌, length, refl, sym, ap, ◌∙◌, subst, ⊎_elim, arith, if◌then◌else◌}
use Rattle.std.specs.Prelude.{◌==◌, Contains, replicate, slice_index_or, slice_set}
use Rattle.std.proofs.lemmas.List.{length-set, length-replicate}
use Rattle.std.proofs.lemmas.Bool.{cases_eq, false≢true}
use Rattle.low_ir.specs.Effects.{is_member}
use Rattle.low_ir.specs.Places.{machine_registers}
use Rattle.image_frames.specs.Registers.{Table, no_registers, holds, marked, table_of, chosen}

-- a member is the first, or one of the rest
pub member_cases : (x q : ℕ) (xs : List ℕ) → is_member (x ∷ xs) q ≡ true → (x ≡ q) ⊎ (is_member xs q ≡ true)
member_cases x q xs h = by (cases_eq x q)
  where
    by : (x ≡ q) ⊎ (x ≢ q) → (x ≡ q) ⊎ (is_member xs q ≡ true)
    by (inl e) = inl e
    by (inr d) = let t : (x == q) ≡ false = grind (arith, d) in inr (sym (ap (λ (b : Bool). if b then true else is_member xs q) t) ∙ h)

pub member_first : (x : ℕ) (xs : List ℕ) → is_member (x ∷ xs) x ≡ true
member_first x xs = let t : (x == x) ≡ true = grind arith in ap (λ (b : Bool). if b then true else is_member xs x) t

member_by : (b c : Bool) → c ≡ true → (if b then true else c) ≡ true
member_by true c h = refl
member_by false c h = h

pub member_rest : (x q : ℕ) (xs : List ℕ) → is_member xs q ≡ true → is_member (x ∷ xs) q ≡ true
member_rest x q xs h = member_by (x == q) (is_member xs q) h

pub not_first : (x q : ℕ) (xs : List ℕ) → is_member (x ∷ xs) q ≡ false → x ≢ q
not_first x q xs h e = false≢true (sym h ∙ subst (λ y. is_member (x ∷ xs) y ≡ true) e (member_first x xs))

pub not_rest : (x q : ℕ) (xs : List ℕ) → is_member (x ∷ xs) q ≡ false → is_member xs q ≡ false
not_rest x q xs h = by (is_member xs q) refl
  where
    by : (b : Bool) → is_member xs q ≡ b → is_member xs q ≡ false
    by false e = e
    by true e = absurd (false≢true (sym h ∙ member_rest x q xs e))

-- what a list contains is a member of it
pub member_of : (xs : List ℕ) (q : ℕ) → Contains xs q → is_member xs q ≡ true
member_of xs q c = at xs c.0 c.1 c.2
  where
    at : (ys : List ℕ) (k : ℕ) → k < length ys → slice_index_or ys k q ≡ q → is_member ys q ≡ true
    at [] k less e = absurd (omega arith)
    at (y ∷ ys) zero less e = subst (λ z. is_member (y ∷ ys) z ≡ true) e (member_first y ys)
    at (y ∷ ys) (suc k) less e = member_rest y q ys (at ys k (omega arith) e)

-- tables: what was in the set stays there
pub set_stays : (t : Table) (i q : ℕ) → holds t q ≡ true → holds (slice_set t i true) q ≡ true
set_stays [] i q h = h
set_stays (b ∷ t) zero zero h = refl
set_stays (b ∷ t) zero (suc q) h = h
set_stays (b ∷ t) (suc i) zero h = h
set_stays (b ∷ t) (suc i) (suc q) h = set_stays t i q h

pub set_holds : (t : Table) (i : ℕ) → i < length t → holds (slice_set t i true) i ≡ true
set_holds [] i h = absurd (omega arith)
set_holds (b ∷ t) zero h = refl
set_holds (b ∷ t) (suc i) h = set_holds t i (omega arith)

pub set_other : (t : Table) (i q : ℕ) (b : Bool) → i ≢ q → holds (slice_set t i b) q ≡ holds t q
set_other [] i q b d = refl
set_other (c ∷ t) zero zero b d = absurd (d refl)
set_other (c ∷ t) zero (suc q) b d = refl
set_other (c ∷ t) (suc i) zero b d = refl
set_other (c ∷ t) (suc i) (suc q) b d = set_other t i q b (λ e. d (ap suc e))

pub marked_stays : (t : Table) (qs : List ℕ) (q : ℕ) → holds t q ≡ true → holds (marked t qs) q ≡ true
marked_stays t [] q h = h
marked_stays t (x ∷ qs) q h = marked_stays (slice_set t x true) qs q (set_stays t x q h)

pub marked_holds : (t : Table) (qs : List ℕ) (q : ℕ) → q < length t → is_member qs q ≡ true → holds (marked t qs) q ≡ true
marked_holds t [] q within h = absurd (false≢true h)
marked_holds t (x ∷ qs) q within h = by (member_cases x q qs h) (marked_holds (slice_set t x true) qs q (subst (λ n. q < n) (sym (length-set t x true)) within))
  where
    by : (x ≡ q) ⊎ (is_member qs q ≡ true) → (is_member qs q ≡ true → holds (marked t (x ∷ qs)) q ≡ true) → holds (marked t (x ∷ qs)) q ≡ true
    by (inl e) go = marked_stays (slice_set t x true) qs q (subst (λ y. holds (slice_set t y true) q ≡ true) (sym e) (set_holds t q within))
    by (inr k) go = go k

pub marked_other : (t : Table) (qs : List ℕ) (q : ℕ) → is_member qs q ≡ false → holds (marked t qs) q ≡ holds t q
marked_other t [] q h = refl
marked_other t (x ∷ qs) q h = marked_other (slice_set t x true) qs q (not_rest x q qs h) ∙ set_other t x q true (not_first x q qs h)

pub marked_append : (t : Table) (xs ys : List ℕ) → marked t (xs ++ ys) ≡ marked (marked t xs) ys
marked_append t [] ys = refl
marked_append t (x ∷ xs) ys = marked_append (slice_set t x true) xs ys

none_holds : (n q : ℕ) → holds (replicate n false) q ≡ false
none_holds zero q = refl
none_holds (suc n) zero = refl
none_holds (suc n) (suc q) = none_holds n q

pub table_holds : (qs : List ℕ) (q : ℕ) → q < machine_registers → is_member qs q ≡ true → holds (table_of qs) q ≡ true
table_holds qs q within h = marked_holds no_registers qs q (subst (λ n. q < n) (sym (length-replicate machine_registers false)) within) h

pub table_misses : (qs : List ℕ) (q : ℕ) → is_member qs q ≡ false → holds (table_of qs) q ≡ false
table_misses qs q h = marked_other no_registers qs q h ∙ none_holds machine_registers q

-- the numbers that pass a test
pub in_chosen : (test : ℕ → Bool) (n q : ℕ) → q < n → test q ≡ true → is_member (chosen test n) q ≡ true
in_chosen test zero q less h = absurd (omega arith)
in_chosen test (suc n) q less h = by (test n) refl (cases_eq n q) (λ l. in_chosen test n q l h)
  where
    by : (b : Bool) → test n ≡ b → (n ≡ q) ⊎ (n ≢ q) → (q < n → is_member (chosen test n) q ≡ true) → is_member (if b then n ∷ chosen test n else chosen test n) q ≡ true
    by true e (inl s) go = subst (λ y. is_member (n ∷ chosen test n) y ≡ true) s (member_first n (chosen test n))
    by true e (inr d) go = member_rest n q (chosen test n) (go (omega (arith, d, less)))
    by false e (inl s) go = absurd (false≢true (sym e ∙ ap test s ∙ h))
    by false e (inr d) go = go (omega (arith, d, less))

pub record IsChosen (test : ℕ → Bool) (n q : ℕ) : Type 0 where
  pub below : q < n
  pub passes : test q ≡ true

pub from_chosen : (test : ℕ → Bool) (n q : ℕ) → is_member (chosen test n) q ≡ true → IsChosen test n q
from_chosen test zero q h = absurd (false≢true h)
from_chosen test (suc n) q h = by (test n) refl h (from_chosen test n q)
  where
    on : IsChosen test n q → IsChosen test (suc n) q
    on c = let b = c.below in record { below = omega arith; passes = c.passes }

    by : (b : Bool) → test n ≡ b → is_member (if b then n ∷ chosen test n else chosen test n) q ≡ true → (is_member (chosen test n) q ≡ true → IsChosen test n q) → IsChosen test (suc n) q
    by true e k go = ⊎_elim here (λ l. on (go l)) (member_cases n q (chosen test n) k)
      where
        here : n ≡ q → IsChosen test (suc n) q
        here s = record { below = omega (arith, s); passes = sym (ap test s) ∙ e }
    by false e k go = on (go k)

pub chosen_few : (test : ℕ → Bool) (n : ℕ) → length (chosen test n) ≤ n
chosen_few test zero = omega arith
chosen_few test (suc n) = let h = chosen_few test n in by (test n) h
  where
    by : (b : Bool) → length (chosen test n) ≤ n → length (if b then n ∷ chosen test n else chosen test n) ≤ suc n
    by true h = omega arith
    by false h = omega arith
