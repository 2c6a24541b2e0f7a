-- Arrays of a row lie behind one another, from where the row begins on.
use Rattle.std.proofs.Common.{◌≡◌, ◌≢◌, ◌⊎◌, inl, inr, ℕ, zero, suc, ◌+◌, ◌%◌, ◌<◌, ◌≤◌, Bool, true, false, List, [], ◌∷◌, length, refl, sym, ap, ◌∙◌, subst, arith, if◌then◌else◌}
use Rattle.std.specs.Prelude.{Some, ◌==◌, slice_get, slice_index}
use Rattle.std.proofs.lemmas.List.{length-set, get_or-set_same, get_or-set_other}
use Rattle.std.proofs.lemmas.Option.{same_Some, none-some}
use Rattle.std.proofs.lemmas.Bool.{cases_eq}
use Rattle.image_segments.specs.Rows.{Spot, moved, addresses}
use Rattle.image_segments.specs.RowLaws.{AreRows, Lies}

-- what a spot takes of a row
abbrev pub gain : Spot → ℕ → ℕ
gain s r = if s.row == r then s.room else 0

pub gain_by : (s : Spot) (r : ℕ) (b : Bool) → (s.row == r) ≡ b → gain s r ≡ (if b then s.room else 0)
gain_by s r b e = ap (λ c. if c then s.room else 0) e

gain_own : (s : Spot) (r : ℕ) → s.row ≡ r → gain s r ≡ s.room
gain_own s r e = gain_by s r true (grind (arith, e))

gain_other : (s : Spot) (r : ℕ) → s.row ≢ r → gain s r ≡ 0
gain_other s r d = gain_by s r false (grind (arith, d))

-- behind a spot, each row begins as far on as the spot takes of it
pub advanced : (next : List ℕ) (s : Spot) (r : ℕ) → s.row < length next → slice_index (moved next s) r ≡ slice_index next r + gain s r
advanced next s r within = by (cases_eq s.row r)
  where
    by : (s.row ≡ r) ⊎ (s.row ≢ r) → slice_index (moved next s) r ≡ slice_index next r + gain s r
    by (inl e) =
        let there = subst (λ k. slice_index (moved next s) k ≡ slice_index next k + s.room) e (get_or-set_same next s.row (slice_index next s.row + s.room) 0 within) in
        there ∙ ap (λ g. slice_index next r + g) (sym (gain_own s r e))
    by (inr d) =
        let there = get_or-set_other next s.row r (slice_index next s.row + s.room) 0 (λ e. d (sym e)) in
        let none = gain_other s r d in
        there ∙ omega arith

still : (next : List ℕ) (s : Spot) (n : ℕ) → n ≡ length next → n ≡ length (moved next s)
still next s n e = e ∙ sym (length-set next s.row (slice_index next s.row + s.room))

pub lies : (next : List ℕ) (ss : List Spot) (o : ℕ) (s : Spot) → AreRows (length next) ss → slice_get ss o ≡ Some s → Lies next ss s (slice_index (addresses next ss) o)
lies next [] o s rows e = absurd (none-some s e)
lies next (x ∷ ss) zero s rows e =
    let same = same_Some x s e in
    let own = gain_own x s.row (ap (λ (y : Spot). y.row) same) in
    let row = ap (λ (y : Spot). slice_index next y.row) same in
    let room = ap (λ (y : Spot). y.room) same in
    record { from = omega arith; to = omega arith }
lies next (x ∷ ss) (suc o) s rows e =
    let h = lies (moved next x) ss o s (subst (λ n. AreRows n ss) (still next x (length next) refl) rows.1) e in
    let on = advanced next x s.row rows.0 in
    let from = h.from in
    let to = h.to in
    record { from = omega arith; to = omega arith }

-- of two in one row the later one lies behind
pub behind : (next : List ℕ) (ss : List Spot) (o n : ℕ) (s t : Spot) → AreRows (length next) ss → slice_get ss o ≡ Some s → slice_get ss n ≡ Some t → s.row ≡ t.row → o < n
    → slice_index (addresses next ss) o + s.room ≤ slice_index (addresses next ss) n
behind next [] o n s t rows e k same less = absurd (none-some s e)
behind next (x ∷ ss) zero zero s t rows e k same less = absurd (omega arith)
behind next (x ∷ ss) zero (suc n) s t rows e k same less =
    let h = lies (moved next x) ss n t (subst (λ n. AreRows n ss) (still next x (length next) refl) rows.1) k in
    let on = advanced next x t.row rows.0 in
    let is = same_Some x s e in
    let own = gain_own x t.row (ap (λ (y : Spot). y.row) is ∙ same) in
    let row = ap (slice_index next) (ap (λ (y : Spot). y.row) is ∙ same) in
    let room = ap (λ (y : Spot). y.room) is in
    let from = h.from in
    omega arith
behind next (x ∷ ss) (suc o) zero s t rows e k same less = absurd (omega arith)
behind next (x ∷ ss) (suc o) (suc n) s t rows e k same less =
    behind (moved next x) ss o n s t (subst (λ n. AreRows n ss) (still next x (length next) refl) rows.1) e k same (omega arith)

-- all begin at multiples of 4 where the rows do
abbrev pub AreEven : List Spot → Type 0
AreEven [] = Unit {0}
AreEven (s ∷ ss) = (s.room % 4 ≡ 0) × AreEven ss

pub aligned : (next : List ℕ) (ss : List Spot) (o : ℕ) → AreRows (length next) ss → AreEven ss → ((r : ℕ) → slice_index next r % 4 ≡ 0) → slice_index (addresses next ss) o % 4 ≡ 0
aligned next [] o rows even e = refl
aligned next (x ∷ ss) zero rows even e = e x.row
aligned next (x ∷ ss) (suc o) rows even e =
    aligned (moved next x) ss o (subst (λ n. AreRows n ss) (still next x (length next) refl) rows.1) even.1
    (λ r. subst (λ k. k % 4 ≡ 0) (sym (advanced next x r rows.0)) (sum r (gain_even r (x.row == r) refl)))
  where
    gain_even : (r : ℕ) (b : Bool) → (x.row == r) ≡ b → gain x r % 4 ≡ 0
    gain_even r true k = subst (λ g. g % 4 ≡ 0) (sym (gain_by x r true k)) even.0
    gain_even r false k = subst (λ g. g % 4 ≡ 0) (sym (gain_by x r false k)) refl

    sum : (r : ℕ) → gain x r % 4 ≡ 0 → (slice_index next r + gain x r) % 4 ≡ 0
    sum r g = let h = e r in omega arith
