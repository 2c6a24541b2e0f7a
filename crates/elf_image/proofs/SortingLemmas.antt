-- Ascending lists of segments.
use Rattle.std.proofs.Common.{◌≡◌, ℕ, ◌+◌, ◌≤◌, ◌↔◌, List, [], ◌∷◌, ◌++◌, length, Bool, true, false, nat_le, refl, ⊎_elim, inl, inr, ap, sym, ◌∙◌, arith}
use Rattle.std.proofs.lemmas.Grind.{common_steps}
use Rattle.std.proofs.lemmas.Bool.Decides.{nat_tests}
use Rattle.std.specs.List.{prefix_len, insert}
use Rattle.rv_core.specs.declared.image.Segment.{Segment}
use Rattle.rv_core.specs.Images.{IsSegment, AreSegments, IsBefore, IsAscending, Apart, ApartFrom, AreApart}
use Rattle.elf_image.specs.Sorting.{put_first, put_last, sorted}

-- the two branches of putting a segment into a list
put_first_low : (s t : Segment) (ts : List Segment) → nat_le s.at t.at ≡ true → put_first s (t ∷ ts) ≡ s ∷ t ∷ ts
put_first_low s t ts e = rw e refl

put_first_high : (s t : Segment) (ts : List Segment) → nat_le s.at t.at ≡ false → put_first s (t ∷ ts) ≡ t ∷ put_first s ts
put_first_high s t ts e = rw e refl

put_last_high : (s t : Segment) (ts : List Segment) → nat_le t.at s.at ≡ true → put_last s (t ∷ ts) ≡ t ∷ put_last s ts
put_last_high s t ts e = rw e refl

put_last_low : (s t : Segment) (ts : List Segment) → nat_le t.at s.at ≡ false → put_last s (t ∷ ts) ≡ s ∷ t ∷ ts
put_last_low s t ts e = rw e refl

insert_here : (s : Segment) (ts : List Segment) (p : Segment → Bool) (t : Segment) → p t ≡ false → insert (t ∷ ts) (prefix_len p (t ∷ ts)) s ≡ s ∷ t ∷ ts
insert_here s ts p t e = rw e refl

insert_later : (s : Segment) (ts : List Segment) (p : Segment → Bool) (t : Segment) → p t ≡ true → insert (t ∷ ts) (prefix_len p (t ∷ ts)) s ≡ t ∷ insert ts (prefix_len p ts) s
insert_later s ts p t e = rw e grind (arith, common_steps)

insert-place : (s : Segment) (ss : List Segment) → insert ss (prefix_len (λ t. nat_le t.at s.at) ss) s ≡ put_last s ss
insert-place s [] = refl
insert-place s (t ∷ ts) = by (nat_le t.at s.at) refl (insert-place s ts)
  where
    by : (b : Bool) → nat_le t.at s.at ≡ b → insert ts (prefix_len (λ t. nat_le t.at s.at) ts) s ≡ put_last s ts → insert (t ∷ ts) (prefix_len (λ t. nat_le t.at s.at) (t ∷ ts)) s ≡ put_last s (t ∷ ts)
    by true e more = insert_later s ts (λ t. nat_le t.at s.at) t e ∙ ap (λ l. t ∷ l) more ∙ sym (put_last_high s t ts e)
    by false e more = insert_here s ts (λ t. nat_le t.at s.at) t e ∙ sym (put_last_low s t ts e)

pub inserted : (s : Segment) (ss new : List Segment) (k : ℕ) → k ≡ prefix_len (λ t. nat_le t.at s.at) ss → new ≡ insert ss k s → new ≡ put_last s ss
inserted s ss new k place is = is ∙ ap (λ k. insert ss k s) place ∙ insert-place s ss

-- the two ways of putting segments into a list do not disturb each other
pub put_last-put_first : (x s : Segment) (ss : List Segment) → put_last x (put_first s ss) ≡ put_first s (put_last x ss)
put_last-put_first x s [] = by (nat_le s.at x.at) refl
  where
    by : (b : Bool) → nat_le s.at x.at ≡ b → put_last x (s ∷ []) ≡ put_first s (x ∷ [])
    by true e = put_last_high x s [] e ∙ sym (put_first_low s x [] e)
    by false e = put_last_low x s [] e ∙ sym (put_first_high s x [] e)
put_last-put_first x s (t ∷ ts) = by (nat_le s.at t.at) (nat_le t.at x.at) (nat_le s.at x.at) refl refl refl (put_last-put_first x s ts)
  where
    by : (a b d : Bool) → nat_le s.at t.at ≡ a → nat_le t.at x.at ≡ b → nat_le s.at x.at ≡ d → put_last x (put_first s ts) ≡ put_first s (put_last x ts) → put_last x (put_first s (t ∷ ts)) ≡ put_first s (put_last x (t ∷ ts))
    by true true true a b d more =
        ap (put_last x) (put_first_low s t ts a)
        ∙ put_last_high x s (t ∷ ts) d
        ∙ ap (λ l. s ∷ l) (put_last_high x t ts b)
        ∙ sym (put_first_low s t (put_last x ts) a)
        ∙ ap (put_first s) (sym (put_last_high x t ts b))
    by true true false a b d more = absurd (grind (arith, nat_tests))
    by true false true a b d more =
        ap (put_last x) (put_first_low s t ts a)
        ∙ put_last_high x s (t ∷ ts) d
        ∙ ap (λ l. s ∷ l) (put_last_low x t ts b)
        ∙ sym (put_first_low s x (t ∷ ts) d)
        ∙ ap (put_first s) (sym (put_last_low x t ts b))
    by true false false a b d more =
        ap (put_last x) (put_first_low s t ts a)
        ∙ put_last_low x s (t ∷ ts) d
        ∙ ap (λ l. x ∷ l) (sym (put_first_low s t ts a))
        ∙ sym (put_first_high s x (t ∷ ts) d)
        ∙ ap (put_first s) (sym (put_last_low x t ts b))
    by false true d a b e more =
        ap (put_last x) (put_first_high s t ts a)
        ∙ put_last_high x t (put_first s ts) b
        ∙ ap (λ l. t ∷ l) more
        ∙ sym (put_first_high s t (put_last x ts) a)
        ∙ ap (put_first s) (sym (put_last_high x t ts b))
    by false false true a b d more = absurd (grind (arith, nat_tests))
    by false false false a b d more =
        ap (put_last x) (put_first_high s t ts a)
        ∙ put_last_low x t (put_first s ts) b
        ∙ ap (λ l. x ∷ l) (sym (put_first_high s t ts a))
        ∙ sym (put_first_high s x (t ∷ ts) d)
        ∙ ap (put_first s) (sym (put_last_low x t ts b))

-- one more segment, behind the others
pub sorted-snoc : (ss : List Segment) (x : Segment) → sorted (ss ++ x ∷ []) ≡ put_last x (sorted ss)
sorted-snoc [] x = refl
sorted-snoc (s ∷ ss) x = ap (put_first s) (sorted-snoc ss x) ∙ sym (put_last-put_first x s (sorted ss))

put_first-ascending : (s : Segment) (ss : List Segment) → IsBefore s.at ss → put_first s ss ≡ s ∷ ss
put_first-ascending s [] h = refl
put_first-ascending s (t ∷ ts) h = put_first_low s t ts (grind (arith, nat_tests, h.0))

-- a list in order stays as it is
pub sorted-ascending : (ss : List Segment) → IsAscending ss → sorted ss ≡ ss
sorted-ascending [] h = refl
sorted-ascending (s ∷ ss) h = ap (put_first s) (sorted-ascending ss h.1) ∙ put_first-ascending s ss h.0

-- what holds of each segment of a list, put together from a segment and the others
pub length-put_last : (x : Segment) (ss : List Segment) → length (put_last x ss) ≡ length ss + 1
length-put_last x [] = refl
length-put_last x (t ∷ ts) = by (nat_le t.at x.at) refl (length-put_last x ts)
  where
    by : (b : Bool) → nat_le t.at x.at ≡ b → length (put_last x ts) ≡ length ts + 1 → length (put_last x (t ∷ ts)) ≡ length (t ∷ ts) + 1
    by true e more = ap length (put_last_high x t ts e) ∙ omega (arith, more)
    by false e more = ap length (put_last_low x t ts e) ∙ omega arith

pub segments-put_last : (x : Segment) (ss : List Segment) → IsSegment x → AreSegments ss → AreSegments (put_last x ss)
segments-put_last x [] one all = (one, tt)
segments-put_last x (t ∷ ts) one all = by (nat_le t.at x.at) refl (segments-put_last x ts one all.1)
  where
    by : (b : Bool) → nat_le t.at x.at ≡ b → AreSegments (put_last x ts) → AreSegments (put_last x (t ∷ ts))
    by true e more = rw e (all.0, more)
    by false e more = rw e (one, all)

before-put_last : (at : ℕ) (x : Segment) (ss : List Segment) → at ≤ x.at → IsBefore at ss → IsBefore at (put_last x ss)
before-put_last at x [] one all = (one, tt)
before-put_last at x (t ∷ ts) one all = by (nat_le t.at x.at) refl (before-put_last at x ts one all.1)
  where
    by : (b : Bool) → nat_le t.at x.at ≡ b → IsBefore at (put_last x ts) → IsBefore at (put_last x (t ∷ ts))
    by true e more = rw e (all.0, more)
    by false e more = rw e (one, all)

-- an address that is not above another is not above what that one is not above
before-lower : (low high : ℕ) (ss : List Segment) → low ≤ high → IsBefore high ss → IsBefore low ss
before-lower low high [] le all = tt
before-lower low high (t ∷ ts) le all = (omega (arith, all.0), before-lower low high ts le all.1)

pub ascending-put_last : (x : Segment) (ss : List Segment) → IsAscending ss → IsAscending (put_last x ss)
ascending-put_last x [] all = (tt, tt)
ascending-put_last x (t ∷ ts) all = by (nat_le t.at x.at) refl (ascending-put_last x ts all.1)
  where
    by : (b : Bool) → nat_le t.at x.at ≡ b → IsAscending (put_last x ts) → IsAscending (put_last x (t ∷ ts))
    by true e more = rw e (before-put_last t.at x ts (grind (arith, nat_tests)) all.0, more)
    by false e more =
        let lt : x.at ≤ t.at = grind (arith, nat_tests) in
        rw e ((lt, before-lower x.at t.at ts lt all.0), all)

pub apart_turned : (s t : Segment) → Apart s t → Apart t s
apart_turned s t h = ⊎_elim (λ e. inr (inl e)) (⊎_elim (λ e. inl e) (⊎_elim (λ e. inr (inr (inr e))) (λ e. inr (inr (inl e))))) h

pub apart_from-put_last : (s x : Segment) (ss : List Segment) → Apart s x → ApartFrom s ss → ApartFrom s (put_last x ss)
apart_from-put_last s x [] one all = (one, tt)
apart_from-put_last s x (t ∷ ts) one all = by (nat_le t.at x.at) refl (apart_from-put_last s x ts one all.1)
  where
    by : (b : Bool) → nat_le t.at x.at ≡ b → ApartFrom s (put_last x ts) → ApartFrom s (put_last x (t ∷ ts))
    by true e more = rw e (all.0, more)
    by false e more = rw e (one, all)

pub apart-put_last : (x : Segment) (ss : List Segment) → ApartFrom x ss → AreApart ss → AreApart (put_last x ss)
apart-put_last x [] one all = (tt, tt)
apart-put_last x (t ∷ ts) one all = by (nat_le t.at x.at) refl (apart-put_last x ts one.1 all.1)
  where
    by : (b : Bool) → nat_le t.at x.at ≡ b → AreApart (put_last x ts) → AreApart (put_last x (t ∷ ts))
    by true e more = rw e (apart_from-put_last t x ts (apart_turned x t one.0) all.0, more)
    by false e more = rw e (one, all)

-- a segment is apart from the same ones in another order
apart_from-put_first : (s x : Segment) (ss : List Segment) → ApartFrom s (put_first x ss) ↔ ApartFrom s (x ∷ ss)
apart_from-put_first s x [] = (λ h. h, λ h. h)
apart_from-put_first s x (t ∷ ts) = by (nat_le x.at t.at) refl (apart_from-put_first s x ts)
  where
    by : (b : Bool) → nat_le x.at t.at ≡ b → ApartFrom s (put_first x ts) ↔ ApartFrom s (x ∷ ts) → ApartFrom s (put_first x (t ∷ ts)) ↔ ApartFrom s (x ∷ t ∷ ts)
    by true e more = rw e (λ h. h, λ h. h)
    by false e more = rw e (λ h. ((more.0 h.1).0, (h.0, (more.0 h.1).1)), λ h. (h.1.0, more.1 (h.0, h.1.1)))

pub apart_from-sorted : (s : Segment) (ss : List Segment) → ApartFrom s (sorted ss) ↔ ApartFrom s ss
apart_from-sorted s [] = (λ h. h, λ h. h)
apart_from-sorted s (t ∷ ts) =
    let more = apart_from-sorted s ts in
    let put = apart_from-put_first s t (sorted ts) in
    (λ h. ((put.0 h).0, more.0 (put.0 h).1), λ h. put.1 (h.0, more.1 h.1))

length-put_first : (x : Segment) (ss : List Segment) → length (put_first x ss) ≡ length ss + 1
length-put_first x [] = refl
length-put_first x (t ∷ ts) = by (nat_le x.at t.at) refl (length-put_first x ts)
  where
    by : (b : Bool) → nat_le x.at t.at ≡ b → length (put_first x ts) ≡ length ts + 1 → length (put_first x (t ∷ ts)) ≡ length (t ∷ ts) + 1
    by true e more = ap length (put_first_low x t ts e) ∙ omega arith
    by false e more = ap length (put_first_high x t ts e) ∙ omega (arith, more)

pub length-sorted : (ss : List Segment) → length (sorted ss) ≡ length ss
length-sorted [] = refl
length-sorted (s ∷ ss) = omega (arith, length-put_first s (sorted ss), length-sorted ss)
