-- Segments that lie one behind the other can be loaded, also without those that are empty.
use Rattle.std.proofs.Common.{◌≡◌, ◌≢◌, inl, inr, ℕ, zero, suc, ◌+◌, ◌<◌, ◌≤◌, Bool, true, false, List, [], ◌∷◌, length, refl, sym, ap, ◌∙◌, arith, if◌then◌else◌}
use Rattle.std.specs.Prelude.{◌==◌, Contains, slice_index_or}
use Rattle.rv_core.specs.declared.image.Segment.{Segment}
use Rattle.rv_core.specs.Images.{IsSegment, AreSegments, IsBefore, IsAscending, ApartFrom, AreApart, AreLoadable}
use Rattle.image_segments.specs.Segments.{present}

-- each is a segment, and none begins before the end of the one before it
abbrev pub AreOrdered : ℕ → List Segment → Type 0
AreOrdered low [] = Unit {0}
AreOrdered low (s ∷ ss) = (low ≤ s.at) × IsSegment s × AreOrdered (s.at + s.size) ss

lower : (low high : ℕ) (ss : List Segment) → low ≤ high → AreOrdered high ss → AreOrdered low ss
lower low high [] h o = tt
lower low high (s ∷ ss) h o = let a = o.0 in (omega (arith, h, a), o.1, o.2)

pub present_ordered : (low : ℕ) (ss : List Segment) → AreOrdered low ss → AreOrdered low (present ss)
present_ordered low [] o = tt
present_ordered low (s ∷ ss) o = by (s.size == 0) (present_ordered (s.at + s.size) ss o.2)
  where
    by : (b : Bool) → AreOrdered (s.at + s.size) (present ss) → AreOrdered low (if b then present ss else s ∷ present ss)
    by true h = let a = o.0 in lower low (s.at + s.size) (present ss) (omega (arith, a)) h
    by false h = (o.0, o.1, h)

pub present_few : (ss : List Segment) → length (present ss) ≤ length ss
present_few [] = omega arith
present_few (s ∷ ss) = by (s.size == 0) (present_few ss)
  where
    by : (b : Bool) → length (present ss) ≤ length ss → length (if b then present ss else s ∷ present ss) ≤ suc (length ss)
    by true h = omega (arith, h)
    by false h = omega (arith, h)

are_segments : (low : ℕ) (ss : List Segment) → AreOrdered low ss → AreSegments ss
are_segments low [] o = tt
are_segments low (s ∷ ss) o = (o.1, are_segments (s.at + s.size) ss o.2)

before : (at low : ℕ) (ss : List Segment) → at ≤ low → AreOrdered low ss → IsBefore at ss
before at low [] h o = tt
before at low (s ∷ ss) h o = let a = o.0 in (omega (arith, h, a), before at (s.at + s.size) ss (omega (arith, h, a)) o.2)

ascending : (low : ℕ) (ss : List Segment) → AreOrdered low ss → IsAscending ss
ascending low [] o = tt
ascending low (s ∷ ss) o = (before s.at (s.at + s.size) ss (omega arith) o.2, ascending (s.at + s.size) ss o.2)

apart_from : (s : Segment) (low : ℕ) (ss : List Segment) → s.at + s.size ≤ low → AreOrdered low ss → ApartFrom s ss
apart_from s low [] h o = tt
apart_from s low (t ∷ ts) h o = let a = o.0 in (inr (inr (inl (omega (arith, h, a)))), apart_from s (t.at + t.size) ts (omega (arith, h, a)) o.2)

apart : (low : ℕ) (ss : List Segment) → AreOrdered low ss → AreApart ss
apart low [] o = tt
apart low (s ∷ ss) o = (apart_from s (s.at + s.size) ss (omega arith) o.2, apart (s.at + s.size) ss o.2)

pub are_loadable : (ss : List Segment) → length ss ≤ 16 → AreOrdered 0 ss → AreLoadable ss
are_loadable ss few o = record { few = few; each = are_segments 0 ss o; ascending = ascending 0 ss o; apart = apart 0 ss o }

-- those that are left are those that aren't empty
from_present : (ss : List Segment) (k : ℕ) (s : Segment) → k < length (present ss) → slice_index_or (present ss) k s ≡ s → Contains ss s
from_present [] k s less e = absurd (omega (arith, less))
from_present (x ∷ ss) k s less e = by (x.size == 0) k less e (from_present ss)
  where
    on : Contains ss s → Contains (x ∷ ss) s
    on c = let l = c.1 in (suc c.0, omega (arith, l), c.2)

    by : (b : Bool) (j : ℕ) → j < length (if b then present ss else x ∷ present ss) → slice_index_or (if b then present ss else x ∷ present ss) j s ≡ s → ((i : ℕ) (t : Segment) → i < length (present ss) → slice_index_or (present ss) i t ≡ t → Contains ss t) → Contains (x ∷ ss) s
    by true j l d go = on (go j s l d)
    by false zero l d go = (0, omega arith, d)
    by false (suc j) l d go = on (go j s (omega (arith, l)) d)

pub of_present : (ss : List Segment) (s : Segment) → Contains (present ss) s → Contains ss s
of_present ss s c = from_present ss c.0 s c.1 c.2

to_present : (ss : List Segment) (k : ℕ) (s : Segment) → k < length ss → slice_index_or ss k s ≡ s → s.size ≢ 0 → Contains (present ss) s
to_present [] k s less e d = absurd (omega (arith, less))
to_present (x ∷ ss) zero s less e d = by (x.size == 0) refl
  where
    by : (b : Bool) → (x.size == 0) ≡ b → Contains (if b then present ss else x ∷ present ss) s
    by true t = let none : (x.size ≡ 0) = grind (arith, t) in absurd (d (ap (λ (y : Segment). y.size) (sym e) ∙ none))
    by false t = (0, omega arith, e)
to_present (x ∷ ss) (suc k) s less e d = by (x.size == 0) (to_present ss k s (omega (arith, less)) e d)
  where
    by : (b : Bool) → Contains (present ss) s → Contains (if b then present ss else x ∷ present ss) s
    by true c = c
    by false c = let l = c.1 in (suc c.0, omega (arith, l), c.2)

pub in_present : (ss : List Segment) (s : Segment) → Contains ss s → s.size ≢ 0 → Contains (present ss) s
in_present ss s c d = to_present ss c.0 s c.1 c.2 d
