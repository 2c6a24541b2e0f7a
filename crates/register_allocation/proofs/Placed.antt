-- The places of a scan fit a function, and those of all functions are an assignment.
use Rattle.std.proofs.Common.{◌≡◌, ◌≢◌, ◌⊎◌, inl, inr, ℕ, ◌<◌, ◌≤◌, Bool, true, false, List, [], ◌∷◌, Option, Some, None, Contains, refl, sym, ap, ◌∙◌, subst, arith}
use Rattle.std.specs.Prelude.{◌==◌, if◌then◌else◌, slice_index_or}
use Rattle.std.proofs.lemmas.Bool.{cases_lt, eqb-false, leb-true, lt-ltb, ltb-true}
use Rattle.low_ir.specs.declared.places.Place.{Place}
use Rattle.low_ir.specs.declared.places.Place.TheVariants.{Register as InRegister, Slot}
use Rattle.low_ir.specs.Code.{Function, Low, Note}
use Rattle.low_ir.specs.Effects.{is_member}
use Rattle.low_ir.specs.Live.{CallAt, Has, InInterval, IsPlace, ServedAt, Together}
use Rattle.low_ir.specs.Places.{Placing, assignment, is_lasting, kept_in, machine_registers, place_in, registers_of, result_register}
use Rattle.low_ir.specs.Spacing.{IsAssignment, is_inside}
use Rattle.register_live_ranges.specs.declared.interval.Interval.{Interval}
use Rattle.register_live_ranges.specs.Intervals.{AreIntervalsOf, IsIntervalOf, Spans, interval_in}
use Rattle.register_allocation.specs.declared.order.Lasting.{Lasting}
use Rattle.register_allocation.specs.Briefs.{IsBrief}
use Rattle.register_allocation.specs.Fitting.{ArePlacings, IsPlacing, IsScannedPlacing}
use Rattle.register_allocation.specs.Orders.{AreApart, AreOrdered, Covers, lasting}
use Rattle.register_allocation.specs.Scans.{AreCrowded, place_at}
use Rattle.register_allocation.specs.Spills.{HaveFewSlots, IsCrowded, SpillWhereCrowded}
use Rattle.register_allocation.proofs.Listing.{in_order, interval_of, listed, lists}
use Rattle.register_allocation.proofs.Sweeping.{call_keeps}
use Rattle.register_allocation.proofs.Turning.{call_own, served_own}

not_slot : (q k : ℕ) → InRegister q ≡ Slot k → ⊥
not_slot q k e = cc

has_member : (vs : List ℕ) (v : ℕ) → Has v vs → is_member vs v ≡ true
has_member [] v h = absurd h
has_member (x ∷ vs) v h = by (x == v) refl (λ k. has_member vs v k) h
  where
    by : (b : Bool) → (x == v) ≡ b → (Has v vs → is_member vs v ≡ true) → Has v (x ∷ vs) → (if b then true else is_member vs v) ≡ true
    by true t rest k = refl
    by false t rest (inl e) = absurd (eqb-false x v t (sym e))
    by false t rest (inr k) = rest k

-- intervals that share a place aren't apart
shared : (x y : Lasting) (p : ℕ) → Covers x p → Covers y p → AreApart x y → ⊥
shared x y p a b (inl e) =
    let c = a.1 in
    let d = b.0 in
    omega (arith, c, d, e)
shared x y p a b (inr e) =
    let c = b.1 in
    let d = a.0 in
    omega (arith, c, d, e)

module _ (fn : Function ℕ Note) (row : List (Option Interval)) (ls : List Lasting) (pl : Placing) (intervals : AreIntervalsOf fn row) (ordered : AreOrdered row fn.size ls) (h : IsScannedPlacing fn ls pl) where
  places_are : (v : ℕ) → place_in pl v ≡ place_at h.scan.places v
  places_are v = ap (λ (ps : List Place). slice_index_or ps v (Slot v)) h.masked.places

  interval_is : (v : ℕ) (i : Interval) → v < fn.size → interval_in row v ≡ Some i → Spans (λ p. IsPlace fn p v) i
  interval_is v i lt e = subst (IsIntervalOf fn v) e (intervals.each v lt)

  -- a register with a place has an interval that covers what is between its places
  record Found (v p : ℕ) : Type 0 where
    interval : Interval
    is : interval_in row v ≡ Some interval
    covers : Covers (lasting v interval) p

  found : (v p : ℕ) → v < fn.size → InInterval fn p v → Found v p
  found v p lt i = by (interval_in row v) refl
    where
      by : (o : Option Interval) → interval_in row v ≡ o → Found v p
      by None e = absurd (subst (IsIntervalOf fn v) e (intervals.each v lt) i.least i.from)
      by (Some j) e =
          let s = interval_is v j lt e in
          let a = s.above i.least i.from in
          let b = s.below i.greatest i.to in
          let c = i.above in
          let d = i.below in
          record { interval = j; is = e; covers = (omega (arith, a, c), omega (arith, b, d)) }

  -- where an interval covers a place, the place is in it
  covered : (x : Lasting) (p : ℕ) → Contains ls x → Covers x p → (x.register < fn.size) × InInterval fn p x.register
  covered x p k c =
      let l = listed fn row ls intervals ordered x k in
      let s = interval_is x.register (interval_of x) l.0 l.1 in
      (l.0, record { least = x.first; greatest = x.last; from = s.begins; to = s.ends; above = c.0; below = c.1 })

  crowded : (p : ℕ) → AreCrowded ls p → IsCrowded fn p
  crowded p c = record {
    registers = c.registers;
    many = c.many;
    distinct = c.distinct;
    cover = λ v k. let y = c.cover v k in subst (λ u. (u < fn.size) × InInterval fn p u) y.2 (covered y.0 p y.1 y.3);
  }

  apart : (v w : ℕ) → v < fn.size → w < fn.size → v ≢ w → Together fn v w → place_in pl v ≢ place_in pl w
  apart v w a b d t e =
      let f = found v t.0 a t.1 in
      let g = found w t.0 b t.2 in
      shared (lasting v f.interval) (lasting w g.interval) t.0 f.covers g.covers
      (h.scanned.apart (lasting v f.interval) (lasting w g.interval) (lists fn row ls intervals ordered v f.interval a f.is) (lists fn row ls intervals ordered w g.interval b g.is) d (sym (places_are v) ∙ (e ∙ places_are w)))

  machine : (x : Lasting) (q : ℕ) → Contains ls x → place_at h.scan.places x.register ≡ InRegister q → q ≤ result_register
  machine x q k e = leb-true q result_register (sym (ap (is_inside h.scan.slots) e) ∙ h.scanned.inside x k)

  -- a place is lasting, or it is the result register, and then the register is brief
  lasts : (x : Lasting) (o : Place) → Contains ls x → place_at h.scan.places x.register ≡ o → (is_lasting o ≡ true) ⊎ ((o ≡ InRegister result_register) × IsBrief fn x)
  lasts x (Slot k) there e = inl refl
  lasts x (InRegister q) there e = by (cases_lt q machine_registers)
    where
      by : (q < machine_registers) ⊎ (machine_registers ≤ q) → (is_lasting (InRegister q) ≡ true) ⊎ ((InRegister q ≡ InRegister result_register) × IsBrief fn x)
      by (inl small) = inl (lt-ltb q machine_registers small)
      by (inr big) =
          let few = machine x q there e in
          let same : InRegister q ≡ InRegister result_register = let n : q ≡ result_register = omega (arith, big, few) in ap InRegister n in
          inr (same, h.scanned.brief x there (e ∙ same))

  served : (p v : ℕ) (d : Option ℕ) → v < fn.size → ServedAt fn p d → d ≢ Some v → InInterval fn p v → is_lasting (place_in pl v) ≡ true
  served p v d lt at other i =
      let f = found v p lt i in
      let x = lasting v f.interval in
      ap is_lasting (places_are v)
      ∙ elim (lasts x (place_at h.scan.places v) (lists fn row ls intervals ordered v f.interval lt f.is) refl) [
        | inl l ↦ l
        | inr b ↦ absurd (other (served_own fn x b.1 p d f.covers.0 f.covers.1 at))
      ]

  kept : (p v q : ℕ) (d : Option ℕ) → v < fn.size → CallAt fn p d → d ≢ Some v → InInterval fn p v → place_in pl v ≡ InRegister q → is_member (kept_in pl p) q ≡ true
  kept p v q d lt call other i e = elim (lasts x (InRegister q) there place) [
    | inl small ↦
        ap (λ (ms : List ℕ). is_member (registers_of machine_registers (slice_index_or ms p 0)) q) h.masked.kept
        ∙ call_keeps fn.size ls (in_order fn row ls intervals ordered) h.scan.places h.scanned.apart fn.blocks p call.0 d call.1 call.2 call.3 call.4 call.5
        x q (ltb-true q machine_registers small) there f.covers.0 f.covers.1 other place
    | inr b ↦ absurd (other (call_own fn x b.1 p d f.covers.0 f.covers.1 call))
  ]
    where
      f : Found v p
      f = found v p lt i

      x : Lasting
      x = lasting v f.interval

      there : Contains ls x
      there = lists fn row ls intervals ordered v f.interval lt f.is

      place : place_at h.scan.places v ≡ InRegister q
      place = sym (places_are v) ∙ e

  -- a register without an interval has the first machine register
  unplaced : (v : ℕ) → v < fn.size → interval_in row v ≡ None → place_at h.scan.places v ≡ InRegister 0
  unplaced v lt e = h.scanned.others v lt (λ x k same.
      let l = listed fn row ls intervals ordered x k in
      none (interval_of x) (sym e ∙ (ap (interval_in row) (sym same) ∙ l.1)))
    where
      none : (i : Interval) → None ≡ Some i → ⊥
      none i k = cc

  passed : (v : ℕ) → v < fn.size → Has v fn.parameters → is_lasting (place_in pl v) ≡ true
  passed v lt has = ap is_lasting (places_are v) ∙ by (interval_in row v) refl
    where
      by : (o : Option Interval) → interval_in row v ≡ o → is_lasting (place_at h.scan.places v) ≡ true
      by None e = ap is_lasting (unplaced v lt e)
      by (Some j) e = elim (lasts (lasting v j) (place_at h.scan.places v) (lists fn row ls intervals ordered v j lt e) refl) [
        | inl l ↦ l
        | inr b ↦ let both : true ≡ false = sym (has_member fn.parameters v has) ∙ b.1.passed in cc
      ]

  inside : (v : ℕ) → v < fn.size → is_inside h.scan.slots (place_at h.scan.places v) ≡ true
  inside v lt = by (interval_in row v) refl
    where
      by : (o : Option Interval) → interval_in row v ≡ o → is_inside h.scan.slots (place_at h.scan.places v) ≡ true
      by None e = ap (is_inside h.scan.slots) (unplaced v lt e)
      by (Some i) e = h.scanned.inside (lasting v i) (lists fn row ls intervals ordered v i lt e)

  spills : (v k : ℕ) → v < fn.size → place_at h.scan.places v ≡ Slot k → (p : ℕ) × InInterval fn p v × IsCrowded fn p
  spills v k lt e = by (interval_in row v) refl
    where
      by : (o : Option Interval) → interval_in row v ≡ o → (p : ℕ) × InInterval fn p v × IsCrowded fn p
      by None f = absurd (not_slot 0 k (sym (unplaced v lt f) ∙ e))
      by (Some i) f =
          let there = lists fn row ls intervals ordered v i lt f in
          let c = h.scanned.crowded (lasting v i) k there e in
          (c.0, (covered (lasting v i) c.0 there c.1).1, crowded c.0 c.2)

  pub is_placing : IsPlacing fn pl
  is_placing =
      let slots = h.masked.slots in
      let few = h.few in
      record {
        fits = record {
          apart = apart;
          kept = kept;
          served = served;
          passed = passed;
          inside = λ v lt. ap (λ m. is_inside m (place_in pl v)) slots ∙ (ap (is_inside h.scan.slots) (places_are v) ∙ inside v lt);
        };
        spills = λ v k lt e. spills v k lt (sym (places_are v) ∙ e);
        slots = omega (arith, slots, few);
      }

-- function by function
pub assigned : (pls : List Placing) (p : Low) → ArePlacings p.functions pls → IsAssignment (assignment pls) p
assigned pls p h f fn e = let k = (h f fn e).fits in record { apart = k.apart; kept = k.kept; served = k.served; passed = k.passed; inside = k.inside }

pub all_spill : (pls : List Placing) (p : Low) → ArePlacings p.functions pls → SpillWhereCrowded p pls
all_spill pls p h f fn e = (h f fn e).spills

pub all_few : (pls : List Placing) (p : Low) → ArePlacings p.functions pls → HaveFewSlots p pls
all_few pls p h f fn e = (h f fn e).slots
