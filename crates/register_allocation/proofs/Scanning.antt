-- One turn of a scan.
use Rattle.std.proofs.Common.{◌≡◌, ◌≢◌, ◌⊎◌, inl, inr, ℕ, ◌+◌, ◌<◌, ◌≤◌, true, List, [], ◌∷◌, ◌++◌, Option, Some, None, Contains, refl, sym, ap, ◌∙◌, subst, arith, get_or-set_other}
use Rattle.std.specs.Prelude.{slice_index_or, slice_set}
use Rattle.std.proofs.lemmas.Bool.{cases_eq, le-leb, ltb-true, lt-ltb}
use Rattle.std.proofs.lemmas.List.{get_or-set_same, length-set}
use Rattle.std.proofs.lemmas.List.Elements.{Contains-append_left, Contains-push, Contains-push_cases}
use Rattle.low_ir.specs.declared.places.Place.{Place}
use Rattle.low_ir.specs.declared.places.Place.TheVariants.{Register as InRegister, Slot}
use Rattle.low_ir.specs.Code.{Function, Note}
use Rattle.low_ir.specs.Places.{result_register}
use Rattle.low_ir.specs.Spacing.{is_inside}
use Rattle.register_allocation.specs.declared.order.Lasting.{Lasting}
use Rattle.register_allocation.specs.Briefs.{IsBrief}
use Rattle.register_allocation.specs.Orders.{AreApart, Covers, IsOver}
use Rattle.register_allocation.specs.Scans.{AreCrowded, Scan, Scanned, evicted_by, given, holder, place_at, place_of, spilled}

slots_differ : (q k : ℕ) → InRegister q ≡ Slot k → ⊥
slots_differ q k e = cc

registers_differ : (q k : ℕ) → Slot k ≡ InRegister q → ⊥
registers_differ q k e = cc

pub same_register : (q r : ℕ) → InRegister q ≡ InRegister r → q ≡ r
same_register q r e = cc

same_some : (x y : Lasting) → Some x ≡ Some y → x ≡ y
same_some x y e = cc

none_some : (x : Lasting) → None ≡ Some x → ⊥
none_some x e = cc

inside_more : (k : ℕ) (p : Place) → is_inside k p ≡ true → is_inside (k + 1) p ≡ true
inside_more k (InRegister q) e = e
inside_more k (Slot j) e = let a = ltb-true j k e in lt-ltb j (k + 1) (omega (arith, a))

-- what is inside so many slots is not the next one
not_next : (k : ℕ) (p : Place) → is_inside k p ≡ true → p ≢ Slot k
not_next k (InRegister q) e s = slots_differ q k s
not_next k (Slot j) e s = let a = ltb-true j k e in let b : j ≡ k = cc in absurd (omega (arith, a, b))

still_over : (done : List Lasting) (x y : Lasting) → IsOver done y → IsOver (done ++ x ∷ []) y
still_over done x y h = (h.0, Contains-append_left done (x ∷ []) h.0 h.1, h.2)

module _ (fn : Function ℕ Note) (n : ℕ) (all done : List Lasting) (s : Scan) (h : Scanned fn n all done s) where
  -- two registers have one place where they are one
  pub place_same : (x y : Lasting) → x.register ≡ y.register → place_of s x ≡ place_of s y
  place_same x y e = ap (place_at s.places) e

  module _ (v : ℕ) (new : Place) where
    place_other : (w : ℕ) → w ≢ v → place_at (slice_set s.places v new) w ≡ place_at s.places w
    place_other w d = get_or-set_other s.places v w new (Slot w) d

    place_here : (w : ℕ) → w ≡ v → v < n → place_at (slice_set s.places v new) w ≡ new
    place_here w e small =
        let size = h.size in
        subst (λ (u : ℕ). place_at (slice_set s.places v new) u ≡ new) (sym e) (get_or-set_same s.places v new (Slot v) (omega (arith, size, small)))

  module _ (q : ℕ) (new : Option Lasting) where
    holder_other : (r : ℕ) → r ≢ q → slice_index_or (slice_set s.holders q new) r None ≡ holder s r
    holder_other r d = get_or-set_other s.holders q r new None d

    holder_here : (r : ℕ) → r ≡ q → q ≤ result_register → slice_index_or (slice_set s.holders q new) r None ≡ new
    holder_here r e small =
        let size = h.machine in
        subst (λ (u : ℕ). slice_index_or (slice_set s.holders q new) u None ≡ new) (sym e) (get_or-set_same s.holders q new None (omega (arith, size, small)))

  -- the next register
  module _ (x : Lasting) (small : x.register < n) (new : (y : Lasting) → Contains done y → y.register ≢ x.register) where
    abbrev more : List Lasting
    more = done ++ x ∷ []

    -- it gets a machine register that is free
    module _ (q : ℕ) (machine : q ≤ result_register) (able : q ≡ result_register → IsBrief fn x) (free : (y : Lasting) → Contains done y → place_of s y ≡ InRegister q → y.last < x.first) where
      abbrev t : Scan
      t = given q x s

      old : (y : Lasting) → Contains done y → place_of t y ≡ place_of s y
      old y k = place_other x.register (InRegister q) y.register (new y k)

      own : (y : Lasting) → x ≡ y → place_of t y ≡ InRegister q
      own y e = place_here x.register (InRegister q) y.register (sym (ap (λ (z : Lasting). z.register) e)) small

      abbrev Parts : Lasting → Type 0
      Parts y = Contains done y ⊎ (x ≡ y)

      parts : (y : Lasting) → Contains more y → Parts y
      parts y k = Contains-push_cases done x y k

      apart : (y z : Lasting) → Parts y → Parts z → y.register ≢ z.register → place_of t y ≡ place_of t z → AreApart y z
      apart y z (inl a) (inl b) d e = h.apart y z a b d (sym (old y a) ∙ (e ∙ old z b))
      apart y z (inl a) (inr b) d e = inl (subst (λ (w : Lasting). y.last < w.first) b (free y a (sym (old y a) ∙ (e ∙ own z b))))
      apart y z (inr a) (inl b) d e = inr (subst (λ (w : Lasting). z.last < w.first) a (free z b (sym (old z b) ∙ (sym e ∙ own y a))))
      apart y z (inr a) (inr b) d e = absurd (d (ap (λ (w : Lasting). w.register) (sym a ∙ b)))

      held : (y : Lasting) (r : ℕ) → Parts y → place_of t y ≡ InRegister r → (holder t r ≡ Some y) ⊎ IsOver more y
      held y r (inl a) e = by (cases_eq r q)
        where
          before : place_of s y ≡ InRegister r
          before = sym (old y a) ∙ e

          by : (r ≡ q) ⊎ (r ≢ q) → (holder t r ≡ Some y) ⊎ IsOver more y
          by (inl k) = inr (x, Contains-push done x, free y a (before ∙ ap InRegister k))
          by (inr d) = elim (h.held y r a before) [
            | inl k ↦ inl (holder_other q (Some x) r d ∙ k)
            | inr k ↦ inr (still_over done x y k)
          ]
      held y r (inr a) e =
          let same : r ≡ q = same_register r q (sym e ∙ own y a) in
          inl (holder_here q (Some x) r same machine ∙ ap (λ (w : Lasting). Some w) a)

      holds : (r : ℕ) (y : Lasting) → holder t r ≡ Some y → Contains more y × (place_of t y ≡ InRegister r)
      holds r y e = by (cases_eq r q)
        where
          by : (r ≡ q) ⊎ (r ≢ q) → Contains more y × (place_of t y ≡ InRegister r)
          by (inl k) =
              let same : x ≡ y = same_some x y (sym (holder_here q (Some x) r k machine) ∙ e) in
              (subst (Contains more) same (Contains-push done x), own y same ∙ ap InRegister (sym k))
          by (inr d) =
              let k = h.holds r y (sym (holder_other q (Some x) r d) ∙ e) in
              (Contains-append_left done (x ∷ []) y k.0, old y k.0 ∙ k.1)

      inside : (y : Lasting) → Parts y → is_inside s.slots (place_of t y) ≡ true
      inside y (inl a) = ap (is_inside s.slots) (old y a) ∙ h.inside y a
      inside y (inr a) = ap (is_inside s.slots) (own y a) ∙ le-leb q result_register machine

      crowded : (y : Lasting) (k : ℕ) → Parts y → place_of t y ≡ Slot k → (p : ℕ) × Covers y p × AreCrowded all p
      crowded y k (inl a) e = h.crowded y k a (sym (old y a) ∙ e)
      crowded y k (inr a) e = absurd (slots_differ q k (sym (own y a) ∙ e))

      brief : (y : Lasting) → Parts y → place_of t y ≡ InRegister result_register → IsBrief fn y
      brief y (inl a) e = h.brief y a (sym (old y a) ∙ e)
      brief y (inr a) e = subst (IsBrief fn) a (able (same_register q result_register (sym (own y a) ∙ e)))

      others : (v : ℕ) → v < n → ((y : Lasting) → Contains more y → y.register ≢ v) → place_at t.places v ≡ InRegister 0
      others v lt none =
          place_other x.register (InRegister q) v (λ e. none x (Contains-push done x) (sym e))
          ∙ h.others v lt (λ y k. none y (Contains-append_left done (x ∷ []) y k))

      pub is_given : Scanned fn n all more t
      is_given = record {
        size = length-set s.places x.register (InRegister q) ∙ h.size;
        machine = length-set s.holders q (Some x) ∙ h.machine;
        apart = λ y z a b d e. apart y z (parts y a) (parts z b) d e;
        brief = λ y a e. brief y (parts y a) e;
        held = λ y r a e. held y r (parts y a) e;
        holds = holds;
        inside = λ y a. inside y (parts y a);
        crowded = λ y k a e. crowded y k (parts y a) e;
        others = others;
      }

    -- it gets a slot
    module _ (proper : x.first ≤ x.last) (crowd : AreCrowded all x.first) where
      abbrev u : Scan
      u = spilled x.register s

      before : (y : Lasting) → Contains done y → place_of u y ≡ place_of s y
      before y k = place_other x.register (Slot s.slots) y.register (new y k)

      at : (y : Lasting) → x ≡ y → place_of u y ≡ Slot s.slots
      at y e = place_here x.register (Slot s.slots) y.register (sym (ap (λ (z : Lasting). z.register) e)) small

      abbrev Split : Lasting → Type 0
      Split y = Contains done y ⊎ (x ≡ y)

      split : (y : Lasting) → Contains more y → Split y
      split y k = Contains-push_cases done x y k

      spaced : (y z : Lasting) → Split y → Split z → y.register ≢ z.register → place_of u y ≡ place_of u z → AreApart y z
      spaced y z (inl a) (inl b) d e = h.apart y z a b d (sym (before y a) ∙ (e ∙ before z b))
      spaced y z (inl a) (inr b) d e = absurd (not_next s.slots (place_of s y) (h.inside y a) (sym (before y a) ∙ (e ∙ at z b)))
      spaced y z (inr a) (inl b) d e = absurd (not_next s.slots (place_of s z) (h.inside z b) (sym (before z b) ∙ (sym e ∙ at y a)))
      spaced y z (inr a) (inr b) d e = absurd (d (ap (λ (w : Lasting). w.register) (sym a ∙ b)))

      kept : (y : Lasting) (r : ℕ) → Split y → place_of u y ≡ InRegister r → (holder u r ≡ Some y) ⊎ IsOver more y
      kept y r (inl a) e = elim (h.held y r a (sym (before y a) ∙ e)) [
        | inl k ↦ inl k
        | inr k ↦ inr (still_over done x y k)
      ]
      kept y r (inr a) e = absurd (registers_differ r s.slots (sym (at y a) ∙ e))

      still_brief : (y : Lasting) → Split y → place_of u y ≡ InRegister result_register → IsBrief fn y
      still_brief y (inl a) e = h.brief y a (sym (before y a) ∙ e)
      still_brief y (inr a) e = absurd (registers_differ result_register s.slots (sym (at y a) ∙ e))

      within : (y : Lasting) → Split y → is_inside (s.slots + 1) (place_of u y) ≡ true
      within y (inl a) = inside_more s.slots (place_of u y) (ap (is_inside s.slots) (before y a) ∙ h.inside y a)
      within y (inr a) = ap (is_inside (s.slots + 1)) (at y a) ∙ lt-ltb s.slots (s.slots + 1) (omega arith)

      covered : (y : Lasting) (k : ℕ) → Split y → place_of u y ≡ Slot k → (p : ℕ) × Covers y p × AreCrowded all p
      covered y k (inl a) e = h.crowded y k a (sym (before y a) ∙ e)
      covered y k (inr a) e = subst (λ (w : Lasting). (p : ℕ) × Covers w p × AreCrowded all p) a (x.first, (omega arith, proper), crowd)

      pub is_spilled : Scanned fn n all more u
      is_spilled = record {
        size = length-set s.places x.register (Slot s.slots) ∙ h.size;
        machine = h.machine;
        apart = λ y z a b d e. spaced y z (split y a) (split z b) d e;
        brief = λ y a e. still_brief y (split y a) e;
        held = λ y r a e. kept y r (split y a) e;
        holds = λ r y e. let k = h.holds r y e in (Contains-append_left done (x ∷ []) y k.0, before y k.0 ∙ k.1);
        inside = λ y a. within y (split y a);
        crowded = λ y k a e. covered y k (split y a) e;
        others = λ v lt none.
            place_other x.register (Slot s.slots) v (λ e. none x (Contains-push done x) (sym e))
            ∙ h.others v lt (λ y k. none y (Contains-append_left done (x ∷ []) y k));
      }

  -- the holder of a machine register gets a slot
  module _ (unique : (a b : Lasting) → Contains done a → Contains done b → a.register ≡ b.register → a ≡ b) (small : (a : Lasting) → Contains done a → a.register < n)
      (q : ℕ) (machine : q ≤ result_register) (y : Lasting) (holder_is : holder s q ≡ Some y) (p : ℕ) (covers : Covers y p) (crowd : AreCrowded all p) where
    abbrev w : Scan
    w = evicted_by q (Some y) s

    is_done : Contains done y
    is_done = (h.holds q y holder_is).0

    was : place_of s y ≡ InRegister q
    was = (h.holds q y holder_is).1

    kept_place : (a : Lasting) → a.register ≢ y.register → place_of w a ≡ place_of s a
    kept_place a d = place_other y.register (Slot s.slots) a.register d

    slot : (a : Lasting) → a.register ≡ y.register → place_of w a ≡ Slot s.slots
    slot a e = place_here y.register (Slot s.slots) a.register e (small y is_done)

    abbrev Same : Lasting → Type 0
    Same a = (a.register ≡ y.register) ⊎ (a.register ≢ y.register)

    same : (a : Lasting) → Same a
    same a = cases_eq a.register y.register

    still_apart : (a b : Lasting) → Contains done a → Contains done b → Same a → Same b → a.register ≢ b.register → place_of w a ≡ place_of w b → AreApart a b
    still_apart a b i j (inl f) (inl g) d e = absurd (d (f ∙ sym g))
    still_apart a b i j (inl f) (inr g) d e = absurd (not_next s.slots (place_of s b) (h.inside b j) (sym (kept_place b g) ∙ (sym e ∙ slot a f)))
    still_apart a b i j (inr f) (inl g) d e = absurd (not_next s.slots (place_of s a) (h.inside a i) (sym (kept_place a f) ∙ (e ∙ slot b g)))
    still_apart a b i j (inr f) (inr g) d e = h.apart a b i j d (sym (kept_place a f) ∙ (e ∙ kept_place b g))

    brief_still : (a : Lasting) → Contains done a → Same a → place_of w a ≡ InRegister result_register → IsBrief fn a
    brief_still a i (inl f) e = absurd (registers_differ result_register s.slots (sym (slot a f) ∙ e))
    brief_still a i (inr f) e = h.brief a i (sym (kept_place a f) ∙ e)

    still_held : (a : Lasting) (r : ℕ) → Contains done a → Same a → place_of w a ≡ InRegister r → (holder w r ≡ Some a) ⊎ IsOver done a
    still_held a r i (inl f) e = absurd (registers_differ r s.slots (sym (slot a f) ∙ e))
    still_held a r i (inr f) e = by (cases_eq r q) (h.held a r i (sym (kept_place a f) ∙ e))
      where
        by : (r ≡ q) ⊎ (r ≢ q) → (holder s r ≡ Some a) ⊎ IsOver done a → (holder w r ≡ Some a) ⊎ IsOver done a
        by k (inr over) = inr over
        by (inl k) (inl has) =
            let one : y ≡ a = same_some y a (sym holder_is ∙ (ap (holder s) (sym k) ∙ has)) in
            absurd (f (ap (λ (z : Lasting). z.register) (sym one)))
        by (inr k) (inl has) = inl (holder_other q None r k ∙ has)

    still_holds : (r : ℕ) (a : Lasting) → holder w r ≡ Some a → Contains done a × (place_of w a ≡ InRegister r)
    still_holds r a e = by (cases_eq r q)
      where
        by : (r ≡ q) ⊎ (r ≢ q) → Contains done a × (place_of w a ≡ InRegister r)
        by (inl k) = absurd (none_some a (sym (holder_here q None r k machine) ∙ e))
        by (inr k) =
            let has = h.holds r a (sym (holder_other q None r k) ∙ e) in
            let other : a.register ≢ y.register = λ f. k (same_register r q (sym has.1 ∙ (place_same a y f ∙ was))) in
            (has.0, kept_place a other ∙ has.1)

    still_inside : (a : Lasting) → Contains done a → Same a → is_inside (s.slots + 1) (place_of w a) ≡ true
    still_inside a i (inl f) = ap (is_inside (s.slots + 1)) (slot a f) ∙ lt-ltb s.slots (s.slots + 1) (omega arith)
    still_inside a i (inr f) = inside_more s.slots (place_of w a) (ap (is_inside s.slots) (kept_place a f) ∙ h.inside a i)

    still_crowded : (a : Lasting) (k : ℕ) → Contains done a → Same a → place_of w a ≡ Slot k → (r : ℕ) × Covers a r × AreCrowded all r
    still_crowded a k i (inl f) e = subst (λ (z : Lasting). (r : ℕ) × Covers z r × AreCrowded all r) (unique y a is_done i (sym f)) (p, covers, crowd)
    still_crowded a k i (inr f) e = h.crowded a k i (sym (kept_place a f) ∙ e)

    pub is_evicted : Scanned fn n all done w
    is_evicted = record {
      size = length-set s.places y.register (Slot s.slots) ∙ h.size;
      machine = length-set s.holders q None ∙ h.machine;
      apart = λ a b i j d e. still_apart a b i j (same a) (same b) d e;
      brief = λ a i e. brief_still a i (same a) e;
      held = λ a r i e. still_held a r i (same a) e;
      holds = still_holds;
      inside = λ a i. still_inside a i (same a);
      crowded = λ a k i e. still_crowded a k i (same a) e;
      others = λ v lt none. place_other y.register (Slot s.slots) v (λ e. none y is_done (sym e)) ∙ h.others v lt none;
    }

    -- and then no interval in it reaches what begins at p
    pub freed : (x : Lasting) → ((a : Lasting) → Contains done a → a.first ≤ x.first) → (a : Lasting) → Contains done a → place_of w a ≡ InRegister q → a.last < x.first
    freed x after a i e = elim (still_held a q i (same a) e) [
      | inl has ↦ absurd (none_some a (sym (holder_here q None q refl machine) ∙ has))
      | inr over ↦ let b = over.2 in let c = after over.0 over.1 in omega (arith, b, c)
    ]
