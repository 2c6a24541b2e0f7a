-- Where no machine register is free, a place is crowded; and the whole scan.
use Rattle.std.proofs.Common.{◌≡◌, ◌≢◌, ◌⊎◌, inl, inr, ℕ, zero, suc, ◌+◌, ◌<◌, ◌≤◌, Bool, true, false, List, [], ◌∷◌, ◌++◌, length, get_or, take, drop, Option, Some, None, Contains, refl, sym, ap, ◌∙◌, subst, arith}
use Rattle.std.specs.Prelude.{nat_lt, slice_index_or, replicate}
use Rattle.std.proofs.lemmas.Bool.{cases_eq, ltb-true, ltb-false}
use Rattle.std.proofs.lemmas.List.{get_or-replicate, get_or_default, length-replicate, length-take-le, get_or-take, take-append-drop, take_more}
use Rattle.std.proofs.lemmas.List.Elements.{Contains-append_left}
use Rattle.low_ir.specs.declared.places.Place.{Place}
use Rattle.low_ir.specs.declared.places.Place.TheVariants.{Register as InRegister, Slot}
use Rattle.low_ir.specs.Code.{Function, Note}
use Rattle.low_ir.specs.Live.{Has}
use Rattle.low_ir.specs.Places.{machine_registers, result_register}
use Rattle.register_allocation.specs.declared.order.Lasting.{Lasting}
use Rattle.register_allocation.specs.declared.choice.Choice.{Choice}
use Rattle.register_allocation.specs.declared.choice.Choice.TheVariants.{Free, Instead, InSlot}
use Rattle.register_allocation.specs.Briefs.{IsBrief}
use Rattle.register_allocation.specs.Orders.{AreInOrder, Covers}
use Rattle.register_allocation.specs.Spills.{AreDistinct}
use Rattle.register_allocation.specs.Scans.{AllTaken, AreCrowded, CanHold, IsChoice, Scan, Scanned, evicted_by, followed, given, holder, is_over, place_of, unplaced}
use Rattle.register_allocation.proofs.Scanning.{freed, is_evicted, is_given, is_spilled, place_same, same_register}

-- who has a machine register that is taken
taken_by : (p : ℕ) (o : Option Lasting) → is_over p o ≡ false → (y : Lasting) × (o ≡ Some y) × (p ≤ y.last)
taken_by p None e = cc
taken_by p (Some y) e = (y, refl, ltb-false y.last p e)

can_few : (fn : Function ℕ Note) (q : ℕ) (x : Lasting) → CanHold fn q x → q ≤ result_register
can_few fn q x (inl small) = omega (arith, small)
can_few fn q x (inr both) = let is = both.0 in omega (arith, is)

can_brief : (fn : Function ℕ Note) (q : ℕ) (x : Lasting) → CanHold fn q x → q ≡ result_register → IsBrief fn x
can_brief fn q x (inl small) is = absurd (omega (arith, small, is))
can_brief fn q x (inr both) is = both.1

module _ (fn : Function ℕ Note) (n : ℕ) (all done : List Lasting) (s : Scan) (h : Scanned fn n all done s) (p : ℕ) (taken : AllTaken s p) (before : (y : Lasting) → Contains done y → y.first ≤ p) where
  -- a register that is done, covers p, and has one of the first m machine registers
  abbrev IsAmong : ℕ → ℕ → Type 0
  IsAmong m v = (y : Lasting) × Contains done y × (y.register ≡ v) × Covers y p × ((q : ℕ) × (q < m) × (place_of s y ≡ InRegister q))

  record First (m : ℕ) : Type 0 where
    registers : List ℕ
    long : length registers ≡ m
    distinct : AreDistinct registers
    among : (v : ℕ) → Has v registers → IsAmong m v

  more_among : (m v : ℕ) → IsAmong m v → IsAmong (suc m) v
  more_among m v a = let lt = a.4.1 in (a.0, a.1, a.2, a.3, (a.4.0, omega (arith, lt), a.4.2))

  first : (m : ℕ) → m ≤ machine_registers → First m
  first zero few = record { registers = []; long = refl; distinct = tt; among = λ v k. absurd k }
  first (suc m) few = next (first m (omega (arith, few))) (taken_by p (holder s m) (taken m (omega (arith, few))))
    where
      next : First m → (y : Lasting) × (holder s m ≡ Some y) × (p ≤ y.last) → First (suc m)
      next f y =
          let has = h.holds m y.0 y.1 in
          let here : IsAmong (suc m) y.0.register = (y.0, has.0, refl, (before y.0 has.0, y.2), (m, omega arith, has.1)) in
          record {
            registers = y.0.register ∷ f.registers;
            long = ap suc f.long;
            distinct = (
              λ k. let a = f.among y.0.register k in
                  let same = same_register m a.4.0 (sym has.1 ∙ (place_same fn n all done s h y.0 a.0 (sym a.2) ∙ a.4.2)) in
                  let lt = a.4.1 in
                  absurd (omega (arith, same, lt)),
              f.distinct,
            );
            among = λ v k. elim k [
              | inl e ↦ subst (IsAmong (suc m)) (sym e) here
              | inr r ↦ more_among m v (f.among v r)
            ];
          }

  -- with one more that covers p, there are too many
  pub crowded : (x : Lasting) → Contains all x → ((y : Lasting) → Contains done y → Contains all y) → Covers x p → ((y : Lasting) → Contains done y → y.register ≢ x.register) → AreCrowded all p
  crowded x there part covers new =
      let f = first machine_registers (omega arith) in
      record {
        registers = x.register ∷ f.registers;
        many = let long = f.long in omega (arith, long);
        distinct = (λ k. let a = f.among x.register k in absurd (new a.0 a.1 a.2), f.distinct);
        cover = λ v k. elim k [
          | inl e ↦ (x, there, sym e, covers)
          | inr r ↦ let a = f.among v r in (a.0, part a.0 a.1, a.2, a.3)
        ];
      }

-- who covers the place at which a machine register that is taken is wanted
over_free : (p : ℕ) (o : Option Lasting) (y : Lasting) → is_over p o ≡ true → o ≡ Some y → y.last < p
over_free p None y e k = cc
over_free p (Some z) y e k = let same : z ≡ y = cc in subst (λ (u : Lasting). u.last < p) same (ltb-true z.last p e)

-- an element at another default, and one of a part
other_default : (xs : List Lasting) (i : ℕ) (c d : Lasting) → i < length xs → get_or xs i c ≡ get_or xs i d
other_default xs i c d lt = get_or_default xs i c d lt

whole : (xs ys zs : List Lasting) (y : Lasting) → xs ++ ys ≡ zs → Contains xs y → Contains zs y
whole xs ys zs y e k = subst (λ l. Contains l y) e (Contains-append_left xs ys y k)

split : (i j : ℕ) → i ≢ j → (i < j) ⊎ (j < i)
split i j d = by (nat_lt i j) refl
  where
    by : (b : Bool) → nat_lt i j ≡ b → (i < j) ⊎ (j < i)
    by true e = inl (ltb-true i j e)
    by false e = let a = ltb-false i j e in inr (omega (arith, a, d))

some_same : (x y : Lasting) → Some x ≡ Some y → x ≡ y
some_same x y e = cc

no_holder : (m q : ℕ) → slice_index_or (replicate {A = Option Lasting} m None) q None ≡ None
no_holder zero q = refl
no_holder (suc m) zero = refl
no_holder (suc m) (suc q) = no_holder m q

module _ (n : ℕ) (all : List Lasting) (order : AreInOrder n all) where
  other : (i : ℕ) (c d : Lasting) → i < length all → get_or all i c ≡ get_or all i d
  other i c d lt = other_default all i c d lt

  -- no register stands twice
  at_one : (i j : ℕ) (x y : Lasting) → i < length all → j < length all → get_or all i x ≡ x → get_or all j y ≡ y → x.register ≡ y.register → i ≡ j
  at_one i j x y a b e k same = by (cases_eq i j)
    where
      regs : (get_or all i x).register ≡ (get_or all j y).register
      regs = ap (λ (z : Lasting). z.register) e ∙ (same ∙ ap (λ (z : Lasting). z.register) (sym k))

      clash : (u v : ℕ) (c d : Lasting) → u < v → u < length all → v < length all → (get_or all u c).register ≡ (get_or all v d).register → ⊥
      clash u v c d lt first last r =
          order.distinct u v c lt last (r ∙ ap (λ (z : Lasting). z.register) (other v d c last))

      by : (i ≡ j) ⊎ (i ≢ j) → i ≡ j
      by (inl s) = s
      by (inr d) = elim (split i j d) [
        | inl lt ↦ absurd (clash i j x y lt a b regs)
        | inr lt ↦ absurd (clash j i y x lt b a (sym regs))
      ]

  pub unique : (x y : Lasting) → Contains all x → Contains all y → x.register ≡ y.register → x ≡ y
  unique x y a b same =
      let i = at_one a.0 b.0 x y a.1 b.1 a.2 b.2 same in
      sym a.2 ∙ (ap (λ m. get_or all m x) i ∙ (other b.0 x y b.1 ∙ b.2))

  -- the first i of them
  pub part : (i : ℕ) (y : Lasting) → Contains (take i all) y → Contains all y
  part i y k = whole (take i all) (drop i all) all y (take-append-drop i all) k

  module _ (i : ℕ) (x : Lasting) (lt : i < length all) (is : x ≡ get_or all i x) where
    here : Contains all x
    here = (i, lt, sym is)

    -- where one of the first i stands
    pub at_first : (y : Lasting) → Contains (take i all) y → (j : ℕ) × (j < i) × (get_or all j y ≡ y)
    at_first y k =
        let long = length-take-le i all (omega (arith, lt)) in
        let l = k.1 in
        let small : k.0 < i = omega (arith, long, l) in
        (k.0, small, sym (get_or-take i all k.0 y small) ∙ k.2)

    pub before : (y : Lasting) → Contains (take i all) y → y.first ≤ x.first
    before y k =
        let a = at_first y k in
        let small = a.1 in
        let r = order.ascending a.0 i x (omega (arith, small)) lt in
        let e = ap (λ (z : Lasting). z.first) (other a.0 x y (omega (arith, small, lt)) ∙ a.2) in
        let f = ap (λ (z : Lasting). z.first) is in
        omega (arith, r, e, f)

    pub new : (y : Lasting) → Contains (take i all) y → y.register ≢ x.register
    new y k same =
        let a = at_first y k in
        let small = a.1 in
        let e = at_one a.0 i y x (omega (arith, small, lt)) lt a.2 (sym is) same in
        absurd (omega (arith, small, e))

    module _ (fn : Function ℕ Note) (s : Scan) (h : Scanned fn n all (take i all) s) where
      abbrev more : List Lasting
      more = take i all ++ x ∷ []

      free_of : (q : ℕ) → is_over x.first (holder s q) ≡ true → (y : Lasting) → Contains (take i all) y → place_of s y ≡ InRegister q → y.last < x.first
      free_of q free y k e = elim (h.held y q k e) [
        | inl has ↦ over_free x.first (holder s q) y free has
        | inr over ↦ let b = over.2 in let c = before over.0 over.1 in omega (arith, b, c)
      ]

      crowd : AllTaken s x.first → AreCrowded all x.first
      crowd taken = crowded fn n all (take i all) s h x.first taken before x here (λ y k. part i y k) (omega arith, order.proper x here) new

      instead : (q : ℕ) (o : Option Lasting) → holder s q ≡ o → q < machine_registers → AllTaken s x.first → Scanned fn n all more (given q x (evicted_by q o s))
      instead q None e lt taken = let none : true ≡ false = sym (ap (is_over x.first) e) ∙ taken q lt in cc
      instead q (Some y) e lt taken =
          let has = h.holds q y e in
          let busy = taken_by x.first (holder s q) (taken q lt) in
          let same : busy.0 ≡ y = some_same busy.0 y (sym busy.1 ∙ e) in
          let late : x.first ≤ y.last = subst (λ (z : Lasting). x.first ≤ z.last) same busy.2 in
          let one = λ (a b : Lasting) (c : Contains (take i all) a) (d : Contains (take i all) b). unique a b (part i a c) (part i b d) in
          let small = λ (a : Lasting) (c : Contains (take i all) a). order.below a (part i a c) in
          let machine : q ≤ result_register = omega (arith, lt) in
          let w = is_evicted fn n all (take i all) s h one small q machine y e x.first (before y has.0, late) (crowd taken) in
          is_given fn n all (take i all) (evicted_by q (Some y) s) w x (order.below x here) new q machine (λ r. absurd (omega (arith, r, lt)))
          (freed fn n all (take i all) s h one small q machine y e x.first (before y has.0, late) (crowd taken) x before)

      follows : (c : Choice) → IsChoice fn s x c → Scanned fn n all more (followed c x s)
      follows (Free q) k = is_given fn n all (take i all) s h x (order.below x here) new q (can_few fn q x k.0) (can_brief fn q x k.0) (free_of q k.1)
      follows (Instead q) k = instead q (holder s q) refl k.0 k.1
      follows InSlot k = is_spilled fn n all (take i all) s h x (order.below x here) new (order.proper x here) (crowd k)

      turn : (c : Choice) (t : Scan) → IsChoice fn s x c → t ≡ followed c x s → Scanned fn n all (take (i + 1) all) t
      turn c t choice e =
          let next : take (i + 1) all ≡ more = take_more all i x lt ∙ ap (λ (z : Lasting). take i all ++ z ∷ []) (sym is) in
          subst (λ l. Scanned fn n all l t) (sym next) (subst (Scanned fn n all more) (sym e) (follows c choice))

  -- the same, as a loop reads the register
  pub turn_at : (fn : Function ℕ Note) (i : ℕ) (d : Lasting) → i < length all → (s : Scan) → Scanned fn n all (take i all) s → (c : Choice) (t : Scan) → IsChoice fn s (get_or all i d) c → t ≡ followed c (get_or all i d) s → Scanned fn n all (take (i + 1) all) t
  turn_at fn i d lt s h c t choice e = turn i (get_or all i d) lt (other i d (get_or all i d) lt) fn s h c t choice e

  -- at the start nothing is done
  pub started : (fn : Function ℕ Note) (s : Scan) → s ≡ unplaced n → Scanned fn n all (take 0 all) s
  started fn s e = subst (Scanned fn n all (take 0 all)) (sym e) (record {
    size = length-replicate {A = Place} n (InRegister 0);
    machine = length-replicate {A = Option Lasting} (suc result_register) None;
    apart = λ x y a b d k. absurd (omega (arith, a.1));
    brief = λ x a e. absurd (omega (arith, a.1));
    held = λ x q a k. absurd (omega (arith, a.1));
    holds = λ q x k. let none = sym (no_holder (suc result_register) q) ∙ k in cc;
    inside = λ x a. absurd (omega (arith, a.1));
    crowded = λ x k a e. absurd (omega (arith, a.1));
    others = λ v lt none. get_or-replicate n v (InRegister 0) (Slot v) lt;
  })

-- a choice takes at most one slot
pub slots_followed : (c : Choice) (x : Lasting) (s : Scan) → (followed c x s).slots ≤ s.slots + 1
slots_followed (Free q) x s = omega arith
slots_followed (Instead q) x s = by (holder s q)
  where
    by : (o : Option Lasting) → (given q x (evicted_by q o s)).slots ≤ s.slots + 1
    by None = omega arith
    by (Some y) = omega arith
slots_followed InSlot x s = omega arith
