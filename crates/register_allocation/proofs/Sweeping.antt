-- A sweep over the code keeps, at each call, the machine registers whose intervals cover it.
use Rattle.std.proofs.Common.{◌≡◌, ◌≢◌, ◌⊎◌, inl, inr, ℕ, zero, suc, ◌+◌, ◌<◌, ◌≤◌, Bool, true, false, not, List, [], ◌∷◌, ◌++◌, length, get_or, take, drop, Option, Some, None, Contains, refl, sym, ap, ◌∙◌, subst, arith, get_or-set_other}
use Rattle.std.specs.Prelude.{nat_le, if◌then◌else◌, replicate, slice_get, slice_index_or, slice_set}
use Rattle.std.proofs.lemmas.Bool.{and_from, cases_eq, cases_lt, le-leb, leb-true, leb-false}
use Rattle.std.proofs.lemmas.List.{drop_all, drop_more, get_or_append_left, get_or_default, get_or-append-add, get_or-drop, length-drop, take-append-drop, get_or-set_same, length-replicate, length-set, take_more}
use Rattle.std.proofs.lemmas.List.Elements.{Contains-append_cases, Contains-append_left, Contains-push, Contains-push_cases}
use Rattle.low_ir.specs.declared.places.Place.{Place}
use Rattle.low_ir.specs.declared.places.Place.TheVariants.{Register as InRegister, Slot}
use Rattle.low_ir.specs.Code.{Operand, Instr, Do, Call, End, Block, Note}
use Rattle.low_ir.specs.Effects.{is_member}
use Rattle.low_ir.specs.Live.{IsRest, Spot, place_of}
use Rattle.low_ir.specs.Places.{machine_registers, registers_of}
use Rattle.register_allocation.specs.declared.order.Lasting.{Lasting}
use Rattle.register_allocation.specs.Orders.{AreApart, AreInOrder, IsOver}
use Rattle.register_allocation.specs.Scans.{place_at}
use Rattle.register_allocation.specs.Briefs.{names}
use Rattle.register_allocation.specs.Masks.{Sweep, begun, begun_from, blocks_masks, code_masks, code_swept, held_at, held_by, instr_mask, instr_swept, keeps, mask_below, unswept}
use Rattle.register_allocation.proofs.Crowding.{before, new, part}
use Rattle.register_allocation.proofs.Masking.{kept}
use Rattle.register_allocation.proofs.Putting.{length-code_masks}

same_machine : (q r : ℕ) → InRegister q ≡ InRegister r → q ≡ r
same_machine q r e = cc

not_machine : (q k : ℕ) → Slot k ≡ InRegister q → ⊥
not_machine q k e = cc

unnamed : (d : Option ℕ) (v : ℕ) → d ≢ Some v → names d v ≡ false
unnamed None v n = refl
unnamed (Some r) v n = let d : r ≢ v = λ e. n (ap (λ m. Some m) e) in grind (arith, d)

nothing_left : {X : Type 0} (x : X) (xs ys : List X) → x ∷ xs ≡ ys → ys ≡ [] → ⊥
nothing_left x xs ys e f = cc

heads : {X : Type 0} (x y : X) (xs ys : List X) → x ∷ xs ≡ y ∷ ys → x ≡ y
heads x y xs ys e = cc

tails : {X : Type 0} (x y : X) (xs ys : List X) → x ∷ xs ≡ y ∷ ys → xs ≡ ys
tails x y xs ys e = cc

none_held : (m q : ℕ) → slice_index_or (replicate {A = Option Lasting} m None) q None ≡ None
none_held zero q = refl
none_held (suc m) zero = refl
none_held (suc m) (suc q) = none_held m q

-- what a sweep goes by
module _ (n : ℕ) (all : List Lasting) (order : AreInOrder n all) (places : List Place)
    (apart : (x y : Lasting) → Contains all x → Contains all y → x.register ≢ y.register → place_at places x.register ≡ place_at places y.register → AreApart x y) where
  -- the first i intervals have begun: each has its machine register, or had it; the result register isn't asked for
  abbrev Held : ℕ → List (Option Lasting) → Type 0
  Held i hs = (x : Lasting) (q : ℕ) → q < machine_registers → Contains (take i all) x → place_at places x.register ≡ InRegister q → (slice_index_or hs q None ≡ Some x) ⊎ IsOver (take i all) x

  record Swept (p : ℕ) (w : Sweep) : Type 0 where
    index : ℕ
    left : w.left ≡ drop index all
    size : length w.holders ≡ machine_registers
    held : Held index w.holders
    early : (x : Lasting) → Contains (take index all) x → x.first ≤ p

  -- and all that begin at p or before
  record HasBegun (p : ℕ) (w : Sweep) : Type 0 where
    swept : Swept p w
    late : (x : Lasting) → Contains w.left x → p < x.first

  -- one interval more
  module _ (i : ℕ) (x : Lasting) (lt : i < length all) (is : x ≡ get_or all i x) (hs : List (Option Lasting)) (size : length hs ≡ machine_registers) (h : Held i hs) where
    next : take (i + 1) all ≡ take i all ++ x ∷ []
    next = take_more all i x lt ∙ ap (λ (z : Lasting). take i all ++ z ∷ []) (sym is)

    here : Contains all x
    here = (i, lt, sym is)

    over_more : (y : Lasting) → IsOver (take i all) y → IsOver (take i all ++ x ∷ []) y
    over_more y k = (k.0, Contains-append_left (take i all) (x ∷ []) k.0 k.1, k.2)

    -- another one in its machine register is over
    replaced : (q : ℕ) (y : Lasting) → Contains (take i all) y → place_at places y.register ≡ InRegister q → place_at places x.register ≡ InRegister q → IsOver (take i all ++ x ∷ []) y
    replaced q y k a b = elim (apart y x (part n all order i y k) here (new n all order i x lt is y k) (a ∙ sym b)) [
      | inl e ↦ (x, Contains-push (take i all) x, e)
      | inr e ↦ let f = before n all order i x lt is y k in let g = order.proper x here in absurd (omega (arith, e, f, g))
    ]

    by_place : (o : Place) → place_at places x.register ≡ o → (y : Lasting) (r : ℕ) → r < machine_registers → Contains (take i all) y ⊎ (x ≡ y) → place_at places y.register ≡ InRegister r
        → (slice_index_or (held_at o x hs) r None ≡ Some y) ⊎ IsOver (take i all ++ x ∷ []) y
    by_place (Slot k) o y r small (inl a) e = elim (h y r small a e) [ inl f ↦ inl f | inr f ↦ inr (over_more y f) ]
    by_place (Slot k) o y r small (inr a) e = absurd (not_machine r k (sym o ∙ (ap (λ (z : Lasting). place_at places z.register) a ∙ e)))
    by_place (InRegister q) o y r small (inl a) e = by (cases_eq r q)
      where
        by : (r ≡ q) ⊎ (r ≢ q) → (slice_index_or (slice_set hs q (Some x)) r None ≡ Some y) ⊎ IsOver (take i all ++ x ∷ []) y
        by (inl s) = inr (replaced q y a (e ∙ ap InRegister s) o)
        by (inr d) = elim (h y r small a e) [
          | inl f ↦ inl (get_or-set_other hs q r (Some x) None d ∙ f)
          | inr f ↦ inr (over_more y f)
        ]
    by_place (InRegister q) o y r small (inr a) e =
        let same : r ≡ q = same_machine r q (sym e ∙ (ap (λ (z : Lasting). place_at places z.register) (sym a) ∙ o)) in
        inl (ap (λ m. slice_index_or (slice_set hs q (Some x)) m None) same ∙ (get_or-set_same hs q (Some x) None (omega (arith, size, small, same)) ∙ ap (λ (z : Lasting). Some z) a))

    held_next : Held (i + 1) (held_by places x hs)
    held_next = subst (λ l. (y : Lasting) (r : ℕ) → r < machine_registers → Contains l y → place_at places y.register ≡ InRegister r → (slice_index_or (held_by places x hs) r None ≡ Some y) ⊎ IsOver l y) (sym next)
        (λ y r small k e. by_place (place_at places x.register) refl y r small (Contains-push_cases (take i all) x y k) e)

    size_by : (o : Place) → length (held_at o x hs) ≡ machine_registers
    size_by (InRegister q) = length-set hs q (Some x) ∙ size
    size_by (Slot k) = size

    early_next : (p : ℕ) → x.first ≤ p → ((y : Lasting) → Contains (take i all) y → y.first ≤ p) → (y : Lasting) → Contains (take (i + 1) all) y → y.first ≤ p
    early_next p first old y k = elim (Contains-push_cases (take i all) x y (subst (λ l. Contains l y) next k)) [
      | inl a ↦ old y a
      | inr a ↦ subst (λ (z : Lasting). z.first ≤ p) a first
    ]

    -- where it begins behind p, all that are left do
    late_from : (p : ℕ) → p < x.first → (y : Lasting) → Contains (drop i all) y → p < y.first
    late_from p behind y k =
        let small = k.1 in
        let long = length-drop i all in
        let inside : i + k.0 < length all = omega (arith, small, long) in
        let r = order.ascending i (i + k.0) x (omega arith) inside in
        let e = ap (λ (z : Lasting). z.first) is in
        let f = ap (λ (z : Lasting). z.first) (sym (get_or-drop i all k.0 x) ∙ (get_or_default (drop i all) k.0 x y small ∙ k.2)) in
        omega (arith, behind, r, e, f)

  begins : (p : ℕ) (xs : List Lasting) (i : ℕ) (hs : List (Option Lasting)) → xs ≡ drop i all → length hs ≡ machine_registers → Held i hs → ((x : Lasting) → Contains (take i all) x → x.first ≤ p) → HasBegun p (begun_from places p hs xs)
  begins p [] i hs e size h early = record {
    swept = record { index = i; left = e; size = size; held = h; early = early };
    late = λ x k. absurd (omega (arith, k.1));
  }
  begins p (x ∷ xs) i hs e size h early = by (cases_lt i (length all)) (λ j gs a b c d. begins p xs j gs a b c d)
    where
      go : i < length all → (b : Bool) → nat_le x.first p ≡ b → ((j : ℕ) (gs : List (Option Lasting)) → xs ≡ drop j all → length gs ≡ machine_registers → Held j gs → ((y : Lasting) → Contains (take j all) y → y.first ≤ p) → HasBegun p (begun_from places p gs xs))
          → HasBegun p (if b then begun_from places p (held_by places x hs) xs else record { holders = hs; left = x ∷ xs })
      go lt true t rest =
          let cut = e ∙ drop_more all i x lt in
          let is : x ≡ get_or all i x = heads x (get_or all i x) xs (drop (i + 1) all) cut in
          rest (i + 1) (held_by places x hs) (tails x (get_or all i x) xs (drop (i + 1) all) cut) (size_by i x lt is hs size h (place_at places x.register)) (held_next i x lt is hs size h)
          (early_next i x lt is hs size h p (leb-true x.first p t) early)
      go lt false t rest =
          let cut = e ∙ drop_more all i x lt in
          let is : x ≡ get_or all i x = heads x (get_or all i x) xs (drop (i + 1) all) cut in
          record {
            swept = record { index = i; left = e; size = size; held = h; early = early };
            late = λ y k. late_from i x lt is hs size h p (leb-false x.first p t) y (subst (λ l. Contains l y) e k);
          }

      by : (i < length all) ⊎ (length all ≤ i) → ((j : ℕ) (gs : List (Option Lasting)) → xs ≡ drop j all → length gs ≡ machine_registers → Held j gs → ((y : Lasting) → Contains (take j all) y → y.first ≤ p) → HasBegun p (begun_from places p gs xs))
          → HasBegun p (begun_from places p hs (x ∷ xs))
      by (inl lt) rest = go lt (nat_le x.first p) refl rest
      by (inr over) rest = absurd (nothing_left x xs (drop i all) e (drop_all i all over))

  begun_there : (p : ℕ) (w : Sweep) → Swept p w → HasBegun p (begun places p w)
  begun_there p w s = begins p w.left s.index w.holders s.left s.size s.held s.early

  -- a call at p keeps what covers it
  mask_keeps : (p : ℕ) (d : Option ℕ) (w : Sweep) → HasBegun p w → (x : Lasting) (q : ℕ) → q < machine_registers → Contains all x → x.first ≤ p → p ≤ x.last → d ≢ Some x.register → place_at places x.register ≡ InRegister q
      → is_member (registers_of machine_registers (mask_below p d w.holders machine_registers)) q ≡ true
  mask_keeps p d w b x q small k first last other e =
      let s = b.swept in
      let cut = sym (take-append-drop s.index all) in
      let parts = Contains-append_cases (take s.index all) (drop s.index all) x (subst (λ l. Contains l x) cut k) in
      elim parts [
        | inl a ↦ elim (s.held x q small a e) [
          | inl f ↦
              kept p d w.holders q small
              (ap (keeps p d) f ∙ and_from (nat_le p x.last) (not (names d x.register)) (le-leb p x.last last) (ap not (unnamed d x.register other)))
          | inr f ↦ let g = s.early f.0 f.1 in let o = f.2 in absurd (omega (arith, g, o, last))
        ]
        | inr a ↦ let g = b.late x (subst (λ l. Contains l x) (sym s.left) a) in absurd (omega (arith, g, first))
      ]

  later : (p r : ℕ) (w : Sweep) → p ≤ r → Swept p w → Swept r w
  later p r w le s = record { index = s.index; left = s.left; size = s.size; held = s.held; early = λ x k. let a = s.early x k in omega (arith, a, le) }

  swept_next : (p : ℕ) (w : Sweep) (i : Instr ℕ Note) → Swept p w → Swept (suc p) (instr_swept places p w i)
  swept_next p w (Do i) s = later p (suc p) w (omega arith) s
  swept_next p w (Call d f args note) s = later p (suc p) (begun places p w) (omega arith) (begun_there p w s).swept

  code_end : (p : ℕ) (w : Sweep) (is : List (Instr ℕ Note)) → Swept p w → Swept (p + suc (length is)) (code_swept places p w is)
  code_end p w [] s = later p (p + 1) w (omega arith) s
  code_end p w (i ∷ is) s =
      let e : suc p + suc (length is) ≡ p + suc (suc (length is)) = omega arith in
      subst (λ m. Swept m (code_swept places (suc p) (instr_swept places p w i) is)) e (code_end (suc p) (instr_swept places p w i) is (swept_next p w i s))

  -- the masks from the instruction k of these
  record MaskAt (p k : ℕ) (masks : List ℕ) (i : Instr ℕ Note) : Type 0 where
    sweep : Sweep
    swept : Swept (p + k) sweep
    mask : slice_index_or masks k 0 ≡ instr_mask places (p + k) sweep i

  mask_at : (p : ℕ) (w : Sweep) (code is : List (Instr ℕ Note)) (i : Instr ℕ Note) (k : ℕ) → IsRest code k (i ∷ is) → Swept p w → MaskAt p k (code_masks places p w code) i
  mask_at p w [] is i zero r s = absurd (nothing_left i is [] (sym r) refl)
  mask_at p w (j ∷ code) is i zero r s =
      let e : p ≡ p + 0 = omega arith in
      let same = heads j i code is r in
      record { sweep = w; swept = later p (p + 0) w (omega arith) s; mask = ap (instr_mask places p w) same ∙ ap (λ m. instr_mask places m w i) e }
  mask_at p w [] is i (suc k) r s = absurd r
  mask_at p w (j ∷ code) is i (suc k) r s =
      let e : suc p + k ≡ p + suc k = omega arith in
      let t = mask_at (suc p) (instr_swept places p w j) code is i k r (swept_next p w j s) in
      record { sweep = t.sweep; swept = subst (λ m. Swept m t.sweep) e t.swept; mask = t.mask ∙ ap (λ m. instr_mask places m t.sweep i) e }

  -- those of block number b of these
  record BlockAt (p b : ℕ) (masks : List ℕ) (bs : List (Block ℕ Note)) (x : Block ℕ Note) : Type 0 where
    sweep : Sweep
    swept : Swept (p + place_of bs b) sweep
    masks_are : (k : ℕ) → k ≤ length x.code → slice_index_or masks (place_of bs b + k) 0 ≡ slice_index_or (code_masks places (p + place_of bs b) sweep x.code) k 0

  block_at : (p : ℕ) (w : Sweep) (bs : List (Block ℕ Note)) (b : ℕ) (x : Block ℕ Note) → slice_get bs b ≡ Some x → Swept p w → BlockAt p b (blocks_masks places p w bs) bs x
  block_at p w [] b x e s = cc
  block_at p w (y ∷ bs) zero x e s =
      let same : y ≡ x = cc in
      let z : p ≡ p + 0 = omega arith in
      subst (λ (z : Block ℕ Note). BlockAt p 0 (blocks_masks places p w (y ∷ bs)) (y ∷ bs) z) same (record {
        sweep = w;
        swept = later p (p + 0) w (omega arith) s;
        masks_are = λ k few.
            let first : 0 + k ≡ k = omega arith in
            let l = length-code_masks places p w y.code in
            ap (λ m. slice_index_or (code_masks places p w y.code ++ blocks_masks places (p + suc (length y.code)) (code_swept places p w y.code) bs) m 0) first
            ∙ (get_or_append_left (code_masks places p w y.code) (blocks_masks places (p + suc (length y.code)) (code_swept places p w y.code) bs) 0 k (omega (arith, l, few))
            ∙ ap (λ m. slice_index_or (code_masks places m w y.code) k 0) z);
      })
  block_at p w (y ∷ bs) (suc b) x e s =
      let t = block_at (p + suc (length y.code)) (code_swept places p w y.code) bs b x e (code_end p w y.code s) in
      let z : p + suc (length y.code) + place_of bs b ≡ p + (suc (length y.code) + place_of bs b) = omega arith in
      record {
        sweep = t.sweep;
        swept = subst (λ m. Swept m t.sweep) z t.swept;
        masks_are = λ k few.
            let l = length-code_masks places p w y.code in
            let at : suc (length y.code) + place_of bs b + k ≡ length (code_masks places p w y.code) + (place_of bs b + k) = omega (arith, l) in
            ap (λ m. slice_index_or (code_masks places p w y.code ++ blocks_masks places (p + suc (length y.code)) (code_swept places p w y.code) bs) m 0) at
            ∙ (get_or-append-add (code_masks places p w y.code) (blocks_masks places (p + suc (length y.code)) (code_swept places p w y.code) bs) (place_of bs b + k) 0
            ∙ (t.masks_are k few ∙ ap (λ m. slice_index_or (code_masks places m t.sweep x.code) k 0) z));
      }

  rest_within : (code is : List (Instr ℕ Note)) (i : Instr ℕ Note) (k : ℕ) → IsRest code k (i ∷ is) → k ≤ length code
  rest_within [] is i zero r = omega arith
  rest_within (j ∷ code) is i zero r = omega arith
  rest_within [] is i (suc k) r = absurd r
  rest_within (j ∷ code) is i (suc k) r = let h = rest_within code is i k r in omega (arith, h)

  swept_first : Swept 0 (unswept all)
  swept_first = record {
    index = 0;
    left = refl;
    size = length-replicate {A = Option Lasting} machine_registers None;
    held = λ x q small k e. absurd (omega (arith, k.1));
    early = λ x k. absurd (omega (arith, k.1));
  }

  -- a call at the place p of these blocks keeps the machine register of a register whose interval covers p
  pub call_keeps : (bs : List (Block ℕ Note)) (p f : ℕ) (d : Option ℕ) (args : List (Operand ℕ)) (note : Note) (is : List (Instr ℕ Note)) (end : End ℕ) → Spot bs p (Call d f args note ∷ is) end
      → (x : Lasting) (q : ℕ) → q < machine_registers → Contains all x → x.first ≤ p → p ≤ x.last → d ≢ Some x.register → place_at places x.register ≡ InRegister q
      → is_member (registers_of machine_registers (slice_index_or (blocks_masks places 0 (unswept all) bs) p 0)) q ≡ true
  call_keeps bs p f d args note is end spot x q small k first last other e =
      let b = block_at 0 (unswept all) bs spot.number spot.block spot.there swept_first in
      let c = mask_at (0 + place_of bs spot.number) b.sweep spot.block.code is (Call d f args note) spot.behind spot.code b.swept in
      let at = spot.at in
      let here : 0 + place_of bs spot.number + spot.behind ≡ p = omega (arith, at) in
      let mask : slice_index_or (blocks_masks places 0 (unswept all) bs) p 0 ≡ instr_mask places p c.sweep (Call d f args note) =
      ap (λ m. slice_index_or (blocks_masks places 0 (unswept all) bs) m 0) at
      ∙ (b.masks_are spot.behind (rest_within spot.block.code is (Call d f args note) spot.behind spot.code)
      ∙ (c.mask ∙ ap (λ m. instr_mask places m c.sweep (Call d f args note)) here)) in
      let swept = subst (λ m. Swept m c.sweep) here c.swept in
      ap (λ m. is_member (registers_of machine_registers m) q) mask ∙ mask_keeps p d (begun places p c.sweep) (begun_there p c.sweep swept) x q small k first last other e
