-- Functions that are apart, pair by pair or because they are in order.
use Rattle.std.proofs.Common.{◌≡◌, ℕ, zero, suc, ◌+◌, ◌<◌, ◌≤◌, ltb, inl, inr, arith, sym, ap, ◌∙◌, subst, List, [], ◌∷◌, take, drop, length, get_or, All, true, false, ◌⊎◌, drop-cons, add-one}
use Rattle.std.specs.List.{Any}
use Rattle.std.specs.List.Sorted.{IsPartitionPoint, IsNonDecreasingBy}
use Rattle.std.proofs.lemmas.Bool.Decides.{nat_tests}
use Rattle.std.proofs.lemmas.List.{get_or_default}
use Rattle.std.proofs.lemmas.List.Elements.{All-cons, All-nil, All-weaker}
use Rattle.code_flow_lookup.proofs.RunLemmas.{Rises, non_decreasing}
use Rattle.code_flow_system.specs.declared.shapes.Span.{Span}
use Rattle.code_flow_system.specs.Shapes.{AreApart, AreAllApart}
use Rattle.path_fit.specs.Spans.{AreInOrder}

-- all functions are apart exactly where the rest of them is
pub record ApartAlike (ps rest : List Span) : Type 0 where
  pub to : AreAllApart ps → AreAllApart rest
  pub from : AreAllApart rest → AreAllApart ps

pub apart_start : (ps : List Span) → ApartAlike ps ps
apart_start ps = record { to = λ h. h; from = λ h. h }

pub apart_more : (ps : List Span) (i : ℕ) (d : Span) → i < length ps → All (AreApart (get_or ps i d)) (drop (i + 1) ps) → ApartAlike ps (drop i ps) → ApartAlike ps (drop (i + 1) ps)
apart_more ps i d lt h a =
    let e : drop i ps ≡ get_or ps i d ∷ drop (i + 1) ps = rw add-one (drop-cons ps i d lt) in
    record {
      to = λ n. (subst AreAllApart e (a.to n)).1;
      from = λ n. a.from (subst AreAllApart (sym e) (h, n));
    }

pub not_apart : (ps : List Span) (i : ℕ) (d : Span) → i < length ps → ApartAlike ps (drop i ps) → AreAllApart ps → All (AreApart (get_or ps i d)) (drop (i + 1) ps)
not_apart ps i d lt a n =
    let e : drop i ps ≡ get_or ps i d ∷ drop (i + 1) ps = rw add-one (drop-cons ps i d lt) in
    (subst AreAllApart e (a.to n)).0

none_left : (ps : List Span) (i : ℕ) → length ps ≤ i → AreAllApart (drop i ps)
none_left [] zero h = tt
none_left [] (suc i) h = tt
none_left (p ∷ ps) zero h = absurd (omega arith)
none_left (p ∷ ps) (suc i) h = none_left ps i (omega arith)

pub apart_end : (ps : List Span) (i : ℕ) → length ps ≤ i → ApartAlike ps (drop i ps) → AreAllApart ps
apart_end ps i h a = a.from (none_left ps i h)

-- functions in order

-- all functions are in order exactly where the rest is, behind that end
pub record OrderAlike (ps : List Span) (end : ℕ) (rest : List Span) : Type 0 where
  pub to : AreInOrder 0 ps → AreInOrder end rest
  pub from : AreInOrder end rest → AreInOrder 0 ps

pub order_start : (ps : List Span) → OrderAlike ps 0 ps
order_start ps = record { to = λ h. h; from = λ h. h }

pub order_more : (ps : List Span) (end i : ℕ) (d : Span) → i < length ps → end ≤ (get_or ps i d).first → (get_or ps i d).first ≤ (get_or ps i d).end → OrderAlike ps end (drop i ps) → OrderAlike ps (get_or ps i d).end (drop (i + 1) ps)
order_more ps end i d lt h g a =
    let e : drop i ps ≡ get_or ps i d ∷ drop (i + 1) ps = rw add-one (drop-cons ps i d lt) in
    record {
      to = λ n. (subst (AreInOrder end) e (a.to n)).2;
      from = λ n. a.from (subst (AreInOrder end) (sym e) (h, g, n));
    }

pub not_order : (ps : List Span) (end i : ℕ) (d : Span) → i < length ps → OrderAlike ps end (drop i ps) → AreInOrder 0 ps → (end ≤ (get_or ps i d).first) × ((get_or ps i d).first ≤ (get_or ps i d).end)
not_order ps end i d lt a n =
    let e : drop i ps ≡ get_or ps i d ∷ drop (i + 1) ps = rw add-one (drop-cons ps i d lt) in
    let o = subst (AreInOrder end) e (a.to n) in (o.0, o.1)

no_order_left : (ps : List Span) (end i : ℕ) → length ps ≤ i → AreInOrder end (drop i ps)
no_order_left [] end zero h = tt
no_order_left [] end (suc i) h = tt
no_order_left (p ∷ ps) end zero h = absurd (omega arith)
no_order_left (p ∷ ps) end (suc i) h = no_order_left ps end i (omega arith)

pub order_end : (ps : List Span) (end i : ℕ) → length ps ≤ i → OrderAlike ps end (drop i ps) → AreInOrder 0 ps
order_end ps end i h a = a.from (no_order_left ps end i h)

order_behind : (ps : List Span) (end : ℕ) → AreInOrder end ps → All (λ p. end ≤ p.first) ps
order_behind [] end h = All-nil _
order_behind (p ∷ ps) end h = All-cons (λ p. end ≤ p.first) p ps h.0 (All-weaker (λ q. p.end ≤ q.first) (λ q. end ≤ q.first) (λ q l. omega (arith, h.0, h.1)) ps (order_behind ps p.end h.2))

pub order_apart : (ps : List Span) (end : ℕ) → AreInOrder end ps → AreAllApart ps
order_apart [] end h = tt
order_apart (p ∷ ps) end h = (All-weaker (λ q. p.end ≤ q.first) (AreApart p) (λ q l a i j. let b = i.below in let f = j.from in absurd (omega arith)) ps (order_behind ps p.end h.2), order_apart ps p.end h.2)

order_rises : (ps : List Span) (end : ℕ) → AreInOrder end ps → Rises (λ p. p.first) ps
order_rises [] end h = tt
order_rises (p ∷ ps) end h = (All-weaker (λ q. p.end ≤ q.first) (λ q. p.first ≤ q.first) (λ q l. omega (arith, h.1)) ps (order_behind ps p.end h.2), order_rises ps p.end h.2)

pub order_ascends : (ps : List Span) → AreInOrder 0 ps → IsNonDecreasingBy (λ p. p.first) ps
order_ascends ps h = non_decreasing (λ p. p.first) ps (order_rises ps 0 h)

pub order_take : (ps : List Span) (end n : ℕ) → AreInOrder end ps → AreInOrder end (take n ps)
order_take ps end zero h = tt
order_take [] end (suc n) h = tt
order_take (p ∷ ps) end (suc n) h = (h.0, h.1, order_take ps p.end n h.2)

-- a beginning that is found there, or nowhere

ltb_lt : (a b : ℕ) → ltb a b ≡ true → a < b
ltb_lt a b h = grind (arith, nat_tests)

ltb_le : (a b : ℕ) → ltb a b ≡ false → b ≤ a
ltb_le a b h = grind (arith, nat_tests)

pub found_first : (ps : List Span) (at p : ℕ) → IsNonDecreasingBy (λ q. q.first) ps → IsPartitionPoint (λ q. ltb q.first at ≡ true) (λ q. ltb q.first at ≡ false) ps p
    → Any (λ q. q.first ≡ at) ps → (p < length ps) × ((d : Span) → (get_or ps p d).first ≡ at)
found_first ps at p up point (k, q, lt, is, begins) = by_order (order k p)
  where
    order : (k p : ℕ) → (k < p) ⊎ (p ≤ k)
    order k p = grind arith

    at_k : (get_or ps k q).first ≡ at
    at_k = ap (λ p. p.first) is ∙ begins

    by_order : (k < p) ⊎ (p ≤ k) → (p < length ps) × ((d : Span) → (get_or ps p d).first ≡ at)
    by_order (inl before) = let f = ltb_lt _ _ (point.0 k q (omega arith) before) in let e = at_k in absurd (omega arith)
    by_order (inr behind) =
        let e = at_k in (
          omega arith,
          λ d.
              let f = ltb_le _ _ (point.1 p d (omega arith) (omega arith)) in
              let g = up p k d behind lt in
              let s = ap (λ p. p.first) (get_or_default ps k d q lt) in omega arith,
        )

pub first_here : (ps : List Span) (at p : ℕ) (d : Span) → p < length ps → (get_or ps p d).first ≡ at → Any (λ q. q.first ≡ at) ps
first_here ps at p d lt e = (p, get_or ps p d, lt, get_or_default ps p (get_or ps p d) d lt, e)
