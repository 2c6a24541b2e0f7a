-- Ranges nest exactly where each, in the order in which they begin, is closed.
use Rattle.std.proofs.Common.{◌≡◌, ℕ, zero, suc, ◌+◌, ◌-◌, ◌<◌, ◌≤◌, leb, inl, inr, arith, sym, ap, subst, List, [], ◌∷◌, drop, length, get_or, All, true, false, ◌⊎◌, drop-cons, add-one}
use Rattle.std.specs.Prelude.{nat_le}
use Rattle.std.specs.List.Sorted.{IsPartitionPoint, IsNonDecreasingBy}
use Rattle.std.proofs.lemmas.Bool.Decides.{nat_tests, eqb_tells}
use Rattle.std.proofs.lemmas.List.{get_or_default}
use Rattle.code_flow_system.specs.declared.shapes.LoopShape.{LoopShape}
use Rattle.code_flow_system.specs.Shapes.{AreNested, AreAllNested}
use Rattle.path_fit.specs.Nests.{IsFilled, FirstsAscend, IsClosed, AreClosedFrom}

-- all ranges nest exactly where the rest of them does
pub record NestAlike (ls rest : List LoopShape) : Type 0 where
  pub to : AreAllNested ls → AreAllNested rest
  pub from : AreAllNested rest → AreAllNested ls

pub alike_start : (ls : List LoopShape) → NestAlike ls ls
alike_start ls = record { to = λ h. h; from = λ h. h }

pub alike_more : (ls : List LoopShape) (i : ℕ) (d : LoopShape) → i < length ls → All (AreNested (get_or ls i d)) (drop (i + 1) ls) → NestAlike ls (drop i ls) → NestAlike ls (drop (i + 1) ls)
alike_more ls i d lt h a =
    let e : drop i ls ≡ get_or ls i d ∷ drop (i + 1) ls = rw add-one (drop-cons ls i d lt) in
    record {
      to = λ n. (subst AreAllNested e (a.to n)).1;
      from = λ n. a.from (subst AreAllNested (sym e) (h, n));
    }

pub not_alike : (ls : List LoopShape) (i : ℕ) (d : LoopShape) → i < length ls → NestAlike ls (drop i ls) → AreAllNested ls → All (AreNested (get_or ls i d)) (drop (i + 1) ls)
not_alike ls i d lt a n =
    let e : drop i ls ≡ get_or ls i d ∷ drop (i + 1) ls = rw add-one (drop-cons ls i d lt) in
    (subst AreAllNested e (a.to n)).0

none_left : (ls : List LoopShape) (i : ℕ) → length ls ≤ i → AreAllNested (drop i ls)
none_left [] zero h = tt
none_left [] (suc i) h = tt
none_left (l ∷ ls) zero h = absurd (omega arith)
none_left (l ∷ ls) (suc i) h = none_left ls i (omega arith)

pub alike_end : (ls : List LoopShape) (i : ℕ) → length ls ≤ i → NestAlike ls (drop i ls) → AreAllNested ls
alike_end ls i h a = a.from (none_left ls i h)

-- ranges in order

pub firsts_rise : (ls : List LoopShape) → FirstsAscend ls → (i j : ℕ) (d : LoopShape) → i < j → j < length ls → (get_or ls i d).first < (get_or ls j d).first
firsts_rise ls h i zero d lt long = absurd (omega arith)
firsts_rise ls h i (suc j) d lt long = elim (eqb_tells i j) [
  | inl e ↦ let s = ap (λ (n : ℕ). (get_or ls n d).first) e.1 in let t = next_rises in omega arith
  | inr e ↦ let n = e.1 in let r = firsts_rise ls h i j d (omega arith) (omega arith) in let t = next_rises in omega arith
]
  where
    next_rises : (get_or ls j d).first < (get_or ls (suc j) d).first
    next_rises = subst (λ (n : ℕ). (get_or ls j d).first < (get_or ls n d).first) (add-one j) (h j d (omega arith))

pub firsts_ascend : (ls : List LoopShape) → FirstsAscend ls → IsNonDecreasingBy (λ l. l.first) ls
firsts_ascend ls h i j d le long = elim (eqb_tells i j) [
  | inl e ↦ let s = ap (λ (n : ℕ). (get_or ls n d).first) e.1 in omega arith
  | inr e ↦ let n = e.1 in let r = firsts_rise ls h i j d (omega arith) long in omega arith
]

-- the ranges from behind that place up to the next end by that address
pub record EndBy (ls : List LoopShape) (place next last : ℕ) : Type 0 where
  pub behind : place < next
  pub ended : (j : ℕ) (d : LoopShape) → place < j → j < next → (get_or ls j d).last ≤ last

pub end_start : (ls : List LoopShape) (place last : ℕ) → EndBy ls place (place + 1) last
end_start ls place last = record { behind = omega arith; ended = λ j d lt below. absurd (omega arith) }

leb_le : (a b : ℕ) → leb a b ≡ true → a ≤ b
leb_le a b h = grind (arith, nat_tests)

leb_lt : (a b : ℕ) → leb a b ≡ false → b < a
leb_lt a b h = grind (arith, nat_tests)

-- the next range and those that begin in it are passed over
pub end_more : (ls : List LoopShape) (place next last p : ℕ) (d : LoopShape) → next < length ls → p ≤ length ls → IsClosed ls next → (get_or ls next d).last ≤ last
    → IsPartitionPoint (λ l. nat_le l.first (get_or ls next d).last ≡ true) (λ l. nat_le l.first (get_or ls next d).last ≡ false) ls p
    → next < p → EndBy ls place next last → EndBy ls place p last
end_more ls place next last p d lt most closed le point past h =
    record { behind = let b = h.behind in omega arith; ended = by_order }
  where
    side : (a b : ℕ) → (a < b) ⊎ ((a ≡ b) ⊎ (b < a))
    side a b = grind arith

    same_last : (e : LoopShape) → (get_or ls next e).last ≡ (get_or ls next d).last
    same_last e = ap (λ l. l.last) (get_or_default ls next e d lt)

    by_order : (j : ℕ) (e : LoopShape) → place < j → j < p → (get_or ls j e).last ≤ last
    by_order j e less below = elim (side j next) [
      | inl before ↦ h.ended j e less before
      | inr rest ↦ elim rest [
        | inl same ↦ let f = same_last e in let g = ap (λ (n : ℕ). (get_or ls n e).last) same in omega arith
        | inr behind ↦
            let f = same_last e in
            let begun = leb_le _ _ (point.0 j e (omega arith) below) in
            let r = closed j e behind (omega arith) (omega arith) in omega arith
      ]
    ]

-- a range that is filled begins by its own end
pub past_next : (ls : List LoopShape) (next p : ℕ) (d : LoopShape) → next < length ls → (get_or ls next d).first ≤ (get_or ls next d).last
    → IsPartitionPoint (λ l. nat_le l.first (get_or ls next d).last ≡ true) (λ l. nat_le l.first (get_or ls next d).last ≡ false) ls p → next < p
past_next ls next p d lt le point = by_side (side next p)
  where
    side : (a b : ℕ) → (a < b) ⊎ (b ≤ a)
    side a b = grind (arith, nat_tests)

    by_side : (next < p) ⊎ (p ≤ next) → next < p
    by_side (inl h) = h
    by_side (inr h) = let g = leb_lt _ _ (point.1 next d h lt) in absurd (omega arith)

pub closed_end : (ls : List LoopShape) (place next last : ℕ) (d : LoopShape) → place < length ls → last ≡ (get_or ls place d).last → length ls ≤ next → EndBy ls place next last → IsClosed ls place
closed_end ls place next last d lt is most h j e less long begun =
    let f = ap (λ l. l.last) (get_or_default ls place e d lt) in
    let r = h.ended j e less (omega arith) in omega (arith, is)

pub closed_before : (ls : List LoopShape) (place next last : ℕ) (d g : LoopShape) → FirstsAscend ls → place < length ls → next < length ls → last ≡ (get_or ls place d).last → last < (get_or ls next g).first → EndBy ls place next last → IsClosed ls place
closed_before ls place next last d g up lt nlt is beyond h j e less long begun = by_side (side j next)
  where
    side : (a b : ℕ) → (a < b) ⊎ (b ≤ a)
    side a b = grind (arith, nat_tests)

    f : (get_or ls place e).last ≡ (get_or ls place d).last
    f = ap (λ l. l.last) (get_or_default ls place e d lt)

    by_side : (j < next) ⊎ (next ≤ j) → (get_or ls j e).last ≤ (get_or ls place e).last
    by_side (inl before) = let r = h.ended j e less before in omega (arith, is, f)
    by_side (inr behind) =
        let r = firsts_ascend ls up next j e behind long in
        let k = ap (λ l. l.first) (get_or_default ls next e g nlt) in absurd (omega (arith, is, f, begun))

pub not_closed : (ls : List LoopShape) (place next last : ℕ) (d g : LoopShape) → place < length ls → next < length ls → last ≡ (get_or ls place d).last → place < next → (get_or ls next g).first ≤ last → last < (get_or ls next g).last → IsClosed ls place → ⊥
not_closed ls place next last d g lt nlt is less begun beyond h =
    let f = ap (λ l. l.last) (get_or_default ls place g d lt) in
    let r = h next g less nlt (omega (arith, is)) in omega (arith, is)

-- pairs

pub pair_nests : (k l : LoopShape) → (l.first ≤ k.last → l.last ≤ k.last) → k.first < l.first → AreNested k l
pair_nests k l h up = by_side (side k.last l.first)
  where
    side : (a b : ℕ) → (a < b) ⊎ (b ≤ a)
    side a b = grind (arith, nat_tests)

    by_side : (k.last < l.first) ⊎ (l.first ≤ k.last) → AreNested k l
    by_side (inl e) = inl e
    by_side (inr e) = inr (inr (inr (omega arith, h e)))

pub nested_pair : (k l : LoopShape) → AreNested k l → k.first < l.first → l.first ≤ l.last → l.first ≤ k.last → l.last ≤ k.last
nested_pair k l (inl h) up filled begun = absurd (omega arith)
nested_pair k l (inr (inl h)) up filled begun = absurd (omega arith)
nested_pair k l (inr (inr (inl h))) up filled begun = absurd (omega (arith, h.0))
nested_pair k l (inr (inr (inr h))) up filled begun = h.1

pub pairs_of : (ls : List LoopShape) → AreAllNested ls → (i j : ℕ) (d : LoopShape) → i < j → j < length ls → AreNested (get_or ls i d) (get_or ls j d)
pairs_of [] h i j d lt long = absurd (omega arith)
pairs_of (l ∷ ls) h i zero d lt long = absurd (omega arith)
pairs_of (l ∷ ls) h zero (suc j) d lt long = h.0 j d (omega arith)
pairs_of (l ∷ ls) h (suc i) (suc j) d lt long = pairs_of ls h.1 i j d (omega arith) (omega arith)

pub of_pairs : (ls : List LoopShape) → ((i j : ℕ) (d : LoopShape) → i < j → j < length ls → AreNested (get_or ls i d) (get_or ls j d)) → AreAllNested ls
of_pairs [] h = tt
of_pairs (l ∷ ls) h = (λ j d lt. h zero (suc j) d (omega arith) (omega arith), of_pairs ls (λ i j d lt long. h (suc i) (suc j) d (omega arith) (omega arith)))

pub closed_nest : (ls : List LoopShape) → FirstsAscend ls → AreClosedFrom 0 ls → AreAllNested ls
closed_nest ls up h = of_pairs ls (λ i j d lt long. pair_nests (get_or ls i d) (get_or ls j d) (λ begun. h i (omega arith) (omega arith) j d lt long begun) (firsts_rise ls up i j d lt long))

pub nest_closed : (ls : List LoopShape) → FirstsAscend ls → All IsFilled ls → AreAllNested ls → (i : ℕ) → IsClosed ls i
nest_closed ls up filled h i j d lt long begun = nested_pair (get_or ls i d) (get_or ls j d) (pairs_of ls h i j d lt long) (firsts_rise ls up i j d lt long) (filled j d long) begun

pub closed_more : (ls : List LoopShape) (i place : ℕ) → i < length ls → place ≡ length ls - 1 - i → IsClosed ls place → AreClosedFrom (length ls - i) ls → AreClosedFrom (length ls - (i + 1)) ls
closed_more ls i place lt is h from k least long = elim (eqb_tells k place) [
  | inl e ↦ subst (IsClosed ls) (sym e.1) h
  | inr e ↦ let n = e.1 in from k (omega (arith, is)) long
]
