-- What is seen from a function.
use Rattle.std.proofs.Common.{◌≡◌, ◌≢◌, refl, ap, ◌∙◌, sym, subst, ℕ, zero, suc, ◌<◌, List, [], ◌∷◌, length, arith, set, ◌⊎◌, inl, inr, Bool, true, false, replicate}
use Rattle.std.proofs.lemmas.List.{length-replicate}
use Rattle.std.proofs.lemmas.Bool.{false≢true}
use Rattle.std.proofs.lemmas.List.{get_or-set_same, get_or-set_other, length-set}
use Rattle.types_calls.specs.Chains.{Among, callees, IsChain, end_of, Reaches}
use Rattle.call_graph.specs.Search.{is_seen, unseen, Spreads, IsRoot, Tells}
use Rattle.call_graph.proofs.Marks.{same_or_not}

pub unseen-set : (bs : List Bool) (g : ℕ) → g < length bs → is_seen bs g ≡ false → suc (unseen (set bs g true)) ≡ unseen bs
unseen-set [] g h e = absurd (omega (arith, h))
unseen-set (true ∷ bs) zero h e = cc
unseen-set (false ∷ bs) zero h e = refl
unseen-set (true ∷ bs) (suc g) h e = unseen-set bs g (omega (arith, h)) e
unseen-set (false ∷ bs) (suc g) h e = ap suc (unseen-set bs g (omega (arith, h)) e)

-- a chain and a chain behind it
pub reach_join : (graph : List (List ℕ)) (g k h : ℕ) → Among k (callees graph g) → (h ≡ k) ⊎ Reaches graph k h → Reaches graph g h
reach_join graph g k h a (inl e) = record { next = k; chain = []; calls = a; is_chain = tt; ends = sym e }
reach_join graph g k h a (inr r) = record { next = k; chain = r.next ∷ r.chain; calls = a; is_chain = (r.calls, r.is_chain); ends = r.ends }

step_sound : (graph : List (List ℕ)) (g k h : ℕ) (before mid : List Bool) → Among k (callees graph g) → ((h : ℕ) → is_seen mid h ≡ true → (is_seen before h ≡ true) ⊎ ((h ≡ g) ⊎ Reaches graph g h)) → (is_seen mid h ≡ true) ⊎ ((h ≡ k) ⊎ Reaches graph k h) → (is_seen before h ≡ true) ⊎ ((h ≡ g) ⊎ Reaches graph g h)
step_sound graph g k h before mid a s (inl m) = s h m
step_sound graph g k h before mid a s (inr r) = inr (inr (reach_join graph g k h a r))

carried : (g h j k : ℕ) (left : List ℕ) (before mid after : List Bool) → ((h : ℕ) → is_seen mid h ≡ true → is_seen after h ≡ true) → is_seen after k ≡ true → (is_seen before h ≡ true) ⊎ ((is_seen mid j ≡ true) ⊎ ((h ≡ g) × Among j (k ∷ left))) → (is_seen before h ≡ true) ⊎ ((is_seen after j ≡ true) ⊎ ((h ≡ g) × Among j left))
carried g h j k left before mid after grow has (inl x) = inl x
carried g h j k left before mid after grow has (inr (inl x)) = inr (inl (grow j x))
carried g h j k left before mid after grow has (inr (inr (e, inl same))) = inr (inl (subst (λ y. is_seen after y ≡ true) (sym same) has))
carried g h j k left before mid after grow has (inr (inr (e, inr x))) = inr (inr (e, x))

step_closed : (graph : List (List ℕ)) (g h j k : ℕ) (left : List ℕ) (before mid after : List Bool) → Spreads graph g (k ∷ left) before mid → Spreads graph k [] mid after → Among j (callees graph h) → (is_seen mid h ≡ true) ⊎ ((is_seen after j ≡ true) ⊎ ((h ≡ k) × ⊥)) → (is_seen before h ≡ true) ⊎ ((is_seen after j ≡ true) ⊎ ((h ≡ g) × Among j left))
step_closed graph g h j k left before mid after s r a (inl m) = carried g h j k left before mid after r.grows r.has (s.closed h j m a)
step_closed graph g h j k left before mid after s r a (inr (inl x)) = inr (inl x)
step_closed graph g h j k left before mid after s r a (inr (inr (e, x))) = absurd x

-- one callee more
pub spread_step : (graph : List (List ℕ)) (g k : ℕ) (left : List ℕ) (before mid after : List Bool) → Among k (callees graph g) → Spreads graph g (k ∷ left) before mid → Spreads graph k [] mid after → Spreads graph g left before after
spread_step graph g k left before mid after a s r = record {
  size = r.size ∙ s.size;
  grows = λ h e. r.grows h (s.grows h e);
  has = r.grows g s.has;
  sound = λ h e. step_sound graph g k h before mid a s.sound (r.sound h e);
  closed = λ h j e b. step_closed graph g h j k left before mid after s r b (r.closed h j e b);
  fewer = omega (arith, r.fewer, s.fewer);
}

set_at : (bs : List Bool) (g h : ℕ) → (h ≡ g) ⊎ (h ≢ g) → is_seen (set bs g true) h ≡ true → (is_seen bs h ≡ true) ⊎ (h ≡ g)
set_at bs g h (inl same) e = inr same
set_at bs g h (inr other) e = inl (sym (get_or-set_other bs g h true false other) ∙ e)

stays_at : (bs : List Bool) (g h : ℕ) → g < length bs → (h ≡ g) ⊎ (h ≢ g) → is_seen bs h ≡ true → is_seen (set bs g true) h ≡ true
stays_at bs g h l (inl same) e = ap (is_seen (set bs g true)) same ∙ get_or-set_same bs g true false l
stays_at bs g h l (inr other) e = get_or-set_other bs g h true false other ∙ e

begin_sound : (graph : List (List ℕ)) (bs : List Bool) (g h : ℕ) → (is_seen bs h ≡ true) ⊎ (h ≡ g) → (is_seen bs h ≡ true) ⊎ ((h ≡ g) ⊎ Reaches graph g h)
begin_sound graph bs g h (inl x) = inl x
begin_sound graph bs g h (inr x) = inr (inl x)

begin_closed : (graph : List (List ℕ)) (bs : List Bool) (g h k : ℕ) → Among k (callees graph h) → (is_seen bs h ≡ true) ⊎ (h ≡ g) → (is_seen bs h ≡ true) ⊎ ((is_seen (set bs g true) k ≡ true) ⊎ ((h ≡ g) × Among k (callees graph g)))
begin_closed graph bs g h k a (inl x) = inl x
begin_closed graph bs g h k a (inr x) = inr (inr (x, subst (λ y. Among k (callees graph y)) x a))

pub spread_begin : (graph : List (List ℕ)) (g : ℕ) (bs : List Bool) → g < length bs → is_seen bs g ≡ false → Spreads graph g (callees graph g) bs (set bs g true)
spread_begin graph g bs l e = record {
  size = length-set bs g true;
  grows = λ h x. stays_at bs g h l (same_or_not h g) x;
  has = get_or-set_same bs g true false l;
  sound = λ h x. begin_sound graph bs g h (set_at bs g h (same_or_not h g) x);
  closed = λ h k x a. begin_closed graph bs g h k a (set_at bs g h (same_or_not h g) x);
  fewer = let n = unseen-set bs g l e in omega (arith, n);
}

pub spread_none : (graph : List (List ℕ)) (g : ℕ) (bs : List Bool) → is_seen bs g ≡ true → Spreads graph g [] bs bs
spread_none graph g bs e = record { size = refl; grows = λ h x. x; has = e; sound = λ h x. inl x; closed = λ h k x a. inl x; fewer = omega arith }

blank_at : (n h : ℕ) → is_seen (replicate n false) h ≡ false
blank_at zero h = refl
blank_at (suc n) zero = refl
blank_at (suc n) (suc h) = blank_at n h

pub root_begin : (graph : List (List ℕ)) (f : ℕ) → IsRoot graph f (callees graph f) (replicate (length graph) false)
root_begin graph f = record {
  size = length-replicate (length graph) false;
  sound = λ h e. let k = sym (blank_at (length graph) h) ∙ e in absurd (false≢true k);
  closed = λ h k e a. let c = sym (blank_at (length graph) h) ∙ e in absurd (false≢true c);
  covers = λ k a. inr a;
}

root_sound : (graph : List (List ℕ)) (f k h : ℕ) (left : List ℕ) (mid : List Bool) → Among k (callees graph f) → IsRoot graph f (k ∷ left) mid → (is_seen mid h ≡ true) ⊎ ((h ≡ k) ⊎ Reaches graph k h) → Reaches graph f h
root_sound graph f k h left mid a s (inl m) = s.sound h m
root_sound graph f k h left mid a s (inr r) = reach_join graph f k h a r

root_closed : (graph : List (List ℕ)) (f h j k : ℕ) (left : List ℕ) (mid after : List Bool) → IsRoot graph f (k ∷ left) mid → Spreads graph k [] mid after → Among j (callees graph h) → (is_seen mid h ≡ true) ⊎ ((is_seen after j ≡ true) ⊎ ((h ≡ k) × ⊥)) → is_seen after j ≡ true
root_closed graph f h j k left mid after s r a (inl m) = r.grows j (s.closed h j m a)
root_closed graph f h j k left mid after s r a (inr (inl x)) = x
root_closed graph f h j k left mid after s r a (inr (inr x)) = absurd x.1

root_covers : (graph : List (List ℕ)) (j k : ℕ) (left : List ℕ) (mid after : List Bool) → Spreads graph k [] mid after → (is_seen mid j ≡ true) ⊎ Among j (k ∷ left) → (is_seen after j ≡ true) ⊎ Among j left
root_covers graph j k left mid after r (inl m) = inl (r.grows j m)
root_covers graph j k left mid after r (inr (inl e)) = inl (subst (λ y. is_seen after y ≡ true) (sym e) r.has)
root_covers graph j k left mid after r (inr (inr x)) = inr x

pub root_step : (graph : List (List ℕ)) (f k : ℕ) (left : List ℕ) (mid after : List Bool) → Among k (callees graph f) → IsRoot graph f (k ∷ left) mid → Spreads graph k [] mid after → IsRoot graph f left after
root_step graph f k left mid after a s r = record {
  size = r.size ∙ s.size;
  sound = λ h e. root_sound graph f k h left mid a s (r.sound h e);
  closed = λ h j e b. root_closed graph f h j k left mid after s r b (r.closed h j e b);
  covers = λ j b. root_covers graph j k left mid after r (s.covers j b);
}

along : (graph : List (List ℕ)) (f h : ℕ) (gs : List ℕ) (seen : List Bool) → IsRoot graph f [] seen → is_seen seen h ≡ true → IsChain graph h gs → is_seen seen (end_of h gs) ≡ true
along graph f h [] seen r e c = e
along graph f h (g ∷ gs) seen r e c = along graph f g gs seen r (r.closed h g e c.0) c.1

reached : (graph : List (List ℕ)) (f : ℕ) (seen : List Bool) → IsRoot graph f [] seen → (p : Reaches graph f f) → (is_seen seen p.next ≡ true) ⊎ ⊥ → is_seen seen f ≡ true
reached graph f seen r p (inl e) = subst (λ y. is_seen seen y ≡ true) p.ends (along graph f p.next p.chain seen r e p.is_chain)
reached graph f seen r p (inr x) = absurd x

pub root_tells : (graph : List (List ℕ)) (f : ℕ) (seen : List Bool) → IsRoot graph f [] seen → Tells (is_seen seen f) graph f
root_tells graph f seen r = record { reaches = r.sound f; not_missed = λ p. reached graph f seen r p (r.covers p.next p.calls) }
