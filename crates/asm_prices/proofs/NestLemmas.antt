-- The loops of a graph's function, as its worths have them: how a way on, into a loop or back goes.
use Rattle.std.proofs.Common.{◌≡◌, ◌≢◌, ◌⊎◌, ⊎_elim, inl, inr, ℕ, zero, suc, ◌≤◌, ◌<◌, List, [], ◌∷◌, length, map, Contains, Option, Some, None, refl, sym, ap, ◌∙◌, subst, arith}
use Rattle.std.specs.Prelude.{AllPairs, slice_index_or}
use Rattle.asm_graphs.specs.Graphs.{Loop, Graph, IsShaped}
use Rattle.asm_prices.specs.Worths.{LoopBound}
use Rattle.asm_prices.proofs.RepeatLemmas.{le_or, NotInto, NoneInto, OnlyInto, AllSame, IntoHead, AllHeads, Other, Distinct, Entered, classify, NestedIn, back_same, head_of, head_is, head_has}

-- lists of bounds, and of their loops

pub loop_among : (ks : List LoopBound) (k : LoopBound) → Contains ks k → Contains (map (λ (x : LoopBound). x.loop) ks) k.loop
loop_among [] k (n, lt, e) = absurd (omega arith)
loop_among (x ∷ ks) k (zero, lt, e) = (zero, omega arith, ap (λ (y : LoopBound). y.loop) e)
loop_among (x ∷ ks) k (suc n, lt, e) = let r = loop_among ks k (n, omega arith, e) in (suc r.0, (let i = r.1 in omega arith), r.2)

pub bound_among : (ks : List LoopBound) (l : Loop) → Contains (map (λ (x : LoopBound). x.loop) ks) l → (k : LoopBound) × Contains ks k × (k.loop ≡ l)
bound_among [] l (n, lt, e) = absurd (omega arith)
bound_among (x ∷ ks) l (zero, lt, e) = (x, (zero, omega arith, refl), e)
bound_among (x ∷ ks) l (suc n, lt, e) = let r = bound_among ks l (n, omega arith, e) in (r.0, (suc r.1.0, (let i = r.1.1 in omega arith), r.1.2), r.2)

abbrev HaveOthers : List LoopBound → Type 0
HaveOthers ks = AllPairs (λ (j : LoopBound) (k : LoopBound). j.loop.header ≢ k.loop.header) ks

pub distinct : (ks : List LoopBound) → HaveOthers ks → Distinct ks
distinct [] h = tt
distinct (k ∷ ks) h = (others ks (λ n d i. h zero (suc n) d (omega arith) (omega arith)), distinct ks (λ i j d p q. h (suc i) (suc j) d (omega arith) (omega arith)))
  where
    others : (js : List LoopBound) → ((n : ℕ) (d : LoopBound) → n < length js → k.loop.header ≢ (slice_index_or js n d).loop.header) → Other k.loop.header js
    others [] h = tt
    others (j ∷ js) h = (λ e. h zero j (omega arith) (sym e), others js (λ n d i. h (suc n) d (omega arith)))

module _ (g : Graph) (sh : IsShaped g) (f : ℕ) (ks : List LoopBound) (loops : map (λ (k : LoopBound). k.loop) ks ≡ g.loops f) (apart : Distinct ks) where
  pub in_graph : (k : LoopBound) → Contains ks k → Contains (g.loops f) k.loop
  in_graph k has = subst (λ ls. Contains ls k.loop) loops (loop_among ks k has)

  pub of_graph : (l : Loop) → Contains (g.loops f) l → (k : LoopBound) × Contains ks k × (k.loop ≡ l)
  of_graph l has = bound_among ks l (subst (λ ls. Contains ls l) (sym loops) has)

  into_one : (k : LoopBound) (b n : ℕ) → Contains ks k → Contains (g.follows f b) n → b < n → IntoHead b n k
  into_one k b n has goes up =
      ⊎_elim
      (λ (p : k.loop.header ≤ b). inl (inl p))
      (λ (p : b < k.loop.header).
      ⊎_elim
      (λ (q : k.loop.header ≤ n).
      ⊎_elim
      (λ (r : n ≤ k.loop.latch). inr (p, sym (sh.into f k.loop b n (in_graph k has) goes (q, r) (inl p)), r))
      (λ (r : k.loop.latch < n). inl (inr (inr r)))
      (le_or n k.loop.latch))
      (λ (q : n < k.loop.header). inl (inr (inl q)))
      (le_or k.loop.header n))
      (le_or k.loop.header b)

  abbrev Among : List LoopBound → Type 0
  Among js = (k : LoopBound) → Contains js k → Contains ks k

  rest_among : (j : LoopBound) (js : List LoopBound) → Among (j ∷ js) → Among js
  rest_among j js h k has = h k (suc has.0, (let i = has.1 in omega arith), has.2)

  all_heads : (js : List LoopBound) (b n : ℕ) → Among js → Contains (g.follows f b) n → b < n → AllHeads b n js
  all_heads [] b n h goes up = tt
  all_heads (j ∷ js) b n h goes up = (into_one j b n (h j (zero, omega arith, refl)) goes up, all_heads js b n (rest_among j js h) goes up)

  -- a way on enters no loop, or one
  pub onward_into : (b n : ℕ) → Contains (g.follows f b) n → b < n → NoneInto b n ks ⊎ Entered b n ks
  onward_into b n goes up = classify ks b n apart (all_heads ks b n (λ k has. has) goes up)

  nested_one : (k l : LoopBound) → Contains ks k → Contains ks l → (k.loop.latch < l.loop.header) ⊎ ((l.loop.latch < k.loop.header) ⊎ ((k.loop.header ≤ l.loop.header) ⊎ (k.loop.latch ≤ l.loop.latch)))
  nested_one k l i j =
      ⊎_elim
      (λ (p : k.loop.latch < l.loop.header). inl p)
      (λ q. ⊎_elim
      (λ (p : l.loop.latch < k.loop.header). inr (inl p))
      (λ r. ⊎_elim (λ (p : (l.loop.header ≤ k.loop.header) × (k.loop.latch ≤ l.loop.latch)). inr (inr (inr p.1))) (λ (p : (k.loop.header ≤ l.loop.header) × (l.loop.latch ≤ k.loop.latch)). inr (inr (inl p.0))) r)
      q)
      (sh.nested f k.loop l.loop (in_graph k i) (in_graph l j))

  all_nested : (js : List LoopBound) (l : LoopBound) → Among js → Contains ks l → NestedIn l js
  all_nested [] l h has = tt
  all_nested (j ∷ js) l h has = (nested_one j l (h j (zero, omega arith, refl)) has, all_nested js l (rest_among j js h) has)

  -- a way back from a loop's block to its header: what follows the loop is in the same loops
  pub backward_same : (l : LoopBound) (b t : ℕ) → Contains ks l → l.loop.header ≤ b → b ≤ l.loop.latch → l.loop.latch < t → AllSame l.loop.header b t ks
  backward_same l b t has p q r = back_same ks l b t (all_nested ks l (λ k i. i) has) p q r

  -- an entered loop is the one of its header
  entered_in : (js : List LoopBound) (b n : ℕ) (l : LoopBound) → OnlyInto b n l js → Contains js l
  entered_in [] b n l h = absurd h
  entered_in (k ∷ js) b n l (inl h) = (zero, omega arith, h.0)
  entered_in (k ∷ js) b n l (inr h) = let r = entered_in js b n l h.1 in (suc r.0, (let i = r.1 in omega arith), r.2)

  pub entered_among : (b n : ℕ) (e : Entered b n ks) → Contains ks e.loop
  entered_among b n e = entered_in ks b n e.loop e.only

  pub entered_head : (b n : ℕ) (e : Entered b n ks) → head_of ks n ≡ Some e.loop
  entered_head b n e = ap (head_of ks) (sym e.first) ∙ head_is ks e.loop apart (entered_among b n e)

  not_into : (js : List LoopBound) (b n : ℕ) (l : LoopBound) → NoneInto b n js → Contains js l → NotInto b n l
  not_into [] b n l h (i, lt, e) = absurd (omega arith)
  not_into (k ∷ js) b n l h (zero, lt, e) = subst (NotInto b n) e h.0
  not_into (k ∷ js) b n l h (suc i, lt, e) = not_into js b n l h.1 (i, omega arith, e)

  -- where a way on enters no loop, it goes to no header
  pub none_head : (b n : ℕ) → b < n → NoneInto b n ks → head_of ks n ≡ None
  none_head b n up h = by_case (head_of ks n) refl
    where
      by_case : (o : Option LoopBound) → head_of ks n ≡ o → o ≡ None
      by_case None e = refl
      by_case (Some l) e =
          let r = head_has ks n l e in
          let first = r.1 in
          let range = sh.range f l.loop (in_graph l r.0) in
          absurd (⊎_elim
          (λ (p : l.loop.header ≤ b). let k : ⊥ = omega arith in k)
          (λ q. ⊎_elim (λ (p : n < l.loop.header). let k : ⊥ = omega arith in k) (λ (p : l.loop.latch < n). let k : ⊥ = omega arith in k) q)
          (not_into ks b n l h r.0))

  -- a function's first block is no header
  pub first_head : head_of ks 0 ≡ None
  first_head = by_case (head_of ks 0) refl
    where
      by_case : (o : Option LoopBound) → head_of ks 0 ≡ o → o ≡ None
      by_case None e = refl
      by_case (Some l) e =
          let r = head_has ks 0 l e in
          let first = r.1 in
          let some = sh.first f l.loop (in_graph l r.0) in absurd (omega arith)
