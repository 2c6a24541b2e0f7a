-- The worth of each word of laid code: what is left of its block and what may come behind, but for the turns of a loop whose header it begins.
use Rattle.std.proofs.Common.{◌≡◌, ◌≢◌, ◌⊎◌, ⊎_elim, inl, inr, ℕ, zero, suc, ◌+◌, ◌-◌, ◌*◌, ◌<◌, ◌≤◌, pos, ◌≤ℤ◌, List, [], ◌∷◌, length, All, Contains, Option, Some, None, refl, sym, ap, ◌∙◌, arith}
use Rattle.std.proofs.lemmas.Bool.Decides.{leb_tells}
use Rattle.frac128.specs.Terms.{Terms, coefficient}
use Rattle.code_flow_system.specs.Moves.{Code}
use Rattle.asm_items.specs.Items.{total}
use Rattle.asm_items.specs.Placings.{Placing, block_of, start_of, end_of}
use Rattle.asm_graphs.specs.Graphs.{Graph, IsShaped}
use Rattle.asm_graphs.specs.Laid.{IsLaid}
use Rattle.asm_graphs.proofs.ReachedLemmas.{ends_within}
use Rattle.asm_graphs.proofs.RangeLemmas.{behind, upward}
use Rattle.asm_prices.specs.Worths.{LoopBound, Prices, times, repeated, block_price, AreWorths}
use Rattle.asm_prices.proofs.RepeatLemmas.{Distinct, repeats, sum_from, sum_split, ahead, repeats_self, repeats_first, head_of, head_has}
use Rattle.asm_prices.proofs.NestLemmas.{distinct, in_graph, first_head}
use Rattle.asm_prices.proofs.RowLemmas.{pay, rest, word_prices, rest-word_prices, length-word_prices}
use Rattle.asm_prices.proofs.TableLemmas.{row_terms, row_none, row_at, row_positive, tabled, tabled_none, tabled_at, tabled_positive}

two_ways : (a b : ℕ) → a ≢ b → (a < b) ⊎ (b < a)
two_ways a b n = ⊎_elim (λ h. let k = h.1 in inl (omega arith)) (λ h. let k = h.1 in inr (omega arith)) (leb_tells a b)

-- a row of what is left, with n behind it, but for its first number
abbrev pub rests : ℕ → List ℕ → List ℕ
rests n [] = []
rests n (q ∷ qs) = (q + rest qs 0 + n) ∷ rests n qs

abbrev pub valued : ℕ → ℕ → List ℕ → List ℕ
valued x n [] = []
valued x n (q ∷ qs) = x ∷ rests n qs

length-rests : (n : ℕ) (qs : List ℕ) → length (rests n qs) ≡ length qs
length-rests n [] = refl
length-rests n (q ∷ qs) = let r = length-rests n qs in omega arith

pub length-valued : (x n : ℕ) (qs : List ℕ) → length (valued x n qs) ≡ length qs
length-valued x n [] = refl
length-valued x n (q ∷ qs) = let r = length-rests n qs in omega arith

pay-rests : (n : ℕ) (qs : List ℕ) (k : ℕ) → k < length qs → pay (rests n qs) k ≡ rest qs k + n
pay-rests n [] k h = absurd (omega arith)
pay-rests n (q ∷ qs) zero h = refl
pay-rests n (q ∷ qs) (suc k) h = pay-rests n qs k (omega arith)

pub first-valued : (x n : ℕ) (qs : List ℕ) → 0 < length qs → pay (valued x n qs) 0 ≡ x
first-valued x n [] h = absurd (omega arith)
first-valued x n (q ∷ qs) h = refl

pub later-valued : (x n : ℕ) (qs : List ℕ) (k : ℕ) → 0 < k → k < length qs → pay (valued x n qs) k ≡ rest qs k + n
later-valued x n [] k p h = absurd (omega arith)
later-valued x n (q ∷ qs) zero p h = absurd (omega arith)
later-valued x n (q ∷ qs) (suc k) p h = pay-rests n qs k (omega arith)

-- seen from a first block, all blocks are as often repeated as for a call
sum_repeated : (ks : List LoopBound) (price : ℕ → ℕ) (b n : ℕ) → ((k : LoopBound) → Contains ks k → 0 < k.loop.header) → sum_from (λ t. price t * repeats ks 0 t) b n ≡ repeated price ks b n
sum_repeated ks price b zero h = refl
sum_repeated ks price b (suc n) h =
    let r = sum_repeated ks price (suc b) n h in
    let e = ap (λ k. price b * k) (repeats_first ks b h) in
    let s : price b * times ks b ≡ times ks b * price b = grind arith in omega arith

module _ (g : Graph) (l : Placing) (p : Prices) where
  abbrev pub prices : ℕ → ℕ → List ℕ
  prices f b = word_prices p.of p.worth (start_of l f b) (block_of l f b)

  abbrev pub cost : ℕ → ℕ → ℕ
  cost f b = block_price l p f b

  -- what may come behind a block
  abbrev pub later : ℕ → ℕ → ℕ
  later f b = ahead (p.bounds f) (cost f) b (suc b) (g.blocks f - suc b)

  -- behind the k-th word of a block
  abbrev pub left : ℕ → ℕ → ℕ → ℕ
  left f b k = rest (prices f b) (suc k) + later f b

  -- a header's first word leaves to its loop's turns what they pay
  abbrev pub first_by : Option LoopBound → ℕ → ℕ → ℕ
  first_by None f b = cost f b + later f b
  first_by (Some k) f b = ahead (p.bounds f) (cost f) b (suc k.loop.latch) (g.blocks f - suc k.loop.latch)

  abbrev pub turn_by : Option LoopBound → ℕ → ℕ → ℕ
  turn_by None f b = 0
  turn_by (Some k) f b = sum_from (λ t. cost f t * repeats (p.bounds f) b t) b (suc k.loop.latch - b)

  abbrev pub first : ℕ → ℕ → ℕ
  first f b = first_by (head_of (p.bounds f) b) f b

  -- what a turn of a header's loop is worth
  abbrev pub turn : ℕ → ℕ → ℕ
  turn f b = turn_by (head_of (p.bounds f) b) f b

  abbrev pub values : ℕ → ℕ → List ℕ
  values f b = valued (first f b) (later f b) (prices f b)

  abbrev pub block_terms : ℕ → ℕ → Terms
  block_terms f b = row_terms (start_of l f b) (values f b)

  abbrev pub function_terms : ℕ → Terms
  function_terms f = tabled (block_terms f) 0 (g.blocks f)

  abbrev pub places : Terms
  places = tabled function_terms 0 g.functions

  pub places_positive : All (λ t. pos 0 ≤ℤ t.1) places
  places_positive = tabled_positive function_terms 0 g.functions (λ f. tabled_positive (block_terms f) 0 (g.blocks f) (λ b. row_positive (values f b) (start_of l f b)))

  -- a row has the size of its block
  pub row_size : (f b : ℕ) → 4 * length (values f b) ≡ total (block_of l f b)
  row_size f b =
      let e = length-valued (first f b) (later f b) (prices f b) in
      let s = length-word_prices p.of p.worth (block_of l f b) (start_of l f b) in omega arith

  module _ (c : Code) (sh : IsShaped g) (laid : IsLaid g l c) (w : AreWorths g l p) where
    pub apart : (f : ℕ) → Distinct (p.bounds f)
    apart f = distinct (p.bounds f) (w.headers f)

    out_of_function : (f h a : ℕ) → f < g.functions → h < g.functions → h ≢ f → start_of l f 0 ≤ a → a < end_of l f → coefficient (function_terms h) a ≡ pos 0
    out_of_function f h a i j d low high =
        tabled_none (block_terms h) 0 (g.blocks h) a (λ b from below.
        let up = upward g l c sh laid h 0 b j (omega arith) (omega arith) in
        let ends = ends_within g l c sh laid h b (omega arith) in
        let size = row_size h b in
        row_none (values h b) (start_of l h b) a
        (⊎_elim (λ (z : end_of l h ≤ start_of l f 0). inr (omega arith)) (λ (z : end_of l f ≤ start_of l h 0). inl (omega arith)) (laid.apart h f d j i)))

    out_of_block : (f b d a : ℕ) → f < g.functions → b < g.blocks f → d < g.blocks f → d ≢ b → start_of l f b ≤ a → a < start_of l f b + total (block_of l f b) → coefficient (block_terms f d) a ≡ pos 0
    out_of_block f b d a i j k n low high =
        let size = row_size f d in
        row_none (values f d) (start_of l f d) a
        (⊎_elim
        (λ (z : d < b). let e = behind g l c sh laid f d b i z j in inr (omega arith))
        (λ (z : b < d). let e = behind g l c sh laid f b d i z k in inl (omega arith))
        (two_ways d b n))

    -- the worth of a word
    pub place_at : (f b k : ℕ) → f < g.functions → b < g.blocks f → k < length (prices f b) → coefficient places (start_of l f b + 4 * k) ≡ pos (pay (values f b) k)
    place_at f b k i j h =
        let same = length-valued (first f b) (later f b) (prices f b) in
        let size = row_size f b in
        let up = upward g l c sh laid f 0 b i (omega arith) j in
        let ends = ends_within g l c sh laid f b j in
        tabled_at function_terms 0 g.functions f (start_of l f b + 4 * k) (omega arith) (omega arith) (λ e from below n. out_of_function f e (start_of l f b + 4 * k) i (omega arith) n (omega arith) (omega arith))
        ∙ tabled_at (block_terms f) 0 (g.blocks f) b (start_of l f b + 4 * k) (omega arith) (omega arith) (λ e from below n. out_of_block f b e (start_of l f b + 4 * k) i j (omega arith) n (omega arith) (omega arith))
        ∙ row_at (values f b) (start_of l f b) k (omega arith)

    -- the blocks from b on, seen from b
    own_first : (f b : ℕ) → b < g.blocks f → ahead (p.bounds f) (cost f) b b (g.blocks f - b) ≡ cost f b + later f b
    own_first f b h =
        let e : g.blocks f - b ≡ suc (g.blocks f - suc b) = omega arith in
        let x = ap (ahead (p.bounds f) (cost f) b b) e in
        let r = ap (λ k. cost f b * k) (repeats_self (p.bounds f) b) in omega arith

    full_by : (f b : ℕ) (o : Option LoopBound) → head_of (p.bounds f) b ≡ o → b < g.blocks f → first_by o f b + turn_by o f b ≡ cost f b + later f b
    full_by f b None e j = omega arith
    full_by f b (Some k) e j =
        let has = head_has (p.bounds f) b k e in
        let at = has.1 in
        let in_g = in_graph g sh f (p.bounds f) (w.loops f) (apart f) k has.0 in
        let range = sh.range f k.loop in_g in
        let last = sh.last f k.loop in_g in
        let s = sum_split (λ t. cost f t * repeats (p.bounds f) b t) b (suc k.loop.latch - b) (g.blocks f - suc k.loop.latch) in
        let q : suc k.loop.latch - b + (g.blocks f - suc k.loop.latch) ≡ g.blocks f - b = omega arith in
        let u : b + (suc k.loop.latch - b) ≡ suc k.loop.latch = omega arith in
        let x = ap (sum_from (λ t. cost f t * repeats (p.bounds f) b t) b) q in
        let y = ap (λ a. sum_from (λ t. cost f t * repeats (p.bounds f) b t) a (g.blocks f - suc k.loop.latch)) u in
        let o = own_first f b j in omega arith

    -- a block's first word and a turn of its loop have what the block and all behind it may cost
    pub full : (f b : ℕ) → b < g.blocks f → first f b + turn f b ≡ cost f b + later f b
    full f b j = full_by f b (head_of (p.bounds f) b) refl j

    pub plain_first : (f b : ℕ) → head_of (p.bounds f) b ≡ None → b < g.blocks f → first f b ≡ ahead (p.bounds f) (cost f) b b (g.blocks f - b)
    plain_first f b e j = ap (λ o. first_by o f b) e ∙ sym (own_first f b j)

    pub head_first : (f b : ℕ) (k : LoopBound) → head_of (p.bounds f) b ≡ Some k → first f b ≡ ahead (p.bounds f) (cost f) b (suc k.loop.latch) (g.blocks f - suc k.loop.latch)
    head_first f b k e = ap (λ o. first_by o f b) e

    pub head_turn : (f b : ℕ) (k : LoopBound) → head_of (p.bounds f) b ≡ Some k → turn f b ≡ sum_from (λ t. cost f t * repeats (p.bounds f) b t) b (suc k.loop.latch - b)
    head_turn f b k e = ap (λ o. turn_by o f b) e

    -- the row of a block costs what the block does
    pub row_cost : (f b : ℕ) → rest (prices f b) 0 ≡ cost f b
    row_cost f b = rest-word_prices p.of p.worth (block_of l f b) (start_of l f b)

    -- the first word of a function has no more than the function is worth
    pub entry_worth : (f : ℕ) → f < g.functions → first f 0 ≤ p.worth f
    entry_worth f i =
        let e = plain_first f 0 (first_head g sh f (p.bounds f) (w.loops f) (apart f)) (sh.some f i) in
        let d : g.blocks f - 0 ≡ g.blocks f = omega arith in
        let x = ap (ahead (p.bounds f) (cost f) 0 0) d in
        let s = sum_repeated (p.bounds f) (cost f) 0 (g.blocks f) (λ k has. sh.first f k.loop (in_graph g sh f (p.bounds f) (w.loops f) (apart f) k has)) in
        let t = w.functions f i in omega arith
