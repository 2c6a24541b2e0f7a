-- Parts of loose flows: what starts at some addresses, is counted as a loose flow is, and visits nothing before them.
use Rattle.std.proofs.Common.{◌≡◌, ◌≢◌, ℕ, zero, suc, ◌+◌, ◌*◌, ◌≤◌, ◌<◌, ℤ, pos, ◌+ℤ◌, ◌*ℤ◌, ◌≤ℤ◌, arith, refl, sym, ap, ◌∙◌, subst, List, [], ◌∷◌, ◌++◌, Contains, inl, inr, ◌⊎◌, Bool, true, false, cond}
use Rattle.std.specs.Prelude.{◌==◌}
use lib.IntN.{negsuc, *ℤ-zero}
use Rattle.std.proofs.lemmas.Int.{ints}
use Rattle.std.proofs.lemmas.Bool.Decides.{nat_tests, eqb_tells}
use Rattle.std.proofs.Math.Nat.{mul-le-mul_left}
use Rattle.frac128.specs.Terms.{coefficient, when_same}
use Rattle.frac128.proofs.SignedLemmas.{mul-add, mul-le, mul-mul_swap}
use Rattle.frac128.proofs.TermsLemmas.{when_same-here, when_same-elsewhere}
use Rattle.code_flow_system.specs.declared.claims.LoopClaim.{LoopClaim}
use Rattle.code_flow_system.specs.declared.moves.Move.{Move}
use Rattle.code_flow_system.specs.declared.shapes.Span.{Span}
use Rattle.code_flow_system.specs.Moves.{destinations}
use Rattle.code_flow_system.specs.Systems.{System, AreAscending}
use Rattle.code_flow_system.specs.Counts.{Amounts, each_with, total}
use Rattle.code_flow_system.specs.Loose.{most_turns}
use Rattle.path_places.specs.Reached.{rank}
use Rattle.path_ranges.proofs.TotalLemmas.{leaves, comes, comes_by, added, times, none, once, total-added, total-times, total-none, total-once, total_least}

-- numbers

pub least_turns : (c : LoopClaim) → 1 ≤ most_turns c
least_turns c = by_test (c.max == 0) refl
  where
    by_test : (t : Bool) → (c.max == 0) ≡ t → 1 ≤ cond t 1 c.max
    by_test true e = omega arith
    by_test false e = grind (arith, nat_tests)

more_times : (k : ℕ) (z : ℤ) → 1 ≤ k → pos 0 ≤ℤ z → z ≤ℤ (pos k *ℤ z)
more_times k (pos z) h p = let e : z * 1 ≤ z * k = mul-le-mul_left z h in omega (arith, ints)
more_times k (negsuc z) h p = absurd (omega (arith, ints))

positive_times : (k : ℕ) (z : ℤ) → pos 0 ≤ℤ z → pos 0 ≤ℤ (pos k *ℤ z)
positive_times k (pos z) h = omega (arith, ints)
positive_times k (negsuc z) h = absurd (omega (arith, ints))

pub same_least : (a b : ℕ) → pos 0 ≤ℤ when_same a b (pos 1)
same_least a b = by_test (a == b)
  where
    by_test : (t : Bool) → pos 0 ≤ℤ cond t (pos 1) (pos 0)
    by_test true = omega (arith, ints)
    by_test false = omega (arith, ints)

pub same_most : (a b : ℕ) → when_same a b (pos 1) ≤ℤ pos 1
same_most a b = by_test (a == b)
  where
    by_test : (t : Bool) → cond t (pos 1) (pos 0) ≤ℤ pos 1
    by_test true = omega (arith, ints)
    by_test false = omega (arith, ints)

-- how often an address stands in a list
abbrev pub starts : List ℕ → ℕ → ℤ
starts ds b = coefficient (each_with (pos 1) ds) b

pub starts_least : (ds : List ℕ) (b : ℕ) → pos 0 ≤ℤ starts ds b
starts_least [] b = omega (arith, ints)
starts_least (d ∷ ds) b = let r = starts_least ds b in let e = same_least d b in omega (arith, ints)

pub starts-append : (ds es : List ℕ) (b : ℕ) → starts (ds ++ es) b ≡ starts ds b +ℤ starts es b
starts-append [] es b = omega (arith, ints)
starts-append (d ∷ ds) es b = let r = starts-append ds es b in omega (arith, ints)

starts_has : (ds : List ℕ) (d b : ℕ) → Contains ds d → starts (d ∷ []) b ≤ℤ starts ds b
starts_has [] d b (i, lt, e) = absurd (omega (arith, lt))
starts_has (x ∷ ds) d b (zero, lt, e) = subst (λ y. starts (y ∷ []) b ≤ℤ starts (x ∷ ds) b) e (let r = starts_least ds b in omega (arith, ints))
starts_has (x ∷ ds) d b (suc i, lt, e) = let r = starts_has ds d b (i, omega (arith, lt), e) in let s = same_least x b in omega (arith, ints)

comes_least : (a : ℕ) (m : Move) → pos 0 ≤ℤ comes a m
comes_least a m = starts_least (destinations m) a

comes_by_least : (back a : ℕ) (m : Move) → pos 0 ≤ℤ comes_by back a m
comes_by_least back a m = by_test (m.at == back)
  where
    by_test : (t : Bool) → pos 0 ≤ℤ cond t (pos 0) (comes a m)
    by_test true = omega (arith, ints)
    by_test false = comes_least a m

-- an address is in a caller's function, or stands earlier in the same one
abbrev pub Precedes : List Span → ℕ → ℕ → Type 0
Precedes ps b a = (rank ps a < rank ps b) ⊎ ((rank ps b ≡ rank ps a) × (b < a))

abbrev pub PrecedesAll : List Span → ℕ → List ℕ → Type 0
PrecedesAll ps b [] = Unit {0}
PrecedesAll ps b (d ∷ ds) = Precedes ps b d × PrecedesAll ps b ds

pub precedes_left : (ps : List Span) (b : ℕ) (ds es : List ℕ) → PrecedesAll ps b (ds ++ es) → PrecedesAll ps b ds × PrecedesAll ps b es
precedes_left ps b [] es h = (tt, h)
precedes_left ps b (d ∷ ds) es h = let r = precedes_left ps b ds es h.1 in ((h.0, r.0), r.1)

precedes_one : (ps : List Span) (b d : ℕ) (ds : List ℕ) → Contains ds d → PrecedesAll ps b ds → Precedes ps b d
precedes_one ps b d [] (i, lt, e) h = absurd (omega (arith, lt))
precedes_one ps b d (x ∷ ds) (zero, lt, e) h = subst (λ y. Precedes ps b y) e h.0
precedes_one ps b d (x ∷ ds) (suc i, lt, e) h = precedes_one ps b d ds (i, omega (arith, lt), e) h.1

pub precedes_differs : (ps : List Span) (b a : ℕ) → Precedes ps b a → b ≢ a
precedes_differs ps b a h e = elim h [
  | inl k ↦ let f : rank ps b ≡ rank ps a = ap (rank ps) e in absurd (omega (arith, f, k))
  | inr k ↦ let k1 = k.1 in absurd (omega (arith, e, k1))
]

module _ (s : System) (ps : List Span) (ascending : AreAscending s.moves) where
  -- how often a flow leaves an address, comes to it, and comes to a header from elsewhere than the jump back

  abbrev pub left : Amounts → ℕ → ℤ
  left x b = total (leaves b) x s.moves

  abbrev pub come : Amounts → ℕ → ℤ
  come x b = total (comes b) x s.moves

  abbrev pub outer : Amounts → LoopClaim → ℤ
  outer x c = total (comes_by c.back c.header) x s.moves

  pub come_least : (x : Amounts) (b : ℕ) → pos 0 ≤ℤ come x b
  come_least x b = total_least (comes b) x s.moves (λ m i. comes_least b m)

  pub outer_least : (x : Amounts) (c : LoopClaim) → pos 0 ≤ℤ outer x c
  outer_least x c = total_least (comes_by c.back c.header) x s.moves (λ m i. comes_by_least c.back c.header m)

  pub left_least : (x : Amounts) (b : ℕ) → pos 0 ≤ℤ left x b
  left_least x b = total_least (leaves b) x s.moves (λ m i. same_least m.at b)

  -- a part that starts once at each of some addresses
  pub record IsPart (ds : List ℕ) (x : Amounts) : Type 0 where
    pub kept : (b : ℕ) → left x b ≤ℤ (starts ds b +ℤ come x b)
    pub loops : (c : LoopClaim) → Contains s.claims.loops c → left x c.header ≤ℤ (pos (most_turns c) *ℤ (starts ds c.header +ℤ outer x c))
    pub behind : (b : ℕ) → PrecedesAll ps b ds → left x b ≡ pos 0

  -- further turns around a header: they start nowhere, and one visit more is a loop's still
  pub record IsRound (y : ℕ) (x : Amounts) : Type 0 where
    pub kept : (b : ℕ) → left x b ≤ℤ come x b
    pub loops : (c : LoopClaim) → Contains s.claims.loops c → c.header ≢ y → left x c.header ≤ℤ (pos (most_turns c) *ℤ outer x c)
    pub own : (c : LoopClaim) → Contains s.claims.loops c → c.header ≡ y → (left x y +ℤ pos 1) ≤ℤ pos (most_turns c)
    pub behind : (b : ℕ) → Precedes ps b y → left x b ≡ pos 0

  pub none_part : (ds : List ℕ) → IsPart ds none
  none_part ds = record {
    kept = λ b. let l = total-none (leaves b) s.moves in let c = total-none (comes b) s.moves in let p = starts_least ds b in omega (arith, ints);
    loops = λ c i.
        let l = total-none (leaves c.header) s.moves in let o = total-none (comes_by c.back c.header) s.moves in
        let p = starts_least ds c.header in let q = positive_times (most_turns c) (starts ds c.header +ℤ outer none c) (omega (arith, ints)) in omega (arith, ints);
    behind = λ b h. total-none (leaves b) s.moves;
  }

  pub none_round : (y : ℕ) → IsRound y none
  none_round y = record {
    kept = λ b. let l = total-none (leaves b) s.moves in let c = total-none (comes b) s.moves in omega (arith, ints);
    loops = λ c i d.
        let l = total-none (leaves c.header) s.moves in let o = total-none (comes_by c.back c.header) s.moves in
        let q = positive_times (most_turns c) (outer none c) (omega (arith, ints)) in omega (arith, ints);
    own = λ c i e. let l = total-none (leaves y) s.moves in let m = least_turns c in omega (arith, ints, m);
    behind = λ b h. total-none (leaves b) s.moves;
  }

  pub part_sum : (ds es : List ℕ) (x y : Amounts) → IsPart ds x → IsPart es y → IsPart (ds ++ es) (added x y)
  part_sum ds es x y h k = record {
    kept = λ b.
        let l = total-added (leaves b) x y s.moves in let c = total-added (comes b) x y s.moves in
        let a = starts-append ds es b in let h0 = h.kept b in let k0 = k.kept b in omega (arith, ints);
    loops = λ c i.
        let l = total-added (leaves c.header) x y s.moves in let o = total-added (comes_by c.back c.header) x y s.moves in
        let a = starts-append ds es c.header in let h0 = h.loops c i in let k0 = k.loops c i in
        let m = mul-add (pos (most_turns c)) (starts ds c.header +ℤ outer x c) (starts es c.header +ℤ outer y c) in
        let e : (starts (ds ++ es) c.header +ℤ outer (added x y) c) ≡ ((starts ds c.header +ℤ outer x c) +ℤ (starts es c.header +ℤ outer y c)) = omega (arith, ints) in
        subst (λ (z : ℤ). left (added x y) c.header ≤ℤ (pos (most_turns c) *ℤ z)) (sym e) (omega (arith, ints));
    behind = λ b p.
        let q = precedes_left ps b ds es p in
        let l = total-added (leaves b) x y s.moves in let h0 = h.behind b q.0 in let k0 = k.behind b q.1 in omega (arith, ints);
  }

  -- what starts at one of some addresses is a part of them
  pub part_more : (ds : List ℕ) (d : ℕ) (x : Amounts) → Contains ds d → IsPart (d ∷ []) x → IsPart ds x
  part_more ds d x i h = record {
    kept = λ b. let k = h.kept b in let m = starts_has ds d b i in omega (arith, ints);
    loops = λ c ic.
        let k = h.loops c ic in let m = starts_has ds d c.header i in
        let t = mul-le (most_turns c) (starts (d ∷ []) c.header +ℤ outer x c) (starts ds c.header +ℤ outer x c) (omega (arith, ints)) in omega (arith, ints);
    behind = λ b p. h.behind b (precedes_one ps b d ds i p, tt);
  }

  -- a move, which is no jump back, with the turns around its address, before a part of its destinations
  module _ (m : Move) (im : Contains s.moves m) (no_back : (c : LoopClaim) → Contains s.claims.loops c → m.at ≢ c.back) (before : (b : ℕ) → (b ≡ m.at) ⊎ Precedes ps b m.at → PrecedesAll ps b (destinations m)) (x z : Amounts)
      (part : IsPart (destinations m) x) (turns : IsRound m.at z) where
    pub whole : Amounts
    whole = added (once m) (added x z)

    pub left_whole : (b : ℕ) → left (added (once m) (added x z)) b ≡ when_same m.at b (pos 1) +ℤ (left x b +ℤ left z b)
    left_whole b =
        let o = total-once (leaves b) s.moves m ascending im in
        let p = total-added (leaves b) (once m) (added x z) s.moves in
        let q = total-added (leaves b) x z s.moves in omega (arith, ints)

    pub come_whole : (b : ℕ) → come (added (once m) (added x z)) b ≡ starts (destinations m) b +ℤ (come x b +ℤ come z b)
    come_whole b =
        let o = total-once (comes b) s.moves m ascending im in
        let p = total-added (comes b) (once m) (added x z) s.moves in
        let q = total-added (comes b) x z s.moves in omega (arith, ints)

    outer_whole : (c : LoopClaim) → Contains s.claims.loops c → outer (added (once m) (added x z)) c ≡ starts (destinations m) c.header +ℤ (outer x c +ℤ outer z c)
    outer_whole c i =
        let o = total-once (comes_by c.back c.header) s.moves m ascending im in
        let p = total-added (comes_by c.back c.header) (once m) (added x z) s.moves in
        let q = total-added (comes_by c.back c.header) x z s.moves in
        let e = elsewhere (m.at == c.back) (differ m.at c.back (no_back c i)) in omega (arith, ints)
      where
        differ : (a b : ℕ) → a ≢ b → (a == b) ≡ false
        differ a b d = grind (arith, nat_tests)

        elsewhere : (t : Bool) → t ≡ false → cond t (pos 0) (comes c.header m) ≡ starts (destinations m) c.header
        elsewhere true e = cc
        elsewhere false e = refl

    at_start : left x m.at ≡ pos 0
    at_start = part.behind m.at (before m.at (inl refl))

    keeps_loop : (c : LoopClaim) → Contains s.claims.loops c → left (added (once m) (added x z)) c.header ≤ℤ (pos (most_turns c) *ℤ (starts (m.at ∷ []) c.header +ℤ outer (added (once m) (added x z)) c))
    keeps_loop c i = elim (eqb_tells c.header m.at) [
      | inl k ↦
          let l = left_whole c.header in
          let own = turns.own c i k.1 in
          let z0 : left z c.header ≡ left z m.at = ap (λ b. left z b) k.1 in
          let x0 : left x c.header ≡ pos 0 = ap (λ b. left x b) k.1 ∙ at_start in
          let w = same_most m.at c.header in
          let h : starts (m.at ∷ []) c.header ≡ pos 1 +ℤ pos 0 = ap (λ b. when_same m.at b (pos 1) +ℤ pos 0) k.1 ∙ ap (λ (y : ℤ). y +ℤ pos 0) (when_same-here m.at (pos 1)) in
          let o = outer_least (added (once m) (added x z)) c in
          let t = mul-le (most_turns c) (pos 1) (starts (m.at ∷ []) c.header +ℤ outer (added (once m) (added x z)) c) (omega (arith, ints)) in
          let one : pos (most_turns c) *ℤ pos 1 ≡ pos (most_turns c) = omega (arith, ints) in omega (arith, ints)
      | inr k ↦
          let l = left_whole c.header in
          let w = when_same-elsewhere m.at c.header (pos 1) k.1 in
          let p = part.loops c i in
          let r = turns.loops c i k.1 in
          let o = outer_whole c i in
          let a = mul-add (pos (most_turns c)) (starts (destinations m) c.header +ℤ outer x c) (outer z c) in
          let e : (starts (m.at ∷ []) c.header +ℤ outer (added (once m) (added x z)) c) ≡ ((starts (destinations m) c.header +ℤ outer x c) +ℤ outer z c) = omega (arith, ints) in
          subst (λ (y : ℤ). left (added (once m) (added x z)) c.header ≤ℤ (pos (most_turns c) *ℤ y)) (sym e) (omega (arith, ints))
    ]

    pub step_part : IsPart (m.at ∷ []) (added (once m) (added x z))
    step_part = record {
      kept = λ b. let l = left_whole b in let c = come_whole b in let p = part.kept b in let r = turns.kept b in omega (arith, ints);
      loops = keeps_loop;
      behind = λ b p.
          let l = left_whole b in
          let w = when_same-elsewhere m.at b (pos 1) (precedes_differs ps b m.at p.0) in
          let h = part.behind b (before b (inr p.0)) in
          let r = turns.behind b p.0 in omega (arith, ints);
    }

    pub step_total : (price : Move → ℤ) → total price (added (once m) (added x z)) s.moves ≡ price m +ℤ (total price x s.moves +ℤ total price z s.moves)
    step_total price =
        let o = total-once price s.moves m ascending im in
        let p = total-added price (once m) (added x z) s.moves in
        let q = total-added price x z s.moves in omega (arith, ints)

  -- ---- jumps back

  -- a jump back made some times, which goes to the header
  module _ (m : Move) (im : Contains s.moves m) (n : ℕ) where
    left_back : (b : ℕ) → left (times n (once m)) b ≡ pos n *ℤ when_same m.at b (pos 1)
    left_back b = total-times (leaves b) n (once m) s.moves ∙ ap (λ (y : ℤ). pos n *ℤ y) (total-once (leaves b) s.moves m ascending im)

    come_back : (b : ℕ) → come (times n (once m)) b ≡ pos n *ℤ starts (destinations m) b
    come_back b = total-times (comes b) n (once m) s.moves ∙ ap (λ (y : ℤ). pos n *ℤ y) (total-once (comes b) s.moves m ascending im)

    -- once, or as often as it turns where it goes to itself
    pub back_part : 1 ≤ n → (n ≡ 1) ⊎ Contains (destinations m) m.at → ((c : LoopClaim) → Contains s.claims.loops c → c.header ≡ m.at → n ≤ most_turns c) → IsPart (m.at ∷ []) (times n (once m))
    back_part often how most = record {
      kept = λ b. by_place b;
      loops = λ c i. by_header c i;
      behind = λ b p. left_back b ∙ (ap (λ (y : ℤ). pos n *ℤ y) (when_same-elsewhere m.at b (pos 1) (precedes_differs ps b m.at p.0)) ∙ *ℤ-zero (pos n));
    }
      where
        one_times : (y : ℤ) → pos 1 *ℤ y ≡ y
        one_times y = omega (arith, ints)

        by_place : (b : ℕ) → left (times n (once m)) b ≤ℤ (starts (m.at ∷ []) b +ℤ come (times n (once m)) b)
        by_place b = elim how [
          | inl one ↦
              let l = left_back b in
              let e : pos n *ℤ when_same m.at b (pos 1) ≡ when_same m.at b (pos 1) = ap (λ k. pos k *ℤ when_same m.at b (pos 1)) one ∙ one_times (when_same m.at b (pos 1)) in
              let c = come_least (times n (once m)) b in omega (arith, ints)
          | inr self ↦
              let l = left_back b in
              let c = come_back b in
              let h = starts_has (destinations m) m.at b self in
              let t = mul-le n (when_same m.at b (pos 1)) (starts (destinations m) b) (omega (arith, ints)) in
              let p = same_least m.at b in omega (arith, ints)
        ]

        by_header : (c : LoopClaim) → Contains s.claims.loops c → left (times n (once m)) c.header ≤ℤ (pos (most_turns c) *ℤ (starts (m.at ∷ []) c.header +ℤ outer (times n (once m)) c))
        by_header c i = elim (eqb_tells c.header m.at) [
          | inl k ↦
              let l = left_back c.header in
              let h : when_same m.at c.header (pos 1) ≡ pos 1 = ap (λ b. when_same m.at b (pos 1)) k.1 ∙ when_same-here m.at (pos 1) in
              let e : pos n *ℤ when_same m.at c.header (pos 1) ≡ pos n = ap (λ (y : ℤ). pos n *ℤ y) h ∙ times_one n in
              let o = outer_least (times n (once m)) c in
              let t = mul-le (most_turns c) (pos 1) (starts (m.at ∷ []) c.header +ℤ outer (times n (once m)) c) (omega (arith, ints)) in
              let one = times_one (most_turns c) in
              let f = most c i k.1 in omega (arith, ints, f)
          | inr k ↦
              let l = left_back c.header in
              let w : pos n *ℤ when_same m.at c.header (pos 1) ≡ pos 0 = ap (λ (y : ℤ). pos n *ℤ y) (when_same-elsewhere m.at c.header (pos 1) k.1) ∙ *ℤ-zero (pos n) in
              let o = outer_least (times n (once m)) c in
              let p = starts_least (m.at ∷ []) c.header in
              let q = positive_times (most_turns c) (starts (m.at ∷ []) c.header +ℤ outer (times n (once m)) c) (omega (arith, ints)) in omega (arith, ints)
        ]
          where
            times_one : (k : ℕ) → pos k *ℤ pos 1 ≡ pos k
            times_one k = omega (arith, ints)

    pub back_left : (b : ℕ) → left (times n (once m)) b ≤ℤ pos n
    back_left b = let l = left_back b in let t = mul-le n (when_same m.at b (pos 1)) (pos 1) (same_most m.at b) in let one : pos n *ℤ pos 1 ≡ pos n = omega (arith, ints) in omega (arith, ints)

    pub back_comes : (h : ℕ) → 1 ≤ n → Contains (destinations m) h → pos 1 ≤ℤ come (times n (once m)) h
    back_comes h often to =
        let c = come_back h in
        let k = starts_has (destinations m) h h to in
        let o : starts (h ∷ []) h ≡ pos 1 +ℤ pos 0 = ap (λ (y : ℤ). y +ℤ pos 0) (when_same-here h (pos 1)) in
        let p = starts_least (destinations m) h in
        let t = more_times n (starts (destinations m) h) often p in omega (arith, ints)

    pub back_total : (price : Move → ℤ) → total price (times n (once m)) s.moves ≡ pos n *ℤ price m
    back_total price = total-times price n (once m) s.moves ∙ ap (λ (y : ℤ). pos n *ℤ y) (total-once price s.moves m ascending im)

  -- ---- turns

  -- a part from a header that comes back to it, but for all visits that one may make more
  pub turn_round : (h : ℕ) (x : Amounts) (n : ℕ) → IsPart (h ∷ []) x → left x h ≤ℤ pos 1 → pos 1 ≤ℤ come x h → ((c : LoopClaim) → Contains s.claims.loops c → c.header ≡ h → n + 1 ≤ most_turns c) → IsRound h (times n x)
  turn_round h x n part single back most = record {
    kept = λ b. scaled_kept b;
    loops = λ c i d. scaled_loop c i d;
    own = λ c i e. own_loop c i e;
    behind = λ b p. let l = total-times (leaves b) n x s.moves in let z = part.behind b (p, tt) in l ∙ (ap (λ (y : ℤ). pos n *ℤ y) z ∙ *ℤ-zero (pos n));
  }
    where
      closed : (b : ℕ) → left x b ≤ℤ come x b
      closed b = elim (eqb_tells b h) [
        | inl k ↦ subst (λ a. left x a ≤ℤ come x a) (sym k.1) (omega (arith, ints))
        | inr k ↦ let p = part.kept b in let w = when_same-elsewhere h b (pos 1) k.1 in omega (arith, ints)
      ]

      scaled_kept : (b : ℕ) → left (times n x) b ≤ℤ come (times n x) b
      scaled_kept b = let l = total-times (leaves b) n x s.moves in let c = total-times (comes b) n x s.moves in let t = mul-le n (left x b) (come x b) (closed b) in omega (arith, ints)

      scaled_loop : (c : LoopClaim) → Contains s.claims.loops c → c.header ≢ h → left (times n x) c.header ≤ℤ (pos (most_turns c) *ℤ outer (times n x) c)
      scaled_loop c i d =
          let l = total-times (leaves c.header) n x s.moves in
          let o = total-times (comes_by c.back c.header) n x s.moves in
          let w = when_same-elsewhere h c.header (pos 1) d in
          let p = part.loops c i in
          let e : (starts (h ∷ []) c.header +ℤ outer x c) ≡ outer x c = omega (arith, ints) in
          let q : left x c.header ≤ℤ (pos (most_turns c) *ℤ outer x c) = subst (λ (y : ℤ). left x c.header ≤ℤ (pos (most_turns c) *ℤ y)) e p in
          let t = mul-le n (left x c.header) (pos (most_turns c) *ℤ outer x c) q in
          let f = mul-mul_swap (pos n) (pos (most_turns c)) (outer x c) in
          let g : pos (most_turns c) *ℤ outer (times n x) c ≡ pos (most_turns c) *ℤ (pos n *ℤ outer x c) = ap (λ (y : ℤ). pos (most_turns c) *ℤ y) o in omega (arith, ints)

      own_loop : (c : LoopClaim) → Contains s.claims.loops c → c.header ≡ h → (left (times n x) h +ℤ pos 1) ≤ℤ pos (most_turns c)
      own_loop c i e =
          let l = total-times (leaves h) n x s.moves in
          let t = mul-le n (left x h) (pos 1) single in
          let one : pos n *ℤ pos 1 ≡ pos n = omega (arith, ints) in
          let m = most c i e in omega (arith, ints, m)
