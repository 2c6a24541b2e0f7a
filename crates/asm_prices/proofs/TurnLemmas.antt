-- What turns are worth at the addresses of headers, by the claims on their loops.
use Rattle.std.proofs.Common.{◌≡◌, ◌≢◌, ⊎_elim, ℕ, zero, suc, ◌*◌, ◌<◌, ◌≤◌, ℤ, pos, ◌≤ℤ◌, Bool, true, false, List, [], ◌∷◌, ◌++◌, All, Contains, Option, Some, None, refl, sym, ap, ◌∙◌, subst, arith}
use Rattle.std.specs.Prelude.{◌==◌, ◌&&◌, not, nat_lt, if◌then◌else◌, slice_index_or}
use Rattle.std.proofs.Math.Nat.{mul-le-mul_left}
use Rattle.std.proofs.lemmas.Bool.{cases_eq}
use Rattle.std.proofs.lemmas.Bool.Decides.{nat_tests}
use Rattle.std.proofs.lemmas.Int.{ints}
use Rattle.std.proofs.lemmas.List.Elements.{All-nil, All-cons, All-head, All-tail, All-contains}
use Rattle.frac128.specs.Terms.{when_same}
use Rattle.frac128.proofs.TermsLemmas.{when_same-here, when_same-elsewhere}
use Rattle.code_flow_system.specs.declared.claims.LoopClaim.{LoopClaim}
use Rattle.code_flow_system.specs.Claims.{Claims, is_aligned, exit_flaws, never_flaws, region_flaws, loop_flaws, fact_flaws, flaws}
use Rattle.code_flow_system.specs.Loose.{most_turns}
use Rattle.code_flow_system.specs.Moves.{Code}
use Rattle.asm_items.specs.Placings.{Placing, start_of}
use Rattle.asm_graphs.specs.Graphs.{Graph, IsShaped}
use Rattle.asm_graphs.specs.Laid.{IsLaid, last_of}
use Rattle.asm_graphs.proofs.RangeLemmas.{starts_apart, header_in}
use Rattle.loop_prices.specs.LoopPrices.{turns_at, starts, starts_from}
use Rattle.asm_prices.specs.Worths.{LoopBound, Prices, AreWorths, BoundsLoop}
use Rattle.asm_prices.proofs.RepeatLemmas.{head_of, head_is}
use Rattle.asm_prices.proofs.NestLemmas.{in_graph}
use Rattle.asm_prices.proofs.ValueLemmas.{turn, apart}

-- claims that are sound ascend by their headers

abbrev pub Ascend : List LoopClaim → Type 0
Ascend [] = Unit {0}
Ascend (c ∷ cs) = All (λ (d : LoopClaim). c.header < d.header) cs × Ascend cs

pub no_flaws : (xs : List Bool) → ((n : ℕ) → slice_index_or xs n false ≡ true → ⊥) → All (λ flaw. flaw ≡ false) xs
no_flaws [] h = All-nil (λ flaw. flaw ≡ false)
no_flaws (x ∷ xs) h = All-cons (λ flaw. flaw ≡ false) x xs (is_false x (h zero)) (no_flaws xs (λ n. h (suc n)))
  where
    is_false : (x : Bool) → (x ≡ true → ⊥) → x ≡ false
    is_false true h = absurd (h refl)
    is_false false h = refl

left_part : (xs ys : List Bool) → All (λ t. t ≡ false) (xs ++ ys) → All (λ t. t ≡ false) xs
left_part [] ys h = All-nil (λ t. t ≡ false)
left_part (x ∷ xs) ys h = All-cons (λ t. t ≡ false) x xs (All-head (λ t. t ≡ false) x (xs ++ ys) h) (left_part xs ys (All-tail (λ t. t ≡ false) x (xs ++ ys) h))

right_part : (xs ys : List Bool) → All (λ t. t ≡ false) (xs ++ ys) → All (λ t. t ≡ false) ys
right_part [] ys h = h
right_part (x ∷ xs) ys h = right_part xs ys (All-tail (λ t. t ≡ false) x (xs ++ ys) h)

above_all : (x y : ℕ) (cs : List LoopClaim) → x < y → All (λ (d : LoopClaim). y < d.header) cs → All (λ (d : LoopClaim). x < d.header) cs
above_all x y [] lt h = All-nil (λ (d : LoopClaim). x < d.header)
above_all x y (c ∷ cs) lt h = All-cons (λ (d : LoopClaim). x < d.header) c cs (let k = All-head (λ (d : LoopClaim). y < d.header) c cs h in omega arith) (above_all x y cs lt (All-tail (λ (d : LoopClaim). y < d.header) c cs h))

loops_above : (x : ℕ) (cs : List LoopClaim) → All (λ t. t ≡ false) (loop_flaws (Some x) cs) → All (λ (d : LoopClaim). x < d.header) cs
loops_above x [] h = All-nil (λ (d : LoopClaim). x < d.header)
loops_above x (c ∷ cs) h =
    let lt = above (is_aligned c.header) (is_aligned c.back) (All-head (λ t. t ≡ false) _ (loop_flaws (Some c.header) cs) h) in
    All-cons (λ (d : LoopClaim). x < d.header) c cs lt (above_all x c.header cs lt (loops_above c.header cs (All-tail (λ t. t ≡ false) _ (loop_flaws (Some c.header) cs) h)))
  where
    above : (a b : Bool) → not (a && (b && nat_lt x c.header)) ≡ false → x < c.header
    above true true e = grind (arith, nat_tests)
    above true false e = cc
    above false b e = cc

ascend_from : (o : Option ℕ) (cs : List LoopClaim) → All (λ t. t ≡ false) (loop_flaws o cs) → Ascend cs
ascend_from o [] h = tt
ascend_from o (c ∷ cs) h = let t = All-tail (λ t. t ≡ false) _ (loop_flaws (Some c.header) cs) h in (loops_above c.header cs t, ascend_from (Some c.header) cs t)

pub claims_ascend : (c : Claims) → All (λ flaw. flaw ≡ false) (flaws c) → Ascend c.loops
claims_ascend c h =
    let a = right_part (exit_flaws None c.exits) (never_flaws None c.nevers ++ (region_flaws None c.regions ++ (loop_flaws None c.loops ++ fact_flaws c.facts))) h in
    let b = right_part (never_flaws None c.nevers) (region_flaws None c.regions ++ (loop_flaws None c.loops ++ fact_flaws c.facts)) a in
    let d = right_part (region_flaws None c.regions) (loop_flaws None c.loops ++ fact_flaws c.facts) b in
    ascend_from None c.loops (left_part (loop_flaws None c.loops) (fact_flaws c.facts) d)

-- sums over claims

when_positive : (b : Bool) (z : ℕ) → pos 0 ≤ℤ (if b then pos z else pos 0)
when_positive true z = omega (arith, ints)
when_positive false z = omega (arith, ints)

pub turns_positive : (cs : List LoopClaim) (zs : List ℕ) (a : ℕ) → pos 0 ≤ℤ turns_at cs zs a
turns_positive [] zs a = omega (arith, ints)
turns_positive (c ∷ cs) [] a = omega (arith, ints)
turns_positive (c ∷ cs) (z ∷ zs) a = let r = turns_positive cs zs a in let e = when_positive (a == c.header) z in omega (arith, ints)

abbrev NoHeader : List LoopClaim → ℕ → Type 0
NoHeader cs a = (c : LoopClaim) → Contains cs c → c.header ≢ a

rest_header : (c : LoopClaim) (cs : List LoopClaim) (a : ℕ) → NoHeader (c ∷ cs) a → NoHeader cs a
rest_header c cs a h d has = h d (suc has.0, (let i = has.1 in omega arith), has.2)

-- one claim's part where it isn't a start of its loop
unless_zero : (t : Bool) (x : ℤ) → x ≡ pos 0 → (if t then pos 0 else x) ≡ pos 0
unless_zero true x e = refl
unless_zero false x e = e

pub starts_from_none : (cs : List LoopClaim) (zs : List ℕ) (from a : ℕ) → NoHeader cs a → starts_from cs zs from a ≡ pos 0
starts_from_none [] zs from a h = refl
starts_from_none (c ∷ cs) [] from a h = refl
starts_from_none (c ∷ cs) (z ∷ zs) from a h =
    let r = starts_from_none cs zs from a (rest_header c cs a h) in
    let e = unless_zero (from == c.back) (when_same a c.header (pos (most_turns c * z))) (when_same-elsewhere a c.header (pos (most_turns c * z)) (h c (zero, omega arith, refl))) in omega (arith, ints)

pub starts_none : (cs : List LoopClaim) (zs : List ℕ) (a : ℕ) → NoHeader cs a → starts cs zs a ≡ pos 0
starts_none [] zs a h = refl
starts_none (c ∷ cs) [] a h = refl
starts_none (c ∷ cs) (z ∷ zs) a h =
    let r = starts_none cs zs a (rest_header c cs a h) in
    let e = when_same-elsewhere a c.header (pos (most_turns c * z)) (h c (zero, omega arith, refl)) in omega (arith, ints)

mul_both : (a b c d : ℕ) → a ≤ b → c ≡ d → a * c ≤ b * d
mul_both a b c d h e = let s = mul-le-mul_left d h in let t = ap (λ x. a * x) e in let u : d * a ≡ a * d = grind arith in let v : d * b ≡ b * d = grind arith in omega arith

module _ (g : Graph) (l : Placing) (code : Code) (sh : IsShaped g) (laid : IsLaid g l code) (p : Prices) (w : AreWorths g l p) where
  abbrev pub Bounds : LoopClaim → Type 0
  Bounds x = BoundsLoop g l p.bounds x

  -- what a turn of each claim's loop is worth
  abbrev pub turns_of : (cs : List LoopClaim) → All Bounds cs → List ℕ
  turns_of [] h = []
  turns_of (x ∷ cs) h = (let e = All-head Bounds x cs h in turn g l p e.function e.bound.loop.header) ∷ turns_of cs (All-tail Bounds x cs h)

  header_there : (f : ℕ) (k : LoopBound) → Contains (p.bounds f) k → k.loop.header < g.blocks f
  header_there f k has = header_in g l code sh laid f k.loop (in_graph g sh f (p.bounds f) (w.loops f) (apart g l p code sh laid w f) k has)

  same_start : (x : LoopClaim) (e : Bounds x) (f b : ℕ) → f < g.functions → b < g.blocks f → x.header ≡ start_of l f b → (e.function ≡ f) × (e.bound.loop.header ≡ b)
  same_start x e f b i j is = starts_apart g l code sh laid e.function e.bound.loop.header f b e.there (header_there e.function e.bound e.among) i j (sym e.header ∙ is)

  turn_same : (x : LoopClaim) (e : Bounds x) (f b : ℕ) → f < g.functions → b < g.blocks f → x.header ≡ start_of l f b → turn g l p e.function e.bound.loop.header ≡ turn g l p f b
  turn_same x e f b i j is = let s = same_start x e f b i j is in ap (λ h. turn g l p h e.bound.loop.header) s.0 ∙ ap (turn g l p f) s.1

  same_bound : (f : ℕ) (j k : LoopBound) → Contains (p.bounds f) j → Contains (p.bounds f) k → j.loop.header ≡ k.loop.header → j ≡ k
  same_bound f j k hj hk e =
      let a = head_is (p.bounds f) j (apart g l p code sh laid w f) hj in
      let b = head_is (p.bounds f) k (apart g l p code sh laid w f) hk in
      let q : Some j ≡ Some k = sym a ∙ ap (head_of (p.bounds f)) e ∙ b in cc

  identify : (x : LoopClaim) (e : Bounds x) (f : ℕ) (k : LoopBound) → f < g.functions → Contains (p.bounds f) k → x.header ≡ start_of l f k.loop.header → (e.function ≡ f) × (e.bound ≡ k)
  identify x e f k i has is =
      let s = same_start x e f k.loop.header i (header_there f k has) is in
      (s.0, same_bound f e.bound k (subst (λ h. Contains (p.bounds h) e.bound) s.0 e.among) has s.1)

  -- at the start of a block with a claim the turns have what one is worth
  pub turns_known : (cs : List LoopClaim) (h : All Bounds cs) (x : LoopClaim) (f b : ℕ) → f < g.functions → b < g.blocks f → Contains cs x → x.header ≡ start_of l f b → pos (turn g l p f b) ≤ℤ turns_at cs (turns_of cs h) (start_of l f b)
  turns_known [] h x f b i j (n, lt, e) is = absurd (omega arith)
  turns_known (y ∷ cs) h x f b i j (zero, lt, e) is =
      let at : y.header ≡ start_of l f b = ap (λ (z : LoopClaim). z.header) e ∙ is in
      let own = All-head Bounds y cs h in
      let same = turn_same y own f b i j at in
      let value = turn g l p own.function own.bound.loop.header in
      let here : when_same (start_of l f b) y.header (pos value) ≡ pos value = ap (λ a. when_same (start_of l f b) a (pos value)) at ∙ when_same-here (start_of l f b) (pos value) in
      let r = turns_positive cs (turns_of cs (All-tail Bounds y cs h)) (start_of l f b) in omega (arith, ints)
  turns_known (y ∷ cs) h x f b i j (suc n, lt, e) is =
      let own = All-head Bounds y cs h in
      let some = when_positive (start_of l f b == y.header) (turn g l p own.function own.bound.loop.header) in
      let r = turns_known cs (All-tail Bounds y cs h) x f b i j (n, omega arith, e) is in omega (arith, ints)

  above_none : (a : ℕ) (y : LoopClaim) (cs : List LoopClaim) → y.header ≡ a → All (λ (d : LoopClaim). y.header < d.header) cs → NoHeader cs a
  above_none a y cs e h d has is = let lt = All-contains (λ (d : LoopClaim). y.header < d.header) cs d h has in let k : ⊥ = omega arith in k

  start_most : (t : Bool) (y : LoopClaim) (n a : ℕ) → y.header ≡ a → (if t then pos 0 else when_same a y.header (pos n)) ≤ℤ pos n
  start_most true y n a e = omega (arith, ints)
  start_most false y n a e = let q : when_same a y.header (pos n) ≡ pos n = ap (λ b. when_same a b (pos n)) e ∙ when_same-here a (pos n) in omega (arith, ints)

  -- a start of a loop, from anywhere
  pub starts_one : (cs : List LoopClaim) (h : All Bounds cs) (from f : ℕ) (k : LoopBound) → Ascend cs → f < g.functions → Contains (p.bounds f) k →
      starts_from cs (turns_of cs h) from (start_of l f k.loop.header) ≤ℤ pos (k.most * turn g l p f k.loop.header)
  starts_one [] h from f k up i has = omega (arith, ints)
  starts_one (y ∷ cs) h from f k up i has =
      let own = All-head Bounds y cs h in
      let value = turn g l p own.function own.bound.loop.header in
      let a = start_of l f k.loop.header in
      ⊎_elim
      (λ (e : y.header ≡ a).
      let s = identify y own f k i has e in
      let r = starts_from_none cs (turns_of cs (All-tail Bounds y cs h)) from a (above_none a y cs e up.0) in
      let m = start_most (from == y.back) y (most_turns y * value) a e in
      let bound : most_turns y ≤ k.most = subst (λ (b : LoopBound). most_turns y ≤ b.most) s.1 own.most in
      let q = mul_both (most_turns y) k.most value (turn g l p f k.loop.header) bound (turn_same y own f k.loop.header i (header_there f k has) e) in
      omega (arith, ints))
      (λ (e : y.header ≢ a).
      let z = unless_zero (from == y.back) (when_same a y.header (pos (most_turns y * value))) (when_same-elsewhere a y.header (pos (most_turns y * value)) e) in
      let r = starts_one cs (All-tail Bounds y cs h) from f k up.1 i has in omega (arith, ints))
      (cases_eq y.header a)

  -- from its own jump back a loop isn't started
  pub starts_back : (cs : List LoopClaim) (h : All Bounds cs) (from f : ℕ) (k : LoopBound) → f < g.functions → Contains (p.bounds f) k → from ≡ last_of l f k.loop.latch →
      starts_from cs (turns_of cs h) from (start_of l f k.loop.header) ≡ pos 0
  starts_back [] h from f k i has e = refl
  starts_back (y ∷ cs) h from f k i has e =
      let own = All-head Bounds y cs h in
      let value = turn g l p own.function own.bound.loop.header in
      let a = start_of l f k.loop.header in
      let r = starts_back cs (All-tail Bounds y cs h) from f k i has e in
      ⊎_elim
      (λ (q : y.header ≡ a).
      let s = identify y own f k i has q in
      let back : from ≡ y.back = e ∙ sym (own.back ∙ ap (λ n. last_of l n own.bound.loop.latch) s.0 ∙ ap (λ (b : LoopBound). last_of l f b.loop.latch) s.1) in
      let t : (from == y.back) ≡ true = grind (arith, nat_tests) in
      let z = ap (λ b. if b then pos 0 else when_same a y.header (pos (most_turns y * value))) t in omega (arith, ints))
      (λ (q : y.header ≢ a).
      let z = unless_zero (from == y.back) (when_same a y.header (pos (most_turns y * value))) (when_same-elsewhere a y.header (pos (most_turns y * value)) q) in omega (arith, ints))
      (cases_eq y.header a)

  -- a block that is no header has no claim at its start
  pub plain_start : (cs : List LoopClaim) → All Bounds cs → (f b : ℕ) → f < g.functions → b < g.blocks f → head_of (p.bounds f) b ≡ None → NoHeader cs (start_of l f b)
  plain_start cs h f b i j none x has is =
      let own = All-contains Bounds cs x h has in
      let s = same_start x own f b i j is in
      let among = subst (λ n. Contains (p.bounds n) own.bound) s.0 own.among in
      let e = sym (ap (head_of (p.bounds f)) s.1) ∙ head_is (p.bounds f) own.bound (apart g l p code sh laid w f) among in
      let q : None ≡ Some own.bound = sym none ∙ e in cc
