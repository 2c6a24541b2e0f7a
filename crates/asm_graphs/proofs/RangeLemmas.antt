-- Words lie in the ranges of their blocks and functions, and no others.
use Rattle.std.proofs.Common.{◌≡◌, ◌≢◌, ◌⊎◌, ⊎_elim, inl, inr, ℕ, zero, suc, ◌+◌, ◌≤◌, ◌<◌, Bool, true, false, Contains, sym, ap, ◌∙◌, subst, arith}
use Rattle.std.proofs.lemmas.Bool.{cases_eq}
use Rattle.std.proofs.lemmas.Bool.Decides.{leb_tells}
use Rattle.code_flow_system.specs.Moves.{Code}
use Rattle.asm_items.specs.Items.{total}
use Rattle.asm_items.specs.Placings.{Placing, block_of, start_of, end_of}
use Rattle.asm_items.specs.Outcomes.{GoesWell}
use Rattle.asm_graphs.specs.Graphs.{Loop, Graph, IsOutside, AreNested, IsShaped}
use Rattle.asm_graphs.specs.Laid.{IsLaid, last_of}
use Rattle.asm_graphs.proofs.ReachedLemmas.{around, IsKnown, starts_next, ends_within, low_end, high_end, start_known}

le_or : (a b : ℕ) → (a ≤ b) ⊎ (b < a)
le_or a b = ⊎_elim (λ h. inl h.1) (λ h. let k = h.1 in inr (omega arith)) (leb_tells a b)

two_ways : (a b : ℕ) → a ≢ b → (a < b) ⊎ (b < a)
two_ways a b n = ⊎_elim (λ h. let k = h.1 in inl (omega arith)) (λ h. let k = h.1 in inr (omega arith)) (leb_tells a b)

module _ (g : Graph) (l : Placing) (c : Code) (sh : IsShaped g) (laid : IsLaid g l c) where
  abbrev pub Known : ℕ → Bool → ℕ → ℕ → Type 0
  Known a low f b = IsKnown g l c sh laid a low f b

  abbrev pub Well : ℕ → ℕ → ℕ → ℕ → Type 0
  Well f b a t = GoesWell (around g l c sh laid f b) a t

  pub known_start : (f b : ℕ) → f < g.functions → b < g.blocks f → Known (start_of l f b) false f b
  known_start f b i j = start_known g l c sh laid f b i j

  pub from : (a : ℕ) (low : Bool) (f b : ℕ) → Known a low f b → start_of l f b ≤ a
  from a low f b k = low_end g l c sh laid a low f b k

  pub upto : (a : ℕ) (low : Bool) (f b : ℕ) → Known a low f b → a + 4 ≤ start_of l f b + total (block_of l f b)
  upto a low f b k = high_end g l c sh laid a low f b k

  -- later blocks stand behind
  pub behind : (f b n : ℕ) → f < g.functions → b < n → n < g.blocks f → start_of l f b + total (block_of l f b) ≤ start_of l f n
  behind f b zero i h j = absurd (omega arith)
  behind f b (suc n) i h j =
      let e = starts_next g l c sh laid f n j in
      let long = upto (start_of l f n) false f n (known_start f n i (omega arith)) in
      ⊎_elim
      (λ (same : b ≡ n). let q : start_of l f b + total (block_of l f b) ≡ start_of l f (suc n) = ap (λ k. start_of l f k + total (block_of l f k)) same ∙ e in omega arith)
      (λ (other : b ≢ n). let k = behind f b n i (omega arith) (omega arith) in omega arith)
      (cases_eq b n)

  pub upward : (f b n : ℕ) → f < g.functions → b ≤ n → n < g.blocks f → start_of l f b ≤ start_of l f n
  upward f b n i h j =
      ⊎_elim
      (λ (same : b ≡ n). let q = ap (start_of l f) same in omega arith)
      (λ (other : b ≢ n). let k = behind f b n i (omega arith) j in omega arith)
      (cases_eq b n)

  pub ends_up : (f b n : ℕ) → f < g.functions → b ≤ n → n < g.blocks f → start_of l f b + total (block_of l f b) ≤ start_of l f n + total (block_of l f n)
  ends_up f b n i h j =
      ⊎_elim
      (λ (same : b ≡ n). let q = ap (λ k. start_of l f k + total (block_of l f k)) same in omega arith)
      (λ (other : b ≢ n). let k = behind f b n i (omega arith) j in omega arith)
      (cases_eq b n)

  pub is_long : (f b : ℕ) → f < g.functions → b < g.blocks f → 4 ≤ total (block_of l f b)
  is_long f b i j = let k = upto (start_of l f b) false f b (known_start f b i j) in omega arith

  -- a word lies in its function
  pub in_function : (a : ℕ) (low : Bool) (f b : ℕ) → Known a low f b → (start_of l f 0 ≤ a) × (a < end_of l f)
  in_function a low f b k =
      let w = from a low f b k in
      let h = upto a low f b k in
      let e = ends_within g l c sh laid f b k.block in
      let u = upward f 0 b k.function (omega arith) k.block in
      (omega arith, omega arith)

  -- and in no other one
  pub one_function : (a f h : ℕ) → f < g.functions → h < g.functions → start_of l f 0 ≤ a → a < end_of l f → start_of l h 0 ≤ a → a < end_of l h → f ≡ h
  one_function a f h i j p q r s =
      ⊎_elim
      (λ (e : f ≡ h). e)
      (λ (n : f ≢ h).
      ⊎_elim
      (λ (z : end_of l f ≤ start_of l h 0). absurd (omega arith))
      (λ (z : end_of l h ≤ start_of l f 0). absurd (omega arith))
      (laid.apart f h n i j))
      (cases_eq f h)

  -- a word within a range of blocks stands in one of them, and the other way round
  range_block : (a : ℕ) (low : Bool) (f b lo hi : ℕ) → Known a low f b → lo < g.blocks f → hi < g.blocks f → start_of l f lo ≤ a → a ≤ last_of l f hi → (lo ≤ b) × (b ≤ hi)
  range_block a low f b lo hi k i j h q =
      let w = from a low f b k in
      let u = upto a low f b k in
      let x = is_long f hi k.function j in (
        ⊎_elim (λ (d : lo ≤ b). d) (λ (d : b < lo). let z = behind f b lo k.function d i in absurd (omega arith)) (le_or lo b),
        ⊎_elim (λ (d : b ≤ hi). d) (λ (d : hi < b). let z = behind f hi b k.function d k.block in absurd (omega arith)) (le_or b hi),
      )

  pub block_range : (a : ℕ) (low : Bool) (f b lo hi : ℕ) → Known a low f b → lo ≤ b → b ≤ hi → hi < g.blocks f → (start_of l f lo ≤ a) × (a ≤ last_of l f hi)
  block_range a low f b lo hi k h q j =
      let w = from a low f b k in
      let u = upto a low f b k in
      let x = upward f lo b k.function h k.block in
      let y = ends_up f b hi k.function q j in
      (omega arith, omega arith)

  pub latch_in : (f : ℕ) (k : Loop) → Contains (g.loops f) k → k.latch < g.blocks f
  latch_in f k r = sh.last f k r

  pub header_in : (f : ℕ) (k : Loop) → Contains (g.loops f) k → k.header < g.blocks f
  header_in f k r = let a = sh.range f k r in let b = sh.last f k r in omega arith

  -- a word in the range of a loop stands in a block of it
  pub ranged : (a : ℕ) (low : Bool) (f b h : ℕ) (k : Loop) → h < g.functions → Contains (g.loops h) k → Known a low f b → start_of l h k.header ≤ a → a ≤ last_of l h k.latch → (f ≡ h) × (k.header ≤ b) × (b ≤ k.latch)
  ranged a low f b h k j r n p q =
      let own = in_function a low f b n in
      let own0 = own.0 in
      let own1 = own.1 in
      let hi_in = latch_in h k r in
      let up0 = upward h 0 k.header j (omega arith) (header_in h k r) in
      let long = is_long h k.latch j hi_in in
      let w = ends_within g l c sh laid h k.latch hi_in in
      let e : f ≡ h = one_function a f h n.function j own0 own1 (omega arith) (omega arith) in
      let n2 = subst (λ x. Known a low x b) e n in
      let x = range_block a low h b k.header k.latch n2 (header_in h k r) hi_in p q in
      (e, x.0, x.1)

  abbrev pub Misses : ℕ → ℕ → Loop → Type 0
  Misses a f k = (a < start_of l f k.header) ⊎ (last_of l f k.latch < a)

  -- a word outside a range stands in no block of it
  inside : (f a : ℕ) (low : Bool) (b : ℕ) (k : Loop) → Contains (g.loops f) k → Known a low f b → k.header ≤ b → b ≤ k.latch → Misses a f k → ⊥
  inside f a low b k r n p q out =
      let x = block_range a low f b k.header k.latch n p q (latch_in f k r) in
      let x0 = x.0 in
      let x1 = x.1 in
      ⊎_elim (λ (u : a < start_of l f k.header). let y : ⊥ = omega arith in y) (λ (u : last_of l f k.latch < a). let y : ⊥ = omega arith in y) out

  unranged : (a : ℕ) (low : Bool) (f b : ℕ) (k : Loop) → Contains (g.loops f) k → Known a low f b → Misses a f k → IsOutside k b
  unranged a low f b k r n out =
      ⊎_elim
      (λ (p : k.header ≤ b). ⊎_elim (λ (q : b ≤ k.latch). absurd (inside f a low b k r n p q out)) (λ (q : k.latch < b). inr q) (le_or b k.latch))
      (λ (p : b < k.header). inl p)
      (le_or k.header b)

  -- what goes into a range from outside goes to the header
  pub goes_into : (h a t : ℕ) (low : Bool) (f b : ℕ) (k : Loop) → h < g.functions → Contains (g.loops h) k → Known a low f b → Well f b a t → start_of l h k.header ≤ t → t ≤ last_of l h k.latch → Misses a h k → t ≡ start_of l h k.header
  goes_into h a t low f b k j r n (inl q) h1 h2 out =
      let x = ranged t false f b h k j r (record { function = n.function; block = n.block; word = q.1 }) h1 h2 in
      let n2 = subst (λ y. Known a low y b) x.0 n in
      absurd (inside h a low b k r n2 x.1 x.2 out)
  goes_into h a t low f b k j r n (inr (inl q)) h1 h2 out =
      let x = ranged t true f b h k j r (record { function = n.function; block = n.block; word = q.1 }) h1 h2 in
      let n2 = subst (λ y. Known a low y b) x.0 n in
      absurd (inside h a low b k r n2 x.1 x.2 out)
  goes_into h a t low f b k j r n (inr (inr q)) h1 h2 out =
      let m = q.0 in
      let s = known_start f m n.function (sh.stays f b m q.1) in
      let x = ranged t false f m h k j r (subst (λ y. Known y false f m) (sym q.2) s) h1 h2 in
      let n2 = subst (λ y. Known a low y b) x.0 n in
      let f2 = subst (λ y. Contains (g.follows y b) m) x.0 q.1 in
      let e = sh.into h k b m r f2 (x.1, x.2) (unranged a low h b k r n2 out) in
      q.2 ∙ ap (λ y. start_of l y m) x.0 ∙ ap (start_of l h) e

  -- no way goes out of a function
  pub stays_in : (a t : ℕ) (low : Bool) (f b : ℕ) → Known a low f b → Well f b a t → (start_of l f 0 ≤ t) × (t < end_of l f)
  stays_in a t low f b n (inl q) = in_function t false f b (record { function = n.function; block = n.block; word = q.1 })
  stays_in a t low f b n (inr (inl q)) = in_function t true f b (record { function = n.function; block = n.block; word = q.1 })
  stays_in a t low f b n (inr (inr q)) = in_function t false f q.0 (subst (λ y. Known y false f q.0) (sym q.2) (known_start f q.0 n.function (sh.stays f b q.0 q.1)))

  -- ranges of addresses nest as ranges of blocks do
  abbrev pub RangesNest : ℕ → Loop → ℕ → Loop → Type 0
  RangesNest f k h m =
      (last_of l f k.latch < start_of l h m.header) ⊎ ((last_of l h m.latch < start_of l f k.header)
      ⊎ (((start_of l h m.header ≤ start_of l f k.header) × (last_of l f k.latch ≤ last_of l h m.latch))
      ⊎ ((start_of l f k.header ≤ start_of l h m.header) × (last_of l h m.latch ≤ last_of l f k.latch))))

  nested_by : (f : ℕ) (k m : Loop) → f < g.functions → Contains (g.loops f) k → Contains (g.loops f) m → AreNested k m → RangesNest f k f m
  nested_by f k m i r s (inl h) =
      let a = behind f k.latch m.header i h (header_in f m s) in
      let b = is_long f k.latch i (latch_in f k r) in inl (omega arith)
  nested_by f k m i r s (inr (inl h)) =
      let a = behind f m.latch k.header i h (header_in f k r) in
      let b = is_long f m.latch i (latch_in f m s) in inr (inl (omega arith))
  nested_by f k m i r s (inr (inr (inl h))) =
      let a = upward f m.header k.header i h.0 (header_in f k r) in
      let b = ends_up f k.latch m.latch i h.1 (latch_in f m s) in inr (inr (inl (a, omega arith)))
  nested_by f k m i r s (inr (inr (inr h))) =
      let a = upward f k.header m.header i h.0 (header_in f m s) in
      let b = ends_up f m.latch k.latch i h.1 (latch_in f k r) in inr (inr (inr (a, omega arith)))

  apart_by : (f h : ℕ) (k m : Loop) → end_of l f ≤ start_of l h 0 → f < g.functions → h < g.functions → Contains (g.loops f) k → Contains (g.loops h) m → last_of l f k.latch < start_of l h m.header
  apart_by f h k m a i j r s =
      let b = ends_within g l c sh laid f k.latch (latch_in f k r) in
      let d = is_long f k.latch i (latch_in f k r) in
      let e = upward h 0 m.header j (omega arith) (header_in h m s) in omega arith

  pub ranges_nest : (f h : ℕ) (k m : Loop) → f < g.functions → h < g.functions → Contains (g.loops f) k → Contains (g.loops h) m → RangesNest f k h m
  ranges_nest f h k m i j r s =
      ⊎_elim
      (λ (e : f ≡ h).
      let s2 = subst (λ n. Contains (g.loops n) m) (sym e) s in
      subst (λ n. RangesNest f k n m) e (nested_by f k m i r s2 (sh.nested f k m r s2)))
      (λ (d : f ≢ h).
      ⊎_elim
      (λ (less : end_of l f ≤ start_of l h 0). inl (apart_by f h k m less i j r s))
      (λ (more : end_of l h ≤ start_of l f 0). inr (inl (apart_by h f m k more j i s r)))
      (laid.apart f h d i j))
      (cases_eq f h)

  -- blocks begin at different places
  pub starts_apart : (f b h d : ℕ) → f < g.functions → b < g.blocks f → h < g.functions → d < g.blocks h → start_of l f b ≡ start_of l h d → (f ≡ h) × (b ≡ d)
  starts_apart f b h d i j k q e =
      let x = in_function (start_of l f b) false f b (known_start f b i j) in
      let y = in_function (start_of l h d) false h d (known_start h d k q) in
      let x0 = x.0 in
      let x1 = x.1 in
      let y0 = y.0 in
      let y1 = y.1 in
      let same : f ≡ h = one_function (start_of l f b) f h i k x0 x1 (omega arith) (omega arith) in
      let e2 : start_of l h b ≡ start_of l h d = subst (λ n. start_of l n b ≡ start_of l h d) same e in
      let j2 : b < g.blocks h = subst (λ n. b < g.blocks n) same j in (
        same,
        ⊎_elim
            (λ (z : b ≡ d). z)
            (λ (z : b ≢ d).
            ⊎_elim
            (λ (less : b < d). let u = behind h b d k less q in let v = is_long h b k j2 in absurd (omega arith))
            (λ (more : d < b). let u = behind h d b k more j2 in let v = is_long h d k q in absurd (omega arith))
            (two_ways b d z))
            (cases_eq b d),
      )
