-- The graph of a program's items is reducible, and its calls go to lower numbers.
use Rattle.std.proofs.Common.{◌≡◌, ◌≢◌, ◌⊎◌, ⊎_elim, inl, inr, ℕ, zero, suc, ◌+◌, ◌≤◌, ◌<◌, Bool, true, false, List, [], ◌∷◌, length, map, Contains, Option, Some, None, refl, sym, ap, ◌∙◌, subst, arith}
use Rattle.std.specs.Prelude.{AllPairs, ◌==◌, ◌||◌, ◌&&◌, if◌then◌else◌, slice_get, slice_index_or}
use Rattle.std.specs.List.{list_any}
use Rattle.std.proofs.lemmas.Bool.{and_parts, cases_eq}
use Rattle.std.proofs.lemmas.Bool.Decides.{leb_tells, nat_tests}
use Rattle.std.proofs.lemmas.List.Elements.{All-contains}
use Rattle.asm_graphs.specs.Graphs.{IsShaped}
use Rattle.asm_graphs.specs.Graphs as graphs
use Rattle.low_ir.specs.Code.{End, Jump, Branch, Return, Loop}
use Rattle.low_ir.specs.declared.places.Place.{Place}
use Rattle.low_ir.specs.Formed.{LeadsOn, LeadsTo_as, LeadsTo}
use Rattle.low_ir.specs.Formed as formed
use Rattle.low_ir.specs.Places.{Placed}
use Rattle.asm_program.specs.Frames.{Memory}
use Rattle.asm_program.specs.Functions.{PlacedBlock, PlacedFunction, no_function, function_in, callees_of, at_once, ends_at, ends_by, block_count, loop_of, graph_of}
use Rattle.asm_program.specs.Formed.{IsFunction, IsProgram}

pub one_of : {A : Type 0} (x t : A) → Contains (x ∷ []) t → x ≡ t
one_of x t (zero, lt, e) = e
one_of x t (suc n, lt, e) = absurd (omega arith)

two_of : {A : Type 0} (x y t : A) → Contains (x ∷ y ∷ []) t → (x ≡ t) ⊎ (y ≡ t)
two_of x y t (zero, lt, e) = inl e
two_of x y t (suc zero, lt, e) = inr e
two_of x y t (suc (suc n), lt, e) = absurd (omega arith)

none_of : {A : Type 0} (t : A) → Contains [] t → ⊥
none_of t (n, lt, e) = absurd (omega arith)

pub in_map : {A B : Type 0} (f : A → B) (xs : List A) (y : B) → Contains (map f xs) y → (x : A) × Contains xs x × (f x ≡ y)
in_map f [] y (n, lt, e) = absurd (omega arith)
in_map f (x ∷ xs) y (zero, lt, e) = (x, (0, omega arith, refl), e)
in_map f (x ∷ xs) y (suc n, lt, e) =
    let r = in_map f xs y (n, omega arith, e) in
    let at = r.1 in
    (r.0, (suc at.0, omega (arith, at.1), at.2), r.2)

contains_map : {A B : Type 0} (f : A → B) (xs : List A) (x : A) → Contains xs x → Contains (map f xs) (f x)
contains_map f [] x (n, lt, e) = absurd (omega arith)
contains_map f (y ∷ xs) x (zero, lt, e) = (0, omega arith, ap f e)
contains_map f (y ∷ xs) x (suc n, lt, e) = let r = contains_map f xs x (n, omega arith, e) in (suc r.0, omega (arith, r.1), r.2)

any_of : {A : Type 0} (p : A → Bool) (xs : List A) → list_any p xs ≡ true → (x : A) × Contains xs x × (p x ≡ true)
any_of p [] h = cc
any_of {A = A} p (x ∷ xs) h = by_test (p x) refl (any_of p xs) h
  where
    Found : List A → Type 0
    Found ys = (y : A) × Contains ys y × (p y ≡ true)

    by_test : (b : Bool) → p x ≡ b → (list_any p xs ≡ true → Found xs) → (b || list_any p xs) ≡ true → Found (x ∷ xs)
    by_test true e later h = (x, (0, omega arith, refl), e)
    by_test false e later h = let r = later h in let at = r.1 in (r.0, (suc at.0, omega (arith, at.1), at.2), r.2)

found_or : {A : Type 0} (xs : List A) (n : ℕ) (d : A) → (slice_get xs n ≡ Some (slice_index_or xs n d)) ⊎ (slice_index_or xs n d ≡ d)
found_or [] n d = inr refl
found_or (x ∷ xs) zero d = inl refl
found_or (x ∷ xs) (suc n) d = found_or xs n d

same_at : {A : Type 0} (xs : List A) (n : ℕ) (d e : A) → n < length xs → slice_index_or xs n d ≡ slice_index_or xs n e
same_at [] n d e h = absurd (omega arith)
same_at (x ∷ xs) zero d e h = refl
same_at (x ∷ xs) (suc n) d e h = same_at xs n d e (omega arith)

two_ways : (a b : ℕ) → a ≢ b → (a < b) ⊎ (b < a)
two_ways a b n = ⊎_elim (λ h. let k = h.1 in inl (omega arith)) (λ h. let k = h.1 in inr (omega arith)) (leb_tells a b)

pub below_of : {A : Type 0} (xs : List A) (n : ℕ) (x : A) → slice_get xs n ≡ Some x → n < length xs
below_of [] n x e = cc
below_of (y ∷ xs) zero x e = omega arith
below_of (y ∷ xs) (suc n) x e = let h = below_of xs n x e in omega arith

found : {A : Type 0} (xs : List A) (n : ℕ) (d : A) → n < length xs → slice_get xs n ≡ Some (slice_index_or xs n d)
found [] n d h = absurd (omega arith)
found (x ∷ xs) zero d h = refl
found (x ∷ xs) (suc n) d h = found xs n d (omega arith)

module _ (m : Memory) (p : Placed) (ok : IsProgram p) where
  abbrev fn : ℕ → PlacedFunction
  fn f = function_in p f

  abbrev last : ℕ → ℕ
  last f = length (function_in p f).blocks

  -- a function with blocks is one of the program
  pub function_of : (f : ℕ) → 0 < length (function_in p f).blocks → (f < length p.functions) × IsFunction f (function_in p f)
  function_of f some =
      ⊎_elim
      (λ (e : slice_get p.functions f ≡ Some (function_in p f)). (below_of p.functions f (function_in p f) e, ok.functions f (function_in p f) e))
      (λ (e : function_in p f ≡ no_function). absurd (let n : length (function_in p f).blocks ≡ 0 = ap (λ (x : PlacedFunction). length x.blocks) e in omega arith))
      (found_or p.functions f no_function)

  pub function_at : (f : ℕ) → f < length p.functions → IsFunction f (function_in p f)
  function_at f h = ok.functions f (function_in p f) (found p.functions f no_function h)

  -- a block that follows is one to which the end leads, or the one that leaves
  abbrev Follows : ℕ → ℕ → ℕ → Type 0
  Follows f b n = (LeadsTo (function_in p f) b n) ⊎ ((at_once m p f ≡ false) × (n ≡ length (function_in p f).blocks))

  by_end : (f : ℕ) (leaves : Bool) (end : End Place) (n : ℕ) → at_once m p f ≡ leaves → Contains (ends_at leaves (length (function_in p f).blocks) end) n → LeadsOn end n ⊎ ((at_once m p f ≡ false) × (n ≡ length (function_in p f).blocks))
  by_end f leaves (Jump t) n e has = inl (one_of t n has)
  by_end f leaves (Branch c x y t o) n e has = inl (two_of t o n has)
  by_end f true (Return x) n e has = absurd (none_of n has)
  by_end f false (Return x) n e has = inr (e, sym (one_of (length (function_in p f).blocks) n has))

  pub leads : (f b n : ℕ) → Contains ((graph_of m p).follows f b) n → Follows f b n × (b < length (function_in p f).blocks)
  leads f b n has = by_block (slice_get (function_in p f).blocks b) refl has
    where
      by_block : (o : Option PlacedBlock) → slice_get (function_in p f).blocks b ≡ o → Contains (ends_by (at_once m p f) (length (function_in p f).blocks) o) n → Follows f b n × (b < length (function_in p f).blocks)
      by_block None e has = absurd (none_of n has)
      by_block (Some block) e has = (
        ⊎_elim (λ h. inl (subst (λ x. LeadsTo_as x n) (sym e) h)) (λ h. inr h) (by_end f (at_once m p f) block.end n refl has),
        below_of (function_in p f).blocks b block e,
      )

  not_start : (f : ℕ) → f < length p.functions → (f == length p.functions) ≡ false
  not_start f h = grind (arith, nat_tests)

  more_one : (b : Bool) (n k : ℕ) → k ≡ n + (if b then 0 else 1) → (n ≤ k) × (b ≡ false → n < k)
  more_one true n k e = (omega arith, λ h. cc)
  more_one false n k e = (omega arith, λ h. omega arith)

  -- a function has its blocks, and one more where it leaves by that one
  blocks_in : (f : ℕ) → f < length p.functions → (length (function_in p f).blocks ≤ block_count m p f) × (at_once m p f ≡ false → length (function_in p f).blocks < block_count m p f)
  blocks_in f h =
      let e = ap (λ b. if b then 1 else (length (function_in p f).blocks + (if at_once m p f then 0 else 1))) (not_start f h) in
      more_one (at_once m p f) (length (function_in p f).blocks) (block_count m p f) e

  loop_in : (f : ℕ) (k : graphs.Loop) → Contains ((graph_of m p).loops f) k → (l : Loop) × Contains (function_in p f).loops l × (loop_of l ≡ k)
  loop_in f k has = in_map loop_of (function_in p f).loops k has

  -- what is known of a loop
  record IsRange (f : ℕ) (k : graphs.Loop) : Type 0 where
    header : 0 < k.header
    range : k.header < k.latch
    last : k.latch < length (function_in p f).blocks
    entered : (b n : ℕ) → LeadsTo (function_in p f) b n → (k.header ≤ n) × (n ≤ k.latch) → (b < k.header) ⊎ (k.latch < b) → n ≡ k.header

  range_by : (f : ℕ) (l : Loop) → formed.IsLoop (function_in p f) l → IsRange f (loop_of l)
  range_by f l h = record {
    header = h.header;
    range = h.latch;
    last = below_of (function_in p f).blocks l.latch _ h.back;
    entered = λ b n leads within out. h.entered b n leads within out;
  }

  pub with_loops : (f : ℕ) (l : Loop) → Contains (function_in p f).loops l → f < length p.functions
  with_loops f l has =
      ⊎_elim
      (λ (e : slice_get p.functions f ≡ Some (function_in p f)). below_of p.functions f (function_in p f) e)
      (λ (e : function_in p f ≡ no_function). absurd (none_of l (subst (λ (x : PlacedFunction). Contains x.loops l) e has)))
      (found_or p.functions f no_function)

  range_of : (f : ℕ) (k : graphs.Loop) → Contains ((graph_of m p).loops f) k → IsRange f k
  range_of f k has =
      let r = loop_in f k has in
      let h = function_at f (with_loops f r.0 r.1) in
      subst (IsRange f) r.2 (range_by f r.0 (All-contains (formed.IsLoop (function_in p f)) (function_in p f).loops r.0 h.loops r.1))

  up_by : (f b n : ℕ) → b < length (function_in p f).blocks → Follows f b n → (b < n) ⊎ ((k : graphs.Loop) × Contains ((graph_of m p).loops f) k × (b ≡ k.latch) × (n ≡ k.header))
  up_by f b n less (inr h) = let e = h.1 in inl (omega arith)
  up_by f b n less (inl h) =
      ⊎_elim
      (λ q. let later = q.1 in goes_back (any_of (λ (l : Loop). (l.latch == b) && (l.header == n)) (function_in p f).loops (here.1.forward b n h later)))
      (λ q. let later = q.1 in inl (omega arith))
      (leb_tells n b)
    where
      here : (f < length p.functions) × IsFunction f (function_in p f)
      here = function_of f (omega arith)

      same : (x y : ℕ) → (x == y) ≡ true → y ≡ x
      same x y e = grind (arith, nat_tests)

      goes_back : (l : Loop) × Contains (function_in p f).loops l × (((l.latch == b) && (l.header == n)) ≡ true) → (b < n) ⊎ ((k : graphs.Loop) × Contains ((graph_of m p).loops f) k × (b ≡ k.latch) × (n ≡ k.header))
      goes_back (l, has, e) =
          let parts = and_parts (l.latch == b) (l.header == n) e in
          inr (loop_of l, contains_map loop_of (function_in p f).loops l has, same l.latch b parts.0, same l.header n parts.1)

  -- two loops of a list, in any order
  pairs_nest : (f : ℕ) (x y : Loop) → formed.AreNested x y → IsRange f (loop_of x) → IsRange f (loop_of y) → graphs.AreNested (loop_of x) (loop_of y)
  pairs_nest f x y h a b =
      let ar = a.range in
      let br = b.range in
      ⊎_elim
      (λ q. inl q)
      (λ (over : y.header ≤ x.latch).
      ⊎_elim
      (λ q. inr (inl q))
      (λ (under : x.header ≤ y.latch).
      ⊎_elim
      (λ (first : x.header ≤ y.header). let r = h.0 (first, over) in let r1 = r.1 in inr (inr (inr (first, omega arith))))
      (λ (second : y.header < x.header). let r = h.1 (omega arith, under) in let r1 = r.1 in inr (inr (inl (omega arith, omega arith))))
      (le_or x.header y.header))
      (lt_or y.latch x.header))
      (lt_or x.latch y.header)
    where
      lt_or : (i j : ℕ) → (i < j) ⊎ (j ≤ i)
      lt_or i j = ⊎_elim (λ e. inr e.1) (λ e. let k = e.1 in inl (omega arith)) (leb_tells j i)

      le_or : (i j : ℕ) → (i ≤ j) ⊎ (j < i)
      le_or i j = ⊎_elim (λ e. inl e.1) (λ e. let k = e.1 in inr (omega arith)) (leb_tells i j)

  itself : (x : graphs.Loop) → graphs.AreNested x x
  itself x = inr (inr (inl (omega arith, omega arith)))

  turned : (x y : graphs.Loop) → graphs.AreNested x y → graphs.AreNested y x
  turned x y (inl h) = inr (inl h)
  turned x y (inr (inl h)) = inl h
  turned x y (inr (inr (inl h))) = inr (inr (inr h))
  turned x y (inr (inr (inr h))) = inr (inr (inl h))

  by_order : (f : ℕ) (x y : Loop) → AllPairs formed.AreNested (function_in p f).loops → IsRange f (loop_of x) → IsRange f (loop_of y) → Contains (function_in p f).loops x → Contains (function_in p f).loops y → graphs.AreNested (loop_of x) (loop_of y)
  by_order f x y pairs a b (i, lt, e) (j, ms, d) =
      let xs = (function_in p f).loops in
      ⊎_elim
      (λ (same : i ≡ j).
      let one : x ≡ y = sym e ∙ same_at xs i x y lt ∙ ap (λ n. slice_index_or xs n y) same ∙ d in
      subst (λ z. graphs.AreNested (loop_of x) (loop_of z)) one (itself (loop_of x)))
      (λ (other : i ≢ j).
      ⊎_elim
      (λ (less : i < j).
      pairs_nest f x y (subst (λ z. formed.AreNested z y) e (subst (formed.AreNested (slice_index_or xs i x)) (same_at xs j x y ms ∙ d) (pairs i j x less ms))) a b)
      (λ (more : j < i).
      turned (loop_of y) (loop_of x)
      (pairs_nest f y x (subst (λ z. formed.AreNested z x) d (subst (formed.AreNested (slice_index_or xs j y)) (same_at xs i y x lt ∙ e) (pairs j i y more lt))) b a))
      (two_ways i j other))
      (cases_eq i j)

  nest : (f : ℕ) (k l : graphs.Loop) → Contains ((graph_of m p).loops f) k → Contains ((graph_of m p).loops f) l → graphs.AreNested k l
  nest f k l a b =
      let x = loop_in f k a in
      let y = loop_in f l b in
      let h = function_at f (with_loops f x.0 x.1) in
      subst (λ z. graphs.AreNested z l) x.2
      (subst (graphs.AreNested (loop_of x.0)) y.2
      (by_order f x.0 y.0 h.nested (subst (IsRange f) (sym x.2) (range_of f k a)) (subst (IsRange f) (sym y.2) (range_of f l b)) x.1 y.1))

  some_blocks : (f : ℕ) → f < suc (length p.functions) → 0 < block_count m p f
  some_blocks f h =
      ⊎_elim
      (λ (e : f ≡ length p.functions).
      let test : (f == length p.functions) ≡ true = grind (arith, nat_tests) in
      let one : block_count m p f ≡ 1 = ap (λ b. if b then 1 else (length (function_in p f).blocks + (if at_once m p f then 0 else 1))) test in omega arith)
      (λ (d : f ≢ length p.functions).
      let r = function_at f (omega arith) in
      let some = r.some in
      let n = blocks_in f (omega arith) in
      let n0 = n.0 in omega arith)
      (cases_eq f (length p.functions))

  follow_below : (f b n : ℕ) → Follows f b n → b < length (function_in p f).blocks → n < block_count m p f
  follow_below f b n (inl h) less =
      let r = function_of f (omega arith) in
      let n1 = r.1.stays b n h in
      let k = blocks_in f r.0 in
      let k0 = k.0 in omega arith
  follow_below f b n (inr h) less =
      let r = function_of f (omega arith) in
      let k = blocks_in f r.0 in
      let e = h.1 in
      let k1 = k.1 h.0 in omega arith

  calls_fall : (f callee : ℕ) → Contains ((graph_of m p).calls f) callee → callee < f
  calls_fall f callee has = by_test (f == length p.functions) refl has
    where
      start : (f == length p.functions) ≡ true → f ≡ length p.functions
      start e = grind (arith, nat_tests)

      by_test : (b : Bool) → (f == length p.functions) ≡ b → Contains (if b then p.main ∷ [] else callees_of (function_in p f)) callee → callee < f
      by_test true e has = let same = one_of p.main callee has in let at = start e in let below = ok.main in omega arith
      by_test false e has =
          ⊎_elim
          (λ (q : slice_get p.functions f ≡ Some (function_in p f)). let r = ok.functions f (function_in p f) q in r.calls callee has)
          (λ (q : function_in p f ≡ no_function). absurd (none_of callee (subst (λ x. Contains (callees_of x) callee) q has)))
          (found_or p.functions f no_function)

  last_in : (f : ℕ) (k : graphs.Loop) → Contains ((graph_of m p).loops f) k → k.latch < block_count m p f
  last_in f k has =
      let r = range_of f k has in
      let below = r.last in
      let g = function_of f (omega arith) in
      let n = blocks_in f g.0 in
      let n0 = n.0 in omega arith

  goes_into : (f : ℕ) (k : graphs.Loop) (b n : ℕ) → Contains ((graph_of m p).loops f) k → Follows f b n → graphs.IsIn k n → graphs.IsOutside k b → n ≡ k.header
  goes_into f k b n has (inl h) within out = let r = range_of f k has in r.entered b n h within out
  goes_into f k b n has (inr h) within out = let r = range_of f k has in let below = r.last in let e = h.1 in let w = within.1 in absurd (omega arith)

  pub shaped : IsShaped (graph_of m p)
  shaped = record {
    some = some_blocks;
    stays = λ f b n has. let r = leads f b n has in follow_below f b n r.0 r.1;
    falls = calls_fall;
    first = λ f k has. let r = range_of f k has in r.header;
    range = λ f k has. let r = range_of f k has in let h = r.range in omega arith;
    last = last_in;
    up = λ f b n has. let r = leads f b n has in up_by f b n r.1 r.0;
    into = λ f k b n has follows within out. let r = leads f b n follows in goes_into f k b n has r.0 within out;
    nested = nest;
  }
