-- What the functions of a low program are worth where they are laid.
use Rattle.std.proofs.Common.{◌≡◌, ◌≢◌, ◌⊎◌, ⊎_elim, inl, inr, ℕ, zero, suc, ◌+◌, ◌*◌, ◌<◌, ◌≤◌, Bool, true, false, List, [], ◌∷◌, ◌++◌, length, map, Contains, Some, refl, sym, ap, ◌∙◌, subst, arith}
use Rattle.std.specs.Prelude.{◌==◌, AllPairs, slice_get, slice_index_or, if◌then◌else◌}
use Rattle.std.proofs.lemmas.Bool.Decides.{nat_tests}
use Rattle.std.proofs.lemmas.List.Elements.{All-map, All-contains}
use Rattle.std.proofs.lemmas.List.Kept.{AllPairs-cons}
use Rattle.asm_items.specs.Placings.{Placing}
use Rattle.asm_prices.specs.Worths.{LoopBound, Prices, block_price, AreWorths}
use Rattle.asm_prices.specs.Worths as worths
use Rattle.low_ir.specs.Code.{Loop}
use Rattle.low_ir.specs.Formed as formed
use Rattle.low_ir.specs.Room.{repeated}
use Rattle.low_ir.specs.Places.{Placed}
use Rattle.asm_program.specs.Frames.{Memory}
use Rattle.asm_program.specs.Functions.{PlacedBlock, PlacedFunction, no_function, function_in, at_once, leave_items, blocks_from, leaving_blocks, function_items, start_items, block_count, loop_of, graph_of, items_at}
use Rattle.asm_program.specs.Formed.{IsFunction}
use Rattle.asm_program.proofs.GraphLemmas.{below_of, function_at, with_loops}
use Rattle.asm_program.proofs.ItemLemmas.{of_function, of_start, blocks_length}
use Rattle.asm_prices.specs.Bounds.{bound_of, bounds_of, HasCode}
use Rattle.asm_sound.proofs.EmissionLemmas.{beside}
use Rattle.asm_prices.proofs.WeightLemmas.{times_same, times_first, times_behind, split_repeated, repeated_le}

-- lists

behind_all : {A : Type 0} (xs ys : List A) (d : A) → slice_index_or (xs ++ ys) (length xs) d ≡ slice_index_or ys 0 d
behind_all [] ys d = refl
behind_all (x ∷ xs) ys d = behind_all xs ys d

past_all : {A : Type 0} (xs : List A) (d : A) → slice_index_or xs (length xs) d ≡ d
past_all [] d = refl
past_all (x ∷ xs) d = past_all xs d

pub found : {A : Type 0} (xs : List A) (n : ℕ) (d : A) → n < length xs → slice_get xs n ≡ Some (slice_index_or xs n d)
found [] n d h = absurd (omega arith)
found (x ∷ xs) zero d h = refl
found (x ∷ xs) (suc n) d h = found xs n d (omega arith)

pub get_some : {A : Type 0} (xs : List A) (n : ℕ) → n < length xs → (x : A) × (slice_get xs n ≡ Some x)
get_some [] n h = absurd (omega arith)
get_some (x ∷ xs) zero h = (x, refl)
get_some (x ∷ xs) (suc n) h = get_some xs n (omega arith)

pub among : {A : Type 0} (xs : List A) (n : ℕ) (x : A) → slice_get xs n ≡ Some x → Contains xs x
among [] n x e = cc
among (y ∷ xs) zero x e = let same : y ≡ x = cc in (zero, omega arith, same)
among (y ∷ xs) (suc n) x e = let r = among xs n x e in (suc r.0, (let i = r.1 in omega arith), r.2)

-- the loops of a function

loops_same : (ls : List Loop) → map (λ (k : LoopBound). k.loop) (map bound_of ls) ≡ map loop_of ls
loops_same [] = refl
loops_same (l ∷ ls) = ap (λ ks. loop_of l ∷ ks) (loops_same ls)

abbrev Apart : LoopBound → LoopBound → Type 0
Apart j k = j.loop.header ≢ k.loop.header

headers_apart : (ls : List Loop) → AllPairs formed.AreNested ls → ((l : Loop) → Contains ls l → l.header ≤ l.latch) → AllPairs Apart (map bound_of ls)
headers_apart [] nested range = λ i j d p q. absurd (omega arith)
headers_apart (l ∷ ls) nested range =
    AllPairs-cons Apart (bound_of l) (map bound_of ls)
    (All-map (Apart (bound_of l)) bound_of ls (λ n d i e. let h = nested zero (suc n) d (omega arith) (omega arith) in let r = range l (zero, omega arith, refl) in let q = (h.0 (omega arith, omega arith)).0 in let z : ⊥ = omega arith in z))
    (headers_apart ls (λ i j d p q. nested (suc i) (suc j) d (omega arith) (omega arith)) (λ k has. range k (suc has.0, (let i = has.1 in omega arith), has.2)))

module _ (m : Memory) (p : Placed) (l : Placing) (h : HasCode m p l) where
  fn : ℕ → PlacedFunction
  fn f = function_in p f

  is_function : (f : ℕ) → f < length p.functions → IsFunction f (function_in p f)
  is_function f i = function_at m p h.program f i

  loop_there : (f : ℕ) (k : Loop) → Contains (function_in p f).loops k → formed.IsLoop (function_in p f) k
  loop_there f k has = let i = with_loops m p h.program f k has in let r = is_function f i in All-contains (formed.IsLoop (function_in p f)) (function_in p f).loops k r.loops has

  loop_last : (f : ℕ) (k : Loop) → Contains (function_in p f).loops k → k.latch < length (function_in p f).blocks
  loop_last f k has = let r = loop_there f k has in below_of (function_in p f).blocks k.latch _ r.back

  start_function : function_in p (length p.functions) ≡ no_function
  start_function = past_all p.functions no_function

  pub not_start : (f : ℕ) → f < length p.functions → (f == length p.functions) ≡ false
  not_start f i = grind (arith, nat_tests)

  -- the block with which a function leaves, where it has one
  pub leaving_at : (f : ℕ) → f < length p.functions → at_once m p f ≡ false → items_at m p f (length (function_in p f).blocks) ≡ leave_items m p f true 0
  leaving_at f i e =
      let n = blocks_length m p f 0 (function_in p f).blocks in
      ap (λ bs. slice_index_or bs (length (function_in p f).blocks) []) (of_function m p f i)
      ∙ ap (λ n. slice_index_or (function_items m p f) n []) (sym n)
      ∙ behind_all (blocks_from m p f 0 (function_in p f).blocks) (leaving_blocks m p f (at_once m p f)) []
      ∙ ap (λ o. slice_index_or (leaving_blocks m p f o) 0 []) e

  pub start_at : items_at m p (length p.functions) 0 ≡ slice_index_or (start_items m.second p.main) 0 []
  start_at = ap (λ bs. slice_index_or bs 0 []) (of_start m p)

  pub count_of : (f : ℕ) → f < length p.functions → block_count m p f ≡ length (function_in p f).blocks + (if at_once m p f then 0 else 1)
  count_of f i = ap (λ b. if b then 1 else (length (function_in p f).blocks + (if at_once m p f then 0 else 1))) (not_start f i)

  pub start_count : block_count m p (length p.functions) ≡ 1
  start_count =
      let test : (length p.functions == length p.functions) ≡ true = grind (arith, nat_tests) in
      ap (λ b. if b then 1 else (length (function_in p (length p.functions)).blocks + (if at_once m p (length p.functions) then 0 else 1))) test

  pub within_count : (f b : ℕ) → f < length p.functions → b < length (function_in p f).blocks → b < block_count m p f
  within_count f b i j = let e = count_of f i in omega arith

  -- the sums of a function: its blocks, what its first one has beside, and the block with which it leaves

  first_sum : (price : ℕ → ℕ) (w : PlacedBlock → ℕ) (opening : ℕ) (ls : List Loop) (bs : List PlacedBlock) → 0 < length bs → ((k : Loop) → Contains ls k → 0 < k.header) →
      ((b : ℕ) (block : PlacedBlock) → slice_get bs b ≡ Some block → price b ≤ beside opening b + w block) → worths.repeated price (map bound_of ls) 0 (length bs) ≤ opening + repeated w ls 0 bs
  first_sum price w opening ls [] some first each = absurd (omega arith)
  first_sum price w opening ls (block ∷ bs) some first each =
      let one = times_first ls first in
      let t = ap (λ n. n * price 0) (times_same ls 0 ∙ one) in
      let u = ap (λ n. n * w block) one in
      let here = each zero block refl in
      let r = repeated_le price w ls 1 bs (λ n x e. let s : 1 + n ≡ suc n = omega arith in let q = ap price s in let k = each (suc n) x e in omega arith) in omega arith

  pub function_sum : (price : ℕ → ℕ) (w : PlacedBlock → ℕ) (opening closing f : ℕ) → f < length p.functions →
      ((b : ℕ) (block : PlacedBlock) → slice_get (function_in p f).blocks b ≡ Some block → price b ≤ beside opening b + w block) → (at_once m p f ≡ false → price (length (function_in p f).blocks) ≤ closing) →
      worths.repeated price (bounds_of p f) 0 (block_count m p f) ≤ opening + repeated w (function_in p f).loops 0 (function_in p f).blocks + closing
  function_sum price w opening closing f i each last = by_leaves (at_once m p f) refl
    where
      own : IsFunction f (function_in p f)
      own = is_function f i

      blocks : worths.repeated price (bounds_of p f) 0 (length (function_in p f).blocks) ≤ opening + repeated w (function_in p f).loops 0 (function_in p f).blocks
      blocks = first_sum price w opening (function_in p f).loops (function_in p f).blocks own.some (λ k has. let r = loop_there f k has in r.header) each

      by_leaves : (o : Bool) → at_once m p f ≡ o → worths.repeated price (bounds_of p f) 0 (block_count m p f) ≤ opening + repeated w (function_in p f).loops 0 (function_in p f).blocks + closing
      by_leaves true e =
          let n : block_count m p f ≡ length (function_in p f).blocks = count_of f i ∙ ap (λ b. length (function_in p f).blocks + (if b then 0 else 1)) e ∙ (let z : length (function_in p f).blocks + 0 ≡ length (function_in p f).blocks = omega arith in z) in
          let q = ap (worths.repeated price (bounds_of p f) 0) n in
          let r = blocks in omega arith
      by_leaves false e =
          let n : block_count m p f ≡ length (function_in p f).blocks + 1 = count_of f i ∙ ap (λ b. length (function_in p f).blocks + (if b then 0 else 1)) e in
          let q = ap (worths.repeated price (bounds_of p f) 0) n in
          let s = split_repeated price (bounds_of p f) 0 (length (function_in p f).blocks) 1 in
          let z : 0 + length (function_in p f).blocks ≡ length (function_in p f).blocks = omega arith in
          let k = ap (λ b. worths.times (bounds_of p f) b * price b) z in
          let one = times_same (function_in p f).loops (length (function_in p f).blocks) ∙ times_behind (function_in p f).loops (length (function_in p f).blocks) (λ k has. loop_last f k has) in
          let t = ap (λ n. n * price (length (function_in p f).blocks)) one in
          let c = last e in
          let r = blocks in omega arith

  -- the one block of the start code
  pub start_sum : (price : ℕ → ℕ) → worths.repeated price (bounds_of p (length p.functions)) 0 (block_count m p (length p.functions)) ≡ price 0
  start_sum price =
      let none : bounds_of p (length p.functions) ≡ [] = ap (λ (x : PlacedFunction). map bound_of x.loops) start_function in
      ap (λ n. worths.repeated price (bounds_of p (length p.functions)) 0 n) start_count ∙ ap (λ ks. worths.repeated price ks 0 1) none ∙ (let e : 1 * price 0 + 0 ≡ price 0 = omega arith in e)

  module _ (q : Prices) (own : (f : ℕ) → q.bounds f ≡ bounds_of p f) where
    -- worths, where each function has all that a call of it may cost
    pub are_worths : ((f : ℕ) → f < suc (length p.functions) → worths.repeated (block_price l q f) (bounds_of p f) 0 (block_count m p f) ≤ q.worth f) → AreWorths (graph_of m p) l q
    are_worths functions = record {
      loops = λ f. ap (map (λ (k : LoopBound). k.loop)) (own f) ∙ loops_same (function_in p f).loops;
      headers = λ f. subst (AllPairs Apart) (sym (own f)) (by_function f);
      functions = λ f i. let e = ap (λ ks. worths.repeated (block_price l q f) ks 0 (block_count m p f)) (own f) in let r = functions f i in omega arith;
    }
      where
        by_function : (f : ℕ) → AllPairs Apart (bounds_of p f)
        by_function f =
            ⊎_elim
            (λ (less : f < length p.functions). let r = is_function f less in headers_apart (function_in p f).loops r.nested (λ k has. let u = loop_there f k has in let v = u.latch in omega arith))
            (λ (none : (k : Loop) → Contains (function_in p f).loops k → ⊥). headers_apart (function_in p f).loops (λ i j d less within. absurd (none _ (at_place (function_in p f).loops i d (omega arith)))) (λ k has. absurd (none k has)))
            (some_loop (function_in p f).loops (λ k has. with_loops m p h.program f k has))
          where
            at_place : (ls : List Loop) (i : ℕ) (d : Loop) → i < length ls → Contains ls (slice_index_or ls i d)
            at_place ls i d less = among ls i (slice_index_or ls i d) (found ls i d less)

            some_loop : (ls : List Loop) → ((k : Loop) → Contains ls k → f < length p.functions) → (f < length p.functions) ⊎ ((k : Loop) → Contains ls k → ⊥)
            some_loop [] u = inr (λ k has. let i = has.1 in let z : ⊥ = omega arith in z)
            some_loop (k ∷ ls) u = inl (u k (zero, omega arith, refl))
