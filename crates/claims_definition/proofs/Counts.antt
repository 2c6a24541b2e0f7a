-- How many claims there are.
use Rattle.std.proofs.Common.{◌≡◌, ◌≢◌, ⊎_elim, ℕ, zero, suc, ◌+◌, ◌*◌, ◌<◌, ◌≤◌, Bool, true, false, not, List, [], ◌∷◌, ◌++◌, length, refl, sym, ap, ◌∙◌, arith, length-append}
use Rattle.std.specs.Prelude.{◌==◌, if◌then◌else◌, slice_index, slice_index_or, sum_by}
use Rattle.std.specs.List.{flat_map}
use Rattle.std.proofs.lemmas.Bool.{cases_eq}
use Rattle.std.proofs.lemmas.Bool.Decides.{nat_tests}
use Rattle.std.proofs.lemmas.List.{length-map}
use Rattle.std.proofs.lemmas.List.Concat.{flat_map-cons}
use Rattle.std.proofs.lemmas.List.Sums.{sum_by-cons}
use Rattle.rv_core.specs.declared.regions.Region.{Region}
use Rattle.asm_items.specs.declared.item.Item.{Item}
use Rattle.asm_items.specs.Items.{size, total}
use Rattle.asm_items.specs.Placings.{Blocks, blocks_size}
use Rattle.asm_items.specs.Standing.{is_exit}
use Rattle.asm_items.proofs.MoveLemmas.{size_some}
use Rattle.asm_forms.specs.Regions.{bases_of, functions_size}
use Rattle.asm_placed.specs.Exits.{blocks_exits, functions_exits, items_exits}
use Rattle.asm_placed.specs.Written.{in_scratchpad}
use Rattle.low_ir.specs.Code.{Loop}
use Rattle.asm_program.specs.Functions.{PlacedBlock, PlacedFunction, function_in, no_function}
use Rattle.claims_definition.specs.ClaimLaws.{AreFew, IsSettled}
use Rattle.claims_definition.specs.Lines.{access_at, blocks_accesses, items_accesses}
use Rattle.claims_definition.specs.Listed.{Laid, accesses_in, accesses_of, by_address, functions_of, loop_claim, loops_at, loops_from, loops_in, loops_of}
use Rattle.claims_definition.specs.Orders.{lying}
use Rattle.claims_definition.specs.Touches.{Touch, Nothing, OfFrame, OfArrays, program_touches}
use Rattle.claims_definition.proofs.Blocks.{count}
use Rattle.claims_definition.proofs.Regions.{regions_hold}

-- sums over functions by their numbers
abbrev summed : (ℕ → ℕ) → List ℕ → ℕ
summed g [] = 0
summed g (f ∷ fs) = g f + summed g fs

abbrev upto : ℕ → ℕ → List ℕ
upto f zero = []
upto f (suc n) = f ∷ upto (suc f) n

summed_append : (g : ℕ → ℕ) (xs ys : List ℕ) → summed g (xs ++ ys) ≡ summed g xs + summed g ys
summed_append g [] ys = omega arith
summed_append g (x ∷ xs) ys = let h = summed_append g xs ys in omega (arith, h)

both_rows : (g : ℕ → ℕ) (here : ℕ → Bool) (f n : ℕ) → summed g (lying (λ x. not (here x)) f n) + summed g (lying here f n) ≡ summed g (upto f n)
both_rows g here f zero = refl
both_rows g here f (suc n) = by_row (here f) (both_rows g here (suc f) n)
  where
    by_row : (b : Bool) → summed g (lying (λ x. not (here x)) (suc f) n) + summed g (lying here (suc f) n) ≡ summed g (upto (suc f) n)
        → summed g (if not b then f ∷ lying (λ x. not (here x)) (suc f) n else lying (λ x. not (here x)) (suc f) n) + summed g (if b then f ∷ lying here (suc f) n else lying here (suc f) n) ≡ g f + summed g (upto (suc f) n)
    by_row true h = omega (arith, h)
    by_row false h = omega (arith, h)

length_flat : {A : Type 0} (of : ℕ → List A) (fs : List ℕ) → length (flat_map of fs) ≡ summed (λ f. length (of f)) fs
length_flat of [] = refl
length_flat of (f ∷ fs) =
    let h = length_flat of fs in
    let e = ap length (flat_map-cons of f fs) in
    let l = length-append (of f) (flat_map of fs) in
    omega (arith, h, e, l)

less : (a g : ℕ → ℕ) → ((f : ℕ) → a f ≤ g f) → (fs : List ℕ) → summed a fs ≤ summed g fs
less a g each [] = omega arith
less a g each (f ∷ fs) = let h = less a g each fs in let k = each f in omega (arith, h, k)

fours_less : (a g : ℕ → ℕ) → ((f : ℕ) → 4 * a f ≤ g f) → (fs : List ℕ) → 4 * summed a fs ≤ summed g fs
fours_less a g each [] = omega arith
fours_less a g each (f ∷ fs) = let h = fours_less a g each fs in let k = each f in omega (arith, h, k)

-- sums over whole lists
sizes_sum : (all : List Blocks) (k : ℕ) (fs : List Blocks) → ((j : ℕ) → slice_index_or all (k + j) [] ≡ slice_index_or fs j []) → summed (λ f. blocks_size (slice_index_or all f [])) (upto k (length fs)) ≡ functions_size fs
sizes_sum all k [] at = refl
sizes_sum all k (bs ∷ fs) at =
    let z : k + 0 ≡ k = omega arith in
    let first : blocks_size (slice_index_or all k []) ≡ blocks_size bs = ap (λ n. blocks_size (slice_index_or all n [])) (sym z) ∙ ap blocks_size (at 0) in
    let rest = sizes_sum all (suc k) fs (λ j. let n : suc k + j ≡ k + suc j = omega arith in ap (λ i. slice_index_or all i []) n ∙ at (suc j)) in
    omega (arith, first, rest)

loops_sum : (all : List PlacedFunction) (k : ℕ) (fs : List PlacedFunction) → ((j : ℕ) → slice_index_or all (k + j) no_function ≡ slice_index_or fs j no_function) → summed (λ f. length (slice_index_or all f no_function).loops) (upto k (suc (length fs))) ≡ sum_by (λ (fn : PlacedFunction). length fn.loops) fs
loops_sum all k [] at =
    let z : k + 0 ≡ k = omega arith in
    let first : length (slice_index_or all k no_function).loops ≡ 0 = ap (λ n. length (slice_index_or all n no_function).loops) (sym z) ∙ ap (λ (fn : PlacedFunction). length fn.loops) (at 0) in
    omega (arith, first)
loops_sum all k (fn ∷ fs) at =
    let z : k + 0 ≡ k = omega arith in
    let first : length (slice_index_or all k no_function).loops ≡ length fn.loops = ap (λ n. length (slice_index_or all n no_function).loops) (sym z) ∙ ap (λ (fn : PlacedFunction). length fn.loops) (at 0) in
    let rest = loops_sum all (suc k) fs (λ j. let n : suc k + j ≡ k + suc j = omega arith in ap (λ i. slice_index_or all i no_function) n ∙ at (suc j)) in
    let e = sum_by-cons (λ (x : PlacedFunction). length x.loops) fn fs in
    omega (arith, first, rest, e)

-- accesses of items
module _ (regions : ℕ → Region) where
  one_few : (a n : ℕ) (t : Touch) → 4 ≤ n → 4 * length (access_at regions a t) ≤ n
  one_few a n Nothing h = omega arith
  one_few a n OfFrame h = omega (arith, h)
  one_few a n (OfArrays os) h = omega (arith, h)

  items_few : (a : ℕ) (ts : List Touch) (xs : List Item) → 4 * length (items_accesses regions a ts xs) ≤ total xs
  items_few a [] xs = omega arith
  items_few a (t ∷ ts) [] = omega arith
  items_few a (t ∷ ts) (x ∷ xs) =
      let h = one_few a (size x) t (size_some x) in
      let k = items_few (a + size x) ts xs in
      let l = length-append (access_at regions a t) (items_accesses regions (a + size x) ts xs) in
      omega (arith, h, k, l)

  blocks_few : (a : ℕ) (tss : List (List Touch)) (bs : Blocks) → 4 * length (blocks_accesses regions a tss bs) ≤ blocks_size bs
  blocks_few a [] bs = omega arith
  blocks_few a (ts ∷ tss) [] = omega arith
  blocks_few a (ts ∷ tss) (xs ∷ bs) =
      let h = items_few a ts xs in
      let k = blocks_few (a + total xs) tss bs in
      let l = length-append (items_accesses regions a ts xs) (blocks_accesses regions (a + total xs) tss bs) in
      omega (arith, h, k, l)

-- exits of items
exits_few : (a : ℕ) (xs : List Item) → 4 * length (items_exits a xs) ≤ total xs
exits_few a [] = omega arith
exits_few a (x ∷ xs) = by_exit (is_exit x) (exits_few (a + size x) xs)
  where
    by_exit : (b : Bool) → 4 * length (items_exits (a + size x) xs) ≤ total xs → 4 * length (if b then a ∷ items_exits (a + size x) xs else items_exits (a + size x) xs) ≤ total (x ∷ xs)
    by_exit true h = let s = size_some x in omega (arith, h, s)
    by_exit false h = omega (arith, h)

blocks_exits_few : (a : ℕ) (bs : Blocks) → 4 * length (blocks_exits a bs) ≤ blocks_size bs
blocks_exits_few a [] = omega arith
blocks_exits_few a (xs ∷ bs) =
    let h = exits_few a xs in
    let k = blocks_exits_few (a + total xs) bs in
    let l = length-append (items_exits a xs) (blocks_exits (a + total xs) bs) in
    omega (arith, h, k, l)

functions_exits_few : (bases : List ℕ) (k : ℕ) (fs : List Blocks) → 4 * length (functions_exits bases k fs) ≤ functions_size fs
functions_exits_few bases k [] = omega arith
functions_exits_few bases k (bs ∷ fs) =
    let h = blocks_exits_few (slice_index bases k) bs in
    let n = functions_exits_few bases (suc k) fs in
    let l = length-append (blocks_exits (slice_index bases k) bs) (functions_exits bases (suc k) fs) in
    omega (arith, h, n, l)

-- a loop has one header
loops_none : (b : ℕ) (xs : List PlacedBlock) → loops_from [] b xs ≡ []
loops_none b [] = refl
loops_none b (x ∷ xs) = loops_none (suc b) xs

passed : (k : Loop) (ks : List Loop) (b : ℕ) (xs : List PlacedBlock) → k.header < b → length (loops_from (k ∷ ks) b xs) ≡ length (loops_from ks b xs)
passed k ks b [] low = refl
passed k ks b (x ∷ xs) low =
    let other : (k.header == b) ≡ false = grind (arith, nat_tests, low) in
    let first : loops_at b (k ∷ ks) ≡ loops_at b ks = ap (λ t. if t then k ∷ loops_at b ks else loops_at b ks) other in
    let rest = passed k ks (suc b) xs (omega (arith, low)) in
    let l = length-append (loops_at b (k ∷ ks)) (loops_from (k ∷ ks) (suc b) xs) in
    let n = length-append (loops_at b ks) (loops_from ks (suc b) xs) in
    let e = ap length first in
    omega (arith, rest, l, n, e)

once : (k : Loop) (ks : List Loop) (b : ℕ) (xs : List PlacedBlock) → length (loops_from (k ∷ ks) b xs) ≤ suc (length (loops_from ks b xs))
once k ks b [] = omega arith
once k ks b (x ∷ xs) =
    let n = length-append (loops_at b ks) (loops_from ks (suc b) xs) in
    let l = length-append (loops_at b (k ∷ ks)) (loops_from (k ∷ ks) (suc b) xs) in
    ⊎_elim
    (λ (same : k.header ≡ b).
    let test : (k.header == b) ≡ true = grind (arith, nat_tests, same) in
    let first = ap length (ap (λ t. if t then k ∷ loops_at b ks else loops_at b ks) test) in
    let rest = passed k ks (suc b) xs (omega (arith, same)) in
    omega (arith, first, rest, l, n))
    (λ (other : k.header ≢ b).
    let test : (k.header == b) ≡ false = grind (arith, nat_tests, other) in
    let first = ap length (ap (λ t. if t then k ∷ loops_at b ks else loops_at b ks) test) in
    let rest = once k ks (suc b) xs in
    omega (arith, first, rest, l, n))
    (cases_eq k.header b)

loops_few : (ks : List Loop) (b : ℕ) (xs : List PlacedBlock) → length (loops_from ks b xs) ≤ length ks
loops_few [] b xs = let e = ap length (loops_none b xs) in omega (arith, e)
loops_few (k ∷ ks) b xs = let h = once k ks b xs in let r = loops_few ks b xs in omega (arith, h, r)

module _ (l : Laid) (is : IsSettled l) where
  abbrev room : ℕ → ℕ
  room f = blocks_size (slice_index_or (functions_of l) f [])

  abbrev own_loops : ℕ → ℕ
  own_loops f = length (slice_index_or l.program.functions f no_function).loops

  -- over all functions, each once
  all_summed : (g : ℕ → ℕ) → summed g (by_address l) ≡ summed g (upto 0 (length (functions_of l)))
  all_summed g =
      let n = length (functions_of l) in
      summed_append g (lying (λ f. not (in_scratchpad l.rows f)) 0 n) (lying (in_scratchpad l.rows) 0 n) ∙ both_rows g (in_scratchpad l.rows) 0 n

  regions_few : 4 * length (accesses_of l) ≤ functions_size (functions_of l)
  regions_few =
      let gs = functions_of l in
      let a = length_flat (accesses_in l) (by_address l) in
      let d = fours_less (λ f. length (accesses_in l f)) room (λ f. blocks_few l.regions (slice_index (bases_of l.rows gs) f) (slice_index_or (program_touches l.memory l.program) f []) (slice_index_or gs f [])) (by_address l) in
      let b = all_summed room in
      let c = sizes_sum gs 0 gs (λ j. let z : 0 + j ≡ j = omega arith in ap (λ i. slice_index_or gs i []) z) in
      omega (arith, a, b, c, d)

  all_loops_few : length (loops_of l) ≤ sum_by (λ (fn : PlacedFunction). length fn.loops) l.program.functions
  all_loops_few =
      let fns = l.program.functions in
      let a = length_flat (loops_in l) (by_address l) in
      let d = less (λ f. length (loops_in l f)) own_loops (λ f. let fn = function_in l.program f in let size = length-map (loops_from fn.loops 0 fn.blocks) (loop_claim l f) in let few = loops_few fn.loops 0 fn.blocks in omega (arith, size, few)) (by_address l) in
      let b = all_summed own_loops ∙ ap (λ n. summed own_loops (upto 0 n)) (count l is) in
      let c = loops_sum fns 0 fns (λ j. let z : 0 + j ≡ j = omega arith in ap (λ i. slice_index_or fns i no_function) z) in
      omega (arith, a, b, c, d)

  pub claims_few : AreFew l
  claims_few =
      let regions = regions_hold l is in
      let few = regions.few in
      let less = regions_few in
      record { exits = functions_exits_few (bases_of l.rows (functions_of l)) 0 (functions_of l); regions = omega (arith, few, less); loops = all_loops_few }
