-- The blocks of a laid program stand one behind the other, at multiples of 4.
use Rattle.std.proofs.Common.{◌≡◌, ◌≢◌, ℕ, zero, suc, ◌+◌, ◌%◌, ◌<◌, ◌≤◌, Bool, true, false, not, List, [], ◌∷◌, ◌++◌, length, refl, sym, ap, ◌∙◌, subst, ⊎_elim, arith, Contains}
use Rattle.std.specs.Prelude.{◌==◌, if◌then◌else◌, slice_index}
use Rattle.std.proofs.lemmas.Bool.{cases_eq}
use Rattle.std.proofs.lemmas.Bool.Decides.{nat_tests}
use Rattle.std.proofs.lemmas.List.Elements.{Contains-append_left, Contains-append_right}
use Rattle.asm_items.specs.declared.item.Item.{Item}
use Rattle.asm_items.specs.Items.{total}
use Rattle.asm_items.specs.Placings.{Blocks, base_of, block_of, blocks_of, start_of, starts_from}
use Rattle.asm_items.proofs.MoveLemmas.{size_some}
use Rattle.asm_forms.proofs.LikeLemmas.{formed_like}
use Rattle.asm_graphs.specs.Laid.{last_of}
use Rattle.asm_placed.specs.Written.{in_scratchpad}
use Rattle.asm_graphs.specs.Promised.{Promised, block_in, blocks_in}
use Rattle.asm_placed.proofs.Alike.{block_alike, blocks_alike, blocks_long, functions_long, some_alike}
use Rattle.asm_program.specs.Functions.{at_once, block_count, function_in, graph_of, program_items}
use Rattle.asm_program.proofs.Promises.{promised}
use Rattle.claims_definition.proofs.Spaces.{items_fours}
use Rattle.claims_definition.specs.ClaimLaws.{IsSettled}
use Rattle.claims_definition.specs.Listed.{Laid, by_address, functions_of, placing}
use Rattle.claims_definition.specs.Orders.{lying}

starts_fours : (a : ℕ) (bs : Blocks) (b : ℕ) → a % 4 ≡ 0 → slice_index (starts_from a bs) b % 4 ≡ 0
starts_fours a [] zero e = refl
starts_fours a [] (suc b) e = refl
starts_fours a (xs ∷ bs) zero e = e
starts_fours a (xs ∷ bs) (suc b) e = let h = items_fours xs in starts_fours (a + total xs) bs b (omega (arith, e, h))

pub items_some : (xs : List Item) → xs ≢ [] → 4 ≤ total xs
items_some [] h = absurd (h refl)
items_some (x ∷ xs) h = let s = size_some x in omega (arith, s)

-- functions whose numbers are below n
abbrev pub AllBelow : ℕ → List ℕ → Type 0
AllBelow n [] = Unit {0}
AllBelow n (f ∷ fs) = (f < n) × AllBelow n fs

below_append : (n : ℕ) (xs ys : List ℕ) → AllBelow n xs → AllBelow n ys → AllBelow n (xs ++ ys)
below_append n [] ys h k = k
below_append n (x ∷ xs) ys h k = (h.0, below_append n xs ys h.1 k)

lying_below : (here : ℕ → Bool) (f n m : ℕ) → f + n ≤ m → AllBelow m (lying here f n)
lying_below here f zero m h = tt
lying_below here f (suc n) m h = by_test (here f) (lying_below here (suc f) n m (omega (arith, h)))
  where
    by_test : (b : Bool) → AllBelow m (lying here (suc f) n) → AllBelow m (if b then f ∷ lying here (suc f) n else lying here (suc f) n)
    by_test true k = (omega (arith, h), k)
    by_test false k = k

module _ (l : Laid) where
  pub start_fours : (f b : ℕ) → base_of (placing l) f % 4 ≡ 0 → start_of (placing l) f b % 4 ≡ 0
  start_fours f b e = starts_fours (base_of (placing l) f) (blocks_of (placing l) f) b e

  pub last_fours : (f b : ℕ) → base_of (placing l) f % 4 ≡ 0 → last_of (placing l) f b % 4 ≡ 0
  last_fours f b e =
      let s = start_fours f b e in
      let t = items_fours (block_of (placing l) f b) in
      omega (arith, s, t)

  module _ (is : IsSettled l) where
    promises : Promised (graph_of l.memory l.program) (program_items l.memory l.program)
    promises = promised l.memory l.program is.program is.frames

    pub count : length (functions_of l) ≡ suc (length l.program.functions)
    count = functions_long (program_items l.memory l.program) (functions_of l) (formed_like l.rows (program_items l.memory l.program)) ∙ promises.functions

    pub blocks_count : (f : ℕ) → length (blocks_of (placing l) f) ≡ block_count l.memory l.program f
    blocks_count f =
        blocks_long (blocks_in (program_items l.memory l.program) f) (blocks_in (functions_of l) f) (blocks_alike (program_items l.memory l.program) (functions_of l) f (formed_like l.rows (program_items l.memory l.program)))
        ∙ promises.blocks f

    -- each block has an instruction
    pub block_some : (f b : ℕ) → f < suc (length l.program.functions) → b < block_count l.memory l.program f → 4 ≤ total (block_of (placing l) f b)
    block_some f b there inside =
        items_some (block_of (placing l) f b)
        (some_alike (block_in (program_items l.memory l.program) f b) (block_in (functions_of l) f b) (block_alike (program_items l.memory l.program) (functions_of l) f b (formed_like l.rows (program_items l.memory l.program))) (promises.some f b there inside))

    pub order_below : AllBelow (suc (length l.program.functions)) (by_address l)
    order_below =
        let n = length (functions_of l) in
        let many = count in
        below_append (suc (length l.program.functions)) (lying (λ f. not (in_scratchpad l.rows f)) 0 n) (lying (in_scratchpad l.rows) 0 n) (lying_below (λ f. not (in_scratchpad l.rows f)) 0 n (suc (length l.program.functions)) (omega (arith, many)))
        (lying_below (in_scratchpad l.rows) 0 n (suc (length l.program.functions)) (omega (arith, many)))

    -- a function of the program has its blocks, and one more where it doesn't leave at once
    pub many_blocks : (f : ℕ) → f < length l.program.functions → length (function_in l.program f).blocks ≤ length (blocks_of (placing l) f)
    many_blocks f low =
        let same = blocks_count f in
        let other : (f == length l.program.functions) ≡ false = grind (arith, nat_tests, low) in
        let many : block_count l.memory l.program f ≡ length (function_in l.program f).blocks + (if at_once l.memory l.program f then 0 else 1) = ap (λ b. if b then 1 else (length (function_in l.program f).blocks + (if at_once l.memory l.program f then 0 else 1))) other in
        omega (arith, same, many)

    -- each function has its place in the order of addresses
    lying_there : (here : ℕ → Bool) (f n g : ℕ) → f ≤ g → g < f + n → here g ≡ true → Contains (lying here f n) g
    lying_there here f zero g low high e = absurd (omega (arith, low, high))
    lying_there here f (suc n) g low high e =
        ⊎_elim
        (λ (same : f ≡ g). subst (λ b. Contains (if b then f ∷ lying here (suc f) n else lying here (suc f) n) g) (sym (ap here same ∙ e)) (0, omega arith, same))
        (λ (other : f ≢ g). by_test (here f) (lying_there here (suc f) n g (omega (arith, low, other)) (omega (arith, high)) e))
        (cases_eq f g)
      where
        by_test : (b : Bool) → Contains (lying here (suc f) n) g → Contains (if b then f ∷ lying here (suc f) n else lying here (suc f) n) g
        by_test true h = let low = h.1 in (suc h.0, omega (arith, low), h.2)
        by_test false h = h

    pub all_in_order : (f : ℕ) → f < suc (length l.program.functions) → Contains (by_address l) f
    all_in_order f low = by_row (in_scratchpad l.rows f) refl
      where
        n : ℕ
        n = length (functions_of l)

        inside : f < 0 + n
        inside = let many = count in omega (arith, low, many)

        by_row : (b : Bool) → in_scratchpad l.rows f ≡ b → Contains (by_address l) f
        by_row false e = Contains-append_left (lying (λ g. not (in_scratchpad l.rows g)) 0 n) (lying (in_scratchpad l.rows) 0 n) f (lying_there (λ g. not (in_scratchpad l.rows g)) 0 n f (omega arith) inside (ap not e))
        by_row true e = Contains-append_right (lying (λ g. not (in_scratchpad l.rows g)) 0 n) (lying (in_scratchpad l.rows) 0 n) f (lying_there (in_scratchpad l.rows) 0 n f (omega arith) inside e)
