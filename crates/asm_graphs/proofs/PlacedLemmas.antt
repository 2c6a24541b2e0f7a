-- Placed items are laid code.
use Rattle.std.proofs.Common.{◌≡◌, ◌⊎◌, ⊎_elim, inl, inr, ℕ, zero, suc, ◌+◌, ◌%◌, ◌^◌, ◌≤◌, ◌<◌, List, [], ◌∷◌, length, refl, sym, subst, arith}
use Rattle.std.specs.Prelude.{slice_index, slice_index_or}
use Rattle.std.proofs.lemmas.Bool.Decides.{leb_tells}
use Rattle.code_flow_system.specs.Moves.{Code}
use Rattle.asm_items.specs.declared.item.Item.{Item}
use Rattle.asm_items.specs.Offsets.{IsCodeAddress}
use Rattle.asm_items.specs.Items.{total}
use Rattle.asm_items.specs.Placings.{Blocks, Placing, starts_from, blocks_size, blocks_of, block_of, base_of, start_of}
use Rattle.asm_items.proofs.MoveLemmas.{size_aligned}
use Rattle.asm_items.proofs.PlacedLemmas.{items_stand, block_stands}
use Rattle.asm_graphs.specs.Graphs.{Graph, IsShaped}
use Rattle.asm_graphs.specs.Laid.{IsLaid}
use Rattle.asm_graphs.specs.Placed.{IsPlaced}

total_aligned : (xs : List Item) → total xs % 4 ≡ 0
total_aligned [] = refl
total_aligned (x ∷ xs) = let a = size_aligned x in let b = total_aligned xs in omega arith

-- each block of a function begins at an address of code, and so does one that isn't there
start_at : (bs : Blocks) (a b : ℕ) → a % 4 ≡ 0 → a + blocks_size bs < 2 ^ 30 → IsCodeAddress (slice_index (starts_from a bs) b)
start_at [] a b h s = record { low = omega arith; aligned = refl }
start_at (xs ∷ bs) a zero h s = record { low = omega arith; aligned = h }
start_at (xs ∷ bs) a (suc b) h s = let e = total_aligned xs in start_at bs (a + total xs) b (omega arith) (omega arith)

no_start : (a b : ℕ) → IsCodeAddress (slice_index (starts_from a []) b)
no_start a b = record { low = omega arith; aligned = refl }

beyond : {A : Type 0} (xs : List A) (n : ℕ) (d : A) → length xs ≤ n → slice_index_or xs n d ≡ d
beyond [] n d h = refl
beyond (x ∷ xs) zero d h = absurd (omega arith)
beyond (x ∷ xs) (suc n) d h = beyond xs n d (omega arith)

first_start : (bs : Blocks) (a : ℕ) → 0 < length bs → slice_index (starts_from a bs) 0 ≡ a
first_start [] a h = absurd (omega arith)
first_start (xs ∷ bs) a h = refl

less_or : (m n : ℕ) → (m < n) ⊎ (n ≤ m)
less_or m n = ⊎_elim (λ h. inr h.1) (λ h. let k = h.1 in inl (omega arith)) (leb_tells n m)

module _ (g : Graph) (l : Placing) (c : Code) (sh : IsShaped g) (placed : IsPlaced g l c) where
  in_blocks : (f b : ℕ) → b < g.blocks f → b < length (blocks_of l f)
  in_blocks f b h = let e = placed.blocks f in omega arith

  begins_at : (f : ℕ) → f < g.functions → start_of l f 0 ≡ base_of l f
  begins_at f i = first_start (blocks_of l f) (base_of l f) (in_blocks f 0 (sh.some f i))

  place : (f b : ℕ) → IsCodeAddress (start_of l f b)
  place f b =
      let count = placed.functions in
      ⊎_elim
      (λ (i : f < g.functions). start_at (blocks_of l f) (base_of l f) b (placed.aligned f i) (placed.low f i))
      (λ (i : g.functions ≤ f).
      let none : blocks_of l f ≡ [] = beyond l.functions f [] (omega arith) in
      subst (λ bs. IsCodeAddress (slice_index (starts_from (base_of l f) bs) b)) (sym none) (no_start (base_of l f) b))
      (less_or f g.functions)

  pub is_laid : IsLaid g l c
  is_laid = record {
    functions = placed.functions;
    blocks = placed.blocks;
    stands = λ f b i j.
        items_stand c (start_of l) f (start_of l f b) (block_of l f b)
        (block_stands c (start_of l) f (base_of l f) b (blocks_of l f) (in_blocks f b j) (placed.words f i)) (placed.exits f b i j);
    keeps = placed.keeps;
    some = placed.some;
    latch = placed.latch;
    apart = λ f h d i j. let e = begins_at f i in let k = begins_at h j in ⊎_elim (λ q. inl (omega arith)) (λ q. inr (omega arith)) (placed.apart f h d i j);
    room = λ f i. let low = placed.low f i in omega arith;
    places = place;
    no_link = placed.no_link;
  }
