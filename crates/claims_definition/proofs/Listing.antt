-- What items access is among the accesses of their program.
use Rattle.std.proofs.Common.{◌≡◌, ℕ, zero, suc, ◌+◌, ◌<◌, ◌≤◌, List, [], ◌∷◌, length, Some, sym, subst, arith, Contains}
use Rattle.std.specs.Prelude.{slice_get, slice_index, slice_index_or, take}
use Rattle.std.proofs.lemmas.List.Elements.{Contains-append_left, Contains-append_right}
use Rattle.std.proofs.lemmas.Option.{same_Some}
use Rattle.rv_core.specs.declared.regions.Region.{Region}
use Rattle.asm_items.specs.declared.item.Item.{Item}
use Rattle.asm_items.specs.Items.{size, total}
use Rattle.asm_items.specs.Placings.{Blocks, base_of, block_of, blocks_of, start_of, starts_from}
use Rattle.claims_definition.specs.Lines.{Access, access_at, blocks_accesses, items_accesses}
use Rattle.claims_definition.specs.Touches.{Touch, program_touches}
use Rattle.claims_definition.specs.ClaimLaws.{IsSettled}
use Rattle.claims_definition.specs.Listed.{Laid, accesses_in, accesses_of, by_address, placing, touches_at}
use Rattle.claims_definition.proofs.Blocks.{all_in_order}
use Rattle.claims_definition.proofs.Marks.{there_flat}

module _ (regions : ℕ → Region) (t : Touch) (x : Access) where
  in_items : (a : ℕ) (ts : List Touch) (xs : List Item) (j : ℕ) → j < length xs → slice_get ts j ≡ Some t → Contains (access_at regions (a + total (take j xs)) t) x → Contains (items_accesses regions a ts xs) x
  in_items a [] xs j low e h = cc
  in_items a (u ∷ ts) [] j low e h = absurd (omega (arith, low))
  in_items a (u ∷ ts) (i ∷ xs) zero low e h =
      let z : a + total (take 0 (i ∷ xs)) ≡ a = omega arith in
      let here : Contains (access_at regions a t) x = subst (λ n. Contains (access_at regions n t) x) z h in
      Contains-append_left (access_at regions a u) (items_accesses regions (a + size i) ts xs) x (subst (λ v. Contains (access_at regions a v) x) (sym (same_Some u t e)) here)
  in_items a (u ∷ ts) (i ∷ xs) (suc j) low e h =
      let z : a + total (take (suc j) (i ∷ xs)) ≡ a + size i + total (take j xs) = omega arith in
      Contains-append_right (access_at regions a u) (items_accesses regions (a + size i) ts xs) x (in_items (a + size i) ts xs j (omega (arith, low)) e (subst (λ n. Contains (access_at regions n t) x) z h))

  in_blocks : (a : ℕ) (tss : List (List Touch)) (bs : Blocks) (b j : ℕ) → b < length bs → j < length (slice_index_or bs b []) → slice_get (slice_index_or tss b []) j ≡ Some t → Contains (access_at regions (slice_index (starts_from a bs) b + total (take j (slice_index_or bs b []))) t) x
      → Contains (blocks_accesses regions a tss bs) x
  in_blocks a [] bs b j less low e h = no_touch j e
    where
      no_touch : (n : ℕ) → slice_get [] n ≡ Some t → Contains (blocks_accesses regions a [] bs) x
      no_touch n e = cc
  in_blocks a (ts ∷ tss) [] b j less low e h = absurd (omega (arith, less))
  in_blocks a (ts ∷ tss) (xs ∷ bs) zero j less low e h = Contains-append_left (items_accesses regions a ts xs) (blocks_accesses regions (a + total xs) tss bs) x (in_items a ts xs j low e h)
  in_blocks a (ts ∷ tss) (xs ∷ bs) (suc b) j less low e h = Contains-append_right (items_accesses regions a ts xs) (blocks_accesses regions (a + total xs) tss bs) x (in_blocks (a + total xs) tss bs b j (omega (arith, less)) low e h)

pub accesses_listed : (l : Laid) → IsSettled l → (f b j : ℕ) (t : Touch) (x : Access) → f ≤ length l.program.functions → b < length (blocks_of (placing l) f) → j < length (block_of (placing l) f b) → slice_get (touches_at l f b) j ≡ Some t
    → Contains (access_at l.regions (start_of (placing l) f b + total (take j (block_of (placing l) f b))) t) x → Contains (accesses_of l) x
accesses_listed l is f b j t x there less low e h =
    let own = slice_index_or (program_touches l.memory l.program) f [] in
    there_flat (accesses_in l) (by_address l) f x (all_in_order l is f (omega (arith, there))) (in_blocks l.regions t x (base_of (placing l) f) own (blocks_of (placing l) f) b j less low e h)
