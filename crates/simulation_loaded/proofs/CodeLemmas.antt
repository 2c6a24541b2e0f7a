-- Items that stand in other forms are the code of a layout.
use Rattle.std.proofs.Common.{◌≡◌, ℕ, zero, suc, ◌+◌, ◌%◌, ◌^◌, ◌≤◌, List, [], ◌∷◌, ◌++◌, length, map, Contains, refl, ap, arith}
use Rattle.std.specs.Prelude.{All, slice_index, slice_index_or}
use Rattle.std.proofs.lemmas.List.Elements.{All-cons, All-head, All-nil, All-tail}
use Rattle.rv_core.specs.declared.regions.Region.{Region}
use Rattle.asm_items.specs.declared.item.Item.{Item}
use Rattle.asm_items.specs.Items.{size, total}
use Rattle.asm_items.specs.Placings.{Blocks, starts_from}
use Rattle.asm_items.specs.Standing.{HasItems}
use Rattle.asm_items.proofs.MoveLemmas.{size_aligned, size_some}
use Rattle.asm_writing.specs.Forms.{AreLike}
use Rattle.claims_definition.specs.Lines.{Access, access_at, items_accesses, blocks_accesses}
use Rattle.claims_definition.specs.Touches.{Touch}
use Rattle.simulation_relation.specs.Noted.{Noted}
use Rattle.simulation_relation.specs.Layouts.{Layout, HasCode}
use Rattle.simulation_loaded.proofs.NotedLemmas.{item_of, touch_of}

module _ {A : Type 0} (P : A → Type 0) where
  pub all_front : (xs ys : List A) → All P (xs ++ ys) → All P xs
  all_front [] ys h = All-nil P
  all_front (x ∷ xs) ys h = All-cons P x xs (All-head P x (xs ++ ys) h) (all_front xs ys (All-tail P x (xs ++ ys) h))

  pub all_behind : (xs ys : List A) → All P (xs ++ ys) → All P ys
  all_behind [] ys h = h
  all_behind (x ∷ xs) ys h = all_behind xs ys (All-tail P x (xs ++ ys) h)

-- the accesses of a block are among those of its function
pub block_accesses : (P : Access → Type 0) (regions : ℕ → Region) (a : ℕ) (tss : List (List Touch)) (bs : Blocks) (b : ℕ) → All P (blocks_accesses regions a tss bs)
    → All P (items_accesses regions (slice_index (starts_from a bs) b) (slice_index_or tss b []) (slice_index_or bs b []))
block_accesses P regions a [] bs b h = All-nil P
block_accesses P regions a (ts ∷ tss) [] b h = none (slice_index (starts_from a []) b) (slice_index_or (ts ∷ tss) b [])
  where
    none : (c : ℕ) (us : List Touch) → All P (items_accesses regions c us [])
    none c [] = All-nil P
    none c (u ∷ us) = All-nil P
block_accesses P regions a (ts ∷ tss) (xs ∷ bs) zero h = all_front P (items_accesses regions a ts xs) (blocks_accesses regions (a + total xs) tss bs) h
block_accesses P regions a (ts ∷ tss) (xs ∷ bs) (suc b) h = block_accesses P regions (a + total xs) tss bs b (all_behind P (items_accesses regions a ts xs) (blocks_accesses regions (a + total xs) tss bs) h)

pub has_code : (l : Layout) (f stop a : ℕ) (xs : List Noted) (ys : List Item) → f ≤ length l.program.functions → AreLike (map item_of xs) ys → HasItems l.starts l.code f a ys
    → All (Contains (l.accesses f)) (items_accesses l.regions a (map touch_of xs) ys) → a % 4 ≡ 0 → a + total ys ≡ stop → stop ≤ 2 ^ 30 → HasCode l f stop a xs
has_code l f stop a [] ys there like h listed even e room = let none : total ys ≡ 0 = ap total like in omega (arith, e, none)
has_code l f stop a (x ∷ xs) [] there like h listed even e room = absurd like
has_code l f stop a (x ∷ xs) (y ∷ ys) there like h listed even e room =
    let some = size_some y in
    let fours = size_aligned y in
    let here = access_at l.regions a x.touch in
    let rest = items_accesses l.regions (a + size y) (map touch_of xs) ys in (
      a + size y,
      record {
        form = y;
        like = like.0;
        address = record { low = omega (arith, e, room, some); aligned = even };
        words = h.0;
        exit = h.1;
        ends = refl;
        room = omega (arith, e, room);
        there = there;
        listed = all_front (Contains (l.accesses f)) here rest listed;
      },
      has_code l f stop (a + size y) xs ys there like.1 h.2 (all_behind (Contains (l.accesses f)) here rest listed) (omega (arith, even, fours)) (omega (arith, e)) room,
    )
