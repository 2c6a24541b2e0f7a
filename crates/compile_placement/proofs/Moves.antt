-- A placement that has the numbers of some items.
use Rattle.std.proofs.Common.{◌≡◌, ℕ, zero, suc, ◌+◌, ◌^◌, ◌<◌, ◌≤◌, Bool, true, false, true≢false, Some, List, [], ◌∷◌, length, map, refl, sym, ap, subst, ◌∙◌, arith}
use Rattle.std.specs.Prelude.{if◌then◌else◌, slice_get, slice_index_or}
use Rattle.std.proofs.lemmas.List.{get_or_past, length-map}
use Rattle.std.proofs.lemmas.List.FromFn.{length-map-range_with_len}
use Rattle.rv_core.specs.Table.{Table}
use Rattle.code_flow_system.specs.declared.cert.Part.{Part}
use Rattle.low_ir.specs.Arrays.{array_size}
use Rattle.low_ir.specs.Code.{Object}
use Rattle.low_ir.specs.Places.{Placed}
use Rattle.image_frames.specs.Memories.{Placement}
use Rattle.image_frames.specs.Placings.{is_among, MovesItems}
use Rattle.image_definition.specs.Sizes.{HasRoom, array_sizes, code_size, function_sizes, sizes_placed}
use Rattle.claims_definition.specs.Listed.{Laid}
use Rattle.claims_image.specs.Images.{laid_of}
use Rattle.claims_definition.specs.Movables.{is_local}
use Rattle.spm_placement.specs.declared.item.Item.{Item}
use Rattle.spm_placement.specs.Sets.{AreBest, bytes, number}
use Rattle.spm_placement.proofs.Taking.{not_among, taken}
use Rattle.compile_stages.specs.Placed.{CanBePlaced, Fits, HasNumbers, placed_bytes}
use Rattle.compile_placement.specs.Laws.{IsChoice, items_of}
use Rattle.compile_placement.proofs.Numbers.{apart, no_local}
use Rattle.compile_placement.proofs.Sizes.{items_take}

-- what a list has lies within it
within : {X : Type 0} (xs : List X) (o : ℕ) (x : X) → slice_get xs o ≡ Some x → o < length xs
within [] o x e = cc
within (y ∷ xs) zero x e = omega arith
within (y ∷ xs) (suc o) x e = let h = within xs o x e in omega (arith, h)

-- the start code is never placed
stays_out : (ids : List ℕ) (p : Placed) (pl : Placement) → HasNumbers ids p pl → slice_index_or pl.functions (length p.functions) false ≡ false
stays_out ids p pl placed = get_or_past pl.functions (length p.functions) false (let e = placed.function_count in omega (arith, e))

module _ (t : Table) (ps : List Part) (before : Placement) (p : Placed) (s : List Item) (pl : Placement) (choice : IsChoice t ps before p s pl) where
  abbrev l : Laid
  l = laid_of before p

  abbrev ids : List ℕ
  ids = map number s

  -- no local array is named
  unnamed : (o : ℕ) (x : Object) → slice_get p.objects o ≡ Some x → is_local x.storage ≡ true → slice_index_or pl.objects o false ≡ false
  unnamed o x is local =
      choice.placed.arrays o (within p.objects o x is)
      ∙ not_among s (items_of t ps l) (length p.functions + o) choice.part (no_local t ps l o x is local)

  pub moves : MovesItems pl p
  moves = record {
    start = stays_out ids p pl choice.placed;
    arrays = λ o x is named local. true≢false (sym named ∙ unnamed o x is (ap is_local local));
  }

  pub takes : placed_bytes pl p ≡ bytes s
  takes =
      items_take (is_among ids) t ps before pl p choice.placed.functions
      (λ j x is.
      subst (λ n. (slice_index_or pl.objects n false ≡ is_among ids (length p.functions + n)) × (is_local x.storage ≡ true → slice_index_or pl.objects n false ≡ false)) (sym (own j))
      (choice.placed.arrays j (within p.objects j x is), λ local. unnamed j x is local))
      ∙ taken (items_of t ps l) s (apart t ps l) choice.part
    where
      own : (n : ℕ) → 0 + n ≡ n
      own n = omega arith

-- what has no mark takes nothing
none_taken : (marks : List Bool) (k : ℕ) (sizes : List ℕ) → ((j : ℕ) → k ≤ j → j < k + length sizes → slice_index_or marks j false ≡ false) → sizes_placed marks k sizes ≡ 0
none_taken marks k [] none = refl
none_taken marks k (n ∷ ns) none =
    let here : (if slice_index_or marks k false then n else 0) ≡ 0 = ap (λ b. if b then n else 0) (none k (omega arith) (omega arith)) in
    let rest = none_taken marks (suc k) ns (λ j from to. none j (omega (arith, from)) (omega (arith, to))) in
    omega (arith, here, rest)

pub nothing_fits : (p : Placed) → HasRoom p → CanBePlaced [] p
nothing_fits p room pl placed =
    let functions = none_taken pl.functions 0 (function_sizes p) (λ j from to. placed.functions j (few j to)) in
    let arrays = none_taken pl.objects 0 (array_sizes p) (λ j from to. placed.arrays j (many j to)) in
    record {
      sizes = record { room = room; placed = omega (arith, functions, arrays); start = stays_out [] p pl placed };
      moves = record {
        start = stays_out [] p pl placed;
        arrays = λ o x is named. absurd (true≢false (sym named ∙ placed.arrays o (within p.objects o x is)));
      };
    }
  where
    few : (j : ℕ) → j < 0 + length (function_sizes p) → j < length p.functions
    few j lt = let e = length-map-range_with_len (code_size p) 0 (length p.functions) in omega (arith, lt, e)

    many : (j : ℕ) → j < 0 + length (array_sizes p) → j < length p.objects
    many j lt = let e = length-map p.objects array_size in omega (arith, lt, e)

module _ (t : Table) (ps : List Part) (before : Placement) (p : Placed) (capacity : ℕ) (ids : List ℕ) (best : AreBest (items_of t ps (laid_of before p)) capacity ids) (pl : Placement) (placed : HasNumbers ids p pl) where
  choice : IsChoice t ps before p best.chosen pl
  choice = record { part = best.best.part; placed = subst (λ ns. HasNumbers ns p pl) best.numbers placed }

  pub fits : placed_bytes pl p ≤ capacity
  fits = let same = takes t ps before p best.chosen pl choice in let few = best.best.fits in omega (arith, same, few)

  pub can_be : HasRoom p → capacity ≤ 2 ^ 16 → Fits pl p
  can_be room small =
      let few = fits in
      record {
        sizes = record { room = room; placed = omega (arith, few, small); start = stays_out ids p pl placed };
        moves = moves t ps before p best.chosen pl choice;
      }
