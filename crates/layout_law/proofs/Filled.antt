-- In each region that a line names there is a segment that isn't empty.
use Rattle.std.proofs.Common.{◌≡◌, ◌≢◌, ℕ, suc, ◌-◌, ◌*◌, ◌<◌, ◌≤◌, Bool, true, false, not, List, [], ◌∷◌, length, Option, Some, None, refl, sym, ap, ◌∙◌, ⊎_elim, arith, if◌then◌else◌}
use Rattle.std.specs.Prelude.{All, nat_le, slice_get, slice_index_or}
use Rattle.std.proofs.lemmas.Bool.{cases_eq, false≢true}
use Rattle.std.proofs.lemmas.List.Elements.{All-cons, All-head, All-nil, All-tail}
use Rattle.rv_core.specs.declared.image.Segment.{Segment}
use Rattle.rv_core.specs.declared.regions.Region.TheVariants.{Flash, Spm, Ram}
use Rattle.rv_core.specs.Regions.{region_start}
use Rattle.code_flow_system.specs.declared.claims.Within.{Within}
use Rattle.asm_items.specs.Items.{total}
use Rattle.asm_items.specs.Placings.{Blocks, base_of, blocks_of, blocks_size}
use Rattle.asm_placed.specs.Written.{in_scratchpad}
use Rattle.wcc_base.specs.Sizes.{rounded}
use Rattle.low_ir.specs.Arrays.{array_size}
use Rattle.low_ir.specs.declared.object.Kind.{Kind}
use Rattle.low_ir.specs.declared.object.Kind.TheVariants.{Unsigned8, Signed8, Unsigned16, Signed16, Word}
use Rattle.low_ir.specs.declared.object.Storage.{Storage}
use Rattle.low_ir.specs.declared.object.Storage.TheVariants.{Constant as Fixed', Global, Local}
use Rattle.low_ir.specs.Code.{Object}
use Rattle.low_ir.specs.Kinds.{kind_bytes}
use Rattle.low_ir.specs.Places.{Placed}
use Rattle.asm_program.specs.Functions.{PlacedFunction}
use Rattle.asm_program.specs.Frames.{frame_end}
use Rattle.asm_program.specs.Numbers.{ram}
use Rattle.asm_program.proofs.GraphLemmas.{shaped}
use Rattle.image_segments.specs.Rows.{small_room, row_by, row_room, spot_of}
use Rattle.image_segments.specs.declared.rows.Row.TheVariants.{Scratchpad}
use Rattle.image_segments.proofs.RowLemmas.{lies}
use Rattle.image_segments.specs.Starts.{placed_end, region_of, starts_behind}
use Rattle.image_segments.specs.Segments.{all_segments, code_segment, data_segment, row_segment, spots_in, values_in}
use Rattle.image_segments.proofs.EvenLemmas.{spot_here, spots_below}
use Rattle.image_segments.proofs.OrderLemmas.{in_present}
use Rattle.image_frames.specs.Frames.{end_from, frame_at, frames_end}
use Rattle.image_frames.specs.Memories.{Placement, region_by, regions_of}
use Rattle.image_frames.proofs.FrameLemmas.{ends}
use Rattle.image_definition.specs.Images.{FitsImage, data_in, flash_bytes, formed_in, image_in, row_size, rows_in, scratchpad_bytes}
use Rattle.image_definition.proofs.LaidLemmas.{fit_segments}
use Rattle.claims_definition.specs.Lines.{same_region}
use Rattle.claims_definition.specs.ClaimLaws.{IsSettled}
use Rattle.claims_definition.specs.Listed.{placing, regions_of as lines_of}
use Rattle.claims_definition.proofs.Blocks.{block_some}
use Rattle.claims_image.specs.Images.{laid_of}
use Rattle.layout_relation.specs.Segments.{AreFilled, IsFilled}
use Rattle.layout_relation.specs.Items.{HasElements}
use Rattle.image_frames.specs.Placings.{MovesItems}
use Rattle.layout_law.proofs.Counting.{flash_row}
use Rattle.layout_law.proofs.Lying.{InRow, function_in_row}
use Rattle.layout_law.proofs.Quiet.{IsQuiet, quiet}

first_room : (bs : Blocks) → total (slice_index_or bs 0 []) ≤ blocks_size bs
first_room [] = omega arith
first_room (xs ∷ bs) = omega arith

-- a function's frame has a word at least
frames_some : (p : Placed) (at k : ℕ) (fns : List PlacedFunction) → 0 < length fns → at < end_from p at k fns
frames_some p at k [] some = absurd (omega (arith, some))
frames_some p at k (fn ∷ fns) some = let h = ends p (frame_end (frame_at p at k fn)) (suc k) fns in omega (arith, h)

-- so has an array with elements
room_some : (kind : Kind) (n : ℕ) → 0 < n → 0 < rounded (kind_bytes kind * n)
room_some Unsigned8 n h = omega (arith, h)
room_some Signed8 n h = omega (arith, h)
room_some Unsigned16 n h = omega (arith, h)
room_some Signed16 n h = omega (arith, h)
room_some Word n h = omega (arith, h)

-- an array that isn't placed lies elsewhere
not_spm : (s : Storage) (small : Bool) → same_region Spm (region_of (row_by s small)) ≡ false
not_spm Fixed' small = refl
not_spm Global true = refl
not_spm Global false = refl
not_spm Local true = refl
not_spm Local false = refl

module _ (pl : Placement) (p : Placed) (is : IsSettled (laid_of pl p)) (fits : FitsImage pl p) (moves : MovesItems pl p) where
  abbrev segments : List Segment
  segments = (image_in pl p).segments

  abbrev all : List Segment
  all = all_segments (data_in pl p) (flash_bytes pl p) (scratchpad_bytes pl p)

  -- the start code takes some of flash
  start_some : 4 ≤ blocks_size (blocks_of (placing (laid_of pl p)) (length p.functions))
  start_some =
      let g = shaped (laid_of pl p).memory p is.program in
      let own = block_some (laid_of pl p) is (length p.functions) 0 (omega arith) (g.some (length p.functions) (omega arith)) in
      let room = first_room (blocks_of (placing (laid_of pl p)) (length p.functions)) in
      omega (arith, own, room)

  flash_some : 0 < length (flash_bytes pl p)
  flash_some = in_flash (in_scratchpad (rows_in pl p) (length p.functions)) moves.start (function_in_row pl p is (length p.functions) (omega arith))
    where
      in_flash : (b : Bool) → b ≡ false → InRow b 0 (row_size (λ g. not (in_scratchpad (rows_in pl p) g)) 0 (formed_in pl p)) (placed_end (spots_in (data_in pl p))) (row_size (in_scratchpad (rows_in pl p)) 0 (formed_in pl p)) (base_of (placing (laid_of pl p)) (length p.functions)) (blocks_size (blocks_of (placing (laid_of pl p)) (length p.functions)))
          → 0 < length (flash_bytes pl p)
      in_flash true e h = absurd (false≢true (sym e))
      in_flash false e h = let to = h.1 in let row = flash_row pl p in let some = start_some in omega (arith, to, row, some)

  flash : IsFilled segments Flash
  flash =
      let some = flash_some in
      let room = (fit_segments pl p fits).flash_code in
      record {
        segment = code_segment 0 (flash_bytes pl p);
        there = in_present all (code_segment 0 (flash_bytes pl p)) (0, omega arith, refl) (λ none. absurd (omega (arith, some, none)));
        some = some;
        lies = record { from = omega arith; to = omega (arith, room) };
      }

  frames : IsFilled segments Ram
  frames =
      let main = is.program.main in
      let some = frames_some p ram 0 p.functions (omega (arith, main)) in
      let s = data_segment (region_start Ram) [] (frames_end p - region_start Ram) true in
      let room = fits.memory.ram in
      record {
        segment = s;
        there = in_present all s (4, omega arith, refl) (λ none. absurd (omega (arith, some, none)));
        some = omega (arith, some);
        lies = record { from = omega arith; to = omega (arith, some, room) };
      }

  scratchpad : row_room 1 (spots_in (data_in pl p)) ≢ 0 → IsFilled segments Spm
  scratchpad full =
      let s = row_segment (data_in pl p) 1 (values_in (data_in pl p) 1) true in
      let room = fits.memory.scratchpad in
      record { segment = s; there = in_present all s (2, omega arith, refl) full; some = omega (arith, full); lies = record { from = omega arith; to = omega (arith, room) } }

  -- where no row of arrays is there, no line names the scratchpad
  no_array : HasElements p → row_room 1 (spots_in (data_in pl p)) ≡ 0 → (o : ℕ) → same_region Spm (regions_of pl p o) ≡ false
  no_array elements none o = by_array (slice_get p.objects o) refl
    where
      by_place : (x : Object) → slice_get p.objects o ≡ Some x → (b : Bool) → slice_index_or pl.objects o false ≡ b → same_region Spm (region_of (if b then Scratchpad else row_by x.storage (nat_le (array_size x) small_room))) ≡ false
      by_place x e false t = not_spm x.storage (nat_le (array_size x) small_room)
      by_place x e true t =
          let ss = spots_in (data_in pl p) in
          let there = spot_here pl.objects o p.objects x e ∙ ap (λ b. Some (spot_of b x)) t in
          let lie = lies (starts_behind (frames_end p) ss) ss o (spot_of true x) (spots_below pl.objects 0 p.objects) there in
          let from = lie.from in
          let to = lie.to in
          let some = room_some x.kind x.size (elements o x e) in
          absurd (omega (arith, from, to, some, none))

      by_array : (found : Option Object) → slice_get p.objects o ≡ found → same_region Spm (region_by (slice_index_or pl.objects o false) found) ≡ false
      by_array None e = refl
      by_array (Some x) e = by_place x e (slice_index_or pl.objects o false) refl

  pub all_filled : HasElements p → All (AreFilled segments) (lines_of (laid_of pl p))
  all_filled elements =
      ⊎_elim
      (λ (none : row_room 1 (spots_in (data_in pl p)) ≡ 0). where_quiet (lines_of (laid_of pl p)) (quiet (laid_of pl p) (no_array elements none)))
      (λ (full : row_room 1 (spots_in (data_in pl p)) ≢ 0). where_full full (lines_of (laid_of pl p)))
      (cases_eq (row_room 1 (spots_in (data_in pl p))) 0)
    where
      where_full : row_room 1 (spots_in (data_in pl p)) ≢ 0 → (ws : List Within) → All (AreFilled segments) ws
      where_full full [] = All-nil (AreFilled segments)
      where_full full (w ∷ ws) = All-cons (AreFilled segments) w ws (record { flash = λ e. flash; spm = λ e. scratchpad full; ram = λ e. frames }) (where_full full ws)

      where_quiet : (ws : List Within) → All IsQuiet ws → All (AreFilled segments) ws
      where_quiet [] h = All-nil (AreFilled segments)
      where_quiet (w ∷ ws) h =
          All-cons (AreFilled segments) w ws (record { flash = λ e. flash; spm = λ e. absurd (false≢true (sym (All-head IsQuiet w ws h) ∙ e)); ram = λ e. frames }) (where_quiet ws (All-tail IsQuiet w ws h))
