-- The memory of an image opens frames and arrays.
use Rattle.std.proofs.Common.{◌≡◌, inl, inr, ℕ, zero, suc, ◌+◌, ◌<◌, ◌≤◌, true, List, [], ◌∷◌, length, sym, ap, ◌∙◌, subst, arith}
use Rattle.std.specs.Prelude.{Some, slice_get, slice_index_or}
use Rattle.std.proofs.lemmas.Bool.{false≢true}
use Rattle.rv_core.specs.declared.image.Segment.{Segment}
use Rattle.rv_core.specs.Images.{Image, AreSegments, AreLoadable}
use Rattle.rv_core.specs.Memory.{loaded}
use Rattle.rv_core.specs.Stores as stores
use Rattle.rv_core.proofs.Framing.{block_of-length}
use Rattle.low_ir.specs.Arrays.{bytes_of, array_size}
use Rattle.low_ir.specs.Code.{Object}
use Rattle.low_ir.specs.Effects.{can_store}
use Rattle.low_ir.specs.Places.{Placed}
use Rattle.asm_program.specs.Numbers.{ram}
use Rattle.asm_program.specs.Frames.{frame_of, object_at}
use Rattle.simulation_relation.specs.Plans.{frame_size}
use Rattle.simulation_relation.specs.Layouts.{AreOpen, IsOpen, IsMemoryOf}
use Rattle.simulation_loaded.proofs.ObjectLemmas.{size_fits}
use Rattle.image_segments.specs.SegmentLaws.{Opens}
use Rattle.image_segments.proofs.OpenLemmas.{frame_open, array_open}
use Rattle.image_frames.specs.Memories.{Placement, memory_of}
use Rattle.image_frames.proofs.FrameLemmas.{is_frame}
use Rattle.image_definition.specs.Images.{data_in, flash_bytes, scratchpad_bytes, image_in, FitsImage}
use Rattle.image_definition.proofs.LaidLemmas.{image_loadable}
use Rattle.simulation_loaded.specs.Layouts.{layout_of}

-- a segment is a block of memory
in_blocks : (ss : List Segment) (k : ℕ) (s : Segment) (a n : ℕ) → AreSegments ss → k < length ss → slice_index_or ss k s ≡ s → s.read ≡ true → s.write ≡ true → s.at ≤ a → a + n ≤ s.at + s.size → AreOpen (stores.frames_of (loaded ss)) a n
in_blocks [] k s a n h less e read write from to = absurd (omega (arith, less))
in_blocks (t ∷ ss) zero s a n h less e read write from to =
    let size = block_of-length t h.0.filled in
    inl
    (record {
      read = ap (λ (x : Segment). x.read) e ∙ read;
      write = ap (λ (x : Segment). x.write) e ∙ write;
      from = subst (λ (x : Segment). x.at ≤ a) (sym e) from;
      to = subst (λ m. a + n ≤ t.at + m) (sym size) (subst (λ (x : Segment). a + n ≤ x.at + x.size) (sym e) to);
    })
in_blocks (t ∷ ss) (suc k) s a n h less e read write from to = inr (in_blocks ss k s a n h.1 (omega (arith, less)) e read write from to)

is_open : (image : Image) (a n m : ℕ) → AreLoadable image.segments → Opens image.segments a n → m ≤ n → IsOpen image a m
is_open image a n m loadable h less = let to = h.to in in_blocks image.segments h.there.0 h.segment a m loadable.each h.there.1 h.there.2 h.read h.write h.from (omega (arith, to, less))

module _ (pl : Placement) (p : Placed) (fits : FitsImage pl p) where
  frames_open : (f : ℕ) → f < length p.functions → IsOpen (image_in pl p) (frame_of (memory_of pl p) f).at (frame_size (frame_of (memory_of pl p) f))
  frames_open f less =
      let r = is_frame p ram 0 p.functions f less in
      let from = r.from in
      let to = r.to in
      let fr = frame_of (memory_of pl p) f in
      is_open (image_in pl p) fr.at (frame_size fr) (frame_size fr) (image_loadable pl p fits) (frame_open (data_in pl p) (flash_bytes pl p) (scratchpad_bytes pl p) fr.at (frame_size fr) from to (omega arith)) (omega arith)

  arrays_open : (o : ℕ) (x : Object) → slice_get p.objects o ≡ Some x → can_store x.storage ≡ true → 0 < bytes_of x → IsOpen (image_in pl p) (object_at (memory_of pl p) o) (bytes_of x)
  arrays_open o x there may some =
      let most = size_fits x in
      is_open (image_in pl p) (object_at (memory_of pl p) o) (array_size x) (bytes_of x) (image_loadable pl p fits)
      (array_open (data_in pl p) (flash_bytes pl p) (scratchpad_bytes pl p) o x there (λ e. absurd (false≢true (sym (ap can_store e) ∙ may))) (omega (arith, most, some))) most

  pub memory_open : IsMemoryOf (layout_of pl p) (image_in pl p)
  memory_open = record { frames = frames_open; objects = arrays_open }
