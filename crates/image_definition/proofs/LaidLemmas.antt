-- The image of a program holds its code.
use Rattle.std.proofs.Common.{◌≡◌, ◌≢◌, ◌⊎◌, inl, inr, ℕ, zero, suc, ◌+◌, ◌%◌, ◌<◌, ◌≤◌, Bool, true, List, [], ◌∷◌, length, refl, sym, ap, ◌∙◌, subst, ⊎_elim, arith}
use Rattle.std.specs.Prelude.{not, slice_index, slice_index_or}
use Rattle.std.proofs.lemmas.Bool.{cases_eq, false≢true}
use Rattle.rv_core.specs.declared.image.Segment.{Segment}
use Rattle.rv_core.specs.declared.regions.Region.TheVariants.{Spm}
use Rattle.rv_core.specs.Regions.{region_start, region_size}
use Rattle.rv_core.specs.Images.{Image, AreLoadable}
use Rattle.code_flow_system.specs.Claims.{Claims, is_listed}
use Rattle.code_flow_system.specs.Moves.{code_of}
use Rattle.asm_items.specs.Placings.{Blocks, start_of, starts_from}
use Rattle.asm_items.specs.Standing.{ListsExits}
use Rattle.asm_forms.specs.Laid.{HasRoom, FunctionsLike}
use Rattle.asm_forms.specs.Regions.{bases_of, functions_size}
use Rattle.asm_forms.specs.Shorter.{functions_longest}
use Rattle.asm_forms.specs.Layouts.{starts_of}
use Rattle.asm_forms.specs.Sound.{FunctionsSound}
use Rattle.asm_forms.proofs.Formed.{formed_longest}
use Rattle.asm_forms.proofs.LikeLemmas.{formed_like}
use Rattle.asm_graphs.specs.Promised.{Promised, blocks_in, block_in}
use Rattle.asm_placed.specs.Written.{in_scratchpad, flash_words, scratchpad_words, Holds, HasSegment, IsWritten, RowsApart}
use Rattle.asm_placed.proofs.Alike.{functions_long, blocks_long, blocks_alike}
use Rattle.asm_placed.proofs.Placed.{is_placed}
use Rattle.asm_placed.proofs.Exits.{exits_listed}
use Rattle.asm_graphs.specs.Graphs.{Graph, IsShaped}
use Rattle.asm_graphs.specs.Placed.{IsPlaced}
use Rattle.asm_graphs.specs.Laid.{IsImageOf}
use Rattle.asm_graphs.proofs.PlacedLemmas.{is_laid}
use Rattle.low_ir.specs.Places.{Placed}
use Rattle.asm_program.specs.Formed.{IsProgram}
use Rattle.asm_program.specs.Functions.{graph_of}
use Rattle.asm_program.proofs.GraphLemmas.{shaped}
use Rattle.asm_program.specs.Ranges.{InProgram}
use Rattle.asm_sound.proofs.Programs.{program_sound}
use Rattle.asm_program.proofs.Promises.{promised}
use Rattle.image_segments.proofs.EvenLemmas.{spots_even, room_even}
use Rattle.image_segments.specs.Starts.{constants_start, placed_end}
use Rattle.image_segments.specs.Segments.{code_segment, spots_in, all_segments, FitSegments}
use Rattle.image_segments.proofs.OrderLemmas.{in_present, of_present}
use Rattle.image_segments.proofs.SegmentLemmas.{loadable}
use Rattle.image_frames.specs.Memories.{Placement, memory_of}
use Rattle.image_frames.proofs.FrameLemmas.{ends, frames_count}
use Rattle.image_frames.proofs.SavingLemmas.{saving}
use Rattle.asm_program.specs.Numbers.{ram}
use Rattle.image_definition.specs.Images.{data_in, rows_in, items_in, formed_in, placing_in, flash_bytes, scratchpad_bytes, image_in, exits_in, row_size, FitsImage}
use Rattle.image_definition.proofs.RowLemmas.{row_bytes_count, row_most, row_part, no_bytes}

module _ (pl : Placement) (p : Placed) (fits : FitsImage pl p) where
  abbrev flash_here : ℕ → Bool
  flash_here f = not (in_scratchpad (rows_in pl p) f)

  longest_is : functions_longest (formed_in pl p) ≡ functions_longest (items_in pl p)
  longest_is = formed_longest (rows_in pl p) (items_in pl p)

  flash_few : length (flash_bytes pl p) ≤ constants_start
  flash_few =
      let count = row_bytes_count (starts_of (rows_in pl p) (formed_in pl p)) (bases_of (rows_in pl p) (formed_in pl p)) flash_here (formed_in pl p) in
      let most = row_most flash_here 0 (formed_in pl p) in
      let part = row_part flash_here 0 (functions_longest (formed_in pl p)) in
      let all = subst (λ l. functions_size l ≤ constants_start) (sym longest_is) fits.flash in
      omega (arith, count, most, part, all)

  scratchpad_few : placed_end (spots_in (data_in pl p)) + length (scratchpad_bytes pl p) ≤ region_start Spm + region_size Spm
  scratchpad_few =
      let count = row_bytes_count (starts_of (rows_in pl p) (formed_in pl p)) (bases_of (rows_in pl p) (formed_in pl p)) (in_scratchpad (rows_in pl p)) (formed_in pl p) in
      let most = row_most (in_scratchpad (rows_in pl p)) 0 (formed_in pl p) in
      let all = subst (λ l. placed_end (spots_in (data_in pl p)) + row_size (in_scratchpad (rows_in pl p)) 0 l ≤ region_start Spm + region_size Spm) (sym longest_is) fits.scratchpad in
      omega (arith, count, most, all)

  pub fit_segments : FitSegments (data_in pl p) (flash_bytes pl p) (scratchpad_bytes pl p)
  fit_segments = record { rows = fits.memory; frames = ends p ram 0 p.functions; flash_code = flash_few; scratchpad_code = scratchpad_few }

  pub image_loadable : AreLoadable (image_in pl p).segments
  image_loadable = loadable (data_in pl p) (flash_bytes pl p) (scratchpad_bytes pl p) fit_segments

  has_room : HasRoom (rows_in pl p) (items_in pl p)
  has_room =
      let code = fits.flash in
      let s = fits.memory.scratchpad in
      record { flash = omega (arith, code); scratchpad = omega (arith, code, s) }

  rows_apart : placed_end (spots_in (data_in pl p)) % 4 ≡ 0 → RowsApart (rows_in pl p) (items_in pl p)
  rows_apart even =
      let code = fits.flash in
      record { flash = refl; scratchpad = even; before = omega arith; apart = omega (arith, code) }

  abbrev all : List Segment
  all = all_segments (data_in pl p) (flash_bytes pl p) (scratchpad_bytes pl p)

  abbrev In : Segment → Type 0
  In s = Holds s 0 (flash_words (rows_in pl p) (formed_in pl p)) ⊎ Holds s (placed_end (spots_in (data_in pl p))) (scratchpad_words (rows_in pl p) (formed_in pl p))

  -- what can be executed are the two segments of code
  code_alone : (k : ℕ) (s : Segment) → k < 9 → slice_index_or all k s ≡ s → s.exec ≡ true → In s
  code_alone zero s h e x = inl (record { begins = ap (λ (t : Segment). t.at) (sym e); bytes = ap (λ (t : Segment). t.bytes) (sym e); full = subst (λ (t : Segment). length t.bytes ≡ t.size) e refl })
  code_alone (suc zero) s h e x = absurd (false≢true (ap (λ (t : Segment). t.exec) e ∙ x))
  code_alone (suc (suc zero)) s h e x = absurd (false≢true (ap (λ (t : Segment). t.exec) e ∙ x))
  code_alone (suc (suc (suc zero))) s h e x = inr (record { begins = ap (λ (t : Segment). t.at) (sym e); bytes = ap (λ (t : Segment). t.bytes) (sym e); full = subst (λ (t : Segment). length t.bytes ≡ t.size) e refl })
  code_alone (suc (suc (suc (suc zero)))) s h e x = absurd (false≢true (ap (λ (t : Segment). t.exec) e ∙ x))
  code_alone (suc (suc (suc (suc (suc zero))))) s h e x = absurd (false≢true (ap (λ (t : Segment). t.exec) e ∙ x))
  code_alone (suc (suc (suc (suc (suc (suc zero)))))) s h e x = absurd (false≢true (ap (λ (t : Segment). t.exec) e ∙ x))
  code_alone (suc (suc (suc (suc (suc (suc (suc zero))))))) s h e x = absurd (false≢true (ap (λ (t : Segment). t.exec) e ∙ x))
  code_alone (suc (suc (suc (suc (suc (suc (suc (suc zero)))))))) s h e x = absurd (false≢true (ap (λ (t : Segment). t.exec) e ∙ x))
  code_alone (suc (suc (suc (suc (suc (suc (suc (suc (suc k))))))))) s h e x = absurd (omega (arith, h))

  there : (at k : ℕ) (bytes : List ℕ) → k < 9 → slice_index_or all k (code_segment at bytes) ≡ code_segment at bytes → length bytes ≢ 0 → HasSegment (image_in pl p) at
  there at k bytes h e some = (code_segment at bytes, in_present all (code_segment at bytes) (k, h, e) some, refl, refl)

  written : IsWritten (rows_in pl p) (formed_in pl p) (image_in pl p)
  written = record {
    each = λ s c x. let d = of_present all s c in code_alone d.0 s d.1 d.2 x;
    flash = ⊎_elim (λ none. inl (no_bytes (flash_words (rows_in pl p) (formed_in pl p)) none)) (λ some. inr (there 0 0 (flash_bytes pl p) (omega arith) refl some)) (cases_eq (length (flash_bytes pl p)) 0);
    scratchpad = ⊎_elim (λ none. inl (no_bytes (scratchpad_words (rows_in pl p) (formed_in pl p)) none)) (λ some. inr (there (placed_end (spots_in (data_in pl p))) 3 (scratchpad_bytes pl p) (omega arith) refl some)) (cases_eq (length (scratchpad_bytes pl p)) 0);
  }

  module _ (formed : IsProgram p) (sound : InProgram p) (image : Image) (claims : Claims) (is : image ≡ image_in pl p) (exits : claims.exits ≡ exits_in pl p) (even : placed_end (spots_in (data_in pl p)) % 4 ≡ 0) where
    abbrev g : Graph
    g = graph_of (memory_of pl p) p

    few : length (memory_of pl p).frames ≤ length p.functions
    few = let h = frames_count p ram 0 p.functions in omega (arith, h)

    keep : Promised g (items_in pl p)
    keep = promised (memory_of pl p) p formed few

    sounds : FunctionsSound (items_in pl p)
    sounds = program_sound (memory_of pl p) p sound (saving pl p)

    exit_is : (a : ℕ) → (code_of image claims).exit a ≡ is_listed (exits_in pl p) a
    exit_is a = ap (λ es. is_listed es a) exits

    like : FunctionsLike (items_in pl p) (formed_in pl p)
    like = formed_like (rows_in pl p) (items_in pl p)

    many : length (formed_in pl p) ≡ g.functions
    many = functions_long (items_in pl p) (formed_in pl p) like ∙ keep.functions

    blocks : (f : ℕ) → length (blocks_in (formed_in pl p) f) ≡ g.blocks f
    blocks f = blocks_long (blocks_in (items_in pl p) f) (blocks_in (formed_in pl p) f) (blocks_alike (items_in pl p) (formed_in pl p) f like) ∙ keep.blocks f

    lists : (f b : ℕ) → f < g.functions → b < g.blocks f → ListsExits (code_of image claims) (start_of (placing_in pl p) f b) (block_in (formed_in pl p) f b)
    lists f b h k = exits_listed (rows_in pl p) (items_in pl p) (code_of image claims) has_room (rows_apart even) exit_is f b (subst (λ n. f < n) (sym many) h) (subst (λ n. b < n) (sym (blocks f)) k)

    placed : IsPlaced g (placing_in pl p) (code_of image claims)
    placed =
        is_placed image (subst (λ (i : Image). AreLoadable i.segments) (sym is) image_loadable) g (rows_in pl p) (items_in pl p) (code_of image claims) keep sounds has_room (rows_apart even)
        (subst (λ i. IsWritten (rows_in pl p) (formed_in pl p) i) (sym is) written) (λ a. refl) lists

    shape : IsShaped g
    shape = shaped (memory_of pl p) p formed

    first : (a : ℕ) (bs : Blocks) → 0 < length bs → slice_index (starts_from a bs) 0 ≡ a
    first a [] h = absurd (omega (arith, h))
    first a (b ∷ bs) h = refl

    begins : (image_in pl p).entry ≡ start_of (placing_in pl p) (length p.functions) 0
    begins = sym (first (slice_index (bases_of (rows_in pl p) (formed_in pl p)) (length p.functions)) (blocks_in (formed_in pl p) (length p.functions))
        (subst (λ n. 0 < n) (sym (blocks (length p.functions))) (shape.some (length p.functions) (omega arith))))

    pub image_is : IsImageOf g (placing_in pl p) (length p.functions) image claims
    image_is = record {
      shaped = shape;
      laid = is_laid g (placing_in pl p) (code_of image claims) shape placed;
      there = omega arith;
      entry = ap (λ (i : Image). i.entry) is ∙ begins;
    }

pub placed_even : (pl : Placement) (p : Placed) → placed_end (spots_in (data_in pl p)) % 4 ≡ 0
placed_even pl p = let h = room_even 1 (spots_in (data_in pl p)) (spots_even pl.objects 0 p.objects) in omega (arith, h)
