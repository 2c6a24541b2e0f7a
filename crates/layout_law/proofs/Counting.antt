-- How many instructions an image has.
use Rattle.std.proofs.Common.{◌≡◌, ℕ, zero, suc, ◌+◌, ◌*◌, ◌≤◌, Bool, true, false, not, List, [], ◌∷◌, length, map, refl, ap, ◌∙◌, arith, if◌then◌else◌}
use Rattle.std.specs.Prelude.{All, slice_index_or}
use Rattle.std.proofs.lemmas.List.{length-map}
use Rattle.std.proofs.lemmas.List.Elements.{All-head, All-tail}
use Rattle.rv_core.specs.Words.{word_of}
use Rattle.asm_items.specs.Placings.{Blocks, blocks_size}
use Rattle.asm_forms.specs.Layouts.{starts_of}
use Rattle.asm_forms.specs.Regions.{bases_of, functions_size}
use Rattle.asm_placed.specs.Written.{flash_words, in_scratchpad, scratchpad_words}
use Rattle.low_ir.specs.Places.{Placed}
use Rattle.low_ir.specs.Room.{room}
use Rattle.asm_program.specs.Frames.{Frame, no_frame}
use Rattle.asm_program.specs.Ranges.{IsSaving}
use Rattle.image_frames.specs.Memories.{Placement, memory_of}
use Rattle.image_frames.proofs.SavingLemmas.{saving}
use Rattle.image_definition.specs.Images.{flash_bytes, formed_in, rows_in, row_size, scratchpad_bytes}
use Rattle.image_definition.proofs.RowLemmas.{bytes_count, row_bytes_count}
use Rattle.image_definition.specs.Sizes.{HasWords}
use Rattle.asm_sound.proofs.SizeLemmas.{chosen_has_room}
use Rattle.claims_definition.specs.ClaimLaws.{IsSettled}
use Rattle.claims_definition.proofs.Counts.{claims_few}
use Rattle.claims_image.specs.Images.{laid_of}
use Rattle.layout_relation.specs.Items.{instructions_in}
use Rattle.layout_relation.specs.Images.{AreCounted}

-- both rows together have all functions
rows_all : (here : ℕ → Bool) (f : ℕ) (fs : List Blocks) → row_size (λ g. not (here g)) f fs + row_size here f fs ≡ functions_size fs
rows_all here f [] = refl
rows_all here f (bs ∷ fs) = by_row (here f) (rows_all here (suc f) fs)
  where
    by_row : (b : Bool) → row_size (λ g. not (here g)) (suc f) fs + row_size here (suc f) fs ≡ functions_size fs
        → ((if not b then blocks_size bs else 0) + row_size (λ g. not (here g)) (suc f) fs) + ((if b then blocks_size bs else 0) + row_size here (suc f) fs) ≡ blocks_size bs + functions_size fs
    by_row true h = omega (arith, h)
    by_row false h = omega (arith, h)

saved_few : (frs : List Frame) → All IsSaving frs → (f : ℕ) → length (slice_index_or frs f no_frame).saved ≤ 24
saved_few [] h f = omega arith
saved_few (fr ∷ frs) h zero = (All-head IsSaving fr frs h).1
saved_few (fr ∷ frs) h (suc f) = saved_few frs (All-tail IsSaving fr frs h) f

module _ (pl : Placement) (p : Placed) where
  -- each row by its bytes
  pub flash_length : length (flash_bytes pl p) ≡ 4 * length (flash_words (rows_in pl p) (formed_in pl p))
  flash_length = bytes_count (map word_of (flash_words (rows_in pl p) (formed_in pl p))) ∙ ap (λ n. 4 * n) (length-map (flash_words (rows_in pl p) (formed_in pl p)) word_of)

  pub scratchpad_length : length (scratchpad_bytes pl p) ≡ 4 * length (scratchpad_words (rows_in pl p) (formed_in pl p))
  scratchpad_length = bytes_count (map word_of (scratchpad_words (rows_in pl p) (formed_in pl p))) ∙ ap (λ n. 4 * n) (length-map (scratchpad_words (rows_in pl p) (formed_in pl p)) word_of)

  -- and by its functions
  pub flash_row : length (flash_bytes pl p) ≡ row_size (λ f. not (in_scratchpad (rows_in pl p) f)) 0 (formed_in pl p)
  flash_row = row_bytes_count (starts_of (rows_in pl p) (formed_in pl p)) (bases_of (rows_in pl p) (formed_in pl p)) (λ f. not (in_scratchpad (rows_in pl p) f)) (formed_in pl p)

  pub scratchpad_row : length (scratchpad_bytes pl p) ≡ row_size (in_scratchpad (rows_in pl p)) 0 (formed_in pl p)
  scratchpad_row = row_bytes_count (starts_of (rows_in pl p) (formed_in pl p)) (bases_of (rows_in pl p) (formed_in pl p)) (in_scratchpad (rows_in pl p)) (formed_in pl p)

  pub instructions_many : 4 * instructions_in pl p ≡ functions_size (formed_in pl p)
  instructions_many =
      let flash = flash_length in
      let scratchpad = scratchpad_length in
      let first = flash_row in
      let second = scratchpad_row in
      let all = rows_all (in_scratchpad (rows_in pl p)) 0 (formed_in pl p) in
      omega (arith, flash, scratchpad, first, second, all)

  module _ (is : IsSettled (laid_of pl p)) where
    pub instructions_few : HasWords p → instructions_in pl p ≤ room p
    instructions_few words =
        let most = chosen_has_room (memory_of pl p) p (rows_in pl p) (record { program = is.program; words = words; saved = saved_few (memory_of pl p).frames (saving pl p) }) in
        let many = instructions_many in
        omega (arith, most, many)

    pub claims_counted : AreCounted pl p
    claims_counted =
        let few = claims_few (laid_of pl p) is in
        let exits = few.exits in
        let regions = few.regions in
        let many = instructions_many in
        record { exits = omega (arith, exits, many); regions = omega (arith, regions, many); loops = few.loops }
