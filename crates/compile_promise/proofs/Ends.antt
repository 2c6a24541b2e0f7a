-- The code of an image lies at the beginning of flash, and in the scratchpad behind the arrays that are placed there.
use Rattle.std.proofs.Common.{◌≡◌, ℕ, ◌*◌, ◌≤◌, Bool, true, false, List, [], ◌∷◌, length, refl, arith, All}
use Rattle.std.specs.Prelude.{◌==◌, if◌then◌else◌}
use Rattle.std.proofs.lemmas.Bool.{false≢true}
use Rattle.std.proofs.lemmas.List.Elements.{All-cons, All-from_recursion, All-head, All-nil, All-tail}
use Rattle.rv_core.specs.declared.image.Segment.{Segment}
use Rattle.code_flow.specs.Sizes.{EndsWithin, Words}
use Rattle.asm_placed.specs.Written.{flash_words, scratchpad_words}
use Rattle.low_ir.specs.Places.{Placed}
use Rattle.image_definition.specs.Images.{data_in, flash_bytes, formed_in, image_in, rows_in, scratchpad_bytes}
use Rattle.image_segments.specs.Segments.{Data, all_segments, code_segment, present, spots_in}
use Rattle.image_segments.specs.Starts.{placed_end}
use Rattle.image_frames.specs.Memories.{Placement}
use Rattle.layout_law.proofs.Counting.{flash_length, scratchpad_length}

present_all : (P : Segment → Type 0) (ss : List Segment) → All P ss → All P (present ss)
present_all P [] h = All-nil P
present_all P (s ∷ ss) h = by_test (s.size == 0) (present_all P ss (All-tail P s ss h))
  where
    by_test : (b : Bool) → All P (present ss) → All P (if b then present ss else s ∷ present ss)
    by_test true rest = rest
    by_test false rest = All-cons P s (present ss) (All-head P s ss h) rest

all_end : (w : Words) (d : Data) (flash scratchpad : List ℕ) → length flash ≤ 4 * w.flash → w.from ≡ placed_end (spots_in d) → length scratchpad ≤ 4 * w.scratchpad → All (EndsWithin w) (all_segments d flash scratchpad)
all_end w d flash scratchpad few start small = All-from_recursion (EndsWithin w) (all_segments d flash scratchpad) (first, (no_code refl, (no_code refl, (placed, (no_code refl, (no_code refl, (no_code refl, (no_code refl, (no_code refl, tt)))))))))
  where
    first : EndsWithin w (code_segment 0 flash)
    first = record { flash = λ exec some lies. omega (arith, few); scratchpad = λ exec some lies. let from = lies.from in absurd (omega (arith, from)) }

    placed : EndsWithin w (code_segment (placed_end (spots_in d)) scratchpad)
    placed = record { flash = λ exec some lies. let to = lies.to in absurd (omega (arith, to, some)); scratchpad = λ exec some lies. (omega (arith, start), omega (arith, start, small)) }

    no_code : {s : Segment} → s.exec ≡ false → EndsWithin w s
    no_code e = record { flash = λ exec some lies. absurd (false≢true (cc)); scratchpad = λ exec some lies. absurd (false≢true (cc)) }

-- the words of an image's code
abbrev pub words_in : Placement → Placed → Words
words_in pl p = record {
  flash = length (flash_words (rows_in pl p) (formed_in pl p));
  from = placed_end (spots_in (data_in pl p));
  scratchpad = length (scratchpad_words (rows_in pl p) (formed_in pl p));
}

-- which are as many as its instructions
pub code_ends : (pl : Placement) (p : Placed) → All (EndsWithin (words_in pl p)) (image_in pl p).segments
code_ends pl p =
    let flash = flash_length pl p in
    let scratchpad = scratchpad_length pl p in
    present_all (EndsWithin (words_in pl p)) (all_segments (data_in pl p) (flash_bytes pl p) (scratchpad_bytes pl p))
    (all_end (words_in pl p) (data_in pl p) (flash_bytes pl p) (scratchpad_bytes pl p) (omega (arith, flash)) refl (omega (arith, scratchpad)))
