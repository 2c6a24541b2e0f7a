-- The bytes of the functions of a layout that lie in one row.
use Rattle.std.specs.Prelude.{ℕ, Bool, true, false, not, List, map, slice_index_or}
use Rattle.rv_core.specs.Bytes.{le_words}
use Rattle.rv_core.specs.Words.{word_of}
use Rattle.asm_writing.specs.Targets.{starts_in}
use Rattle.asm_forms.specs.declared.layouts.Layout.{Layout}
use Rattle.asm_placed.specs.Written.{row_words}

-- whether function f lies in the row of the scratchpad, or in that of flash
abbrev pub is_in : List Bool → Bool → ℕ → Bool
is_in placed true f = slice_index_or placed f false
is_in placed false f = not (slice_index_or placed f false)

abbrev pub row_numbers : Layout → List Bool → Bool → List ℕ
row_numbers l placed scratchpad = map word_of (row_words (starts_in l.starts.items) l.bases.items (is_in placed scratchpad) 0 l.functions.items)

abbrev pub row_bytes : Layout → List Bool → Bool → List ℕ
row_bytes l placed scratchpad = le_words (row_numbers l placed scratchpad)
