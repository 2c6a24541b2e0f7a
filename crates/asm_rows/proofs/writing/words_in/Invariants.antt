use Rattle.std.proofs.Common.{◌≡◌, ◌++◌, drop, map, true}
use Rattle.rv_core.specs.Words.{word_of}
use Rattle.asm_writing.specs.Targets.{starts_in}
use Rattle.asm_forms.specs.Layouts.{functions_fit}
use Rattle.asm_forms.specs.Regions.{RoomFrom}
use Rattle.asm_placed.specs.Written.{row_words}
use Rattle.asm_rows.specs.Rows.{is_in, row_numbers}
use Rattle.asm_rows.proofs.writing.words_in.Given as goal

abbrev pub invariant-loop-number : goal.invariant-loop-number
invariant-loop-number l = record {
  words : l.words.items ++ map word_of (row_words (starts_in l.layout.starts.items) l.layout.bases.items (is_in l.placed l.scratchpad) l.number (drop l.number l.layout.functions.items)) ≡ row_numbers l.layout l.placed l.scratchpad;
  room : RoomFrom l.layout.bases.items l.number (drop l.number l.layout.functions.items);
  fit : functions_fit (starts_in l.layout.starts.items) l.layout.bases.items l.number (drop l.number l.layout.functions.items) ≡ true;
}
