-- The kinds of elements: what they keep of a word.
use Rattle.std.specs.Prelude.{ℕ, ◌*◌, ◌%◌, ◌^◌, ◌==◌, Bool, true, false}
use Rattle.rv_core.specs.declared.row.Width.{Width}
use Rattle.rv_core.specs.declared.row.Width.TheVariants.{Byte, Half, Word as Whole}
use Rattle.rv_core.specs.Arithmetic.{byte_count, extended}
use Rattle.low_ir.specs.declared.object.Kind.{Kind}
use Rattle.low_ir.specs.declared.object.Kind.TheVariants.{Unsigned8, Signed8, Unsigned16, Signed16, Word}

abbrev pub width_of : Kind → Width
width_of Unsigned8 = Byte
width_of Signed8 = Byte
width_of Unsigned16 = Half
width_of Signed16 = Half
width_of Word = Whole

abbrev pub has_sign : Kind → Bool
has_sign Unsigned8 = false
has_sign Signed8 = true
has_sign Unsigned16 = false
has_sign Signed16 = true
has_sign Word = false

-- how many bytes an element takes
abbrev pub kind_bytes : Kind → ℕ
kind_bytes kind = byte_count (width_of kind)

-- what an element of the kind keeps of a word: its low bits, widened again
unfoldable pub converted : Kind → ℕ → ℕ
converted kind w = extended (width_of kind) (has_sign kind) (w % 2 ^ (8 * kind_bytes kind))

-- a number for each kind
abbrev pub kind_number : Kind → ℕ
kind_number Unsigned8 = 0
kind_number Signed8 = 1
kind_number Unsigned16 = 2
kind_number Signed16 = 3
kind_number Word = 4

abbrev pub same_kind : Kind → Kind → Bool
same_kind a b = kind_number a == kind_number b
