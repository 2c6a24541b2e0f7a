-- The words of a type and its storage class (C11 6.7.1 to 6.7.4).
use Rattle.std.specs.Prelude.{ℕ, ◌==◌, Bool, true, false, not, ◌&&◌, ◌||◌, List, [], ◌∷◌, Option, Some, None, is_none, if◌then◌else◌}
use Rattle.c_tree.specs.declared.expression.Specifier.{Specifier}
use Rattle.c_tree.specs.declared.expression.Specifier.TheVariants as words
use Rattle.types_value.specs.declared.kind.Kind.{Kind}
use Rattle.types_value.specs.declared.kind.Kind.TheVariants.{Void, Char, SignedChar, UnsignedChar, Short, UnsignedShort, Int, Unsigned, Long, UnsignedLong}

-- a number for each word
abbrev pub word_number : Specifier → ℕ
word_number words.Static = 0
word_number words.Extern = 1
word_number words.Inline = 2
word_number words.Const = 3
word_number words.Void = 4
word_number words.Char = 5
word_number words.Short = 6
word_number words.Int = 7
word_number words.Long = 8
word_number words.Signed = 9
word_number words.Unsigned = 10

-- whether a word stands among others
abbrev pub has : Specifier → List Specifier → Bool
has word [] = false
has word (w ∷ rest) = (word_number w == word_number word) || has word rest

-- whether a word stands there twice
abbrev pub repeats : List Specifier → Bool
repeats [] = false
repeats (w ∷ rest) = has w rest || repeats rest

-- the type beside `signed`, beside `unsigned`, or beside neither
abbrev pub with_sign : (signed unsigned : Bool) → (neither beside_signed beside_unsigned : Option Kind) → Option Kind
with_sign false false neither beside_signed beside_unsigned = neither
with_sign true false neither beside_signed beside_unsigned = beside_signed
with_sign false true neither beside_signed beside_unsigned = beside_unsigned
with_sign true true neither beside_signed beside_unsigned = None

-- the type of words, by whether void, char, short, int, long, signed and unsigned stand among them (C11 6.7.2, paragraph 2)
abbrev pub type_of : (void char short int long signed unsigned : Bool) → Option Kind
type_of true false false false false s u = with_sign s u (Some Void) None None
type_of false true false false false s u = with_sign s u (Some Char) (Some SignedChar) (Some UnsignedChar)
type_of false false true int false s u = with_sign s u (Some Short) (Some Short) (Some UnsignedShort)
type_of false false false int true s u = with_sign s u (Some Long) (Some Long) (Some UnsignedLong)
type_of false false false true false s u = with_sign s u (Some Int) (Some Int) (Some Unsigned)
type_of false false false false false s u = with_sign s u None (Some Int) (Some Unsigned)
type_of _ _ _ _ _ s u = None

-- the type that words spell, in any order; none where one stands twice
abbrev pub spelled : List Specifier → Option Kind
spelled specifiers =
    if repeats specifiers then None
    else type_of (has words.Void specifiers) (has words.Char specifiers) (has words.Short specifiers) (has words.Int specifiers)
    (has words.Long specifiers) (has words.Signed specifiers) (has words.Unsigned specifiers)

abbrev pub or_int : Option Kind → Kind
or_int None = Int
or_int (Some kind) = kind

-- the same; words that spell no type count as int
abbrev pub kind_spelled : List Specifier → Kind
kind_spelled specifiers = or_int (spelled specifiers)

abbrev pub is_const : List Specifier → Bool
is_const specifiers = has words.Const specifiers

-- rule 1: the words spell a type, `extern` and `inline` stand only with functions and `static` not within a block, and none stands twice
abbrev pub are_wrong : (function block : Bool) → List Specifier → Bool
are_wrong function block specifiers =
    is_none (spelled specifiers)
    || (not function && (has words.Extern specifiers || has words.Inline specifiers))
    || (block && has words.Static specifiers)
