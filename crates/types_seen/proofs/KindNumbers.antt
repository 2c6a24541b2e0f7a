-- Types of the source by their numbers.
use Rattle.std.proofs.Common.{◌≡◌, refl, ap, ◌∙◌, sym, ℕ, true, if◌then◌else◌}
use Rattle.std.specs.Prelude.{◌==◌}
use Rattle.std.proofs.lemmas.Bool.{eqb-true}
use Rattle.types_value.specs.Kinds.{kind_number, same_kind}
use Rattle.types_value.specs.declared.kind.Kind.{Kind as CType}
use Rattle.types_value.specs.declared.kind.Kind.TheVariants.{Void, Char, SignedChar, UnsignedChar, Short, UnsignedShort, Int, Unsigned, Long, UnsignedLong}

-- a type by its number
abbrev type_of_number : ℕ → CType
type_of_number n =
    if n == 0 then Void else if n == 1 then Char else if n == 2 then SignedChar else if n == 3 then UnsignedChar else if n == 4 then Short
    else if n == 5 then UnsignedShort else if n == 6 then Int else if n == 7 then Unsigned else if n == 8 then Long else UnsignedLong

of_its_number : (k : CType) → type_of_number (kind_number k) ≡ k
of_its_number Void = refl
of_its_number Char = refl
of_its_number SignedChar = refl
of_its_number UnsignedChar = refl
of_its_number Short = refl
of_its_number UnsignedShort = refl
of_its_number Int = refl
of_its_number Unsigned = refl
of_its_number Long = refl
of_its_number UnsignedLong = refl

pub same_types : (a b : CType) → same_kind a b ≡ true → a ≡ b
same_types a b e = sym (of_its_number a) ∙ ap type_of_number (eqb-true (kind_number a) (kind_number b) e) ∙ of_its_number b
