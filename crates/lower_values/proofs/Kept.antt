-- What a kind keeps of a word.
use Rattle.std.proofs.Common.{◌≡◌, ℕ, ◌%◌, ◌^◌, refl}
use Rattle.wcc_base.specs.Signs.{signed_of}
use Rattle.wcc_base.specs.Words.{wrapped}
use Rattle.high_ir.specs.declared.object.Kind.{Kind}
use Rattle.high_ir.specs.declared.object.Kind.TheVariants.{Unsigned8, Signed8, Unsigned16, Signed16, Word}
use Rattle.high_ir.specs.Words.{converted}

abbrev pub keeps : Kind → ℕ → ℕ
keeps Unsigned8 w = w % 2 ^ 8
keeps Signed8 w = wrapped (signed_of 8 (w % 2 ^ 8))
keeps Unsigned16 w = w % 2 ^ 16
keeps Signed16 w = wrapped (signed_of 16 (w % 2 ^ 16))
keeps Word w = w

pub converted-keeps : (k : Kind) (w : ℕ) → converted k w ≡ keeps k w
unfolding converted
converted-keeps Unsigned8 w = refl
converted-keeps Signed8 w = refl
converted-keeps Unsigned16 w = refl
converted-keeps Signed16 w = refl
converted-keeps Word w = refl
