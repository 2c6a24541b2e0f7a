-- The arrays of a program in the high form, in the low form.
use Rattle.std.specs.Prelude.{ℕ}
use Rattle.high_ir.specs.declared.object.Kind.{Kind as HighKind}
use Rattle.high_ir.specs.declared.object.Kind.TheVariants as kinds
use Rattle.high_ir.specs.declared.object.Storage.{Storage as HighStorage}
use Rattle.high_ir.specs.declared.object.Storage.TheVariants as storages
use Rattle.high_ir.specs.Tree as high
use Rattle.low_ir.specs.declared.object.Kind.{Kind}
use Rattle.low_ir.specs.declared.object.Kind.TheVariants.{Unsigned8, Signed8, Unsigned16, Signed16, Word}
use Rattle.low_ir.specs.declared.object.Storage.{Storage}
use Rattle.low_ir.specs.declared.object.Storage.TheVariants.{Constant, Global, Local}
use Rattle.low_ir.specs.Code.{Object}

abbrev pub kind_of : HighKind → Kind
kind_of kinds.Unsigned8 = Unsigned8
kind_of kinds.Signed8 = Signed8
kind_of kinds.Unsigned16 = Unsigned16
kind_of kinds.Signed16 = Signed16
kind_of kinds.Word = Word

abbrev pub storage_of : HighStorage → Storage
storage_of storages.Constant = Constant
storage_of storages.Global = Global
storage_of storages.Local = Local

abbrev pub object_of : high.Object → Object
object_of o = record { kind = kind_of o.kind; storage = storage_of o.storage; size = o.size; values = o.values }

-- an element takes so many bytes, as a power of two
abbrev pub scale_of : HighKind → ℕ
scale_of kinds.Unsigned8 = 0
scale_of kinds.Signed8 = 0
scale_of kinds.Unsigned16 = 1
scale_of kinds.Signed16 = 1
scale_of kinds.Word = 2
