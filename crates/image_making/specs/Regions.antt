-- The regions in which arrays lie.
use Rattle.std.specs.Prelude.{ℕ, suc, Bool, true, false, List, [], ◌∷◌, slice_index_or}
use Rattle.rv_core.specs.declared.regions.Region.{Region}
use Rattle.rv_core.specs.declared.regions.Region.TheVariants.{Flash, Spm, Ram}
use Rattle.low_ir.specs.declared.object.Storage.{Storage}
use Rattle.low_ir.specs.declared.object.Storage.TheVariants.{Constant, Global, Local}
use Rattle.low_ir.specs.Code.{Object}

abbrev pub stored : Storage → Region
stored Constant = Flash
stored Global = Ram
stored Local = Ram

abbrev pub region : Bool → Storage → Region
region true s = Spm
region false s = stored s

-- by array, from number o on
abbrev pub regions_from : List Bool → ℕ → List Object → List Region
regions_from placed o [] = []
regions_from placed o (x ∷ xs) = region (slice_index_or placed o false) x.storage ∷ regions_from placed (suc o) xs
