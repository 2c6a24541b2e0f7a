-- Layouts, and when there is room for one.
use Rattle.std.specs.Prelude.{◌≡◌, ◌+◌, ◌^◌, ◌<◌, true, List, [], ◌∷◌}
use Rattle.asm_items.specs.Placings.{Blocks}
use Rattle.asm_writing.specs.Forms.{AreLike}
use Rattle.asm_forms.specs.declared.layouts.Layout.{Layout}
use Rattle.asm_forms.specs.declared.regions.Regions.{Regions}
use Rattle.asm_forms.specs.Regions.{Rows, bases_of, tables_from, functions_size}
use Rattle.asm_forms.specs.Shorter.{functions_longest}
use Rattle.asm_forms.specs.Layouts.{fit, formed}

abbrev pub rows_of : Regions → Rows
rows_of r = record { placed = r.placed.now; flash = r.flash; scratchpad = r.scratchpad }

-- all functions, with items in their longest forms, would end below 2^30 in either row
pub record HasRoom (r : Rows) (fs : List Blocks) : Type 0 where
  pub flash : r.flash + functions_size (functions_longest fs) < 2 ^ 30
  pub scratchpad : r.scratchpad + functions_size (functions_longest fs) < 2 ^ 30

-- these functions, with where they and their blocks begin
pub record IsLaid (r : Rows) (fs : List Blocks) (l : Layout) : Type 0 where
  pub functions : l.functions.items ≡ fs
  pub bases : l.bases.items ≡ bases_of r fs
  pub starts : l.starts.items ≡ tables_from (bases_of r fs) 0 fs

-- the same items in other forms
abbrev pub BlocksLike : Blocks → Blocks → Type 0
BlocksLike [] cs = cs ≡ []
BlocksLike (b ∷ bs) [] = ⊥
BlocksLike (b ∷ bs) (c ∷ cs) = AreLike b c × BlocksLike bs cs

abbrev pub FunctionsLike : List Blocks → List Blocks → Type 0
FunctionsLike [] gs = gs ≡ []
FunctionsLike (f ∷ fs) [] = ⊥
FunctionsLike (f ∷ fs) (g ∷ gs) = BlocksLike f g × FunctionsLike fs gs

-- functions in the forms that are chosen: each item reaches its target, and leads where it led
pub record IsFormed (r : Rows) (fs : List Blocks) (l : Layout) : Type 0 where
  pub laid : IsLaid r (formed r fs) l
  pub fits : fit r (formed r fs) ≡ true
  pub like : FunctionsLike fs (formed r fs)
