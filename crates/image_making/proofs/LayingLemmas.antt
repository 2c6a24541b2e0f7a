-- What has room for an image has room for its items, and what is formed is what the image has.
use Rattle.std.proofs.Common.{◌≡◌, ℕ, suc, List, [], ◌∷◌, map, length, refl, sym, ap, ◌∙◌, subst, arith}
use Rattle.std.specs.Prelude.{slice_index}
use Rattle.std.proofs.lemmas.List.{length-map}
use Rattle.low_ir.specs.declared.places.LowReg.{LowReg}
use Rattle.low_ir.specs.Code.{Function, Note}
use Rattle.low_ir.specs.View.{function_of}
use Rattle.low_ir.specs.Places.{Assignment, Placed, place_functions}
use Rattle.low_ir.specs.Placings.{assignment_of, placed_of}
use Rattle.asm_writing.specs.Targets.{AreLow}
use Rattle.asm_forms.specs.declared.layouts.Layout.{Layout}
use Rattle.asm_forms.specs.Regions.{bases_of, RoomFrom}
use Rattle.asm_forms.specs.Laid.{HasRoom, IsFormed}
use Rattle.asm_forms.proofs.Formed.{room, low, formed_room}
use Rattle.image_segments.specs.Segments.{Data, FitSegments}
use Rattle.image_frames.specs.Memories.{Placement}
use Rattle.image_definition.specs.Images.{data_in, rows_in, items_in, formed_in, entry_in, flash_bytes, scratchpad_bytes, FitsImage}
use Rattle.image_definition.proofs.LaidLemmas.{fit_segments}

place_functions_long : (a : Assignment) (f : ℕ) (fns : List (Function ℕ Note)) → length (place_functions a f fns) ≡ length fns
place_functions_long a f [] = refl
place_functions_long a f (fn ∷ fns) = ap suc (place_functions_long a (suc f) fns)

-- a program has as many functions over its places
pub functions_same : (code : LowReg) → length code.low.functions.items ≡ length (placed_of code).functions
functions_same code = sym (place_functions_long (assignment_of code) 0 (map function_of code.low.functions.items) ∙ length-map code.low.functions.items function_of)

module _ (pl : Placement) (p : Placed) where
  pub has_room : FitsImage pl p → HasRoom (rows_in pl p) (items_in pl p)
  has_room f =
      let code = f.flash in
      let end = f.memory.scratchpad in
      record { flash = omega (arith, code); scratchpad = omega (arith, code, end) }

  module _ (l : Layout) (formed : IsFormed (rows_in pl p) (items_in pl p) l) where
    pub starts_low : FitsImage pl p → AreLow l.starts.items
    starts_low f = subst AreLow (sym formed.laid.starts) (low (rows_in pl p) (formed_in pl p) (formed_room (rows_in pl p) (items_in pl p) (has_room f)))

    pub bases_room : FitsImage pl p → RoomFrom l.bases.items 0 l.functions.items
    bases_room f =
        subst (λ b. RoomFrom b 0 l.functions.items) (sym formed.laid.bases)
        (subst (RoomFrom (bases_of (rows_in pl p) (formed_in pl p)) 0) (sym formed.laid.functions) (room (rows_in pl p) (formed_in pl p) (formed_room (rows_in pl p) (items_in pl p) (has_room f))))

    pub entry_is : (n : ℕ) → n ≡ length p.functions → slice_index l.bases.items n ≡ entry_in pl p
    entry_is n e = ap (slice_index l.bases.items) e ∙ ap (λ (b : List ℕ). slice_index b (length p.functions)) formed.laid.bases

  pub segments_fit : FitsImage pl p → (d : Data) (flash scratchpad : List ℕ) → d ≡ data_in pl p → flash ≡ flash_bytes pl p → scratchpad ≡ scratchpad_bytes pl p → FitSegments d flash scratchpad
  segments_fit f d flash scratchpad is first second =
      subst (λ e. FitSegments e flash scratchpad) (sym is)
      (subst (λ xs. FitSegments (data_in pl p) xs scratchpad) (sym first) (subst (FitSegments (data_in pl p) (flash_bytes pl p)) (sym second) (fit_segments pl p f)))
