-- What lists and rows ask of chosen forms.
use Rattle.std.proofs.Common.{◌≡◌, ◌^◌, ◌<◌, true, List, sym, ap, ◌∙◌, subst, arith}
use Rattle.asm_items.specs.Placings.{Blocks}
use Rattle.asm_writing.specs.Targets.{starts_in, AreLow}
use Rattle.asm_forms.specs.declared.layouts.Layout.{Layout}
use Rattle.asm_forms.specs.Laid.{HasRoom, IsFormed}
use Rattle.asm_forms.specs.Layouts.{functions_fit, starts_of, formed}
use Rattle.asm_forms.specs.Regions.{Rows, bases_of, functions_size, tables_from, RoomFrom}
use Rattle.asm_forms.specs.Shorter.{functions_longest}
use Rattle.asm_forms.proofs.Formed.{room, low, formed_room}
use Rattle.claims_lists.specs.Places.{IsRoomy}

has_room : (r : Rows) (fs : List Blocks) → r.flash ≡ 0 → r.scratchpad < 2 ^ 29 → functions_size (functions_longest fs) < 2 ^ 20 → HasRoom r fs
has_room r fs flash scratchpad few = record { flash = omega (arith, flash, few); scratchpad = omega (arith, scratchpad, few) }

-- the same, of lists that are one
pub has_room_of : (r : Rows) (fs gs hs : List Blocks) → fs ≡ gs → hs ≡ gs → r.flash ≡ 0 → r.scratchpad < 2 ^ 29 → functions_size (functions_longest hs) < 2 ^ 20 → HasRoom r fs
has_room_of r fs gs hs e d flash scratchpad few =
    has_room r fs flash scratchpad (subst (λ l. functions_size (functions_longest l) < 2 ^ 20) (d ∙ sym e) few)

module _ (r : Rows) (fs : List Blocks) (l : Layout) (h : HasRoom r fs) (f : IsFormed r fs l) where
  pub starts_low : AreLow l.starts.items
  starts_low = subst AreLow (sym f.laid.starts) (low r (formed r fs) (formed_room r fs h))

  pub bases_room : RoomFrom l.bases.items 0 l.functions.items
  bases_room =
      subst (λ b. RoomFrom b 0 l.functions.items) (sym f.laid.bases)
      (subst (RoomFrom (bases_of r (formed r fs)) 0) (sym f.laid.functions) (room r (formed r fs) (formed_room r fs h)))

  pub items_fit : functions_fit (starts_in l.starts.items) l.bases.items 0 l.functions.items ≡ true
  items_fit =
      let g = formed r fs in
      ap (λ s. functions_fit (starts_in s) l.bases.items 0 l.functions.items) f.laid.starts
      ∙ ap (λ b. functions_fit (starts_of r g) b 0 l.functions.items) f.laid.bases
      ∙ ap (functions_fit (starts_of r g) (bases_of r g) 0) f.laid.functions
      ∙ f.fits

  pub is_roomy : IsRoomy l
  is_roomy = record {
    starts =
        f.laid.starts
        ∙ sym (ap (λ b. tables_from b 0 l.functions.items) f.laid.bases ∙ ap (tables_from (bases_of r (formed r fs)) 0) f.laid.functions);
    room = bases_room;
  }
