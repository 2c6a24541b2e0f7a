-- Functions that lead over many instructions are sound and have room.
use Rattle.std.proofs.Common.{◌≡◌, ℕ, zero, suc, ◌*◌, ◌^◌, ◌<◌, ◌≤◌, true, List, [], ◌∷◌, replicate, refl, sym, ap, ◌∙◌, subst, arith}
use Rattle.std.proofs.lemmas.List.Elements.{All-cons, All-nil}
use Rattle.rv_core.specs.Instructions.{Instruction}
use Rattle.asm_items.specs.declared.item.Item.{Item}
use Rattle.asm_items.specs.declared.item.Item.TheVariants.{Single, Jump, Call, Branch, Return, Exit}
use Rattle.asm_items.specs.Items.{size, total}
use Rattle.asm_items.specs.Placings.{Blocks}
use Rattle.asm_writing.specs.Targets.{starts_in, AreLow}
use Rattle.asm_forms.specs.declared.layouts.Layout.{Layout}
use Rattle.asm_forms.specs.Laid.{HasRoom, IsFormed}
use Rattle.asm_forms.specs.Layouts.{functions_fit, starts_of, improved, formed}
use Rattle.asm_forms.specs.Regions.{Rows, bases_of, functions_size, RoomFrom}
use Rattle.asm_forms.proofs.Formed.{room_longest, improved_room, room, low}
use Rattle.asm_forms.specs.Shorter.{longest, items_longest, functions_longest}
use Rattle.asm_forms.specs.Sound.{IsSound, AreSound, BlocksSound, FunctionsSound}

pub idle_sound : (n : ℕ) (x : Item) → IsSound x → AreSound (replicate n x)
idle_sound zero x h = All-nil IsSound
idle_sound (suc n) x h = All-cons IsSound x (replicate n x) h (idle_sound n x h)

pub idle_total : (n : ℕ) (i : Instruction) → total (items_longest (replicate n (Single i))) ≡ 4 * n
idle_total zero i = refl
idle_total (suc n) i = let rest = idle_total n i in omega arith

size_most : (x : Item) → size (longest x) ≤ 12
size_most (Single i) = omega arith
size_most (Jump far n) = omega arith
size_most (Call far f) = omega arith
size_most (Branch form c x y n) = omega arith
size_most Return = omega arith
size_most Exit = omega arith

-- an item, others, an item and a return
abbrev pub shape : Item → List Item → Item → List Blocks
shape first between last = ((first ∷ []) ∷ between ∷ (last ∷ []) ∷ (Return ∷ []) ∷ []) ∷ []

one_sound : (x : Item) → IsSound x → AreSound (x ∷ [])
one_sound x h = All-cons IsSound x [] h (All-nil IsSound)

pub shape_sound : (first : Item) (between : List Item) (last : Item) → IsSound first → AreSound between → IsSound last → FunctionsSound (shape first between last)
shape_sound first between last h k l =
    All-cons BlocksSound ((first ∷ []) ∷ between ∷ (last ∷ []) ∷ (Return ∷ []) ∷ []) []
    (All-cons AreSound (first ∷ []) (between ∷ (last ∷ []) ∷ (Return ∷ []) ∷ []) (one_sound first h)
    (All-cons AreSound between ((last ∷ []) ∷ (Return ∷ []) ∷ []) k
    (All-cons AreSound (last ∷ []) ((Return ∷ []) ∷ []) (one_sound last l)
    (All-cons AreSound (Return ∷ []) [] (one_sound Return tt) (All-nil AreSound)))))
    (All-nil BlocksSound)

pub shape_room : (first : Item) (between : List Item) (last : Item) (n : ℕ) → n < 2 ^ 20 → total (items_longest between) ≡ 4 * n → functions_size (functions_longest (shape first between last)) < 2 ^ 24
shape_room first between last n h k = let a = size_most first in let b = size_most last in omega arith

-- where the tests put their functions
abbrev pub rows : Rows
rows = record { placed = []; flash = 0; scratchpad = 2 ^ 28 }

pub fits_rows : (fs : List Blocks) → functions_size (functions_longest fs) < 2 ^ 24 → HasRoom rows fs
fits_rows fs h = record { flash = omega arith; scratchpad = omega arith }

-- what a row asks of chosen forms
module _ (r : Rows) (fs : List Blocks) (l : Layout) (h : HasRoom r fs) (f : IsFormed r fs l) where
  formed_room : HasRoom r (formed r fs)
  formed_room =
      let first = functions_longest fs in
      improved_room r (improved r first) (improved_room r first (room_longest r fs h))

  pub starts_low : AreLow l.starts.items
  starts_low = subst AreLow (sym f.laid.starts) (low r (formed r fs) formed_room)

  pub bases_room : RoomFrom l.bases.items 0 l.functions.items
  bases_room =
      subst (λ b. RoomFrom b 0 l.functions.items) (sym f.laid.bases) (subst (RoomFrom (bases_of r (formed r fs)) 0) (sym f.laid.functions) (room r (formed r fs) formed_room))

  pub items_fit : functions_fit (starts_in l.starts.items) l.bases.items 0 l.functions.items ≡ true
  items_fit =
      let g = formed r fs in
      ap (λ s. functions_fit (starts_in s) l.bases.items 0 l.functions.items) f.laid.starts
      ∙ ap (λ b. functions_fit (starts_of r g) b 0 l.functions.items) f.laid.bases
      ∙ ap (functions_fit (starts_of r g) (bases_of r g) 0) f.laid.functions
      ∙ f.fits
