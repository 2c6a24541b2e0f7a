-- What is promised of accesses and of the lines of regions.
use Rattle.std.specs.Prelude.{◌≡◌, ℕ, ◌+◌, ◌%◌, ◌<◌, ◌≤◌, ◌||◌, true, false, List, [], ◌∷◌, length, None, Some, All, slice_get}
use Rattle.code_flow_system.specs.declared.claims.Within.{Within}
use Rattle.code_flow_system.specs.Claims.{region_flaws}
use Rattle.asm_items.specs.declared.item.Item.{Item}
use Rattle.asm_items.specs.Placings.{Blocks}
use Rattle.low_ir.specs.Code.{Low}
use Rattle.low_ir.specs.Formed.{BlockNamesThere, IsClaim, IsLow}
use Rattle.low_ir.specs.Places.{Assignment, Placed, placed}
use Rattle.asm_program.specs.Frames.{Memory}
use Rattle.asm_program.specs.Functions.{PlacedFunction, program_items}
use Rattle.claims_definition.specs.Lines.{Access, lines}
use Rattle.claims_definition.specs.Touches.{Touch, item_touch, program_touches, touches_memory}

-- what items touch: memory where they are a load or a store, and only there
abbrev pub AreTouched : List Touch → List Item → Type 0
AreTouched [] [] = Unit {0}
AreTouched [] (x ∷ xs) = ⊥
AreTouched (t ∷ ts) [] = ⊥
AreTouched (t ∷ ts) (x ∷ xs) = (touches_memory t ≡ touches_memory (item_touch x)) × AreTouched ts xs

abbrev pub BlocksTouched : List (List Touch) → Blocks → Type 0
BlocksTouched [] [] = Unit {0}
BlocksTouched [] (xs ∷ bs) = ⊥
BlocksTouched (ts ∷ tss) [] = ⊥
BlocksTouched (ts ∷ tss) (xs ∷ bs) = AreTouched ts xs × BlocksTouched tss bs

abbrev pub FunctionsTouched : List (List (List Touch)) → List Blocks → Type 0
FunctionsTouched [] [] = Unit {0}
FunctionsTouched [] (f ∷ fs) = ⊥
FunctionsTouched (t ∷ ts) [] = ⊥
FunctionsTouched (t ∷ ts) (f ∷ fs) = BlocksTouched t f × FunctionsTouched ts fs

-- of all items of a program
abbrev pub ItemsAreTouched : Type 0
ItemsAreTouched = (m : Memory) (p : Placed) → FunctionsTouched (program_touches m p) (program_items m p)

-- accesses from an address on, in order, at multiples of 4, each of which may touch some region
abbrev pub Ascend : ℕ → List Access → Type 0
Ascend a [] = Unit {0}
Ascend a (x ∷ xs) = (a ≤ x.at) × ((x.at % 4 ≡ 0) × (((x.letters.flash || (x.letters.spm || x.letters.ram)) ≡ true) × Ascend (x.at + 4) xs))

-- an access lies in a line that has its letters
pub record HasLine (ws : List Within) (x : Access) : Type 0 where
  pub number : ℕ
  pub line : Within
  pub there : slice_get ws number ≡ Some line
  pub first : line.first ≤ x.at
  pub end : x.at < line.end
  pub flash : line.flash ≡ x.letters.flash
  pub spm : line.spm ≡ x.letters.spm
  pub ram : line.ram ≡ x.letters.ram

pub record AreLines (xs : List Access) (ws : List Within) : Type 0 where
  -- none is bad
  pub sound : All (λ flaw. flaw ≡ false) (region_flaws None ws)
  pub each : (n : ℕ) (x : Access) → slice_get xs n ≡ Some x → HasLine ws x
  pub few : length ws ≤ length xs

abbrev pub LinesHold : Type 0
LinesHold = (a : ℕ) (xs : List Access) → Ascend a xs → AreLines xs (lines xs)

-- the accesses and the claims of a program name arrays that are there
pub record IsNamed (p : Placed) : Type 0 where
  pub functions : All (λ (fn : PlacedFunction). All (BlockNamesThere p) fn.blocks) p.functions
  pub claims : All (IsClaim p) p.claims

-- so does each program in the low form over its places
abbrev pub PlacedIsNamed : Type 0
PlacedIsNamed = (a : Assignment) (low : Low) → IsLow low → IsNamed (placed a low)
