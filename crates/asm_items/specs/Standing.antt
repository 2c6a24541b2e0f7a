-- Items that stand in the code of an image.
use Rattle.std.specs.Prelude.{◌≡◌, ℕ, ◌+◌, ◌*◌, ◌&&◌, not, Bool, true, false, List, [], ◌∷◌, map, length, Contains, Some, slice_get}
use Rattle.rv_core.specs.Bytes.{le_words}
use Rattle.rv_core.specs.declared.image.Segment.{Segment}
use Rattle.rv_core.specs.Instructions.{Instruction}
use Rattle.rv_core.specs.Words.{word_of}
use Rattle.rv_core.specs.Images.{Image}
use Rattle.rv_core.specs.Runs.{sets_upper}
use Rattle.rv_core.specs.Code.{instruction_in}
use Rattle.code_flow_system.specs.Moves.{Code}
use Rattle.asm_items.specs.declared.item.Item.{Item}
use Rattle.asm_items.specs.declared.item.Item.TheVariants.{Single, Jump, Call, Branch, Return, Exit}
use Rattle.asm_items.specs.Offsets.{IsCodeAddress}
use Rattle.asm_items.specs.Items.{Starts, words, size, all_words, in_rows}

-- a segment of code that begins with these instructions
pub record IsCodeOf (s : Segment) (at : ℕ) (is : List Instruction) : Type 0 where
  pub begins : s.at ≡ at
  pub aligned : IsCodeAddress at
  pub exec : s.exec ≡ true
  pub bytes : s.bytes ≡ le_words (map word_of is)
  pub rows : in_rows is ≡ true

abbrev pub HasWords : Code → ℕ → List Instruction → Type 0
HasWords c a [] = Unit {0}
HasWords c a (i ∷ is) = (c.fetch a ≡ Some i) × HasWords c (a + 4) is

-- what has the code of a segment has its instructions
abbrev pub StandsIn : Image → Type 0
StandsIn image = (s : Segment) (at : ℕ) (is : List Instruction) (k : ℕ) (i : Instruction) → Contains image.segments s → IsCodeOf s at is → slice_get is k ≡ Some i → instruction_in image (at + 4 * k) ≡ Some i

abbrev pub is_exit : Item → Bool
is_exit (Single i) = false
is_exit (Jump far block) = false
is_exit (Call far function) = false
is_exit (Branch form c x y block) = false
is_exit Return = false
is_exit Exit = true

-- the items of function f stand at this address; of them exits alone are listed as exits
abbrev pub HasItems : Starts → Code → ℕ → ℕ → List Item → Type 0
HasItems p c f a [] = Unit {0}
HasItems p c f a (x ∷ xs) = HasWords c a (words p f a x) × (c.exit a ≡ is_exit x) × HasItems p c f (a + size x) xs

-- of items in a row, exits alone are listed as exits
abbrev pub ListsExits : Code → ℕ → List Item → Type 0
ListsExits c a [] = Unit {0}
ListsExits c a (x ∷ xs) = (c.exit a ≡ is_exit x) × ListsExits c (a + size x) xs

-- none of the instructions is an AUIPC of x1, which would resolve a return behind it
abbrev pub links_none : List Instruction → Bool
links_none [] = true
links_none (i ∷ is) = not (sets_upper (Some i) 1) && links_none is

-- what an image can execute are these instructions, by the address of their segment
pub record IsAllCode (image : Image) (code : ℕ → List Instruction) : Type 0 where
  pub is : (s : Segment) → Contains image.segments s → s.exec ≡ true → IsCodeOf s s.at (code s.at)
  pub full : (s : Segment) → Contains image.segments s → s.exec ≡ true → length s.bytes ≡ s.size
  pub unlinked : (s : Segment) → Contains image.segments s → s.exec ≡ true → links_none (code s.at) ≡ true

-- then no return is resolved by what stands before it
abbrev pub LinksNone : Image → Type 0
LinksNone image = (code : ℕ → List Instruction) → IsAllCode image code → (a : ℕ) → sets_upper (instruction_in image a) 1 ≡ false

-- items whose instructions stand in a row
abbrev pub ItemsStand : Type 0
ItemsStand = (p : Starts) (c : Code) (f a : ℕ) (xs : List Item) → HasWords c a (all_words p f a xs) → ListsExits c a xs → HasItems p c f a xs
