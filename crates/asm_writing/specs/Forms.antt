-- Items in other forms: where they lead stays the same.
use Rattle.std.specs.Prelude.{◌≡◌, ℕ, Bool, List, [], ◌∷◌}
use Rattle.asm_items.specs.declared.item.Form.{Form}
use Rattle.asm_items.specs.declared.item.Item.{Item}
use Rattle.asm_items.specs.declared.item.Item.TheVariants.{Single, Jump, Call, Branch, Return, Exit}
use Rattle.asm_items.specs.Promises.{Keeps}

-- the same item, in any form
abbrev pub IsLike : Item → Item → Type 0
IsLike (Single i) y = y ≡ Single i
IsLike (Jump far n) y = (g : Bool) × (y ≡ Jump g n)
IsLike (Call far f) y = (g : Bool) × (y ≡ Call g f)
IsLike (Branch form c u v n) y = (k : Form) × (y ≡ Branch k c u v n)
IsLike Return y = y ≡ Return
IsLike Exit y = y ≡ Exit

abbrev pub AreLike : List Item → List Item → Type 0
AreLike [] ys = ys ≡ []
AreLike (x ∷ xs) [] = ⊥
AreLike (x ∷ xs) (y ∷ ys) = IsLike x y × AreLike xs ys

-- what a block promises doesn't depend on the forms of its items
abbrev pub FormsKeep : Type 0
FormsKeep = (follows calls : List ℕ) (b : ℕ) (xs ys : List Item) → AreLike xs ys → Keeps follows calls b xs → Keeps follows calls b ys
