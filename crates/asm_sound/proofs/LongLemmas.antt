-- Items in their longest forms, and what they call.
use Rattle.std.proofs.Common.{◌≡◌, ℕ, ◌+◌, true, List, [], ◌∷◌}
use Rattle.asm_items.specs.declared.item.Form.TheVariants.{Far}
use Rattle.asm_items.specs.declared.item.Item.{Item}
use Rattle.asm_items.specs.declared.item.Item.TheVariants.{Single, Jump, Call, Branch, Return, Exit}

-- an item in its longest form
abbrev pub IsLong : Item → Type 0
IsLong (Single i) = Unit {0}
IsLong (Jump far n) = far ≡ true
IsLong (Call far f) = far ≡ true
IsLong (Branch form c x y n) = form ≡ Far
IsLong Return = Unit {0}
IsLong Exit = Unit {0}

abbrev pub AreLong : List Item → Type 0
AreLong [] = Unit {0}
AreLong (x ∷ xs) = IsLong x × AreLong xs

-- what an item calls is worth
abbrev pub call_of : (ℕ → ℕ) → Item → ℕ
call_of worth (Single i) = 0
call_of worth (Jump far n) = 0
call_of worth (Call far f) = worth f
call_of worth (Branch form c x y n) = 0
call_of worth Return = 0
call_of worth Exit = 0

abbrev pub calls_in : (ℕ → ℕ) → List Item → ℕ
calls_in worth [] = 0
calls_in worth (x ∷ xs) = call_of worth x + calls_in worth xs
