-- Sets of items that fit a capacity, and the best of them.
use Rattle.std.specs.Prelude.{◌≡◌, ◌⊎◌, ℕ, ◌+◌, ◌%◌, ◌^◌, ◌<◌, ◌≤◌, ℤ, pos, ◌+ℤ◌, ◌≤ℤ◌, ◌<ℤ◌, unsigned_abs, List, [], ◌∷◌, map, All}
use Rattle.spm_placement.specs.declared.item.Item.{Item}

-- what may be chosen from

abbrev pub HasWholeWords : Item → Type 0
HasWholeWords x = x.size % 4 ≡ 0

abbrev pub HasSmallGain : Item → Type 0
HasSmallGain x = unsigned_abs x.gain < 2 ^ 110

-- some of the items of a list, in its order: each is left out or taken
abbrev pub IsPartOf : List Item → List Item → Type 0
IsPartOf s [] = s ≡ []
IsPartOf s (x ∷ xs) = IsPartOf s xs ⊎ ((t : List Item) × (s ≡ x ∷ t) × IsPartOf t xs)

abbrev pub bytes : List Item → ℕ
bytes [] = 0
bytes (x ∷ xs) = x.size + bytes xs

abbrev pub gain : List Item → ℤ
gain [] = pos 0
gain (x ∷ xs) = x.gain +ℤ gain xs

-- they fit, and no others that fit gain more
pub record IsBest (items : List Item) (capacity : ℕ) (s : List Item) : Type 0 where
  pub part : IsPartOf s items
  pub fits : bytes s ≤ capacity
  pub greatest : (t : List Item) → IsPartOf t items → bytes t ≤ capacity → gain t ≤ℤ gain s

abbrev pub Gains : Item → Type 0
Gains x = pos 0 <ℤ x.gain

abbrev pub number : Item → ℕ
number x = x.id

-- the numbers of a best set, of items that all gain something
pub record AreBest (items : List Item) (capacity : ℕ) (ids : List ℕ) : Type 0 where
  pub chosen : List Item
  pub numbers : ids ≡ map number chosen
  pub best : IsBest items capacity chosen
  pub useful : All Gains chosen
