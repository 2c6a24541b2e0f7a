-- What the items with some numbers take.
use Rattle.std.specs.Prelude.{◌≡◌, ℕ, ◌+◌, Bool, false, List, [], ◌∷◌, map, if◌then◌else◌}
use Rattle.image_frames.specs.Placings.{is_among}
use Rattle.spm_placement.specs.declared.item.Item.{Item}
use Rattle.spm_placement.specs.Sets.{IsPartOf, bytes, number}

-- no two items have one number
abbrev pub AreApart : List Item → Type 0
AreApart [] = Unit {0}
AreApart (x ∷ xs) = (is_among (map number xs) x.id ≡ false) × AreApart xs

-- the items whose numbers pass a test take so many bytes
abbrev pub bytes_where : (ℕ → Bool) → List Item → ℕ
bytes_where test [] = 0
bytes_where test (x ∷ xs) = (if test x.id then x.size else 0) + bytes_where test xs

-- those that have the numbers of some of the items take what these do
abbrev pub NumbersTake : Type 0
NumbersTake = (items s : List Item) → AreApart items → IsPartOf s items → bytes_where (is_among (map number s)) items ≡ bytes s
