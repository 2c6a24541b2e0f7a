-- The most that items are worth within a capacity in words (Bellman 1957, dynamic programming).
use Rattle.std.specs.Prelude.{◌≡◌, ℕ, ◌+◌, ◌-◌, ◌/◌, ◌≤◌, max, nat_lt, Bool, false, List, [], ◌∷◌, ◌++◌, map, All, if◌then◌else◌}
use Rattle.code_flow_system.specs.Certificates.{whole}
use Rattle.spm_placement.specs.declared.item.Item.{Item}
use Rattle.spm_placement.specs.Sets.{Gains, IsPartOf, number}

abbrev pub words : Item → ℕ
words x = x.size / 4

-- an item that loses is worth nothing
abbrev pub worth : Item → ℕ
worth x = whole x.gain

abbrev pub all_words : List Item → ℕ
all_words [] = 0
all_words (x ∷ xs) = words x + all_words xs

abbrev pub all_worth : List Item → ℕ
all_worth [] = 0
all_worth (x ∷ xs) = worth x + all_worth xs

-- with an item of w words that is worth g, beside those for which f has the most
abbrev pub beside : ℕ → ℕ → (ℕ → ℕ) → ℕ → ℕ
beside w g f c = if nat_lt c w then f c else max (f c) (f (c - w) + g)

abbrev pub top : List Item → ℕ → ℕ
top [] c = 0
top (x ∷ xs) c = beside (words x) (worth x) (top xs) c

-- they fit c words and are worth the most, and each gains something
pub record IsTop (xs : List Item) (c : ℕ) (s : List Item) : Type 0 where
  pub part : IsPartOf s xs
  pub fits : all_words s ≤ c
  pub most : top xs c ≤ all_worth s
  pub useful : All Gains s

-- numbers to which those of such items were added
pub record HasChosen (xs : List Item) (c : ℕ) (before behind : List ℕ) : Type 0 where
  pub chosen : List Item
  pub added : behind ≡ before ++ map number chosen
  pub tops : IsTop xs c chosen

-- numbers to which those of such items were added as leave k of the c words to the items ys behind them, where these are worth
-- the most beside what the words left are worth for ys
pub record HasChosenBefore (xs ys : List Item) (c k : ℕ) (before behind : List ℕ) : Type 0 where
  pub chosen : List Item
  pub added : behind ≡ before ++ map number chosen
  pub part : IsPartOf chosen xs
  pub fits : all_words chosen + k ≤ c
  pub most : top (xs ++ ys) c ≤ all_worth chosen + top ys k
  pub useful : All Gains chosen

-- an item that fits by itself and gains something
abbrev pub is_useful : ℕ → Item → Bool
is_useful c x = if nat_lt c (words x) then false else nat_lt 0 (worth x)

abbrev pub useful : ℕ → List Item → List Item
useful c [] = []
useful c (x ∷ xs) = if is_useful c x then x ∷ useful c xs else useful c xs
