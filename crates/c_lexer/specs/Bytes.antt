-- Classes of bytes beside letters, digits and blanks (C11 5.2.1, 6.4.8), and the ends of runs.
use Rattle.std.specs.Prelude.{◌≡◌, ◌≢◌, ◌==◌, ◌&&◌, not, Bool, true, ℕ, ◌<◌, ◌⊎◌, List, [], ◌∷◌, length, slice_index}

-- a sign in a number
abbrev pub IsSign : ℕ → Type 0
IsSign b = (b ≡ 43) ⊎ (b ≡ 45)

-- a letter that a sign may follow within a number: e, E, p or P
abbrev pub IsExponent : ℕ → Type 0
IsExponent b = ((b ≡ 101) ⊎ (b ≡ 69)) ⊎ ((b ≡ 112) ⊎ (b ≡ 80))

-- anything but a line feed
abbrev pub IsOnLine : ℕ → Type 0
IsOnLine b = b ≢ 10

-- no such byte stands at this place
abbrev pub EndsBefore : (ℕ → Type 0) → List ℕ → ℕ → Type 0
EndsBefore P source end = end < length source → P (slice_index source end) → ⊥

-- a text without zero bytes
abbrev pub are_set : List ℕ → Bool
are_set [] = true
are_set (b ∷ bytes) = not (b == 0) && are_set bytes
