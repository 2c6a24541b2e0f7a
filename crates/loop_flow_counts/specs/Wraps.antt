-- Counts modulo 2^128. Which steps are made doesn't depend on counts: a sum in between may wrap, and what is counted in the end is right where it fits.
use Rattle.std.specs.Prelude.{◌≡◌, ℕ, ◌%◌, ◌^◌, ◌≤◌, ◌<◌, List, [], ◌∷◌}
use Rattle.loop_flows.specs.Passes.{amount_at}

abbrev pub wrapped : ℕ → ℕ
wrapped u = u % 2 ^ 128

abbrev pub all_wrapped : List ℕ → List ℕ
all_wrapped [] = []
all_wrapped (u ∷ us) = wrapped u ∷ all_wrapped us

-- lists of counts that differ by multiples of 2^128 alone
abbrev pub SameCounts : List ℕ → List ℕ → Type 0
SameCounts us vs = all_wrapped us ≡ all_wrapped vs

-- the same at the places from one up to another
abbrev pub AgreeIn : ℕ → ℕ → List ℕ → List ℕ → Type 0
AgreeIn from to us vs = (a : ℕ) → from ≤ a → a < to → wrapped (amount_at us a) ≡ wrapped (amount_at vs a)
