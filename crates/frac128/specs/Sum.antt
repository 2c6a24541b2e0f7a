-- Sums: lists of terms in one canonical form, what a new term changes, and where an address stands.
use Rattle.std.specs.Prelude.{◌≡◌, ◌≢◌, ℕ, ℤ, pos, ◌+ℤ◌, ◌<◌, ◌≤◌, length, slice_index_or, All}
use Rattle.frac128.specs.Terms.{Terms, coefficient}

-- the address of the term at place i
abbrev pub address_at : Terms → ℕ → ℕ
address_at ts i = (slice_index_or ts i (0, pos 0)).0

-- the addresses ascend strictly, and no number is 0
pub record IsSum (ts : Terms) : Type 0 where
  pub ascending : (i j : ℕ) → i < j → j < length ts → address_at ts i < address_at ts j
  pub no_zero : All (λ t. t.1 ≢ pos 0) ts

-- new has the coefficient n at the address, and every other coefficient of old
pub record SetsCoefficient (old new : Terms) (a : ℕ) (n : ℤ) : Type 0 where
  pub here : coefficient new a ≡ n
  pub others : (q : ℕ) → q ≢ a → coefficient new q ≡ coefficient old q

-- new has n more at the address, and every other coefficient of old
abbrev pub AddsTerm : Terms → Terms → ℕ → ℤ → Type 0
AddsTerm old new a n = SetsCoefficient old new a (coefficient old a +ℤ n)

-- the term at place i has the address
pub record IsAt (ts : Terms) (a i : ℕ) : Type 0 where
  pub in_range : i < length ts
  pub has_address : address_at ts i ≡ a

-- a term of the address would go to place i: smaller addresses before it, greater ones from it on
pub record IsGapFor (ts : Terms) (a i : ℕ) : Type 0 where
  pub in_range : i ≤ length ts
  pub smaller_before : (j : ℕ) → j < i → address_at ts j < a
  pub greater_after : (j : ℕ) → i ≤ j → j < length ts → a < address_at ts j
