-- Amounts of moves, counts of addresses, and the conservation of flow (Li and Malik 1995, structural constraints).
use Rattle.std.specs.Prelude.{◌≡◌, ℕ, ℤ, pos, ◌-ℤ◌, ◌*ℤ◌, ◌≤ℤ◌, List, [], ◌∷◌, ◌++◌, All}
use Rattle.frac128.specs.Terms.{Terms, int_sum_by, coefficient, applied}
use Rattle.wcc_base.specs.declared.compare.Compare.{Compare}
use Rattle.wcc_base.specs.declared.compare.Compare.TheVariants.{AtMost, AtLeast, Equal}
use Rattle.code_flow_system.specs.declared.claims.Never.{Never}
use Rattle.code_flow_system.specs.declared.claims.LoopClaim.{LoopClaim}
use Rattle.code_flow_system.specs.declared.claims.FactClaim.{FactClaim}
use Rattle.code_flow_system.specs.declared.moves.Move.{Move}
use Rattle.code_flow_system.specs.Claims.{Claims}
use Rattle.code_flow_system.specs.Moves.{destinations}

-- how often each move is made, by its address and number
abbrev pub Amounts : Type 0
Amounts = ℕ → ℕ → ℕ

abbrev pub amount : Amounts → Move → ℤ
amount x m = pos (x m.at m.number)

-- what leaves each address
abbrev pub departures : Amounts → List Move → Terms
departures x [] = []
departures x (m ∷ ms) = (m.at, amount x m) ∷ departures x ms

-- the number at each address of a list
abbrev pub each_with : ℤ → List ℕ → Terms
each_with n [] = []
each_with n (a ∷ rest) = (a, n) ∷ each_with n rest

-- what arrives at each address
abbrev pub arrivals : Amounts → List Move → Terms
arrivals x [] = []
arrivals x (m ∷ ms) = each_with (amount x m) (destinations m) ++ arrivals x ms

-- the count of an address: the sum over its moves
abbrev pub count : Amounts → List Move → ℕ → ℤ
count x ms a = coefficient (departures x ms) a

-- what arrives, and the unit at the entry
abbrev pub inflow : ℕ → ℕ → Amounts → List Move → Terms
inflow entry unit x ms = (entry, pos unit) ∷ arrivals x ms

-- each address's count is what arrives there, and the unit at the entry
abbrev pub IsConserved : ℕ → ℕ → Amounts → List Move → Type 0
IsConserved entry unit x ms = (a : ℕ) → count x ms a ≡ coefficient (inflow entry unit x ms) a

-- the sum over the moves of a price for each time that the move is made
abbrev pub total : (Move → ℤ) → Amounts → List Move → ℤ
total price x ms = int_sum_by (λ m. amount x m *ℤ price m) ms

-- the claims, of the counts of addresses

abbrev pub KeepsNever : (ℕ → ℤ) → Never → Type 0
KeepsNever n c = n c.at ≡ pos 0

-- each start from outside has from min to max visits of the header
pub record KeepsLoop (n : ℕ → ℤ) (c : LoopClaim) : Type 0 where
  pub least : (pos c.min *ℤ (n c.header -ℤ n c.back)) ≤ℤ n c.header
  pub most : n c.header ≤ℤ (pos c.max *ℤ (n c.header -ℤ n c.back))

abbrev pub Compares : Compare → ℤ → ℤ → Type 0
Compares AtMost a b = a ≤ℤ b
Compares AtLeast a b = b ≤ℤ a
Compares Equal a b = a ≡ b

abbrev pub KeepsFact : (ℕ → ℤ) → FactClaim → Type 0
KeepsFact n c = Compares c.op (applied c.left n) (applied c.right n)

pub record KeepsCounts (c : Claims) (n : ℕ → ℤ) : Type 0 where
  pub nevers : All (KeepsNever n) c.nevers
  pub loops : All (KeepsLoop n) c.loops
  pub facts : All (KeepsFact n) c.facts
