-- What is left of the prices at an address beside the multipliers of loops, as a sum that is tested finds it.
use Rattle.std.specs.Prelude.{ℕ, ◌^◌, ◌<◌, ◌==◌, ℤ, pos, ◌+ℤ◌, unsigned_abs, nat_le, List, [], ◌∷◌, Option, Some, None, if◌then◌else◌}
use Rattle.code_flow_system.specs.declared.claims.Never.{Never}
use Rattle.code_flow_system.specs.declared.claims.LoopClaim.{LoopClaim}
use Rattle.code_flow_system.specs.declared.moves.Move.{Move}
use Rattle.rv_core.specs.Table.{Table}
use Rattle.code_flow_lookup.specs.Runs.{those_at}
use Rattle.code_flow_system.specs.declared.cert.Cert.{Cert}
use Rattle.code_flow_system.specs.Systems.{System}
use Rattle.code_flow_system.specs.Certificates.{Limit, limits, potential, row_size, scaled_price}
use Rattle.loop_walks.specs.declared.step.Pair.{Pair}
use Rattle.loop_walks.specs.Walks.{larger}
use Rattle.path_places.specs.Duals.{owed}

-- such a sum is narrow
abbrev pub IsNarrowNumber : ℤ → Type 0
IsNarrowNumber z = unsigned_abs z < 2 ^ 126

-- none where the absolute values of the row come to 2^126
abbrev pub owed_by : (Move → ℤ) → (ℕ → ℤ) → List Limit → Move → Option ℤ
owed_by price p ls m = if nat_le (2 ^ 126) (row_size price p ls m) then None else Some (owed price p ls m)

abbrev pub larger_of : Option ℤ → Option ℤ → Option ℤ
larger_of None o = None
larger_of (Some x) None = None
larger_of (Some x) (Some y) = Some (larger x y)

-- the most that is left of the prices of moves, or nothing
abbrev pub most_by : (Move → ℤ) → (ℕ → ℤ) → List Limit → List Move → Option ℤ
most_by price p ls [] = Some (pos 0)
most_by price p ls (m ∷ ms) = larger_of (owed_by price p ls m) (most_by price p ls ms)

-- at an address, with a certificate's potentials and multipliers
abbrev pub owe_at : Table → System → Cert → ℕ → Option ℤ
owe_at t s c a = most_by (scaled_price t s c) (potential c) (limits s.claims c) (those_at (λ (m : Move). m.at) a s.moves)

abbrev pub cons_of : {X : Type 0} → Option X → Option (List X) → Option (List X)
cons_of None o = None
cons_of (Some x) None = None
cons_of (Some x) (Some xs) = Some (x ∷ xs)

-- the multipliers of never claims, where owe says what is left at an address; none where it says none
abbrev pub nevers_by : (ℕ → Option ℤ) → List Never → Option (List ℤ)
nevers_by owe [] = Some []
nevers_by owe (c ∷ cs) = cons_of (owe c.at) (nevers_by owe cs)

-- those of a loop: where it may not be entered, with what is left at its header

abbrev pub and_more : Pair → Option ℤ → Option (ℤ × ℤ)
and_more p None = None
and_more p (Some x) = Some (p.least, p.most +ℤ x)

abbrev pub bounds_by : (ℕ → Option ℤ) → LoopClaim → Pair → Option (ℤ × ℤ)
bounds_by owe c p = if c.max == 0 then and_more p (owe c.header) else Some (p.least, p.most)

abbrev pub loops_by : (ℕ → Option ℤ) → List LoopClaim → List Pair → Option (List (ℤ × ℤ))
loops_by owe [] ps = Some []
loops_by owe (c ∷ cs) [] = Some []
loops_by owe (c ∷ cs) (p ∷ ps) = cons_of (bounds_by owe c p) (loops_by owe cs ps)
