-- The line of regions that holds an address.
use Rattle.std.specs.Prelude.{◌≡◌, ℕ, nat_lt, List, [], ◌∷◌, Bool, true, Option, Some, None, if◌then◌else◌}
use Rattle.rv_core.specs.declared.regions.Region.{Region}
use Rattle.code_flow_system.specs.declared.claims.Within.{Within}
use Rattle.code_flow_system.specs.Claims.{is_past, is_filled}
use Rattle.code_flow_system.specs.MoveCosts.{lies_within, names}

abbrev pub line_at : List Within → ℕ → Option Within
line_at [] a = None
line_at (w ∷ ws) a = if lies_within w a then Some w else line_at ws a

-- the first line of a list, if it has begun before the address or there
abbrev pub begun : List Within → ℕ → Option Within
begun [] a = None
begun (w ∷ ws) a = if nat_lt a w.first then None else Some w

-- an access under the line, if there is one, may touch the region
abbrev pub may_by : Option Within → Region → Bool
may_by None r = true
may_by (Some w) r = names w r

-- no line is empty or names no region, and each begins where the one before it has ended
abbrev pub AreLaid : Option ℕ → List Within → Type 0
AreLaid before [] = Unit {0}
AreLaid before (w ∷ ws) = (is_filled w ≡ true) × (is_past before w.first ≡ true) × AreLaid (Some w.end) ws
