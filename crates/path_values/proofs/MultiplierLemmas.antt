-- Lists of multipliers, one claim after the other.
use Rattle.std.proofs.Common.{List, ◌++◌, Option, Some, None}

-- a list before others, if they are there
abbrev pub append_of : {X : Type 0} → List X → Option (List X) → Option (List X)
append_of xs None = None
append_of xs (Some ys) = Some (xs ++ ys)
