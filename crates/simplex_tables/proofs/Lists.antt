-- A list before others, if they are there.
use Rattle.std.proofs.Common.{List, ◌++◌, Option, Some, None}

abbrev pub append_of : {X : Type 0} → List X → Option (List X) → Option (List X)
append_of xs None = None
append_of xs (Some ys) = Some (xs ++ ys)
