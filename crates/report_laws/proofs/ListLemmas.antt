-- Lists.
use Rattle.std.proofs.Common.{◌≡◌, ℕ, ◌<◌, ◌≤◌, List, ◌++◌, length, take, arith}
use Rattle.std.proofs.lemmas.Grind.{common_steps}
use Rattle.std.proofs.lemmas.List.{length-append}

pub take_whole : {X : Type 0} → (xs : List X) (i : ℕ) → length xs ≤ i → take i xs ≡ xs
take_whole xs i le = grind (arith, common_steps)

pub longer : {X : Type 0} → (xs ys : List X) → 0 < length ys → 0 < length (xs ++ ys)
longer xs ys some = omega (arith, some, length-append xs ys)
