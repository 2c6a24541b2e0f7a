-- What loops give, one by one.
use Rattle.std.proofs.Common.{◌≡◌, ap, List, [], ◌∷◌, ◌++◌, append_assoc}
use Rattle.std.specs.Prelude.{Option, Some, None}
use Rattle.std.proofs.lemmas.List.{append-nil}
use Rattle.facts_definitions.specs.FlowFacts.{and_one}

pub kept_before : {A : Type 0} (xs : List A) (o : Option A) (rest : List A) → (xs ++ and_one o []) ++ rest ≡ xs ++ and_one o rest
kept_before xs None rest = ap (λ ys. ys ++ rest) (append-nil xs)
kept_before xs (Some x) rest = append_assoc xs (x ∷ []) rest
